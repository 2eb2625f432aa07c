-- Values of attributes in octets.
use Rattle.std.proofs.Common.{length, get_or, slice_get, Some, ◌≡◌, ℕ, zero, suc, ◌/◌, ◌%◌, ◌<◌, Bool, true, false, cond, List, [], ◌∷◌, ◌++◌, refl, sym, ◌∙◌, ap, append_assoc, arith, nat_eq}
use Rattle.std.proofs.lemmas.Str.{chars-nil, encodes-append}
use Rattle.std.specs.Str.{chars}
use Rattle.std.specs.Prelude.{encode_utf8_all, flat_map}
use Rattle.std.specs.Char.{encode_utf8}
use Rattle.std.specs.Fmt.{decimal, digits, digits_onto, digit_glyph}
use Rattle.document_model.specs.Canonical.{value_character}
use Rattle.signature_drafts.proofs.Written.{quoted}

flat_append : (a b : List ℕ) → flat_map value_character (a ++ b) ≡ flat_map value_character a ++ flat_map value_character b
flat_append [] b = refl
flat_append (c ∷ a) b = ap (λ x. value_character c ++ x) (flat_append a b) ∙ sym (append_assoc (value_character c) (flat_map value_character a) (flat_map value_character b))

pub quoted_append : (a b : List ℕ) → quoted (a ++ b) ≡ quoted a ++ quoted b
quoted_append a b = ap encode_utf8_all (flat_append a b) ∙ encodes-append (flat_map value_character a) (flat_map value_character b)

-- digits stand for themselves

digit_quoted : (acc : List ℕ) → quoted acc ≡ acc → (d : ℕ) → d < 10 → quoted (digit_glyph false d ∷ acc) ≡ digit_glyph false d ∷ acc
unfolding encode_utf8
digit_quoted acc e zero h = ap (λ x. 48 ∷ x) e
digit_quoted acc e (suc zero) h = ap (λ x. 49 ∷ x) e
digit_quoted acc e (suc (suc zero)) h = ap (λ x. 50 ∷ x) e
digit_quoted acc e (suc (suc (suc zero))) h = ap (λ x. 51 ∷ x) e
digit_quoted acc e (suc (suc (suc (suc zero)))) h = ap (λ x. 52 ∷ x) e
digit_quoted acc e (suc (suc (suc (suc (suc zero))))) h = ap (λ x. 53 ∷ x) e
digit_quoted acc e (suc (suc (suc (suc (suc (suc zero)))))) h = ap (λ x. 54 ∷ x) e
digit_quoted acc e (suc (suc (suc (suc (suc (suc (suc zero))))))) h = ap (λ x. 55 ∷ x) e
digit_quoted acc e (suc (suc (suc (suc (suc (suc (suc (suc zero)))))))) h = ap (λ x. 56 ∷ x) e
digit_quoted acc e (suc (suc (suc (suc (suc (suc (suc (suc (suc zero))))))))) h = ap (λ x. 57 ∷ x) e
digit_quoted acc e (suc (suc (suc (suc (suc (suc (suc (suc (suc (suc d)))))))))) h = absurd (omega (arith, h))

glyph : (n : ℕ) (acc : List ℕ) → quoted acc ≡ acc → quoted (digit_glyph false (n % 10) ∷ acc) ≡ digit_glyph false (n % 10) ∷ acc
glyph n acc e = digit_quoted acc e (n % 10) (omega arith)

onto_quoted : (k n : ℕ) (acc : List ℕ) → quoted acc ≡ acc → quoted (digits_onto k 10 false n acc) ≡ digits_onto k 10 false n acc
onto_quoted zero n acc h = h
onto_quoted (suc k) n acc h =
    let more : quoted (digit_glyph false (n % 10) ∷ acc) ≡ digit_glyph false (n % 10) ∷ acc = glyph n acc h in
    either (nat_eq (n / 10) 0) (onto_quoted k (n / 10) (digit_glyph false (n % 10) ∷ acc) more) more
  where
    either : (b : Bool) → quoted (digits_onto k 10 false (n / 10) (digit_glyph false (n % 10) ∷ acc)) ≡ digits_onto k 10 false (n / 10) (digit_glyph false (n % 10) ∷ acc)
        → quoted (digit_glyph false (n % 10) ∷ acc) ≡ digit_glyph false (n % 10) ∷ acc
        → quoted (cond b (digit_glyph false (n % 10) ∷ acc) (digits_onto k 10 false (n / 10) (digit_glyph false (n % 10) ∷ acc)))
        ≡ cond b (digit_glyph false (n % 10) ∷ acc) (digits_onto k 10 false (n / 10) (digit_glyph false (n % 10) ∷ acc))
    either true f g = g
    either false f g = f

pub quoted_decimal : (n : ℕ) → quoted (decimal n) ≡ decimal n
unfolding digits
quoted_decimal n = onto_quoted 64 n [] refl

pub no_characters : (text : List ℕ) → length text ≡ 0 → chars text ≡ []
no_characters [] h = chars-nil
no_characters (c ∷ cs) h = cc

-- an element of a list, and the lists are not shorter
pub found_is : (xs : List (List ℕ)) (k : ℕ) (x : List ℕ) → slice_get xs k ≡ Some x → x ≡ get_or xs k []
found_is [] k x e = cc
found_is (y ∷ xs) zero x e = cc
found_is (y ∷ xs) (suc k) x e = found_is xs k x e
