-- Names and attributes as octets.
use Rattle.std.proofs.Common.{◌≡◌, ℕ, suc, ◌+◌, ◌<◌, ◌==◌, true, false, List, [], ◌∷◌, ◌++◌, length, drop, get_or, codes, refl, sym, ◌∙◌, ap, append_assoc, arith}
use Rattle.std.proofs.lemmas.Bool.{eqb-true, true≢false}
use lib.Utf8.{encode}
use Rattle.std.proofs.lemmas.Str.{encodes-append, encodes-chars, chars-nil, chars-IsAscii}
use Rattle.std.specs.Prelude.{encode_utf8_all}
use Rattle.std.specs.Str.{chars, IsUtf8}
use Rattle.document_model.specs.Names.{spelled, spelled_with}
use Rattle.document_model.specs.Canonical.{attribute_text, declaration_text, declared_as}
use Rattle.xml_items.specs.Found.{name_in, IsNameText}
use Rattle.xml_items.proofs.AsciiTexts.{ascii_from}
use Rattle.xml_items.proofs.NameTexts.{spells}
use Rattle.xml_items.proofs.AsciiTexts.{chars_empty}
use Rattle.canon_tags.proofs.Sorting.{drop_at}

pub name_alone : (prefix local : List ℕ) → (length prefix == 0) ≡ true → IsUtf8 local → encode_utf8_all (spelled_with (chars prefix) (chars local)) ≡ local
name_alone [] local e u = ap (λ p. encode_utf8_all (spelled_with p (chars local))) chars-nil ∙ encodes-chars local u
name_alone (x ∷ prefix) local e u = absurd (omega (arith, eqb-true (suc (length prefix)) 0 e))

with_colon : (p l : List ℕ) (c : ℕ) (cs : List ℕ) → p ≡ c ∷ cs → encode_utf8_all (spelled_with p l) ≡ (encode_utf8_all p ++ codes ":") ++ encode_utf8_all l
unfolding encode
with_colon p l c cs e =
    ap (λ x. encode_utf8_all (spelled_with x l)) e ∙ encodes-append (c ∷ cs) (0x3A ∷ l)
    ∙ sym (append_assoc (encode_utf8_all (c ∷ cs)) (codes ":") (encode_utf8_all l)) ∙ ap (λ x. (encode_utf8_all x ++ codes ":") ++ encode_utf8_all l) (sym e)

pub name_joined : (prefix local : List ℕ) → (length prefix == 0) ≡ false → IsUtf8 prefix → IsUtf8 local → encode_utf8_all (spelled_with (chars prefix) (chars local)) ≡ (prefix ++ codes ":") ++ local
name_joined [] local h u v = absurd (true≢false h)
name_joined (x ∷ prefix) local h u v = go (chars (x ∷ prefix)) refl
  where
    go : (cs : List ℕ) → chars (x ∷ prefix) ≡ cs → encode_utf8_all (spelled_with (chars (x ∷ prefix)) (chars local)) ≡ ((x ∷ prefix) ++ codes ":") ++ local
    go [] e = let n : [] ≡ x ∷ prefix = ap encode_utf8_all (sym e) ∙ encodes-chars (x ∷ prefix) u in cc
    go (c ∷ cs) e = with_colon (chars (x ∷ prefix)) (chars local) c cs e ∙ (λ i. (encodes-chars (x ∷ prefix) u i ++ codes ":") ++ encodes-chars local v i)

-- pieces that were put one after another
pub five_put : (old one two three four five name value : List ℕ) → one ≡ old ++ codes " " → two ≡ one ++ encode_utf8_all name → three ≡ two ++ codes "=\""
    → four ≡ three ++ encode_utf8_all value → five ≡ four ++ codes "\"" → five ≡ old ++ encode_utf8_all (codes " " ++ name ++ codes "=\"" ++ value ++ codes "\"")
unfolding encode
five_put old one two three four five name value e f g h k =
    k ∙ ap (λ x. x ++ codes "\"") (h ∙ ap (λ x. x ++ encode_utf8_all value) (g ∙ ap (λ x. x ++ codes "=\"") (f ∙ ap (λ x. x ++ encode_utf8_all name) e)))
    ∙ sym (ap (λ x. old ++ x)
    (encodes-append (codes " " ++ name ++ codes "=\"" ++ value) (codes "\"") ∙ ap (λ x. x ++ codes "\"")
    (encodes-append (codes " " ++ name ++ codes "=\"") value ∙ ap (λ x. x ++ encode_utf8_all value)
    (encodes-append (codes " " ++ name) (codes "=\"") ∙ ap (λ x. x ++ codes "=\"") (encodes-append (codes " ") name))))
    ∙ regroup (codes " ") (encode_utf8_all name) (codes "=\"") (encode_utf8_all value) (codes "\""))
  where
    regroup : (a b c d e : List ℕ) → old ++ ((((a ++ b) ++ c) ++ d) ++ e) ≡ ((((old ++ a) ++ b) ++ c) ++ d) ++ e
    regroup a b c d e = simp append_assoc

pub three_put : (old one two three p l : List ℕ) → one ≡ old ++ p → two ≡ one ++ codes ":" → three ≡ two ++ l → three ≡ old ++ ((p ++ codes ":") ++ l)
three_put old one two three p l e f g =
    g ∙ ap (λ x. x ++ l) (f ∙ ap (λ x. x ++ codes ":") e) ∙ ap (λ x. x ++ l) (append_assoc old p (codes ":")) ∙ append_assoc old (p ++ codes ":") l

-- one of a list is written, and the others are left
pub each_put : {A : Type 0} (all : List A → List ℕ) (one : A → List ℕ) → ((x : A) (xs : List A) → all (x ∷ xs) ≡ one x ++ all xs) → (xs : List A) (k : ℕ) (d : A) → k < length xs
    → (out now start : List ℕ) → now ≡ out ++ encode_utf8_all (one (get_or xs k d)) → out ++ encode_utf8_all (all (drop k xs)) ≡ start
    → now ++ encode_utf8_all (all (drop (k + 1) xs)) ≡ start
each_put all one more xs k d h out now start e f =
    ap (λ x. x ++ encode_utf8_all (all (drop (k + 1) xs))) e
    ∙ append_assoc out (encode_utf8_all (one (get_or xs k d))) (encode_utf8_all (all (drop (k + 1) xs)))
    ∙ ap (λ x. out ++ x) (sym (encodes-append (one (get_or xs k d)) (all (drop (k + 1) xs))) ∙ ap encode_utf8_all (sym (ap all (drop_at xs k d h) ∙ more (get_or xs k d) (drop (k + 1) xs)))) ∙ f

-- Declarations as attributes.

xmlns_chars : chars (codes "xmlns") ≡ codes "xmlns"
xmlns_chars = chars-IsAscii (codes "xmlns") (ascii_from (codes "xmlns") refl)

pub default_text : (prefix value : List ℕ) → (length prefix == 0) ≡ true → attribute_text (spelled_with (chars []) (chars (codes "xmlns"))) value ≡ declaration_text (declared_as (chars prefix) value)
default_text prefix value e =
    (λ i. attribute_text (spelled_with (chars-nil i) (xmlns_chars i)) value)
    ∙ sym (ap (λ p. declaration_text (declared_as p value)) (chars_empty prefix (eqb-true (length prefix) 0 e)))

pub prefixed_text : (prefix value : List ℕ) → (length prefix == 0) ≡ false → IsUtf8 prefix
    → attribute_text (spelled_with (chars (codes "xmlns")) (chars prefix)) value ≡ declaration_text (declared_as (chars prefix) value)
prefixed_text [] value e u = absurd (true≢false e)
prefixed_text (x ∷ prefix) value e u = ap (λ p. attribute_text (spelled_with p (chars (x ∷ prefix))) value) xmlns_chars ∙ go (chars (x ∷ prefix)) refl
  where
    go : (cs : List ℕ) → chars (x ∷ prefix) ≡ cs → attribute_text (spelled_with (codes "xmlns") cs) value ≡ declaration_text (declared_as cs value)
    go [] f = let n : [] ≡ x ∷ prefix = ap encode_utf8_all (sym f) ∙ encodes-chars (x ∷ prefix) u in cc
    go (c ∷ cs) f = refl

-- A start tag.

pub name_text : (name : List ℕ) → IsNameText name → IsUtf8 name → encode_utf8_all (spelled (name_in (chars name))) ≡ name
name_text name h u = ap encode_utf8_all (spells (chars name) h) ∙ encodes-chars name u

pub tag_put : (old one two three four five bytes name ds es : List ℕ) → one ≡ old ++ codes "<" → two ≡ one ++ bytes → bytes ≡ encode_utf8_all name → three ≡ two ++ encode_utf8_all ds
    → four ≡ three ++ encode_utf8_all es → five ≡ four ++ codes ">" → five ≡ old ++ encode_utf8_all (codes "<" ++ name ++ ds ++ es ++ codes ">")
unfolding encode
tag_put old one two three four five bytes name ds es e f f' g h k =
    k ∙ ap (λ x. x ++ codes ">") (h ∙ ap (λ x. x ++ encode_utf8_all es) (g ∙ ap (λ x. x ++ encode_utf8_all ds) (f ∙ (λ i. e i ++ f' i))))
    ∙ sym (ap (λ x. old ++ x)
    (encodes-append (codes "<" ++ name ++ ds ++ es) (codes ">") ∙ ap (λ x. x ++ codes ">")
    (encodes-append (codes "<" ++ name ++ ds) es ∙ ap (λ x. x ++ encode_utf8_all es)
    (encodes-append (codes "<" ++ name) ds ∙ ap (λ x. x ++ encode_utf8_all ds) (encodes-append (codes "<") name))))
    ∙ regroup (codes "<") (encode_utf8_all name) (encode_utf8_all ds) (encode_utf8_all es) (codes ">"))
  where
    regroup : (a b c d e : List ℕ) → old ++ ((((a ++ b) ++ c) ++ d) ++ e) ≡ ((((old ++ a) ++ b) ++ c) ++ d) ++ e
    regroup a b c d e = simp append_assoc
