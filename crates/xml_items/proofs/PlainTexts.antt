-- Texts of ASCII characters: they may stand in a document, and in a value where they begin no reference and no tag.
use Rattle.std.proofs.Common.{◌≡◌, ℕ, zero, suc, ◌<◌, Bool, true, false, not, ◌||◌, List, [], ◌∷◌, ◌++◌, Option, Some, None, is_some, option_and_then, refl, ◌∙◌, ap, arith}
use Rattle.std.proofs.lemmas.Bool.{and_parts, and_from}
use Rattle.std.proofs.lemmas.Bool.Decides.{nat_tests}
use Rattle.std.proofs.lemmas.Str.{chars-IsAscii}
use Rattle.std.specs.Str.{IsAscii, chars}
use Rattle.std.specs.List.{list_all}
use Rattle.document_model.specs.Characters.{is_char, span, contains, pieces_at}
use Rattle.document_model.specs.Items.{value_of, with_references}
use Rattle.xml_items.specs.Runs.{is_ordinary}
use Rattle.xml_items.specs.Texts.{is_plain}
use Rattle.xml_items.proofs.OrdinaryCharacters.{ordinary_is, no_start}
use Rattle.xml_items.proofs.Values.{normal, has_references, at_reference, references_behind}

pub plain_ascii : (b : ℕ) → is_plain b ≡ true → b < 128
plain_ascii b h = grind (arith, nat_tests)

pub plain_char : (b : ℕ) → is_plain b ≡ true → is_char b ≡ true
plain_char b h = grind (arith, nat_tests)

plain_all : (bs : List ℕ) → list_all is_plain bs ≡ true → list_all is_char bs ≡ true
plain_all [] h = refl
plain_all (b ∷ bs) h = let both = and_parts (is_plain b) (list_all is_plain bs) h in and_from _ _ (plain_char b both.0) (plain_all bs both.1)

pub ascii_of : (p : ℕ → Bool) → ((b : ℕ) → p b ≡ true → b < 128) → (bs : List ℕ) → list_all p bs ≡ true → IsAscii bs
ascii_of p f [] h i = omega arith
ascii_of p f (b ∷ bs) h zero = f b (and_parts (p b) (list_all p bs) h).0
ascii_of p f (b ∷ bs) h (suc i) = ascii_of p f bs (and_parts (p b) (list_all p bs) h).1 i

pub plain_characters : (bs : List ℕ) → list_all is_plain bs ≡ true → list_all is_char (chars bs) ≡ true
plain_characters bs h = ap (list_all is_char) (chars-IsAscii bs (ascii_of is_plain plain_ascii bs h)) ∙ plain_all bs h

-- Values.

no_tag : (cs : List ℕ) → list_all is_ordinary cs ≡ true → contains cs (0x3C ∷ []) ≡ false
no_tag [] h = refl
no_tag (c ∷ cs) h =
    let both = and_parts (is_ordinary c) (list_all is_ordinary cs) h in
    (λ i. no_start c cs [] 0x3C (ordinary_is c both.0).no_tag i || no_tag cs both.1 i)

no_reference : (cs : List ℕ) → list_all is_ordinary cs ≡ true → span at_reference cs ≡ (cs, [])
no_reference [] h = refl
no_reference (c ∷ cs) h =
    let both = and_parts (is_ordinary c) (list_all is_ordinary cs) h in
    let passes : at_reference c ≡ true = ap not (ordinary_is c both.0).no_reference in
    rw (passes, no_reference cs both.1) refl

value_there : (cs : List ℕ) → has_references cs ≡ true → contains cs (0x3C ∷ []) ≡ false → is_some (value_of cs) ≡ true
value_there cs h e = rw e (go (with_references (pieces_at 0x26 (normal cs)).1) h)
  where
    go : (o : Option (List ℕ)) → is_some o ≡ true → is_some (option_and_then (λ behind. Some ((pieces_at 0x26 (normal cs)).0 ++ behind)) o) ≡ true
    go None h = h
    go (Some x) h = refl

pub ordinary_value : (bs : List ℕ) → list_all is_ordinary bs ≡ true → is_some (value_of (chars bs)) ≡ true
ordinary_value bs h =
    ap (λ cs. is_some (value_of cs)) (chars-IsAscii bs (ascii_of is_ordinary (λ b e. (ordinary_is b e).ascii) bs h))
    ∙ value_there bs (references_behind bs bs [] (no_reference bs h)).0 (no_tag bs h)
