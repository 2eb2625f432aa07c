-- Texts that are the same.
use Rattle.std.proofs.Common.{◌≡◌, ℕ, true, List, refl, sym}
use Rattle.std.specs.Cmp.Lexicographic.{same_text}
use Rattle.xml_items.proofs.AsciiTexts.{same_bool, same_from}
use Rattle.document_model.specs.Characters.{◌is◌}

pub is_same : (a b : List ℕ) → (a is b) ≡ true → a ≡ b
is_same a b e = same_text a b (sym e)

pub is_itself : (a : List ℕ) → (a is a) ≡ true
is_itself a = same_from a a refl

pub is_turned : (a b : List ℕ) → (a is b) ≡ (b is a)
is_turned a b = same_bool (a is b) (b is a) (λ e. same_from b a (sym (is_same a b e))) (λ e. same_from a b (sym (is_same b a e)))
