use Rattle.std.proofs.Common.{◌≡◌, true, List, ℕ, is_some, refl, sym, subst}
use Rattle.std.proofs.lemmas.Str.{chars-nil}
use Rattle.xml_items.specs.Found.{read_attributes}
use Rattle.doc_spans.proofs.attributes.Attrs.none.Goals as goal

pub invariant_of-result : goal.invariant_of-result
invariant_of-result c = let P : List ℕ → Type 0 = λ cs. is_some (read_attributes 0 cs) ≡ true in record { read = subst P (sym chars-nil) refl }
