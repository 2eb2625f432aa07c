use Rattle.std.proofs.Common.{◌≡◌, ◌∷◌, List, ℕ, refl, sym, subst}
use Rattle.document_model.specs.Characters.{with_line_ends}
use Rattle.xml_items.proofs.AsciiTexts.{chars_empty}
use Rattle.doc_spans.proofs.readings.behind_line_feed.Goals as goal

pub returns-in-None-clause-line : goal.returns-in-None-clause-line
returns-in-None-clause-line c =
    let P : List ℕ → Type 0 = λ cs. with_line_ends (0xD ∷ cs) ≡ 0xA ∷ with_line_ends cs in
    subst P (sym (chars_empty c.args.behind.now c.in-None.ensures.chars)) refl
