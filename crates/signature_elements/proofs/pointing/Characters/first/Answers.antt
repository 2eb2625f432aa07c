use Rattle.std.proofs.Common.{◌≡◌, ℕ, List, [], ◌∷◌, ◌++◌, sym, subst}
use Rattle.std.specs.Prelude.{MatchOption}
use Rattle.xml_items.proofs.AsciiTexts.{chars_empty}
use Rattle.doc_spans.specs.Pieces.{characters_left}
use Rattle.signature_elements.specs.Ahead.{ahead}
use Rattle.signature_elements.proofs.pointing.Characters.first.Goals as goal

pub returns-in-None : goal.returns-in-None
returns-in-None c =
    let rest = characters_left c.args.self.pieces in
    let P : List ℕ → Type 0 = λ cs. MatchOption c.first_of.result (cs ++ rest ≡ []) (λ r. cs ++ rest ≡ r.0 ∷ ahead r.1) in
    subst P (sym (chars_empty c.args.self.run.now c.in-None.ensures.chars)) c.first_of.ensures
