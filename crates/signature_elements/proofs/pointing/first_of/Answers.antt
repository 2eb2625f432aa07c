use Rattle.std.proofs.Common.{◌≡◌, ℕ, List, true, false, ◌∷◌, ◌++◌, sym, ◌∙◌, ap}
use Rattle.std.proofs.lemmas.Str.{chars-nil}
use Rattle.document_model.specs.Characters.{is_empty}
use Rattle.xml_items.proofs.AsciiTexts.{chars_empty}
use Rattle.doc_spans.specs.Pieces.{characters_in, characters_left}
use Rattle.signature_elements.proofs.pointing.first_of.Goals as goal

pub returns-in_err-c-in-Run : goal.returns-in_err-c-in-Run
returns-in_err-c-in-Run c =
    let e : true ≡ false =
    sym (ap (λ p. is_empty (characters_in p)) c.in-Run.is ∙ ap is_empty (chars_empty c.in-Run.text.now c.in_err-c-in-Run.ensures.chars)) ∙ c.in_ok-text.ensures.1 in
    absurd (cc)

pub returns-in-One : goal.returns-in-One
returns-in-One c =
    let rest = characters_left c.next_piece.new.pieces in
    c.in_ok-text.ensures.0
    ∙ ap (λ p. characters_in p ++ rest) c.in-One.is
    ∙ ap (λ (cs : List ℕ). c.in-One.c ∷ (cs ++ rest)) (sym chars-nil)
