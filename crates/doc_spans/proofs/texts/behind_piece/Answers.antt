use Rattle.std.proofs.Common.{◌≡◌, ◌∷◌, ◌++◌, ◌∙◌, [], ℕ, List, sym, ap}
use Rattle.std.specs.Str.{chars}
use Rattle.xml_items.proofs.AsciiTexts.{chars_empty}
use Rattle.doc_spans.specs.Pieces.{characters_in}
use Rattle.doc_spans.proofs.texts.behind_piece.Goals as goal
use Rattle.doc_spans.proofs.texts.behind_piece.Goals.{in_default-via-in-Some+else-c-d, in_default-via-in_default}

heads : (c d : ℕ) (cs ds : List ℕ) → c ∷ cs ≡ d ∷ ds → c ≡ d
heads c d cs ds e = ap first e
  where
    first : List ℕ → ℕ
    first [] = c
    first (x ∷ xs) = x

pub returns-in_default-clause-found : goal.returns-in_default-clause-found
returns-in_default-clause-found c = λ cs h.
    let one : chars c.args.text.now ≡ c.in-One.c ∷ cs = h ∙ ap (λ p. characters_in p ++ cs) c.in-One.is in
    elim c.in_default.branch [
      | in_default-via-in-Some+else-c-d w ↦ w.if-c-d.false (heads c.in-One.c w.in-Some.d cs (chars w.in-Some.rest.now) (sym one ∙ w.in-Some.ensures.chars))
      | in_default-via-in_default w ↦ (let e : [] ≡ c.in-One.c ∷ cs = sym (chars_empty c.args.text.now w.in_default.ensures.chars) ∙ one in (cc))
    ]
