use Rattle.std.proofs.Common.{◌≡◌, ◌++◌, ℕ, List, OnOk, subst, sym, ◌∙◌, ap}
use Rattle.canon_tags.specs.Around.{around_in}
use Rattle.canon_forms.specs.Walks.{element_in}
use Rattle.canon_forms.proofs.SetOctets.{line_is_top}
use Rattle.canon_forms.proofs.lines.put_top.Goals as goal

pub returns-clause-written : goal.returns-clause-written
returns-clause-written c =
    let P : List ℕ → Type 0 = λ xs. OnOk c.put_line.result (c.put_line.new.out ≡ c.args.out.now ++ xs) in
    subst P
    (line_is_top c.args.walk.now c.args.behind (around_in c.args.around.now) c.args.node c.requires.has c.requires.top (sym c.has.ensures ∙ c.if-not-has.false)
    (ap (λ doc. element_in doc c.args.node) (sym c.doc.ensures) ∙ sym c.is_element.ensures ∙ c.if-is_element.false))
    c.put_line.ensures.written
