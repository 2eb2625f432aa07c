use Rattle.std.proofs.Common.{◌≡◌, ◌-◌, length, take, drop, arith, sym, ap, ◌∙◌, length-drop}
use Rattle.std.proofs.Math.Seq.{take-length, drop-length}
use Rattle.std.proofs.lemmas.List.{take_rest}
use Rattle.document_model.proofs.Through.{through_found, through_nowhere}
use Rattle.xml_items.proofs.cuts.through.Goals as goal

pub returns-then-starts_with-clause-cut : goal.returns-then-starts_with-clause-cut
returns-then-starts_with-clause-cut c =
    let n : length c.args.bytes.now - length (take (length c.args.bytes.now - c.loop-at.at) (drop c.loop-at.at c.args.bytes.now)) ≡ c.loop-at.at
    = ap (λ x. length c.args.bytes.now - length x) (take_rest c.args.bytes.now c.loop-at.at) ∙ omega (arith, length-drop c.loop-at.at c.args.bytes.now) in
    rw n
    (through_found c.args.close.now _ c.loop-at.at c.loop-at.invariant
    (rw (← take_rest c.args.bytes.now c.loop-at.at) (sym c.if-starts_with.ensures.value)))

pub returns-clause-cut : goal.returns-clause-cut
returns-clause-cut c = rw (take-length, drop-length) (through_nowhere c.args.close.now _ (λ k h. c.loop-at.invariant k (omega arith)))
