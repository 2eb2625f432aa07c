use Rattle.std.proofs.Common.{◌∙◌, ◌<◌, ◌≤◌, arith, length-drop, length, drop, None, Some, ap, ◌≡◌, ◌+◌, ◌-◌, ℕ, List, take, sym, subst}
use Rattle.std.specs.Str.{chars}
use Rattle.std.proofs.lemmas.List.{take_rest}
use Rattle.xml_items.specs.Kinds.{kind_of}
use Rattle.xml_items.specs.Items.{item_in}
use Rattle.xml_items.specs.Spans.{IsPlaced}
use Rattle.xml_items.proofs.Pieces.{no_piece, piece_of, same_places, item_has}
use Rattle.xml_items.proofs.scanner.scan.Goals as goal

pub returns-in-Some-item_of-clause-item : goal.returns-in-Some-item_of-clause-item
returns-in-Some-item_of-clause-item c =
    piece_of (drop c.args.at c.args.bytes.now) (chars c.in-Some.text.now) (kind_of c.kind_at-kind.result) c.cut-len.result (Some (item_in c.in-Some-item_of.found))
    (rw take_rest at c.kind_at-kind.ensures) (rw take_rest at c.cut-len.ensures.cut) (rw take_rest at c.in-Some.ensures.1) c.in-Some-item_of.ensures.item
    ∙ ap Some (same_places c.args.at c.cut-len.result c.args.bytes.now (item_in c.in-Some-item_of.found))

pub returns-in-None-item_of-clause-item : goal.returns-in-None-item_of-clause-item
returns-in-None-item_of-clause-item c =
    piece_of (drop c.args.at c.args.bytes.now) (chars c.in-Some.text.now) (kind_of c.kind_at-kind.result) c.cut-len.result None
    (rw take_rest at c.kind_at-kind.ensures) (rw take_rest at c.cut-len.ensures.cut) (rw take_rest at c.in-Some.ensures.1) c.in-None-item_of.ensures.item

pub returns-in-None-clause-item : goal.returns-in-None-clause-item
returns-in-None-clause-item c =
    no_piece (drop c.args.at c.args.bytes.now) (kind_of c.kind_at-kind.result) c.cut-len.result
    (rw take_rest at c.kind_at-kind.ensures) (rw take_rest at c.cut-len.ensures.cut) (rw take_rest at c.in-None.ensures)

pub returns-in-Some-item_of-clause-within : goal.returns-in-Some-item_of-clause-within
returns-in-Some-item_of-clause-within c =
    let has : 0 < c.cut-len.result = item_has (kind_of c.kind_at-kind.result) _ c.in-Some.text.now c.cut-len.result (item_in c.in-Some-item_of.found) c.in-Some.ensures.0 c.in-Some-item_of.ensures.item in
    let bound : c.cut-len.result ≤ length (drop c.args.at c.args.bytes.now) = rw take_rest at c.cut-len.ensures.bound in
    (omega arith, omega (arith, length-drop c.args.at c.args.bytes.now))

pub returns-in-Some-item_of-clause-placed : goal.returns-in-Some-item_of-clause-placed
returns-in-Some-item_of-clause-placed c =
    let n : c.args.at + c.cut-len.result - c.args.at ≡ c.cut-len.result = omega arith in
    let text : c.in-Some.text.now ≡ take (c.args.at + c.cut-len.result - c.args.at) (drop c.args.at c.args.bytes.now)
    = (rw take_rest at c.in-Some.ensures.0) ∙ ap (λ k. take k (drop c.args.at c.args.bytes.now)) (sym n) in
    let P : List ℕ → Type 0 = λ whole. IsPlaced whole c.in-Some-item_of.found in
    subst P text c.in-Some-item_of.ensures.placed
