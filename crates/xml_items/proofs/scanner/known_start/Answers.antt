use Rattle.std.proofs.Common.{◌≡◌, ◌∙◌, ◌+◌, ◌-◌, ◌<◌, ◌≤◌, ℕ, List, Some, length, drop, take, is_some, sym, ap, subst, arith, length-drop}
use Rattle.std.specs.Str.{chars}
use Rattle.std.proofs.lemmas.List.{take_rest}
use Rattle.document_model.specs.Items.{TagKind, item_of}
use Rattle.xml_items.specs.Items.{item_in}
use Rattle.xml_items.specs.Spans.{IsPlaced}
use Rattle.xml_items.specs.declared.items.Found.TheVariants.{StartTag}
use Rattle.xml_items.proofs.Pieces.{piece_of, same_places, item_has}
use Rattle.xml_items.proofs.KnownItems.{known}
use Rattle.xml_items.proofs.scanner.known_start.Goals as goal

pub known_start_tag-requires : goal.known_start_tag-requires
known_start_tag-requires c =
    let k = known (drop c.args.at c.args.bytes.now) TagKind c.cut-len.result (rw take_rest at c.in-Tag.ensures) (rw take_rest at c.cut-len.ensures.cut) c.requires.stands in
    let text : c.in-Ok.text.now ≡ take c.cut-len.result (drop c.args.at c.args.bytes.now) = rw take_rest at c.in-Ok.ensures.cases.0 in
    ap (λ t. is_some (item_of TagKind (chars t))) text ∙ k.item

pub returns-in-Some-clause-item : goal.returns-in-Some-clause-item
returns-in-Some-clause-item c =
    let k = known (drop c.args.at c.args.bytes.now) TagKind c.cut-len.result (rw take_rest at c.in-Tag.ensures) (rw take_rest at c.cut-len.ensures.cut) c.requires.stands in
    let text : c.in-Ok.text.now ≡ take c.cut-len.result (drop c.args.at c.args.bytes.now) = rw take_rest at c.in-Ok.ensures.cases.0 in
    piece_of (drop c.args.at c.args.bytes.now) (chars (take c.cut-len.result (drop c.args.at c.args.bytes.now))) TagKind c.cut-len.result (Some (item_in (StartTag c.in-Some.name c.in-Some.attributes)))
    (rw take_rest at c.in-Tag.ensures) (rw take_rest at c.cut-len.ensures.cut) k.text (ap (λ t. item_of TagKind (chars t)) (sym text) ∙ c.in-Some.ensures.item)
    ∙ ap Some (same_places c.args.at c.cut-len.result c.args.bytes.now (item_in (StartTag c.in-Some.name c.in-Some.attributes)))

pub returns-in-Some-clause-within : goal.returns-in-Some-clause-within
returns-in-Some-clause-within c =
    let text : c.in-Ok.text.now ≡ take c.cut-len.result (drop c.args.at c.args.bytes.now) = rw take_rest at c.in-Ok.ensures.cases.0 in
    let has : 0 < c.cut-len.result = item_has TagKind _ c.in-Ok.text.now c.cut-len.result (item_in (StartTag c.in-Some.name c.in-Some.attributes)) text c.in-Some.ensures.item in
    let bound : c.cut-len.result ≤ length (drop c.args.at c.args.bytes.now) = rw take_rest at c.cut-len.ensures.bound in
    (omega arith, omega (arith, length-drop c.args.at c.args.bytes.now))

pub returns-in-Some-clause-placed : goal.returns-in-Some-clause-placed
returns-in-Some-clause-placed c =
    let n : c.args.at + c.cut-len.result - c.args.at ≡ c.cut-len.result = omega arith in
    let text : c.in-Ok.text.now ≡ take (c.args.at + c.cut-len.result - c.args.at) (drop c.args.at c.args.bytes.now)
    = (rw take_rest at c.in-Ok.ensures.cases.0) ∙ ap (λ k. take k (drop c.args.at c.args.bytes.now)) (sym n) in
    let P : List ℕ → Type 0 = λ whole. IsPlaced whole (StartTag c.in-Some.name c.in-Some.attributes) in
    subst P text c.in-Some.ensures.placed
