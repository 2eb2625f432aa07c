use Rattle.std.proofs.Common.{◌≡◌, ◌≤◌, ◌++◌, ◌-◌, OnOk, length, subst, sym, ap, ◌∙◌}
use Rattle.insertions.specs.Placed.{last_place, first_place}
use Rattle.insertions.proofs.PlacedAt.{two_at}
use Rattle.insertions.proofs.ByCalls.{IsLastBefore, the_element, seen_within, seen_two, seen_at_end, seen_empty}
use Rattle.insertions.proofs.putting.inside.Goals as goal

pub open-requires-clause-end : goal.open-requires-clause-end
open-requires-clause-end c =
    seen_two c.args.doc.bytes.now c.name_text.result.now c.args.doc.tree.now c.args.element.0 c.start_tag.result.end c.span-end.result.end c.args.doc.whole
    (the_element c.args.doc.bytes.now c.args.doc.tree.now c.args.element.0 c.start_tag.result.start c.span-end.result.start c.start_tag.result.end c.span-end.result.end
    c.requires.has c.requires.element c.start_tag.ensures c.span-end.ensures) c.if-start_tag-end.true c.name_text.utf8 c.name_text.ensures

pub open-requires-clause-behind : goal.open-requires-clause-behind
open-requires-clause-behind c =
    let placed =
    seen_empty c.args.doc.bytes.now c.name_text.result.now c.args.doc.tree.now c.args.element.0 c.start_tag.result.end c.span-end.result.end c.args.doc.whole
    (the_element c.args.doc.bytes.now c.args.doc.tree.now c.args.element.0 c.start_tag.result.start c.span-end.result.start c.start_tag.result.end c.span-end.result.end
    c.requires.has c.requires.element c.start_tag.ensures c.span-end.ensures) c.if-start_tag-end.true c.name_text.utf8 c.name_text.ensures c.args.content.now in
    subst (λ all. last_place c.args.pieces.now ≤ first_place all) placed c.requires.behind

pub last_opening-at-requires : goal.last_opening-at-requires
last_opening-at-requires c = subst (λ x. c.span-end.result.end ≤ length x) (sym c.bytes.ensures)
    (seen_within c.args.doc.bytes.now c.args.doc.tree.now c.args.element.0 c.start_tag.result.end c.span-end.result.end c.args.doc.whole
    (the_element c.args.doc.bytes.now c.args.doc.tree.now c.args.element.0 c.start_tag.result.start c.span-end.result.start c.start_tag.result.end c.span-end.result.end
    c.requires.has c.requires.element c.start_tag.ensures c.span-end.ensures))

pub add-requires : goal.add-requires
add-requires c =
    let placed =
    seen_at_end c.args.doc.bytes.now c.args.doc.tree.now c.args.element.0 c.start_tag.result.end c.span-end.result.end c.last_opening-at.result c.args.doc.whole
    (the_element c.args.doc.bytes.now c.args.doc.tree.now c.args.element.0 c.start_tag.result.start c.span-end.result.start c.start_tag.result.end c.span-end.result.end
    c.requires.has c.requires.element c.start_tag.ensures c.span-end.ensures) c.if-start_tag-end.false
    (subst (λ x. IsLastBefore x c.span-end.result.end c.last_opening-at.result) c.bytes.ensures (record { last = c.last_opening-at.ensures.last; here = c.last_opening-at.ensures.here })) c.args.content.now in
    subst (λ all. last_place c.args.pieces.now ≤ first_place all) placed c.requires.behind

pub returns-then-start_tag-end-clause-ok : goal.returns-then-start_tag-end-clause-ok
returns-then-start_tag-end-clause-ok c =
    let placed =
    seen_empty c.args.doc.bytes.now c.name_text.result.now c.args.doc.tree.now c.args.element.0 c.start_tag.result.end c.span-end.result.end c.args.doc.whole
    (the_element c.args.doc.bytes.now c.args.doc.tree.now c.args.element.0 c.start_tag.result.start c.span-end.result.start c.start_tag.result.end c.span-end.result.end
    c.requires.has c.requires.element c.start_tag.ensures c.span-end.ensures) c.if-start_tag-end.true c.name_text.utf8 c.name_text.ensures c.args.content.now in
    let end = c.span-end.result.end in
    subst (λ all. OnOk c.open.result (c.open.new.self ≡ c.args.pieces.now ++ all))
    (ap (λ name. two_at c.args.content.now name (end - 2) (end - 1)) c.as_bytes.ensures.value ∙ sym placed) c.open.ensures.ok

pub returns-else-start_tag-end-clause-ok : goal.returns-else-start_tag-end-clause-ok
returns-else-start_tag-end-clause-ok c =
    let placed =
    seen_at_end c.args.doc.bytes.now c.args.doc.tree.now c.args.element.0 c.start_tag.result.end c.span-end.result.end c.last_opening-at.result c.args.doc.whole
    (the_element c.args.doc.bytes.now c.args.doc.tree.now c.args.element.0 c.start_tag.result.start c.span-end.result.start c.start_tag.result.end c.span-end.result.end
    c.requires.has c.requires.element c.start_tag.ensures c.span-end.ensures) c.if-start_tag-end.false
    (subst (λ x. IsLastBefore x c.span-end.result.end c.last_opening-at.result) c.bytes.ensures (record { last = c.last_opening-at.ensures.last; here = c.last_opening-at.ensures.here })) c.args.content.now in
    subst (λ all. OnOk c.add.result (c.add.new.self ≡ c.args.pieces.now ++ all)) (sym placed) c.add.ensures.ok
