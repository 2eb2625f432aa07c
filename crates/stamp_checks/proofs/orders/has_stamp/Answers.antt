use Rattle.std.proofs.Common.{◌≡◌, ◌≤◌, ◌||◌, true, false, length, sym, ◌∙◌, ap, arith}
use Rattle.std.specs.List.{list_any}
use Rattle.std.specs.Prelude.{slice_get}
use Rattle.archive_octets.proofs.Listing.{mapped}
use Rattle.qualifying_props.specs.Shown.{ShownProperty}
use Rattle.signature_parts.specs.Kinds.{kind_in}
use Rattle.stamp_checks.proofs.Looking.{passed_all, passed_here, passed_on}
use Rattle.stamp_checks.proofs.Told.{shows_kind, stamp_told}
use Rattle.stamp_checks.specs.Orders.{is_of}
use Rattle.stamp_checks.proofs.orders.has_stamp.Goals as goal

pub returns-then-is_of : goal.returns-then-is_of
returns-then-is_of c = λ doc h.
    let kind = c.args.kind in
    let properties = c.args.parts.now.properties in
    let at = mapped (λ (property : ShownProperty). property.kind) (slice_get properties c.loop-number.number) c.property_kind.result c.property_kind.ensures in
    let is : shows_kind kind at.0 ≡ true = ap (λ k. is_of kind (kind_in k)) at.2 ∙ sym c.is_of.ensures ∙ c.if-is_of.true in
    sym (passed_here (list_any (shows_kind kind)) properties c.loop-number.number at.0 true at.1 (λ ys. ap (λ b. b || list_any (shows_kind kind) ys) is) c.loop-number.invariant)
    ∙ stamp_told doc c.args.parts.now kind h

pub loop-number-preserved : goal.loop-number-preserved
loop-number-preserved c =
    let kind = c.args.kind in
    let properties = c.args.parts.now.properties in
    let at = mapped (λ (property : ShownProperty). property.kind) (slice_get properties c.loop-number.number) c.property_kind.result c.property_kind.ensures in
    let is : shows_kind kind at.0 ≡ false = ap (λ k. is_of kind (kind_in k)) at.2 ∙ sym c.is_of.ensures ∙ c.if-is_of.false in
    passed_on (list_any (shows_kind kind)) properties c.loop-number.number at.0 at.1 (λ ys. ap (λ b. b || list_any (shows_kind kind) ys) is) c.loop-number.invariant

pub returns : goal.returns
returns c = λ doc h.
    let properties = c.args.parts.now.properties in
    let past : length properties ≤ c.loop-number.number = omega (arith, c.properties-number-end.ensures, c.loop-number-test.false) in
    sym (passed_all (list_any (shows_kind c.args.kind)) properties c.loop-number.number past c.loop-number.invariant) ∙ stamp_told doc c.args.parts.now c.args.kind h
