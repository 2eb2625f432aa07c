use Rattle.std.proofs.Common.{◌≡◌, List, Bool, true, false, Vec, Global, length, refl, sym, ◌∙◌, subst, true≢false}
use mathlib.Core.Bool.{beq}
use Rattle.std.specs.Bool.{Decides}
use Rattle.std.proofs.lemmas.Slice.Eq.{slice_eq-Decides}
use Rattle.cert_paths.specs.Reached.{IsReached}
use Rattle.cert_paths.specs.Tables.{IsRowOf}
use Rattle.cert_paths.proofs.ReachLaws.{closed_at_last}
use Rattle.cert_paths.proofs.reaching.reach_from_anchors.Goals as goal

beq-Decides : (a b : Bool) → Decides (beq a b) (a ≡ b)
beq-Decides true true = (λ h. refl, λ h. refl)
beq-Decides true false = (λ h. absurd (true≢false (sym h)), λ h. absurd (true≢false h))
beq-Decides false true = (λ h. absurd (true≢false (sym h)), λ h. absurd (true≢false (sym h)))
beq-Decides false false = (λ h. refl, λ h. refl)

pub returns-then-eq-clause-closed : goal.returns-then-eq-clause-closed
returns-then-eq-clause-closed c =
    let first = length c.args.certs.now in
    let columns = length c.args.issuers.now in
    let known = c.loop.reach.reached.items in
    let row : IsRowOf (IsReached first columns known c.loop.reach.signed.items) columns c.in_ok-reached.reached.items =
    subst (λ (k : List Bool). IsRowOf (IsReached first columns k c.loop.reach.signed.items) columns c.in_ok-reached.reached.items) c.as_slice-known.ensures.value
    (subst (λ (t : List (Vec Bool Global)). IsRowOf (IsReached first columns c.as_slice-known.result.now t) columns c.in_ok-reached.reached.items) c.as_slice-signed.ensures.value c.in_ok-reached.ensures) in
    let equal = (slice_eq-Decides beq-Decides c.as_slice.result.now c.as_slice-known.result.now c.eq.result c.eq.ensures).0 c.if-eq.true in
    closed_at_last first columns known c.in_ok-reached.reached.items c.loop.reach.signed.items row (sym c.as_slice.ensures.value ∙ equal ∙ c.as_slice-known.ensures.value)
