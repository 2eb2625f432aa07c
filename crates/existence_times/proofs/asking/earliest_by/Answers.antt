use Rattle.std.proofs.Common.{sym, ap, ◌∙◌, to_z-of_z}
use Rattle.policy_rules.specs.View.{rules}
use Rattle.cert_paths.specs.Origin.{Origin}
use Rattle.existence_times.specs.Shown.{Shown}
use Rattle.existence_times.proofs.CaseSteps.{stamps_kept, settled}
use Rattle.existence_times.proofs.asking.earliest_by.Goals as goal

pub settle-requires-clause-kept : goal.settle-requires-clause-kept
settle-requires-clause-kept c =
    stamps_kept c.args.links.now (rules c.args.policy.now) c.case.inside.pool c.case.inside.references c.case.inside.tokens.items c.case.inside.stamps.items c.as_slice.result.now c.as_slice-2.result.now
    (c.requires.links ∙ ap (λ (s : Shown). let o : Origin = record { pool = s.pool; policy = rules c.args.policy.now } in o) (sym c.case.view_is)) c.as_slice.ensures.value c.as_slice-2.ensures.value c.case.invariant

pub returns : goal.returns
returns c =
    settled c.args.links.now (rules c.args.policy.now) c.case.inside.pool c.case.inside.references c.case.inside.tokens.items c.case.inside.stamps.items c.as_slice.result.now c.as_slice-2.result.now
    (c.requires.links ∙ ap (λ (s : Shown). let o : Origin = record { pool = s.pool; policy = rules c.args.policy.now } in o) (sym c.case.view_is)) c.as_slice.ensures.value c.as_slice-2.ensures.value c.args.case.now _ c.args.now c.settle.new.times c.case.view_is (to_z-of_z c.ranges.now) c.in_ok-settle.ensures
