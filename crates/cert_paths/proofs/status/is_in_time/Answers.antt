use Rattle.std.proofs.Common.{◌∙◌, rules as known, SFits, w64, to_z-of_z}
use Rattle.policy_rules.specs.View.{rules}
use Rattle.cert_paths.proofs.StatusLaws.{in_time_is}
use Rattle.cert_paths.proofs.status.is_in_time.Goals as goal

pub returns : goal.returns
returns c =
    let begin : SFits w64 c.args.row.now.not_before = search known in
    let end : SFits w64 c.args.row.now.not_after = search known in
    let then : SFits w64 c.time.result = record { sfits = c.time.type_inv } in
    in_time_is (rules c.args.policy.now) c.args.times.now c.args.low c.args.at c.args.row.now _ _ _ _ _ _ _
    (to_z-of_z c.ranges.low) (to_z-of_z c.ranges.at) (to_z-of_z begin) (to_z-of_z end) (to_z-of_z then ∙ c.time.ensures)
    c.is_span.ensures c.if-not-is_span.false c.is_kind_accepted.ensures
