use Rattle.std.proofs.Common.{◌∙◌, refl, rules as known, SFits, w64, to_z-of_z}
use Rattle.policy_rules.specs.View.{rules}
use Rattle.cert_paths.proofs.StatusLaws.{list_current_is}
use Rattle.cert_paths.proofs.status.is_list_current.Goals as goal

pub returns : goal.returns
returns c =
    let begin : SFits w64 c.args.row.now.this_update = search known in
    let then : SFits w64 c.time.result = record { sfits = c.time.type_inv } in
    list_current_is (rules c.args.policy.now) c.args.times.now c.args.at c.args.end c.args.row.now _ _ _ _ _ _ _ _
    (to_z-of_z c.ranges.at) refl (to_z-of_z begin) (to_z-of_z c.ranges.end) (to_z-of_z then ∙ c.time.ensures)
    c.is_until.ensures c.if-not-is_until.false c.is_at_most.ensures c.if-not-is_at_most.false c.is_kind_accepted.ensures
