use Rattle.std.proofs.Common.{◌∙◌}
use Rattle.existence_times.proofs.CaseSteps.{no_row, stamp_added, stamp_seen}
use Rattle.existence_times.proofs.case.Case.add_stamp.Goals as goal

pub unreachable-requires : goal.unreachable-requires
unreachable-requires c =
    let (bytes, has, signer) = c.requires.token in
    no_row c.self.inside.pool c.self.inside.references c.self.inside.tokens.items c.self.inside.stamps.items c.as_slice.result.now c.args.self.now c.args.token.number bytes
    c.as_slice.ensures.value c.self.view_is c.in_default.ensures has

pub invariant_of-self-2 : goal.invariant_of-self-2
invariant_of-self-2 c =
    stamp_added c.self.inside.pool c.self.inside.references c.self.inside.tokens.items c.self.inside.stamps.items c.as_slice.result.now c.push.new.self.items
    (record { object = c.args.token; token = c.in-Some.number; sound = c.args.sound; covers = c.in-Ok.covers }) c.args.covers.now.items c.args.self.now c.self.invariant c.self.view_is
    c.as_slice.ensures.value c.in-Some.ensures (c.in-Ok.ensures.items ∙ c.as_slice-2.ensures.value) c.in-Ok-push.ensures.items c.requires.covers c.requires.token

pub returns-clause-ok : goal.returns-clause-ok
returns-clause-ok c =
    stamp_seen c.self.inside.pool c.self.inside.references c.self.inside.tokens.items c.self.inside.stamps.items c.as_slice.result.now c.push.new.self.items
    (record { object = c.args.token; token = c.in-Some.number; sound = c.args.sound; covers = c.in-Ok.covers }) c.args.covers.now.items c.args.self.now c.self.invariant c.self.view_is
    c.as_slice.ensures.value c.in-Some.ensures (c.in-Ok.ensures.items ∙ c.as_slice-2.ensures.value) c.in-Ok-push.ensures.items
