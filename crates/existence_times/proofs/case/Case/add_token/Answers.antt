use Rattle.existence_times.proofs.CaseSteps.{found_token, found_within, case_same, fresh_token, token_added, token_seen, token_there, token_keeps, token_within}
use Rattle.existence_times.proofs.case.Case.add_token.Goals as goal

pub returns-in-Some-clause-new : goal.returns-in-Some-clause-new
returns-in-Some-clause-new c none =
    absurd (none c.index.result.now.object.number
    (found_token c.self.inside.pool c.self.inside.references c.self.inside.tokens.items c.self.inside.stamps.items c.as_slice.result.now c.args.self.now c.in-Some.number c.index.result.now c.args.bytes.now
    c.as_slice.ensures.value c.self.view_is c.in-Some.ensures c.index.ensures))

pub returns-in-Some-clause-number : goal.returns-in-Some-clause-number
returns-in-Some-clause-number c =
    found_token c.self.inside.pool c.self.inside.references c.self.inside.tokens.items c.self.inside.stamps.items c.as_slice.result.now c.args.self.now c.in-Some.number c.index.result.now c.args.bytes.now
    c.as_slice.ensures.value c.self.view_is c.in-Some.ensures c.index.ensures

pub invariant_of-self-2 : goal.invariant_of-self-2
invariant_of-self-2 c =
    token_added c.self.inside.pool c.self.inside.references c.self.inside.tokens.items c.self.inside.stamps.items c.take-object.new.self c.reserve.new.self.items c.push.new.self.items
    (record { object = c.take-object.result; bytes = c.in-Ok.bytes }) c.args.bytes.now c.self.invariant c.take-object.ensures.pool c.reserve.ensures.items c.in-Ok-push.ensures.items
    c.take-object.ensures.number c.in-Ok.ensures.items c.requires.whole

pub returns-clause-there : goal.returns-clause-there
returns-clause-there c n has =
    absurd (fresh_token c.self.inside.pool c.self.inside.references c.self.inside.tokens.items c.self.inside.stamps.items c.as_slice.result.now c.args.self.now n c.args.bytes.now
    c.as_slice.ensures.value c.self.view_is c.in_default.ensures has)

pub returns-clause-new : goal.returns-clause-new
returns-clause-new c none =
    token_seen c.self.inside.pool c.self.inside.references c.self.inside.tokens.items c.self.inside.stamps.items c.take-object.new.self c.reserve.new.self.items c.push.new.self.items
    (record { object = c.take-object.result; bytes = c.in-Ok.bytes }) c.args.bytes.now c.self.invariant c.take-object.ensures.pool c.reserve.ensures.items c.in-Ok-push.ensures.items
    c.take-object.ensures.number c.in-Ok.ensures.items c.args.self.now c.self.view_is

pub returns-clause-number : goal.returns-clause-number
returns-clause-number c =
    token_there c.self.inside.pool c.self.inside.references c.self.inside.tokens.items c.self.inside.stamps.items c.take-object.new.self c.reserve.new.self.items c.push.new.self.items
    (record { object = c.take-object.result; bytes = c.in-Ok.bytes }) c.args.bytes.now c.self.invariant c.take-object.ensures.pool c.reserve.ensures.items c.in-Ok-push.ensures.items
    c.take-object.ensures.number c.in-Ok.ensures.items

pub returns-in-Some-clause-within : goal.returns-in-Some-clause-within
returns-in-Some-clause-within c =
    found_within c.self.inside.pool c.self.inside.references c.self.inside.tokens.items c.self.inside.stamps.items c.as_slice.result.now c.args.self.now c.in-Some.number c.index.result.now
    c.self.invariant c.as_slice.ensures.value c.self.view_is c.in-Some.ensures.0 c.index.ensures

pub returns-in-Some-clause-kept : goal.returns-in-Some-clause-kept
returns-in-Some-clause-kept c = case_same c.args.self.now

pub returns-clause-within : goal.returns-clause-within
returns-clause-within c =
    token_within c.self.inside.pool c.self.inside.references c.self.inside.tokens.items c.self.inside.stamps.items c.take-object.new.self c.reserve.new.self.items c.push.new.self.items
    (record { object = c.take-object.result; bytes = c.in-Ok.bytes }) c.args.bytes.now c.self.invariant c.take-object.ensures.pool c.reserve.ensures.items c.in-Ok-push.ensures.items
    c.take-object.ensures.number c.in-Ok.ensures.items

pub returns-clause-kept : goal.returns-clause-kept
returns-clause-kept c =
    token_keeps c.self.inside.pool c.self.inside.references c.self.inside.tokens.items c.self.inside.stamps.items c.take-object.new.self c.reserve.new.self.items c.push.new.self.items
    (record { object = c.take-object.result; bytes = c.in-Ok.bytes }) c.args.bytes.now c.self.invariant c.take-object.ensures.pool c.reserve.ensures.items c.in-Ok-push.ensures.items
    c.take-object.ensures.number c.in-Ok.ensures.items c.args.self.now c.self.view_is
