use Rattle.std.proofs.Common.{◌≡◌, ◌∷◌, [], ◌++◌, ℕ, ◌<◌, List, length, map, All, sym, ap, subst, ◌∙◌}
use Rattle.existence_times.specs.Kept.{number_of}
use Rattle.existence_times.specs.Shown.{ShownStamp}
use Rattle.sample_cases.proofs.CaseSteps.{stamps_then, token_then, pool_then}
use Rattle.sample_cases.proofs.stamps.put_stamp.Goals as goal

pub add_stamp-requires-clause-token : goal.add_stamp-requires-clause-token
add_stamp-requires-clause-token c = (c.args.token.now, c.in_ok-object.ensures.token, c.in_ok-object.ensures.signer)

pub add_stamp-requires-clause-covers : goal.add_stamp-requires-clause-covers
add_stamp-requires-clause-covers c =
    subst (λ (l : List ℕ). All (λ (y : ℕ). y < length c.put_token.new.case.pool) l) (sym c.in_ok-covered.ensures.numbers)
    (subst (λ (p : ℕ). All (λ (y : ℕ). y < p) c.args.covers.now) (ap length c.pool.ensures) c.in_ok-covered.ensures.within)

pub returns-clause-stamp : goal.returns-clause-stamp
returns-clause-stamp c =
    stamps_then c.args.case.now c.put_token.new.case c.add_stamp.new.self _ c.in_ok-object.ensures.kept
    (c.in_ok-add_stamp.ensures.ok c.args.token.now c.in_ok-object.ensures.token)
    ∙ ap (λ (l : List ℕ). c.args.case.now.stamps ++ record { object = c.in_ok-object.object.number; token = c.args.token.now; sound = c.args.sound; covers = l } ∷ []) c.in_ok-covered.ensures.numbers

pub returns-clause-token : goal.returns-clause-token
returns-clause-token c =
    token_then c.put_token.new.case c.add_stamp.new.self _ c.in_ok-object.object.number c.args.token.now
    (c.in_ok-add_stamp.ensures.ok c.args.token.now c.in_ok-object.ensures.token) c.in_ok-object.ensures.token

pub returns-clause-kept : goal.returns-clause-kept
returns-clause-kept c =
    pool_then c.args.case.now c.put_token.new.case c.add_stamp.new.self _ c.in_ok-object.ensures.kept
    (c.in_ok-add_stamp.ensures.ok c.args.token.now c.in_ok-object.ensures.token)
