use Rattle.std.proofs.Common.{◌≡◌, ℕ, List, ◌∙◌, sym, ap, subst, SFits, w64, to_z, of_z, to_z-of_z, map, IsTrue, ◌↔◌}
use Rattle.policy_rules.specs.Rules.{Rules}
use Rattle.policy_rules.specs.View.{rules}
use Rattle.acceptance.proofs.Cases.{token_test}
use Rattle.acceptance.specs.Objects.{token_of}
use Rattle.acceptance.specs.Stamping.{proof_time, IsTokenAccepted}
use Rattle.existence_times.specs.Kept.{number_of, row_stamp, bytes_at}
use Rattle.existence_times.proofs.Steps.{judged-unsound, met_step, yes_step, no_step, answer_is}
use Rattle.existence_times.proofs.rounds.judge_stamp.Goals as goal

pub returns-then-not-stamp-clause-judged : goal.returns-then-not-stamp-clause-judged
returns-then-not-stamp-clause-judged c =
    sym (judged-unsound (token_test c.args.links.now.pool c.args.links.now.policy) (proof_time c.args.links.now.policy) (row_stamp c.args.tokens.now c.args.stamp.now) c.args.times.now c.if-not-stamp.true)

pub returns-then-is_met-clause-judged : goal.returns-then-is_met-clause-judged
returns-then-is_met-clause-judged c =
    let fits : SFits w64 c.proof_time-bound.result = record { sfits = c.proof_time-bound.type_inv } in
    let proved : to_z w64 (of_z w64 c.proof_time-bound.result) ≡ proof_time c.args.links.now.policy (token_of (bytes_at c.args.tokens.now c.args.stamp.now.token)) =
    to_z-of_z fits ∙ c.proof_time-bound.ensures ∙ ap (λ (b : List ℕ). proof_time (rules c.args.policy.now) (token_of b)) c.bytes_of-bytes.ensures
    ∙ ap (λ (p : Rules). proof_time p (token_of (bytes_at c.args.tokens.now c.args.stamp.now.token))) (sym c.requires.policy) in
    met_step (token_test c.args.links.now.pool c.args.links.now.policy) (proof_time c.args.links.now.policy) (row_stamp c.args.tokens.now c.args.stamp.now) c.args.times.now
    _ _ proved (ap (map number_of) c.as_slice.ensures.value) (c.is_met.ensures.0 c.if-is_met.true)

pub returns-then-branch-clause-judged : goal.returns-then-branch-clause-judged
returns-then-branch-clause-judged c =
    let fits : SFits w64 c.proof_time-bound.result = record { sfits = c.proof_time-bound.type_inv } in
    let then : SFits w64 c.time-at.result = record { sfits = c.time-at.type_inv } in
    let proved : to_z w64 (of_z w64 c.proof_time-bound.result) ≡ proof_time c.args.links.now.policy (token_of (bytes_at c.args.tokens.now c.args.stamp.now.token)) =
    to_z-of_z fits ∙ c.proof_time-bound.ensures ∙ ap (λ (b : List ℕ). proof_time (rules c.args.policy.now) (token_of b)) c.bytes_of-bytes.ensures
    ∙ ap (λ (p : Rules). proof_time p (token_of (bytes_at c.args.tokens.now c.args.stamp.now.token))) (sym c.requires.policy) in
    let accepted = subst (λ (b : List ℕ). IsTrue c.in_ok-is_token_accepted.field-0 ↔ IsTokenAccepted c.args.links.now.pool c.args.links.now.policy c.args.times.now (token_of b) (to_z w64 (of_z w64 c.time-at.result)))
    c.bytes_of-bytes.ensures c.in_ok-is_token_accepted.ensures in
    yes_step (token_test c.args.links.now.pool c.args.links.now.policy) (proof_time c.args.links.now.policy) (row_stamp c.args.tokens.now c.args.stamp.now) c.args.times.now
    _ _ _ _ _ proved (ap (map number_of) c.as_slice-then-branch.ensures.value) (to_z-of_z then ∙ c.time-at.ensures) c.if-not-stamp.false c.if-branch.true
    (answer_is c.args.links.now.pool c.args.links.now.policy c.args.times.now (token_of (bytes_at c.args.tokens.now c.args.stamp.now.token)) _ _ accepted) c.lower.ensures.lowered

pub returns-else-branch-clause-judged : goal.returns-else-branch-clause-judged
returns-else-branch-clause-judged c =
    let then : SFits w64 c.time-at.result = record { sfits = c.time-at.type_inv } in
    let accepted = subst (λ (b : List ℕ). IsTrue c.in_ok-is_token_accepted.field-0 ↔ IsTokenAccepted c.args.links.now.pool c.args.links.now.policy c.args.times.now (token_of b) (to_z w64 (of_z w64 c.time-at.result)))
    c.bytes_of-bytes.ensures c.in_ok-is_token_accepted.ensures in
    no_step (token_test c.args.links.now.pool c.args.links.now.policy) (proof_time c.args.links.now.policy) (row_stamp c.args.tokens.now c.args.stamp.now) c.args.times.now
    _ _ (to_z-of_z then ∙ c.time-at.ensures) c.if-branch.false
    (answer_is c.args.links.now.pool c.args.links.now.policy c.args.times.now (token_of (bytes_at c.args.tokens.now c.args.stamp.now.token)) _ _ accepted)
