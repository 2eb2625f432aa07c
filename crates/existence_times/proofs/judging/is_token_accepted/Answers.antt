use Rattle.std.proofs.Common.{List, true≢false, sym, subst, ◌∙◌, ℤ, ℕ, to_z-of_z, to_z, of_z, w64, SFits, IsTrue, ◌↔◌}
use Rattle.policy_rules.specs.Rules.{Rules}
use Rattle.policy_rules.specs.View.{rules}
use Rattle.tst_tokens.specs.View.{token_bytes}
use Rattle.x509_certs.specs.View.{certificate_bytes}
use Rattle.acceptance.specs.Objects.{token_of}
use Rattle.acceptance.specs.Walks.{IsAccepted}
use Rattle.existence_times.specs.Judged.{AreKindsAccepted}
use Rattle.existence_times.proofs.TokenLaws.{accepted_by, unsigned, not_unsigned, signer_is, time_is}
use Rattle.existence_times.proofs.judging.is_token_accepted.Goals as goal

pub returns-in_default-signer : goal.returns-in_default-signer
returns-in_default-signer c = (
  λ h. absurd (true≢false (sym h)),
  λ h. absurd (not_unsigned c.args.links.now.pool c.args.links.now.policy c.args.times.now (token_of c.args.bytes.now) c.args.at
      (unsigned c.args.bytes.now (token_bytes c.in-Ok.token) c.in-Ok.ensures.ok c.in_default-signer.ensures) h),
)

pub accepted-requires-clause-leaf : goal.accepted-requires-clause-leaf
accepted-requires-clause-leaf c =
    let (m, there, same) = c.requires.signer (certificate_bytes c.in-Some.signer) (signer_is c.args.bytes.now (token_bytes c.in-Ok.token) (certificate_bytes c.in-Some.signer) c.in-Ok.ensures.ok c.in-Some.ensures) in
    (m, there, same ∙ sym c.whole.ensures)

pub returns : goal.returns
returns c =
    let signer = signer_is c.args.bytes.now (token_bytes c.in-Ok.token) (certificate_bytes c.in-Some.signer) c.in-Ok.ensures.ok c.in-Some.ensures in
    let then : SFits w64 c.gen_time.result = record { sfits = c.gen_time.type_inv } in
    let asked : AreKindsAccepted (rules c.args.policy.now) (token_of (token_bytes c.in-Ok.token)) (to_z w64 (of_z w64 c.args.at)) =
    c.are_kinds_accepted.ensures.0 c.if-not-are_kinds_accepted.false in
    let P : Rules → Type 0 = λ p. AreKindsAccepted p (token_of c.args.bytes.now) c.args.at in
    let Q : List ℕ → Type 0 = λ b. AreKindsAccepted (rules c.args.policy.now) (token_of b) c.args.at in
    let R : ℤ → Type 0 = λ z. AreKindsAccepted (rules c.args.policy.now) (token_of (token_bytes c.in-Ok.token)) z in
    let kinds = subst P (sym c.requires.policy) (subst Q c.in-Ok.ensures.ok (subst R (to_z-of_z c.ranges.at) asked)) in
    accepted_by c.args.links.now.pool c.args.links.now.policy c.args.times.now (token_of c.args.bytes.now) c.args.at c.in_ok-answer.answer (certificate_bytes c.in-Some.signer) c.gen_time.result
    kinds signer (time_is c.args.bytes.now (token_bytes c.in-Ok.token) c.gen_time.result c.in-Ok.ensures.ok c.gen_time.ensures.value)
    (c.requires.signer (certificate_bytes c.in-Some.signer) signer)
    (λ m there same.
    let A : ℤ → Type 0 = λ z. IsTrue c.in_ok-answer.answer ↔ IsAccepted c.args.links.now.pool c.args.links.now.policy c.args.times.now m z c.args.at in
    let B : ℤ → Type 0 = λ z. IsTrue c.in_ok-answer.answer ↔ IsAccepted c.args.links.now.pool c.args.links.now.policy c.args.times.now m (to_z w64 (of_z w64 c.gen_time.result)) z in
    subst A (to_z-of_z then) (subst B (to_z-of_z c.ranges.at) (c.in_ok-answer.ensures m there (same ∙ sym c.whole.ensures))))
