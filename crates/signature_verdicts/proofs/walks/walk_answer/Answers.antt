use Rattle.std.proofs.Common.{◌↔◌, ℤ, Option, IsTrue, sym, subst, to_z-of_z}
use Rattle.std.specs.Prelude.{IfSome}
use Rattle.acceptance.specs.Walks.{HasCertificate, IsAccepted}
use Rattle.completeness.proofs.Walking.{certificate_bytes}
use Rattle.signature_cases.specs.Built.{member_of}
use Rattle.signature_cases.specs.declared.cases.SigningCert.{SigningCert}
use Rattle.signature_verdicts.specs.Seen.{IsSignerAccepted}
use Rattle.signature_verdicts.proofs.walks.walk_answer.Goals as goal

pub accepted-requires-clause-leaf : goal.accepted-requires-clause-leaf
accepted-requires-clause-leaf c =
    let there : HasCertificate c.args.links.now.pool (member_of c.in-Some.signer) =
    subst (λ (o : Option SigningCert). IfSome o (λ signer. HasCertificate c.args.links.now.pool (member_of signer))) c.in-Some.is c.requires.signer in
    (member_of c.in-Some.signer, there, certificate_bytes c.in-Some.signer.octets.now)

pub returns-in_ok-answer-in-Some : goal.returns-in_ok-answer-in-Some
returns-in_ok-answer-in-Some c =
    let there : HasCertificate c.args.links.now.pool (member_of c.in-Some.signer) =
    subst (λ (o : Option SigningCert). IfSome o (λ signer. HasCertificate c.args.links.now.pool (member_of signer))) c.in-Some.is c.requires.signer in
    let of : ℤ → Type 0 = λ at.
    IsTrue c.in_ok-answer-in-Some.answer ↔ IsAccepted c.args.links.now.pool c.args.links.now.policy c.args.times.now (member_of c.in-Some.signer) at at in
    let is : of c.args.at = subst of (to_z-of_z c.ranges.at) (c.in_ok-answer-in-Some.ensures (member_of c.in-Some.signer) there (certificate_bytes c.in-Some.signer.octets.now)) in
    subst (λ (o : Option SigningCert). IsTrue c.in_ok-answer-in-Some.answer ↔ IsSignerAccepted c.args.links.now.pool c.args.links.now.policy c.args.times.now c.args.at o) (sym c.in-Some.is) is
