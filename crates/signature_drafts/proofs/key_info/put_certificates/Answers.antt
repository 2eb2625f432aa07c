use Rattle.std.proofs.Common.{arith}
use Rattle.signature_drafts.proofs.PartOctets.{certificates_end, certificates_more}
use Rattle.signature_drafts.proofs.QuotedTexts.{found_is}
use Rattle.signature_drafts.proofs.key_info.put_certificates.Goals as goal

pub loop-number-preserved : goal.loop-number-preserved
loop-number-preserved c =
    let all = c.args.draft.now.certificates in
    certificates_more c.loop-number.number all c.cert.result.now _ _ _ (let t = c.loop-number-test.true in let e = c.certs-number-end.ensures in omega (arith, t, e))
    (found_is all c.loop-number.number c.cert.result.now c.cert.ensures) c.in_ok-put_certificate.ensures c.loop-number.invariant

pub returns : goal.returns
returns c =
    certificates_end c.loop-number.number c.args.draft.now.certificates _ _ (let t = c.loop-number-test.false in let e = c.certs-number-end.ensures in omega (arith, t, e)) c.loop-number.invariant
