use Rattle.std.proofs.Common.{◌++◌, ℕ, List, [], ap, sym, codes, ◌∙◌}
use Rattle.signature_model.specs.Fragments.{encoded, xades_element}
use Rattle.item_contents.proofs.Appending.{each_end, each_more}
use Rattle.item_contents.proofs.FragmentOctets.{certificate_octets}
use Rattle.item_contents.proofs.fragments.put_each_certificate.Goals as goal

pub loop-certificate-preserved : goal.loop-certificate-preserved
loop-certificate-preserved c =
    each_more (λ (octets : List ℕ). xades_element (codes "EncapsulatedX509Certificate") [] (encoded octets)) c.args.certificates.now c.loop-certificate.certificate-index _ _ _ _ c.loop-certificate-test.true
    (c.in_ok-put_between.ensures ∙ ap (λ x. c.loop-certificate.out ++ x) (sym (certificate_octets _))) c.loop-certificate.invariant

pub returns : goal.returns
returns c = each_end (λ (octets : List ℕ). xades_element (codes "EncapsulatedX509Certificate") [] (encoded octets)) c.args.certificates.now c.loop-certificate.certificate-index _ _ c.loop-certificate-test.false c.loop-certificate.invariant
