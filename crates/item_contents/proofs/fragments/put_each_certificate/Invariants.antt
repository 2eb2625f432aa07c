use Rattle.std.proofs.Common.{◌≡◌, ◌++◌, drop, map}
use Rattle.der_values.specs.Distinct.{octets}
use Rattle.signature_model.specs.Fragments.{written_octets}
use Rattle.item_contents.specs.Contents.{certificate_elements}
use Rattle.item_contents.proofs.fragments.put_each_certificate.Given as goal

-- with those that are left, it is the whole
abbrev pub invariant-loop-certificate : goal.invariant-loop-certificate
invariant-loop-certificate l = l.out ++ written_octets (certificate_elements (map octets (drop l.certificate-index l.certificates))) ≡ l.initial.out ++ written_octets (certificate_elements (map octets l.certificates))
