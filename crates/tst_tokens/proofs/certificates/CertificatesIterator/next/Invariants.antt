use Rattle.std.proofs.Common.{◌≡◌, length}
use Rattle.der_values.specs.View.{elements_left}
use Rattle.tst_tokens.specs.View.{certificates_left}
use Rattle.tst_tokens.proofs.certificates.CertificatesIterator.next.Given as goal

abbrev pub invariant-loop-entry : goal.invariant-loop-entry
invariant-loop-entry l = certificates_left l.self ≡ certificates_left l.initial.self

abbrev pub decreases-loop-entry : goal.decreases-loop-entry
decreases-loop-entry l = length (elements_left l.self.listed)
