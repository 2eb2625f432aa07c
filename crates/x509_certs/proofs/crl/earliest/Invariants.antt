use Rattle.std.proofs.Common.{◌≡◌, IfSome}
use Rattle.der_values.specs.Elements.{elements}
use Rattle.der_values.specs.Times.{IsInYears}
use Rattle.der_values.specs.View.{elements_left}
use Rattle.x509_certs.specs.Lists.{earlier, earliest, dates_of}
use Rattle.x509_certs.proofs.crl.earliest.Given as goal

abbrev pub invariant-loop-entry : goal.invariant-loop-entry
invariant-loop-entry l =
    (earlier l.best (earliest (dates_of l.serial (elements_left l.entry-iterator))) ≡ earliest (dates_of l.serial (elements l.entries))) × IfSome l.best IsInYears
