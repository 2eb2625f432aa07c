use Rattle.std.proofs.Common.{◌≡◌}
use Rattle.std.specs.Prelude.{filter, find}
use Rattle.der_values.specs.Elements.{elements}
use Rattle.der_values.specs.View.{elements_left}
use Rattle.tst_tokens.specs.Tokens.{is_certificate, has_names}
use Rattle.tst_tokens.proofs.token.of_issuer.Given as goal

abbrev pub invariant-loop-entry : goal.invariant-loop-entry
invariant-loop-entry l = find (has_names l.issuer l.serial) (filter is_certificate (elements_left l.entry-iterator)) ≡ find (has_names l.issuer l.serial) (filter is_certificate (elements l.listed))
