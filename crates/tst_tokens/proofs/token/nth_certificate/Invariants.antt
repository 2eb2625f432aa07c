use Rattle.std.proofs.Common.{◌≡◌}
use Rattle.std.specs.Prelude.{filter, slice_get}
use Rattle.der_values.specs.Elements.{elements}
use Rattle.der_values.specs.View.{elements_left}
use Rattle.tst_tokens.specs.Tokens.{is_certificate}
use Rattle.tst_tokens.proofs.token.nth_certificate.Given as goal

abbrev pub invariant-loop-entry : goal.invariant-loop-entry
invariant-loop-entry l = slice_get (filter is_certificate (elements_left l.entry-iterator)) l.before ≡ slice_get (filter is_certificate (elements l.listed)) l.number
