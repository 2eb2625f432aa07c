use Rattle.std.proofs.Common.{◌≡◌, length, map}
use Rattle.whole_files.specs.Wants.{held_of}
use Rattle.xades_cli.specs.Prepare.{bad_certificate}
use Rattle.xades_cli.proofs.prepare.bad_certificate.Given as goal

abbrev pub invariant-files : goal.invariant-files
invariant-files l = bad_certificate (map held_of l.rest) ≡ bad_certificate (map held_of l.files)

abbrev pub decreases-files : goal.decreases-files
decreases-files l = length l.rest
