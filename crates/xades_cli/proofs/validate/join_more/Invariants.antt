use Rattle.std.proofs.Common.{◌≡◌, ◌++◌, length, map}
use Rattle.whole_files.specs.Wants.{held_of}
use Rattle.xades_cli.specs.Validate.{more_of}
use Rattle.xades_cli.proofs.validate.join_more.Given as goal

abbrev pub invariant-files : goal.invariant-files
invariant-files l = l.out ++ more_of (map held_of l.rest) ≡ more_of (map held_of l.files)

abbrev pub decreases-files : goal.decreases-files
decreases-files l = length l.rest
