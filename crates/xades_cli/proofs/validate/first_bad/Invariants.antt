use Rattle.std.proofs.Common.{length, map}
use Rattle.std.specs.Prelude.{Option}
use Rattle.whole_files.specs.Wants.{held_of}
use Rattle.xades_cli.specs.Validate.{AreJudged}
use Rattle.xades_cli.specs.declared.prepare.BadFile.{BadFile}
use Rattle.xades_cli.proofs.validate.first_bad.Given as goal

abbrev pub invariant-files : goal.invariant-files
invariant-files l = (found : Option BadFile) → AreJudged (map held_of l.rest) found → AreJudged (map held_of l.files) found

abbrev pub decreases-files : goal.decreases-files
decreases-files l = length l.rest
