use Rattle.std.proofs.Common.{◌≡◌, length, map}
use Rattle.whole_files.specs.Wants.{held_of, document_of}
use Rattle.whole_files.proofs.document.document_of.Given as goal

abbrev pub invariant-files : goal.invariant-files
invariant-files l = document_of (map held_of l.rest) ≡ document_of (map held_of l.files)

abbrev pub decreases-files : goal.decreases-files
decreases-files l = length l.rest
