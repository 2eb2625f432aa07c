use Rattle.std.proofs.Common.{length}
use Rattle.doc_spans.specs.Seen.{path_in}
use Rattle.canon_forms.proofs.apexes.+hold_around.Given as goal

abbrev pub decreases-hold_around : goal.decreases-hold_around
decreases-hold_around l = length (path_in l.doc l.node)
