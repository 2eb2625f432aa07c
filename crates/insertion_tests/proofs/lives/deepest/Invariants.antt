use Rattle.doc_spans.specs.Seen.{Has}
use Rattle.insertion_tests.proofs.lives.deepest.Given as goal

abbrev pub invariant-loop : goal.invariant-loop
invariant-loop l = Has l.doc l.at
