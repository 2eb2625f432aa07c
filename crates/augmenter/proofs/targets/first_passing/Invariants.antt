use Rattle.std.proofs.Common.{◌≡◌, ◌+◌, ℕ, List, drop}
use Rattle.doc_spans.specs.Seen.{document_in}
use Rattle.signature_model.specs.Chains.{on_target}
use Rattle.prepared_documents.specs.Tests.{first_at}
use Rattle.augmenter.specs.Targets.{ArePlaces, test_on}
use Rattle.augmenter.proofs.targets.first_passing.Given as goal

-- none before passes
abbrev pub invariant-loop-number : goal.invariant-loop-number
invariant-loop-number l = (uris : List (List ℕ)) → ArePlaces l.doc uris l.places
    → first_at (on_target (document_in l.doc) (test_on l.doc l.test)) 1 uris ≡ first_at (on_target (document_in l.doc) (test_on l.doc l.test)) (l.number + 1) (drop l.number uris)
