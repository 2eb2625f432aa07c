use Rattle.std.proofs.Common.{◌≡◌, ◌+◌, drop}
use Rattle.doc_spans.specs.declared.documents.Doc.{Doc}
use Rattle.doc_spans.specs.Seen.{document_in}
use Rattle.node_index.specs.Identifiers.{AreOf}
use Rattle.prepared_documents.specs.Tests.{references_taken}
use Rattle.augmenter.proofs.taken.are_references_taken.Given as goal

-- none before is taken
abbrev pub invariant-loop-number : goal.invariant-loop-number
invariant-loop-number l = (doc : Doc) → AreOf doc l.identifiers
    → references_taken (document_in doc) l.draft 1 l.draft.references ≡ references_taken (document_in doc) l.draft (l.number + 1) (drop l.number l.draft.references)
