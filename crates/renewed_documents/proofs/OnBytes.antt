-- Renewal on the bytes of documents.
use Rattle.std.proofs.Common.{[], sym, subst}
use Rattle.document_model.specs.Documents.{document_of}
use Rattle.document_model.specs.Tree.{Nodes}
use Rattle.signature_evidence.specs.Evidence.{evidence_of}
use Rattle.signature_evidence.specs.Judging.{judged, IsYesBy}
use Rattle.signature_evidence.specs.Renewal.{IsAcceptedOf}
use Rattle.renewed_documents.specs.OnBytes.{ArchivedRenews}
use Rattle.renewed_documents.proofs.Renewing.{renewal_keeps_yes_of_documents}

pub archived_renews : ArchivedRenews
archived_renews is_whole handed before signature token r spells policy now was after accepted =
    subst (λ (new : Nodes). IsYesBy policy (judged is_whole handed new []) now) (sym spells)
    (renewal_keeps_yes_of_documents is_whole policy handed (document_of before) signature token now r was after
    (subst (λ (new : Nodes). IsAcceptedOf policy (evidence_of handed new signature []) token now) spells accepted))
