-- All that a prepared document is, and the law that its bytes spell such a document. This project's own, over XML Signature 1.1, "Core
-- Generation".
use Rattle.std.specs.Prelude.{◌≡◌, ℕ, Bool, true, List, Some, None, ◌⊎◌}
use Rattle.std.specs.List.{list_all}
use Rattle.document_model.specs.Tree.{Nodes}
use Rattle.document_model.specs.Documents.{fault, document_of}
use Rattle.signature_model.specs.Vocabulary.{DigestKind}
use Rattle.signature_model.specs.Parts.{DatumKind, references, signing_certificate}
use Rattle.signature_model.specs.Chains.{Handed}
use Rattle.signature_model.specs.Chains as chains
use Rattle.signature_model.specs.Octets.{has_its_digest}
use Rattle.signature_model.specs.Covers.{covers}
use Rattle.signature_model.specs.Prepared.{Draft, first_certificate, prepared, prepared_bytes}
use Rattle.insertions.specs.Content.{PassedBy}
use Rattle.insertion_fragments.specs.Drafts.{GivesBytes, IsWritable}
use Rattle.prepared_documents.specs.Places.{signature_in}
use Rattle.prepared_documents.specs.Preparable.{MayPrepare}
use Rattle.prepared_documents.specs.Covering.{prepared_entries}
use Rattle.prepared_documents.specs.PreparedRead.{IsComplete, IsReadWith}
use Rattle.prepared_documents.specs.Judged.{HasMethod, AreHanded}

-- The document is read with the new signature, unsigned and free; which covers what was asked for in the original document; whose References
-- have no fault and the digests that they tell; and whose signing certificate and signature method are the draft's.
pub record IsPreparedFrom (is_whole : DatumKind → List ℕ → Bool) (digest : DigestKind → List ℕ → List ℕ) (handed : Handed) (document : Nodes) (draft : Draft) (new : Nodes) : Type 0 where
  pub is_read : IsReadWith is_whole document draft new
  pub covered : covers handed new (signature_in document draft) ≡ prepared_entries digest handed document draft
  pub sound : chains.fault handed new (signature_in document draft).path (references new (signature_in document draft)) ≡ None
  pub digests : list_all (has_its_digest digest handed new (signature_in document draft).path) (references new (signature_in document draft)) ≡ true
  pub certificate : signing_certificate digest new (signature_in document draft) ≡ Some (first_certificate draft)
  pub method : HasMethod new (signature_in document draft) draft.method

-- The law: the prepared bytes pass a limit, or they spell such a document.
abbrev pub PreparedBytesAreRight : Type 0
PreparedBytesAreRight = (is_whole : DatumKind → List ℕ → Bool) (digest : DigestKind → List ℕ → List ℕ) (handed : Handed) (draft : Draft) (bytes : List ℕ)
    → GivesBytes digest → IsWritable draft → IsComplete is_whole draft → AreHanded handed draft.references
    → fault bytes ≡ None → MayPrepare (document_of bytes) draft
    → ((fault (prepared_bytes digest handed (document_of bytes) draft bytes) ≡ None)
    × IsPreparedFrom is_whole digest handed (document_of bytes) draft (document_of (prepared_bytes digest handed (document_of bytes) draft bytes)))
    ⊎ PassedBy (prepared digest handed (document_of bytes) draft) (fault (prepared_bytes digest handed (document_of bytes) draft bytes))
