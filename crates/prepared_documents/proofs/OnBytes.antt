-- The laws on the bytes of a prepared document.
use Rattle.std.proofs.Common.{sym, subst, inl, inr}
use Rattle.document_model.specs.Tree.{Nodes}
use Rattle.document_model.specs.Documents.{document_of}
use Rattle.signature_model.specs.Prepared.{prepared}
use Rattle.insertion_fragments.proofs.DraftFragments.{prepared_spelled}
use Rattle.insertion_fragments.proofs.DocumentElement.{root_is}
use Rattle.prepared_documents.specs.Preparable.{IsPreparable}
use Rattle.prepared_documents.specs.Bytes.{IsPreparedFrom, PreparedBytesAreRight}
use Rattle.prepared_documents.proofs.ReadBack.{prepared_read}
use Rattle.prepared_documents.proofs.CoversOriginal.{covers_original}
use Rattle.prepared_documents.proofs.Judging.{sound_references, first_signs, method_is_drafts}
use Rattle.prepared_documents.proofs.PropertiesText.{right_digests}

pub bytes_right : PreparedBytesAreRight
bytes_right is_whole digest handed draft bytes g w c h none m =
    let document : Nodes = document_of bytes in
    let p : IsPreparable document draft = record { root = root_is bytes none; may = m } in
    let made : IsPreparedFrom is_whole digest handed document draft (prepared digest handed document draft) = record {
      is_read = prepared_read is_whole digest handed document draft g c p;
      covered = covers_original digest handed document draft p;
      sound = sound_references digest handed document draft h p;
      digests = right_digests digest handed document draft g p;
      certificate = first_signs is_whole digest handed document draft g c p;
      method = method_is_drafts digest handed document draft p;
    } in
    elim (prepared_spelled digest handed draft bytes g w none) [
      | inl s ↦ inl (s.1, subst (IsPreparedFrom is_whole digest handed document draft) (sym s.2) made)
      | inr q ↦ inr q
    ]
