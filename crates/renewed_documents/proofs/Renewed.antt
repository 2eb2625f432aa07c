-- The law of renewal on files.
use Rattle.signature_model.specs.Fragments.{Archive}
use Rattle.renewed_documents.proofs.OnBytes.{archived_renews}
use Rattle.attached_lists.proofs.Files.{item_spelled}
use Rattle.renewed_documents.specs.Files.{FilesRenew}

pub files_renew : FilesRenew
files_renew is_whole handed before signature token right r fits =
    archived_renews is_whole handed before signature token r
    (item_spelled is_whole signature before (Archive token) (record { right = right; is_read = record { read = r.read; free = r.free } })
    (record { may = r.signed; whole = (r.bytes, r.whole); fits = fits }))
