-- The law of renewal on files. This project's own, over EN 319 132-1, clause 5.5.
use Rattle.std.specs.Prelude.{◌≡◌, ℕ, Bool, List, None}
use Rattle.document_model.specs.Documents.{fault, document_of}
use Rattle.signature_model.specs.Spots.{Spot}
use Rattle.signature_model.specs.Parts.{DatumKind}
use Rattle.signature_model.specs.Chains.{Handed}
use Rattle.renewed_documents.specs.Renewing.{IsRenewal}
use Rattle.renewed_documents.specs.OnBytes.{archived, Renews}

-- A file that is read renews its verdict by an archive time-stamp, where the new file passes no limit.
abbrev pub FilesRenew : Type 0
FilesRenew = (is_whole : DatumKind → List ℕ → Bool) (handed : Handed) (before : List ℕ) (signature : Spot) (token : List ℕ)
    → fault before ≡ None → IsRenewal is_whole handed (document_of before) signature token → fault (archived before signature token) ≡ None
    → Renews is_whole handed before (archived before signature token) signature token
