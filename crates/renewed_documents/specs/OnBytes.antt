-- The law of renewal on the bytes of documents. This project's own, over EN 319 132-1, clause 5.5.
use Rattle.std.specs.Prelude.{◌≡◌, ℕ, Bool, List, [], ℤ, ◌≤ℤ◌}
use Rattle.document_model.specs.Documents.{document_of}
use Rattle.policy_rules.specs.Rules.{Rules}
use Rattle.signature_model.specs.Spots.{Spot}
use Rattle.signature_model.specs.Parts.{DatumKind}
use Rattle.signature_model.specs.Chains.{Handed}
use Rattle.signature_model.specs.Fragments.{Archive, with_item, bytes_with_item}
use Rattle.acceptance.specs.Objects.{token_of}
use Rattle.acceptance.specs.Stamping.{proof_time}
use Rattle.signature_evidence.specs.Evidence.{evidence_of}
use Rattle.signature_evidence.specs.Judging.{judged, IsYesBy}
use Rattle.signature_evidence.specs.Renewal.{IsAcceptedOf}
use Rattle.renewed_documents.specs.Renewing.{IsRenewal}

-- the bytes of the document that takes an archive time-stamp
abbrev pub archived : List ℕ → Spot → List ℕ → List ℕ
archived before signature token = bytes_with_item (document_of before) signature (Archive token) before

-- they spell the tree that takes it, which is a law of insertion
abbrev pub SpellsArchived : List ℕ → Spot → List ℕ → Type 0
SpellsArchived before signature token = document_of (archived before signature token) ≡ with_item (document_of before) signature (Archive token)

-- A document renews another one by a token: what is yes before at the time that the token proves is yes after at each moment from then on
-- at which the token is accepted, by each policy.
abbrev pub Renews : (DatumKind → List ℕ → Bool) → Handed → (before after : List ℕ) → Spot → List ℕ → Type 0
Renews is_whole handed before after signature token = (policy : Rules) (now : ℤ)
    → IsYesBy policy (judged is_whole handed (document_of before) []) (proof_time policy (token_of token)) → proof_time policy (token_of token) ≤ℤ now
    → IsAcceptedOf policy (evidence_of handed (document_of after) signature []) token now
    → IsYesBy policy (judged is_whole handed (document_of after) []) now

abbrev pub ArchivedRenews : Type 0
ArchivedRenews = (is_whole : DatumKind → List ℕ → Bool) (handed : Handed) (before : List ℕ) (signature : Spot) (token : List ℕ)
    → IsRenewal is_whole handed (document_of before) signature token → SpellsArchived before signature token
    → Renews is_whole handed before (archived before signature token) signature token
