-- The law of renewal: an archive time-stamp that a signature takes keeps its verdict. This project's own, over EN 319 132-1, clause 5.5.
use Rattle.std.specs.Prelude.{◌≡◌, ℕ, Bool, true, nat_le, List, [], ℤ, ◌≤ℤ◌}
use Rattle.base64.specs.GeneralPurpose.{IsBytes}
use Rattle.document_model.specs.Tree.{Nodes}
use Rattle.policy_rules.specs.Rules.{Rules}
use Rattle.signature_model.specs.Spots.{Spot}
use Rattle.signature_model.specs.Parts.{ArchiveStamp, DatumKind, Token, is_signed}
use Rattle.signature_model.specs.Readable.{answer, Read}
use Rattle.signature_model.specs.Chains.{Handed}
use Rattle.signature_model.specs.Octets.{next_octets}
use Rattle.signature_model.specs.Covers.{IsFree}
use Rattle.signature_model.specs.Fragments.{Archive, with_item}
use Rattle.acceptance.specs.Objects.{token_of}
use Rattle.acceptance.specs.Stamping.{proof_time}
use Rattle.signature_objects.specs.Held.{objects}
use Rattle.signature_evidence.specs.Evidence.{evidence_of}
use Rattle.signature_evidence.specs.Cases.{IsSoundOver}
use Rattle.signature_objects.specs.Objects.{most_objects, limited}
use Rattle.signature_evidence.specs.Judging.{judged, IsYesBy}
use Rattle.signature_evidence.specs.Renewal.{IsLast, IsAcceptedOf}

-- What is known where an archive time-stamp is taken: the signature is read, free and signed; the token is whole, it is sound over the
-- octets that were to be stamped next, and no token that is there is later; and the objects of the new document are few.
pub record IsRenewal (is_whole : DatumKind → List ℕ → Bool) (handed : Handed) (document : Nodes) (signature : Spot) (token : List ℕ) : Type 0 where
  pub read : answer is_whole document ≡ Read signature
  pub free : IsFree document signature
  pub signed : is_signed document signature ≡ true
  pub bytes : IsBytes token
  pub whole : is_whole Token token ≡ true
  pub sound : IsSoundOver (next_octets ArchiveStamp handed document signature) token
  pub last : IsLast (evidence_of handed document signature []) token
  pub few : nat_le (limited (objects (with_item document signature (Archive token)) signature [])) most_objects ≡ true

-- A document that is yes at the time that the token proves, without handed-in material, is yes with the time-stamp, without handed-in
-- material, at each moment from then on at which the token is accepted in the new document; whatever the policy.
abbrev pub RenewalKeepsYesOfDocuments : Type 0
RenewalKeepsYesOfDocuments = (is_whole : DatumKind → List ℕ → Bool) (policy : Rules) (handed : Handed) (document : Nodes) (signature : Spot) (token : List ℕ) (now : ℤ)
    → IsRenewal is_whole handed document signature token
    → IsYesBy policy (judged is_whole handed document []) (proof_time policy (token_of token)) → proof_time policy (token_of token) ≤ℤ now
    → IsAcceptedOf policy (evidence_of handed (with_item document signature (Archive token)) signature []) token now
    → IsYesBy policy (judged is_whole handed (with_item document signature (Archive token)) []) now
