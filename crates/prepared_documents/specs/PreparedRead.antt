-- The laws that a prepared document is read, and that its signature takes a value. This project's own, over the parts of XML Signature
-- 1.1, "Core Signature Syntax", and EN 319 132-1, clauses 4.3 and 5.2.
use Rattle.std.specs.Prelude.{◌≡◌, ℕ, ◌+◌, ◌<◌, ◌^◌, Bool, false, List, length}
use Rattle.document_model.specs.Characters.{is_empty}
use Rattle.document_model.specs.Tree.{Nodes}
use Rattle.signature_model.specs.Vocabulary.{DigestKind}
use Rattle.signature_model.specs.Spots.{without_white}
use Rattle.signature_model.specs.Parts.{DatumKind, Certificate, is_signed}
use Rattle.signature_model.specs.Chains.{Handed}
use Rattle.signature_model.specs.Readable.{Read, answer}
use Rattle.signature_model.specs.Covers.{IsFree}
use Rattle.signature_model.specs.Fragments.{Value}
use Rattle.signature_model.specs.Keeping.{TakesItem}
use Rattle.signature_model.specs.Prepared.{Draft, prepared}
use Rattle.covered_items.specs.Whole.{AreWhole}
use Rattle.insertion_fragments.specs.Drafts.{GivesBytes}
use Rattle.prepared_documents.specs.Places.{signature_in}
use Rattle.prepared_documents.specs.Preparable.{IsPreparable}

-- The draft has a time, at least one certificate, all of them whole, and fewer References than numbers of 64 bits.
pub record IsComplete (is_whole : DatumKind → List ℕ → Bool) (draft : Draft) : Type 0 where
  pub timed : is_empty (without_white draft.time) ≡ false
  pub signer : is_empty draft.certificates ≡ false
  pub whole : AreWhole is_whole Certificate draft.certificates
  pub few : 1 + length draft.references < 2 ^ 64

-- a document has this signature, which is unsigned and free
pub record IsReadWith (is_whole : DatumKind → List ℕ → Bool) (document : Nodes) (draft : Draft) (new : Nodes) : Type 0 where
  pub read : answer is_whole new ≡ Read (signature_in document draft)
  pub unsigned : is_signed new (signature_in document draft) ≡ false
  pub free : IsFree new (signature_in document draft)

-- The law: the prepared document is read, with the new signature, which is unsigned and free.
abbrev pub PreparedIsRead : Type 0
PreparedIsRead = (is_whole : DatumKind → List ℕ → Bool) (digest : DigestKind → List ℕ → List ℕ) (handed : Handed) (document : Nodes) (draft : Draft)
    → GivesBytes digest → IsComplete is_whole draft → IsPreparable document draft
    → IsReadWith is_whole document draft (prepared digest handed document draft)

-- The law: so the new signature takes a value.
abbrev pub PreparedTakesAValue : Type 0
PreparedTakesAValue = (is_whole : DatumKind → List ℕ → Bool) (digest : DigestKind → List ℕ → List ℕ) (handed : Handed) (document : Nodes) (draft : Draft) (octets : List ℕ)
    → GivesBytes digest → IsComplete is_whole draft → IsPreparable document draft
    → TakesItem (prepared digest handed document draft) (signature_in document draft) (Value octets)
