-- What a draft must be, so that the prepared signature is legal content: XML 1.0, "Characters" and "Attribute-Value Normalization". Its
-- layout is this project's own.
use Rattle.std.specs.Prelude.{◌≡◌, ℕ, List, [], ◌∷◌, true, None}
use Rattle.std.specs.List.{list_all}
use Rattle.document_model.specs.Documents.{fault, document_of}
use Rattle.signature_model.specs.Vocabulary.{DigestKind}
use Rattle.signature_model.specs.Chains.{Handed}
use Rattle.signature_model.specs.Prepared.{Draft, prepared, prepared_bytes}
use Rattle.insertions.specs.Content.{SpellsWithin}
use Rattle.insertion_fragments.specs.Fragment.{is_simple, may_write}
use Rattle.base64.specs.GeneralPurpose.{IsBytes}
use Rattle.covered_items.specs.Whole.{EachBytes}

-- a digest is a list of bytes
abbrev pub GivesBytes : (DigestKind → List ℕ → List ℕ) → Type 0
GivesBytes digest = (kind : DigestKind) (octets : List ℕ) → IsBytes (digest kind octets)

abbrev pub EachWritable : List (List ℕ) → Type 0
EachWritable [] = Unit {0}
EachWritable (uri ∷ uris) = (list_all may_write uri ≡ true) × EachWritable uris

-- The time is simple text, and what stands in attributes are characters that may be written.
pub record IsWritable (draft : Draft) : Type 0 where
  pub time_simple : list_all is_simple draft.time ≡ true
  pub id_writable : list_all may_write draft.id ≡ true
  pub method_writable : list_all may_write draft.method ≡ true
  pub certificates_bytes : EachBytes draft.certificates
  pub references_writable : EachWritable draft.references

-- The law: the prepared signature put into the document that bytes spell gives bytes that spell the prepared document, unless this passes a limit.
abbrev pub PreparedIsSpelled : Type 0
PreparedIsSpelled = (digest : DigestKind → List ℕ → List ℕ) (handed : Handed) (draft : Draft) (bytes : List ℕ)
    → GivesBytes digest → IsWritable draft
    → fault bytes ≡ None → SpellsWithin (prepared_bytes digest handed (document_of bytes) draft bytes) (prepared digest handed (document_of bytes) draft)
