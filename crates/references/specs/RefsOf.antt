-- What is shown are the References of a signature: XML Signature 1.1, "The Reference Element".
use Rattle.std.specs.Prelude.{◌≡◌, ℕ, ◌-◌, ◌<◌, ◌^◌, List, [], ◌∷◌, map, length, Option, Some, slice_get}
use Rattle.std.specs.List.{All}
use Rattle.doc_spans.specs.declared.documents.Doc.{Doc}
use Rattle.doc_spans.specs.declared.documents.NodeId.{NodeId}
use Rattle.doc_spans.specs.Seen.{document_in}
use Rattle.signature_elements.specs.Standing.{spot_of, IsThere}
use Rattle.signature_model.specs.Spots.{Spot}
use Rattle.signature_model.specs.Parts.{references, digest_kind, digest_methods, digest_values, octets_or_none}
use Rattle.signature_elements.specs.DigestKinds.{kind_in}
use Rattle.reference_chains.specs.References.{IsReference}
use Rattle.qualifying_props.specs.Shown as parts
use Rattle.references.specs.declared.rows.Row.{Row}
use Rattle.references.specs.Shown.{Shown}

-- the References of a signature of a document
abbrev pub references_in : Doc → NodeId → List Spot
references_in doc signature = references (document_in doc) (spot_of doc signature)

-- a Reference with what its URI names and with its chain, its digest algorithm and its digest
pub record IsRow (doc : Doc) (row : Row) : Type 0 where
  pub reference : IsReference doc row.reference
  pub kind : digest_kind (digest_methods (document_in doc) (spot_of doc row.reference.node ∷ [])) ≡ Some (kind_in row.kind)
  pub value : row.value ≡ octets_or_none (document_in doc) (digest_values (document_in doc) (spot_of doc row.reference.node ∷ []))

-- a row for each Reference of the signature that is shown
pub record AreRefs (doc : Doc) (refs : Shown) : Type 0 where
  pub signature : IsThere doc refs.signature
  pub spots : map (λ row. spot_of doc row.reference.node) refs.rows ≡ references_in doc refs.signature
  pub each : All (IsRow doc) refs.rows
  pub few : length refs.rows < 2 ^ 32

-- the signature is that of some parts
pub record AreRefsOf (doc : Doc) (shown : parts.Shown) (refs : Shown) : Type 0 where
  pub signature : refs.signature ≡ shown.signature
  pub are : AreRefs doc refs

-- the Reference with a number, counted from 1
abbrev pub reference_at : Doc → Shown → ℕ → Option Spot
reference_at doc refs k = slice_get (references_in doc refs.signature) (k - 1)
