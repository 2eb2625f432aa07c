-- What a document and a draft have to be, so that a signature can be prepared. This project's own, over XML Signature 1.1, "Core
-- Generation" and "Same-Document URI-References".
use Rattle.std.specs.Prelude.{◌≡◌, ℕ, suc, List, [], ◌∷◌}
use Rattle.document_model.specs.Tree.{Nodes, Path, IsElementAt}
use Rattle.document_model.specs.NodeSets.{target_of, Missing, Single}
use Rattle.signature_model.specs.Parts.{counted}
use Rattle.signature_model.specs.Chains.{Place, Document, Named, External, place_named}
use Rattle.signature_model.specs.Prepared.{Draft, reference_id, properties_id}
use Rattle.prepared_documents.specs.Places.{root_of}

-- the identifiers of the References are new
abbrev pub AreFree : Nodes → Draft → ℕ → List (List ℕ) → Type 0
AreFree document draft k [] = Unit {0}
AreFree document draft k (uri ∷ uris) = (target_of (reference_id draft.id k) document ≡ Missing) × AreFree document draft (suc k) uris

-- a target that exists once, and isn't the document element by its identifier
abbrev pub IsTarget : Nodes → Place → Type 0
IsTarget document Document = Unit {0}
IsTarget document (Named identifier) = (path : Path) × (target_of identifier document ≡ Single path) × (path ≡ root_of document → ⊥)
IsTarget document External = Unit {0}

abbrev pub AreTargets : Nodes → List (List ℕ) → Type 0
AreTargets document [] = Unit {0}
AreTargets document (uri ∷ uris) = IsTarget document (place_named uri) × AreTargets document uris

-- There is no counted signature, the identifiers are free, and the targets exist once.
pub record MayPrepare (document : Nodes) (draft : Draft) : Type 0 where
  pub unsigned : counted document ≡ []
  pub own_free : target_of draft.id document ≡ Missing
  pub properties_free : target_of (properties_id draft.id) document ≡ Missing
  pub references_free : AreFree document draft 1 draft.references
  pub targets : AreTargets document draft.references

-- and there is a document element, as in each document that bytes spell
pub record IsPreparable (document : Nodes) (draft : Draft) : Type 0 where
  pub root : IsElementAt document (root_of document)
  pub may : MayPrepare document draft
