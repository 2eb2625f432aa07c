-- What the signature of a prepared document covers: XML Signature 1.1, "Core Generation" and "The Reference Processing Model"; EN 319
-- 132-1, clause 4.4.
use Rattle.std.specs.Prelude.{◌≡◌, ℕ, suc, List, [], ◌∷◌, ◌++◌, length}
use Rattle.document_model.specs.Tree.{Nodes}
use Rattle.signature_model.specs.Vocabulary.{DigestKind}
use Rattle.signature_model.specs.Chains.{Handed}
use Rattle.signature_model.specs.Covers.{Entry, Digested, covers}
use Rattle.signature_model.specs.Prepared.{Draft, named_octets, properties_octets, prepared}
use Rattle.prepared_documents.specs.Places.{signature_in}
use Rattle.prepared_documents.specs.Preparable.{IsPreparable}

-- the octets that URIs name in the document as it is, each with its number
abbrev pub named_entries : Handed → Nodes → ℕ → List (List ℕ) → List Entry
named_entries handed document k [] = []
named_entries handed document k (uri ∷ uris) = Digested k (named_octets handed document uri) ∷ named_entries handed document (suc k) uris

-- what the signature of a prepared document covers: the octets that the URIs name in the original document, and the SignedProperties
abbrev pub prepared_entries : (DigestKind → List ℕ → List ℕ) → Handed → Nodes → Draft → List Entry
prepared_entries digest handed document draft =
    named_entries handed document 1 draft.references ++ Digested (suc (length draft.references)) (properties_octets (digest draft.digest) draft) ∷ []

-- The law: in the prepared document each Reference that was asked for has as digest octets those that its URI names in the original
-- document; one more Reference stands behind them, with those of the SignedProperties; and there is nothing else that is covered.
abbrev pub CoversTheOriginal : Type 0
CoversTheOriginal = (digest : DigestKind → List ℕ → List ℕ) (handed : Handed) (document : Nodes) (draft : Draft) → IsPreparable document draft
    → covers handed (prepared digest handed document draft) (signature_in document draft) ≡ prepared_entries digest handed document draft
