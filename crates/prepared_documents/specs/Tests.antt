-- The tests on a document and a draft before a signature is prepared, as they compute, and the law that they ask what the other laws
-- want. This project's own.
use Rattle.std.specs.Prelude.{◌≡◌, ℕ, suc, Bool, true, false, not, ◌||◌, if◌then◌else◌, List, [], ◌∷◌, Option, Some, None}
use Rattle.document_model.specs.Characters.{◌is◌, is_empty}
use Rattle.document_model.specs.Tree.{Nodes}
use Rattle.document_model.specs.NodeSets.{Target, Missing, Single, Double, target_of}
use Rattle.signature_model.specs.Parts.{counted}
use Rattle.signature_model.specs.Chains.{Place, place_named, is_missing, is_double, on_target}
use Rattle.signature_model.specs.Prepared.{Draft, reference_id, properties_id}
use Rattle.prepared_documents.specs.Places.{root_of}
use Rattle.prepared_documents.specs.Preparable.{MayPrepare}

-- the number of the first URI whose place passes a test, counted from k
abbrev pub first_at : (Place → Bool) → ℕ → List (List ℕ) → Option ℕ
first_at test k [] = None
first_at test k (uri ∷ uris) = if test (place_named uri) then Some k else first_at test (suc k) uris

-- the first URI whose target is missing, is there twice, or is the document element
abbrev pub missing_at : Nodes → List (List ℕ) → Option ℕ
missing_at document uris = first_at (on_target document is_missing) 1 uris

abbrev pub double_at : Nodes → List (List ℕ) → Option ℕ
double_at document uris = first_at (on_target document is_double) 1 uris

abbrev pub is_root : Nodes → Target → Bool
is_root document Missing = false
is_root document (Single path) = path is root_of document
is_root document Double = false

abbrev pub root_at : Nodes → List (List ℕ) → Option ℕ
root_at document uris = first_at (on_target document (is_root document)) 1 uris

-- whether an identifier that the signature would have is in the document
abbrev pub is_taken : Nodes → List ℕ → Bool
is_taken document identifier = not (is_missing (target_of identifier document))

abbrev pub references_taken : Nodes → Draft → ℕ → List (List ℕ) → Bool
references_taken document draft k [] = false
references_taken document draft k (uri ∷ uris) = is_taken document (reference_id draft.id k) || references_taken document draft (suc k) uris

abbrev pub id_taken : Nodes → Draft → Bool
id_taken document draft = is_taken document draft.id || is_taken document (properties_id draft.id) || references_taken document draft 1 draft.references

pub record Passes (document : Nodes) (draft : Draft) : Type 0 where
  pub unsigned : is_empty (counted document) ≡ true
  pub none_missing : missing_at document draft.references ≡ None
  pub none_double : double_at document draft.references ≡ None
  pub none_root : root_at document draft.references ≡ None
  pub none_taken : id_taken document draft ≡ false

-- The law: the tests pass exactly where the document may be prepared.
abbrev pub TestsDecide : Type 0
TestsDecide = (document : Nodes) (draft : Draft) → (Passes document draft → MayPrepare document draft) × (MayPrepare document draft → Passes document draft)
