-- A Reference by its number.
use Rattle.std.proofs.Common.{◌≡◌, ℕ, ◌-◌, List, [], ◌∷◌, Option, Some, None, refl, sym, ◌∙◌, ap, subst}
use Rattle.std.proofs.lemmas.List.Elements.{All-get_or}
use Rattle.std.proofs.lemmas.Option.{none-some, same_Some, slice_get-map, slice_get_within, get_or_from_slice_get}
use Rattle.std.proofs.lemmas.Result.{IfOk-weaker}
use Rattle.std.specs.Prelude.{option_map, slice_get, IfOk, Result}
use Rattle.std.specs.List.{All}
use Rattle.algorithms.specs.declared.digest_kinds.DigestKind.{DigestKind}
use Rattle.algorithms.specs.Digests.{digest_of}
use Rattle.document_model.specs.Characters.{◌is◌}
use Rattle.document_model.specs.Tree.{Path}
use Rattle.doc_spans.specs.declared.documents.Doc.{Doc}
use Rattle.doc_spans.specs.declared.documents.NodeId.{NodeId}
use Rattle.doc_spans.specs.Seen.{document_in, path_in}
use Rattle.signature_elements.specs.Standing.{spot_of}
use Rattle.signature_model.specs.Chains.{Handed}
use Rattle.signature_model.specs.Octets.{digest_octets, has_its_digest}
use Rattle.signature_model.specs.Parts as model
use Rattle.signature_model.specs.Spots.{Spot}
use Rattle.qualifying_props.proofs.Signing.{algorithm_is}
use Rattle.qualifying_props.specs.Digests.{digest, has_digest}
use Rattle.reference_chains.specs.declared.references.Reference.{Reference}
use Rattle.signature_elements.specs.DigestKinds.{kind_in}
use Rattle.reference_chains.specs.References.{IsReference}
use Rattle.references.specs.declared.rows.Row.{Row}
use Rattle.references.specs.RefsOf.{reference_at, references_in, AreRefs, IsRow}
use Rattle.references.specs.Shown.{Shown}

pub all_get : {X : Type 0} (P : X → Type 0) (xs : List X) (i : ℕ) (x : X) → All P xs → slice_get xs i ≡ Some x → P x
all_get P xs i x h e = subst P (get_or_from_slice_get xs i x x e) (All-get_or P xs i x (slice_get_within xs i x e) h)

-- the row behind what is told of it
pub row_of : {Y : Type 0} (f : Row → Y) (o : Option Row) (y : Y) → option_map f o ≡ Some y → (row : Row) × (o ≡ Some row) × (f row ≡ y)
row_of f None y e = absurd (none-some y e)
row_of f (Some row) y e = (row, refl, same_Some (f row) y e)

pub reference_sound : (doc : Doc) (refs : Shown) (i : ℕ) (reference : Reference) → AreRefs doc refs
    → option_map (λ (row : Row). row.reference) (slice_get refs.rows i) ≡ Some reference → IsReference doc reference
reference_sound doc refs i reference h e =
    let r = row_of (λ (row : Row). row.reference) (slice_get refs.rows i) reference e in
    subst (IsReference doc) r.2 (all_get (IsRow doc) refs.rows i r.0 h.each r.1).reference

pub spot_at : (doc : Doc) (refs : Shown) (i : ℕ) (row : Row) → AreRefs doc refs → slice_get refs.rows i ≡ Some row
    → slice_get (references_in doc refs.signature) i ≡ Some (spot_of doc row.reference.node)
spot_at doc refs i row h e =
    ap (λ spots. slice_get spots i) (sym h.spots) ∙ slice_get-map (λ (r : Row). spot_of doc r.reference.node) refs.rows i
    ∙ ap (option_map (λ (r : Row). spot_of doc r.reference.node)) e

pub reference_spot : (doc : Doc) (refs : Shown) (i : ℕ) (reference : Reference) → AreRefs doc refs
    → option_map (λ (row : Row). row.reference) (slice_get refs.rows i) ≡ Some reference
    → slice_get (references_in doc refs.signature) i ≡ Some (spot_of doc reference.node)
reference_spot doc refs i reference h e =
    let r = row_of (λ (row : Row). row.reference) (slice_get refs.rows i) reference e in
    spot_at doc refs i r.0 h r.1 ∙ ap (λ (q : Reference). Some (spot_of doc q.node)) r.2

-- the digest by the algorithm that a kind names
pub digest_is : (doc : Doc) (row : Row) (handed : Handed) (signature : Path) (octets : List ℕ) → IsRow doc row
    → digest_octets handed (document_in doc) signature (spot_of doc row.reference.node) ≡ octets
    → has_its_digest digest handed (document_in doc) signature (spot_of doc row.reference.node) ≡ has_digest row.kind row.value octets
digest_is doc row handed signature octets h e =
    let document = document_in doc in
    let spot = spot_of doc row.reference.node in
    let wanted = model.octets_or_none document (model.digest_values document (spot ∷ [])) in
    ap (λ kind. model.has_digest digest kind wanted (digest_octets handed document signature spot)) h.kind
    ∙ ap (λ os. digest (kind_in row.kind) os is wanted) e
    ∙ ap (λ w. digest (kind_in row.kind) octets is w) (sym h.value)
    ∙ ap (λ a. digest_of a octets is row.value) (algorithm_is row.kind)

-- the Reference of the signature of some parts
pub spot_numbered : (doc : Doc) (refs : Shown) (signature : NodeId) (i j : ℕ) (reference : Reference) → AreRefs doc refs → refs.signature ≡ signature → j ≡ i
    → option_map (λ (row : Row). row.reference) (slice_get refs.rows j) ≡ Some reference → slice_get (references_in doc signature) i ≡ Some (spot_of doc reference.node)
spot_numbered doc refs signature i j reference h same number e =
    ap (λ n. slice_get (references_in doc n) i) (sym same) ∙ ap (λ k. slice_get (references_in doc refs.signature) k) (sym number)
    ∙ reference_spot doc refs j reference h e

-- its octets
pub octets_numbered : {E : Type 0} (octets : Path → Spot → List ℕ) (doc : Doc) (refs : Shown) (k : ℕ) (reference : Reference) (signature : NodeId) (result : Result (List ℕ) E)
    → AreRefs doc refs → signature ≡ refs.signature → option_map (λ (row : Row). row.reference) (slice_get refs.rows (k - 1)) ≡ Some reference
    → IfOk result (λ found. found ≡ octets (path_in doc signature) (spot_of doc reference.node))
    → IfOk result (λ found. option_map (octets (path_in doc refs.signature)) (reference_at doc refs k) ≡ Some found)
octets_numbered octets doc refs k reference signature result h same e found =
    IfOk-weaker result _ _
    (λ os g. ap (option_map (octets (path_in doc refs.signature))) (reference_spot doc refs (k - 1) reference h e)
    ∙ ap (λ n. Some (octets (path_in doc n) (spot_of doc reference.node))) (sym same) ∙ ap Some (sym g)) found

-- and whether they have its digest
pub digest_numbered : (doc : Doc) (refs : Shown) (k : ℕ) (handed : Handed) (octets wanted : List ℕ) (kind : DigestKind) → AreRefs doc refs
    → option_map (λ (row : Row). row.kind) (slice_get refs.rows (k - 1)) ≡ Some kind
    → option_map (λ (row : Row). row.value) (slice_get refs.rows (k - 1)) ≡ Some wanted
    → option_map (digest_octets handed (document_in doc) (path_in doc refs.signature)) (reference_at doc refs k) ≡ Some octets
    → option_map (has_its_digest digest handed (document_in doc) (path_in doc refs.signature)) (reference_at doc refs k) ≡ Some (has_digest kind wanted octets)
digest_numbered doc refs k handed octets wanted kind h e f g =
    let document = document_in doc in
    let path = path_in doc refs.signature in
    let r = row_of (λ (row : Row). row.kind) (slice_get refs.rows (k - 1)) kind e in
    let at = spot_at doc refs (k - 1) r.0 h r.1 in
    let spot = spot_of doc r.0.reference.node in
    let made : digest_octets handed document path spot ≡ octets = same_Some _ _ (sym (ap (option_map (digest_octets handed document path)) at) ∙ g) in
    let told : r.0.value ≡ wanted = same_Some _ _ (sym (ap (option_map (λ (row : Row). row.value)) r.1) ∙ f) in
    ap (option_map (has_its_digest digest handed document path)) at
    ∙ ap Some (digest_is doc r.0 handed path octets (all_get (IsRow doc) refs.rows (k - 1) r.0 h.each r.1) made
    ∙ ap (λ w. has_digest r.0.kind w octets) told ∙ ap (λ a. has_digest a wanted octets) r.2)
