-- The tests of `prepare` ask what the laws want.
use Rattle.std.proofs.Common.{◌≡◌, ℕ, suc, Bool, true, false, cond, not, ◌||◌, List, [], ◌∷◌, Option, Some, None, refl, sym, ◌∙◌, ap}
use Rattle.std.proofs.lemmas.Option.{none-some}
use Rattle.std.proofs.lemmas.Slice.Eq.{bytes_eq-Decides}
use Rattle.document_model.specs.Characters.{◌is◌, is_empty}
use Rattle.document_model.specs.Tree.{Nodes, Path}
use Rattle.document_model.specs.NodeSets.{Target, Missing, Single, Double, target_of}
use Rattle.signature_model.specs.Spots.{Spot}
use Rattle.signature_model.specs.Parts.{counted}
use Rattle.signature_model.specs.Chains.{Place, Document, Named, External, place_named, is_missing, is_double, on_target}
use Rattle.signature_model.specs.Prepared.{Draft, reference_id, properties_id}
use Rattle.signature_model.proofs.Lists.{not_both, neither}
use Rattle.prepared_documents.specs.Places.{root_of}
use Rattle.prepared_documents.specs.Preparable.{AreFree, IsTarget, AreTargets, MayPrepare}
use Rattle.prepared_documents.specs.Tests.{first_at, is_root, is_taken, references_taken, Passes, TestsDecide}
use Rattle.prepared_documents.proofs.FreeNew.{differs}

-- Lists that are empty.

empty_is : (spots : List Spot) → is_empty spots ≡ true → spots ≡ []
empty_is [] e = refl
empty_is (s ∷ spots) e = absurd (not_both (sym e))

-- Identifiers.

missing_is : (t : Target) → not (is_missing t) ≡ false → t ≡ Missing
missing_is Missing e = refl
missing_is (Single path) e = absurd (not_both e)
missing_is Double e = absurd (not_both e)

not_taken : (document : Nodes) (x : List ℕ) → target_of x document ≡ Missing → is_taken document x ≡ false
not_taken document x e = ap (λ t. not (is_missing t)) e

free_of : (document : Nodes) (draft : Draft) (k : ℕ) (uris : List (List ℕ)) → references_taken document draft k uris ≡ false → AreFree document draft k uris
free_of document draft k [] e = tt
free_of document draft k (uri ∷ uris) e =
    let h = neither (is_taken document (reference_id draft.id k)) (references_taken document draft (suc k) uris) e in
    (missing_is (target_of (reference_id draft.id k) document) h.0, free_of document draft (suc k) uris h.1)

of_free : (document : Nodes) (draft : Draft) (k : ℕ) (uris : List (List ℕ)) → AreFree document draft k uris → references_taken document draft k uris ≡ false
of_free document draft k [] f = refl
of_free document draft k (uri ∷ uris) f =
    let a = not_taken document (reference_id draft.id k) f.0 in
    let b = of_free document draft (suc k) uris f.1 in
    λ i. a i || b i

-- Targets.

first_not : (b : Bool) (k : ℕ) (o : Option ℕ) → cond b (Some k) o ≡ None → (b ≡ false) × (o ≡ None)
first_not true k o e = absurd (none-some k (sym e))
first_not false k o e = (refl, e)

same_root : (document : Nodes) (path : Path) → (path is root_of document) ≡ false → path ≡ root_of document → ⊥
same_root document path e same = not_both (sym ((bytes_eq-Decides path (root_of document)).1 same) ∙ e)

one_target : (document : Nodes) (p : Place) → on_target document is_missing p ≡ false → on_target document is_double p ≡ false → on_target document (is_root document) p ≡ false → IsTarget document p
one_target document Document a b c = tt
one_target document (Named x) a b c = by_target (target_of x document) refl
  where
    by_target : (t : Target) → target_of x document ≡ t → IsTarget document (Named x)
    by_target Missing e = absurd (not_both (sym (ap is_missing e) ∙ a))
    by_target (Single path) e = (path, e, same_root document path (sym (ap (is_root document) e) ∙ c))
    by_target Double e = absurd (not_both (sym (ap is_double e) ∙ b))
one_target document External a b c = tt

targets_of : (document : Nodes) (k : ℕ) (uris : List (List ℕ)) → first_at (on_target document is_missing) k uris ≡ None → first_at (on_target document is_double) k uris ≡ None
    → first_at (on_target document (is_root document)) k uris ≡ None → AreTargets document uris
targets_of document k [] a b c = tt
targets_of document k (uri ∷ uris) a b c =
    let p : Place = place_named uri in
    let x = first_not (on_target document is_missing p) k (first_at (on_target document is_missing) (suc k) uris) a in
    let y = first_not (on_target document is_double p) k (first_at (on_target document is_double) (suc k) uris) b in
    let z = first_not (on_target document (is_root document) p) k (first_at (on_target document (is_root document)) (suc k) uris) c in
    (one_target document p x.0 y.0 z.0, targets_of document (suc k) uris x.1 y.1 z.1)

-- a test that holds at no target
none_at : (document : Nodes) (test : Target → Bool) → ((path : Path) → (path ≡ root_of document → ⊥) → test (Single path) ≡ false) → (p : Place) → IsTarget document p → on_target document test p ≡ false
none_at document test f Document t = refl
none_at document test f (Named x) t = ap test t.1 ∙ f t.0 t.2
none_at document test f External t = refl

no_first : (document : Nodes) (test : Target → Bool) → ((path : Path) → (path ≡ root_of document → ⊥) → test (Single path) ≡ false) → (k : ℕ) (uris : List (List ℕ)) → AreTargets document uris
    → first_at (on_target document test) k uris ≡ None
no_first document test f k [] t = refl
no_first document test f k (uri ∷ uris) t =
    ap (λ b. cond b (Some k) (first_at (on_target document test) (suc k) uris)) (none_at document test f (place_named uri) t.0)
    ∙ no_first document test f (suc k) uris t.1

may : (document : Nodes) (draft : Draft) → Passes document draft → MayPrepare document draft
may document draft p =
    let h = neither (is_taken document draft.id || is_taken document (properties_id draft.id)) (references_taken document draft 1 draft.references) p.none_taken in
    let g = neither (is_taken document draft.id) (is_taken document (properties_id draft.id)) h.0 in
    record {
      unsigned = empty_is (counted document) p.unsigned;
      own_free = missing_is (target_of draft.id document) g.0;
      properties_free = missing_is (target_of (properties_id draft.id) document) g.1;
      references_free = free_of document draft 1 draft.references h.1;
      targets = targets_of document 1 draft.references p.none_missing p.none_double p.none_root;
    }

passes : (document : Nodes) (draft : Draft) → MayPrepare document draft → Passes document draft
passes document draft m =
    let a = not_taken document draft.id m.own_free in
    let b = not_taken document (properties_id draft.id) m.properties_free in
    let c = of_free document draft 1 draft.references m.references_free in
    record {
      unsigned = ap is_empty m.unsigned;
      none_missing = no_first document is_missing (λ path d. refl) 1 draft.references m.targets;
      none_double = no_first document is_double (λ path d. refl) 1 draft.references m.targets;
      none_root = no_first document (is_root document) (λ path d. differs path (root_of document) d) 1 draft.references m.targets;
      none_taken = λ i. (a i || b i) || c i;
    }

pub tests_decide : TestsDecide
tests_decide document draft = (may document draft, passes document draft)
