-- What the calls of a walk tell of the nodes of its document.
use Rattle.std.proofs.Common.{◌≡◌, Bool, true, false, not, ◌&&◌, ◌||◌, [], ◌∷◌, refl, sym, ◌∙◌, ap}
use Rattle.document_model.specs.Tree.{Path}
use Rattle.document_model.specs.Scopes.{elements_around}
use Rattle.document_model.specs.NodeSets.{has_in, has, is_comment}
use Rattle.doc_spans.specs.declared.documents.Doc.{Doc}
use Rattle.doc_spans.specs.declared.documents.NodeId.{NodeId}
use Rattle.doc_spans.specs.Seen.{Has, document_in, path_in}
use Rattle.doc_spans.specs.Shown.{outer_path}
use Rattle.doc_spans.proofs.Within.{node_path}
use Rattle.node_sets.specs.Sets.{is_top}
pub use Rattle.canon_methods.proofs.There.{IsThere, there, of_there}
use Rattle.canon_forms.specs.declared.walks.Walk.{Walk}
use Rattle.canon_forms.specs.Writing.{IsReached, is_at_top}
use Rattle.canon_forms.specs.Walks.{doc_of, held_in, holds, keeps_kind}
use Rattle.canon_forms.proofs.HeldNodes.{around_any, has_below}

-- The set holds it.
pub has_is_holds : (walk : Walk) (node : NodeId) → Has (doc_of walk) node → has (held_in walk) (document_in (doc_of walk)) (path_in (doc_of walk) node) ≡ holds walk node
has_is_holds walk node h =
    let t = there (doc_of walk) node h in
    let path = path_in (doc_of walk) node in
    let outer = elements_around (document_in (doc_of walk)) path in
    of_there (has_in (held_in walk) outer path) false (doc_of walk) node t
    ∙ around_any (held_in walk) outer [] path t.found refl
    ∙ sym (of_there (has_in (held_in walk) [] path) false (doc_of walk) node t)

turned : (a b : Bool) → (a && not b) ≡ (not b && a)
turned true true = refl
turned true false = refl
turned false true = refl
turned false false = refl

pub below_is_holds : (walk : Walk) (node : NodeId) → Has (doc_of walk) node → IsReached (held_in walk) (outer_path (path_in (doc_of walk) node))
    → (keeps_kind walk node && not (is_top (held_in walk).removed (path_in (doc_of walk) node))) ≡ holds walk node
below_is_holds walk node h reached =
    let t = there (doc_of walk) node h in
    let path = path_in (doc_of walk) node in
    ap (λ b. b && not (is_top (held_in walk).removed path)) (of_there (λ n. (held_in walk).comments || not (is_comment n)) false (doc_of walk) node t)
    ∙ turned ((held_in walk).comments || not (is_comment t.found)) (is_top (held_in walk).removed path)
    ∙ sym (has_below (held_in walk) path t.found refl reached)
    ∙ sym (of_there (has_in (held_in walk) [] path) false (doc_of walk) node t)

-- An apex that an element holds isn't at the top.

deep_by : (path : Path) → (outer_path path ≡ [] → ⊥) → is_at_top path ≡ false
deep_by [] h = absurd (h refl)
deep_by (k ∷ []) h = absurd (h refl)
deep_by (k ∷ j ∷ path) h = refl

pub is_deep : (doc : Doc) (node parent : NodeId) → Has doc parent → path_in doc parent ≡ outer_path (path_in doc node) → is_at_top (path_in doc node) ≡ false
is_deep doc node parent h e = deep_by (path_in doc node) (λ f. node_path doc parent h (e ∙ f))
