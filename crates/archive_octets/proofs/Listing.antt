-- Elements of a signature by their numbers.
use Rattle.std.proofs.Common.{◌≡◌, ℕ, List, Option, Some, None, length, refl, sym, ◌∙◌, ap, subst}
use Rattle.std.proofs.lemmas.List.{length-map}
use Rattle.std.proofs.lemmas.List.Elements.{All-get_or}
use Rattle.std.proofs.lemmas.Option.{none-some, same_Some, slice_get-map, slice_get_within, get_or_from_slice_get}
use Rattle.std.specs.Prelude.{map, option_map, slice_get}
use Rattle.std.specs.List.{All}
use Rattle.doc_spans.specs.declared.documents.Doc.{Doc}
use Rattle.doc_spans.specs.declared.documents.NodeId.{NodeId}
use Rattle.qualifying_props.specs.PartsOf.{AreElements, AreProperties}
use Rattle.qualifying_props.specs.Shown.{ShownProperty}
use Rattle.references.specs.declared.rows.Row.{Row}
use Rattle.references.specs.RefsOf.{references_in, AreRefs}
use Rattle.references.specs.Shown.{Shown}
use Rattle.signature_elements.specs.Standing.{spot_of, IsThere}
use Rattle.signature_model.specs.Spots.{Spot}

pub all_get : {X : Type 0} (P : X → Type 0) (xs : List X) (i : ℕ) (x : X) → All P xs → slice_get xs i ≡ Some x → P x
all_get P xs i x h e = subst P (get_or_from_slice_get xs i x x e) (All-get_or P xs i x (slice_get_within xs i x e) h)

-- what stands behind what is told of it
pub mapped : {X Y : Type 0} (f : X → Y) (o : Option X) (y : Y) → option_map f o ≡ Some y → (x : X) × (o ≡ Some x) × (f x ≡ y)
mapped f None y e = absurd (none-some y e)
mapped f (Some x) y e = (x, refl, same_Some (f x) y e)

-- an element of a list by its number
pub element_at : (doc : Doc) (spots : List Spot) (nodes : List NodeId) (i : ℕ) (node : NodeId) → AreElements doc spots nodes → slice_get nodes i ≡ Some node
    → slice_get spots i ≡ Some (spot_of doc node)
element_at doc spots nodes i node h e =
    ap (λ ss. slice_get ss i) (sym h.are) ∙ slice_get-map (spot_of doc) nodes i ∙ ap (option_map (spot_of doc)) e

pub element_there : (doc : Doc) (spots : List Spot) (nodes : List NodeId) (i : ℕ) (node : NodeId) → AreElements doc spots nodes → slice_get nodes i ≡ Some node → IsThere doc node
element_there doc spots nodes i node h e = all_get (IsThere doc) nodes i node h.there e

pub as_many : (doc : Doc) (spots : List Spot) (nodes : List NodeId) → AreElements doc spots nodes → length spots ≡ length nodes
as_many doc spots nodes h = sym (ap length h.are) ∙ length-map nodes (spot_of doc)

-- the elements of properties
abbrev pub nodes_of : List ShownProperty → List NodeId
nodes_of properties = map (λ property. property.node) properties

pub node_at : (properties : List ShownProperty) (i : ℕ) (node : NodeId) → option_map (λ (property : ShownProperty). property.node) (slice_get properties i) ≡ Some node
    → slice_get (nodes_of properties) i ≡ Some node
node_at properties i node e = slice_get-map (λ (property : ShownProperty). property.node) properties i ∙ e

pub so_many_properties : (doc : Doc) (spots : List Spot) (properties : List ShownProperty) → AreProperties doc spots properties → length spots ≡ length properties
so_many_properties doc spots properties h =
    as_many doc spots (nodes_of properties) h.elements ∙ length-map properties (λ (property : ShownProperty). property.node)

-- there is a row for each Reference
pub so_many_references : (doc : Doc) (refs : Shown) → AreRefs doc refs → length (references_in doc refs.signature) ≡ length refs.rows
so_many_references doc refs h = sym (ap length h.spots) ∙ length-map refs.rows (λ (row : Row). spot_of doc row.reference.node)
