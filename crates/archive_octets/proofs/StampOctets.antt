-- The octets of a time-stamp by its number.
use Rattle.std.proofs.Common.{◌≡◌, ◌≤◌, ℕ, List, length, Some, sym, ◌∙◌, ap, take, take_all, arith}
use Rattle.std.proofs.lemmas.Option.{same_Some}
use Rattle.std.specs.Prelude.{option_map, slice_get}
use Rattle.doc_spans.specs.declared.documents.Doc.{Doc}
use Rattle.doc_spans.specs.declared.documents.NodeId.{NodeId}
use Rattle.doc_spans.specs.Seen.{document_in}
use Rattle.qualifying_props.specs.PartsOf.{AreParts, IsProperty}
use Rattle.qualifying_props.specs.Shown.{Shown, ShownProperty}
use Rattle.signature_elements.specs.Standing.{spot_of, IsThere}
use Rattle.signature_model.specs.Chains.{Handed}
use Rattle.signature_model.specs.Octets.{octets_at, octets_of_stamp}
use Rattle.signature_model.specs.Parts.{kind_of, properties, stamp_form}
use Rattle.signature_model.specs.Spots.{Spot}
use Rattle.signature_parts.specs.declared.kinds.PropertyKind.{PropertyKind}
use Rattle.signature_parts.specs.Kinds.{kind_in}
use Rattle.archive_octets.proofs.Listing.{all_get, element_at, element_there, mapped, node_at, nodes_of, so_many_properties}

-- the element of a property by its number
pub property_at : (doc : Doc) (parts : Shown) (i : ℕ) (node : NodeId) → AreParts doc parts
    → option_map (λ (property : ShownProperty). property.node) (slice_get parts.properties i) ≡ Some node
    → slice_get (properties (document_in doc) (spot_of doc parts.signature)) i ≡ Some (spot_of doc node)
property_at doc parts i node h e =
    element_at doc (properties (document_in doc) (spot_of doc parts.signature)) (nodes_of parts.properties) i node h.properties.elements (node_at parts.properties i node e)

pub property_there : (doc : Doc) (parts : Shown) (i : ℕ) (node : NodeId) → AreParts doc parts
    → option_map (λ (property : ShownProperty). property.node) (slice_get parts.properties i) ≡ Some node → IsThere doc node
property_there doc parts i node h e =
    element_there doc (properties (document_in doc) (spot_of doc parts.signature)) (nodes_of parts.properties) i node h.properties.elements (node_at parts.properties i node e)

-- and its kind
kind_at : (doc : Doc) (parts : Shown) (i : ℕ) (node : NodeId) (kind : PropertyKind) → AreParts doc parts
    → option_map (λ (property : ShownProperty). property.node) (slice_get parts.properties i) ≡ Some node
    → option_map (λ (property : ShownProperty). property.kind) (slice_get parts.properties i) ≡ Some kind → kind_of (spot_of doc node) ≡ kind_in kind
kind_at doc parts i node kind h e f =
    let at = mapped (λ (property : ShownProperty). property.node) (slice_get parts.properties i) node e in
    let same : at.0.kind ≡ kind = same_Some _ _ (sym (ap (option_map (λ (property : ShownProperty). property.kind)) at.1) ∙ f) in
    ap (λ n. kind_of (spot_of doc n)) (sym at.2) ∙ sym (all_get (IsProperty doc) parts.properties i at.0 h.properties.each at.1).kind ∙ ap kind_in same

-- its octets are those of a stamp of its kind in its form
pub octets_told : (handed : Handed) (doc : Doc) (parts : Shown) (i : ℕ) (node : NodeId) (kind : PropertyKind) (before : List Spot) → AreParts doc parts
    → option_map (λ (property : ShownProperty). property.node) (slice_get parts.properties i) ≡ Some node
    → option_map (λ (property : ShownProperty). property.kind) (slice_get parts.properties i) ≡ Some kind
    → option_map (octets_at handed (document_in doc) (spot_of doc parts.signature) before) (slice_get (properties (document_in doc) (spot_of doc parts.signature)) i)
    ≡ Some (octets_of_stamp (kind_in kind) (stamp_form (document_in doc) (spot_of doc node)) handed (document_in doc) (spot_of doc parts.signature) before)
octets_told handed doc parts i node kind before h e f =
    let document = document_in doc in
    let signature = spot_of doc parts.signature in
    ap (option_map (octets_at handed document signature before)) (property_at doc parts i node h e)
    ∙ ap (λ k. Some (octets_of_stamp k (stamp_form document (spot_of doc node)) handed document signature before)) (kind_at doc parts i node kind h e f)

-- all properties are before the next one
pub all_before : (doc : Doc) (parts : Shown) (n : ℕ) → AreParts doc parts → n ≡ length parts.properties
    → take n (properties (document_in doc) (spot_of doc parts.signature)) ≡ properties (document_in doc) (spot_of doc parts.signature)
all_before doc parts n h e =
    let spots = properties (document_in doc) (spot_of doc parts.signature) in
    let many = so_many_properties doc spots parts.properties h.properties in
    let past : length spots ≤ n = omega (arith, many, e) in take_all n spots past
