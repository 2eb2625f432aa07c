-- The References of the prepared signature: their chains and their octets.
use Rattle.std.proofs.Common.{◌≡◌, ℕ, false, List, [], ◌∷◌, ◌++◌, Option, Some, None, refl, ◌∙◌, ap, codes}
use Rattle.std.specs.Prelude.{filter, flat_map, map, option_and_then, unwrap_or}
use Rattle.document_model.specs.Tree.{Nodes, Path, Element, no_nodes, joined}
use Rattle.document_model.specs.Scopes.{Tag}
use Rattle.document_model.specs.NodeSets.{NodeSet, without}
use Rattle.document_model.specs.Canonical.{octets_of}
use Rattle.document_model.specs.Methods.{exclusive_name, form_named}
use Rattle.signature_model.specs.Vocabulary.{ds}
use Rattle.signature_model.specs.Spots.{Spot, is_called, attribute, elements_in}
use Rattle.signature_model.specs.Parts.{form_in, prefix_list, transforms, plain_form}
use Rattle.signature_model.specs.Chains.{Handed, Place, Document, Named, External, place_named, is_external, Chain, Nothing, OwnSignature, NodesAlone, InForm, Enveloped, Canonical, transform_of, transform_named, chain_on, chain, set_at, target_set, handed_in, less_taken}
use Rattle.signature_model.specs.Octets.{next_form, by_chain, octets_by, digest_octets}
use Rattle.signature_model.specs.Prepared.{Draft, algorithm, digest_nodes, enveloped_transform, transform_nodes, properties_id}
use Rattle.covered_items.proofs.NewElements.{spot_below, Stands, elements_stand, child_there}
use Rattle.prepared_documents.proofs.Reading.{ds_named, algorithm_attributes, reference_attributes, last_attributes, reference, last_at}

-- The form of an empty method or transform.

abbrev inclusive_in : List Spot → List Spot
inclusive_in spots = filter (is_called (record { space = exclusive_name; local = codes "InclusiveNamespaces" })) spots

pub form_read : (d : Nodes) (path : Path) (tags : List Tag) (k : ℕ) (local name : List ℕ)
    → Stands d (spot_below path tags k (ds_named local) (algorithm_attributes name)) (Element (ds_named local) (algorithm_attributes name) no_nodes)
    → form_in d (spot_below path tags k (ds_named local) (algorithm_attributes name)) ≡ form_named [] name
form_read d path tags k local name s =
    let spot : Spot = spot_below path tags k (ds_named local) (algorithm_attributes name) in
    ap (λ spots. option_and_then (form_named (prefix_list (inclusive_in spots))) (attribute (codes "Algorithm") spot))
    (elements_stand d spot (Element (ds_named local) (algorithm_attributes name) no_nodes) s)

abbrev pub transform_at : Spot → ℕ → List ℕ → Spot
transform_at list k name = spot_below list.path list.tags k (ds_named (codes "Transform")) (algorithm_attributes name)

abbrev pub list_at : Spot → Spot
list_at spot = spot_below spot.path spot.tags 0 (ds_named (codes "Transforms")) []

abbrev pub inner_of : Draft → Place → List ℕ → Nodes
inner_of draft p value = joined (transform_nodes p) (digest_nodes draft.digest value)

abbrev pub in_lists : Nodes → List Spot → List Spot
in_lists d spots = flat_map (elements_in d) (filter (is_called (ds (codes "Transforms"))) spots)

abbrev pub enveloped_chain : Chain
enveloped_chain = record { taken = OwnSignature; made = InForm next_form }

abbrev pub exclusive_chain : Chain
exclusive_chain = record { taken = Nothing; made = InForm next_form }

abbrev pub outside_chain : Chain
outside_chain = record { taken = Nothing; made = NodesAlone }

module _ (d : Nodes) (path : Path) (outer : List Tag) (draft : Draft) where
  abbrev pub ReferenceThere : ℕ → ℕ → List ℕ → Place → List ℕ → Type 0
  ReferenceThere j k uri_ p octets = Stands d (reference path outer draft j k uri_) (Element (ds_named (codes "Reference")) (reference_attributes draft k uri_) (inner_of draft p octets))

  pub document_transforms : (j k : ℕ) (uri_ octets : List ℕ) → ReferenceThere j k uri_ Document octets
      → map (transform_of d) (transforms d (reference path outer draft j k uri_)) ≡ Enveloped ∷ Canonical next_form ∷ []
  document_transforms j k uri_ octets s =
      let r : Spot = reference path outer draft j k uri_ in
      let list : Spot = list_at r in
      let both : Nodes = joined (enveloped_transform Document) (algorithm (codes "Transform") exclusive_name) in
      let there = child_there d r (Element (ds_named (codes "Reference")) (reference_attributes draft k uri_) (inner_of draft Document octets)) s 0 (ds_named (codes "Transforms")) [] both refl in
      let second = child_there d list (Element (ds_named (codes "Transforms")) [] both) there 1 (ds_named (codes "Transform")) (algorithm_attributes exclusive_name) no_nodes refl in
      ap (λ spots. map (transform_of d) (in_lists d spots)) (elements_stand d r (Element (ds_named (codes "Reference")) (reference_attributes draft k uri_) (inner_of draft Document octets)) s)
      ∙ ap (λ spots. map (transform_of d) (spots ++ [])) (elements_stand d list (Element (ds_named (codes "Transforms")) [] both) there)
      ∙ ap (λ o. Enveloped ∷ transform_named o exclusive_name ∷ []) (form_read d list.path list.tags 1 (codes "Transform") exclusive_name second)

  pub named_transforms : (j k : ℕ) (uri_ x octets : List ℕ) → ReferenceThere j k uri_ (Named x) octets
      → map (transform_of d) (transforms d (reference path outer draft j k uri_)) ≡ Canonical next_form ∷ []
  named_transforms j k uri_ x octets s =
      let r : Spot = reference path outer draft j k uri_ in
      let list : Spot = list_at r in
      let one : Nodes = algorithm (codes "Transform") exclusive_name in
      let there = child_there d r (Element (ds_named (codes "Reference")) (reference_attributes draft k uri_) (inner_of draft (Named x) octets)) s 0 (ds_named (codes "Transforms")) [] one refl in
      let first = child_there d list (Element (ds_named (codes "Transforms")) [] one) there 0 (ds_named (codes "Transform")) (algorithm_attributes exclusive_name) no_nodes refl in
      ap (λ spots. map (transform_of d) (in_lists d spots)) (elements_stand d r (Element (ds_named (codes "Reference")) (reference_attributes draft k uri_) (inner_of draft (Named x) octets)) s)
      ∙ ap (λ spots. map (transform_of d) (spots ++ [])) (elements_stand d list (Element (ds_named (codes "Transforms")) [] one) there)
      ∙ ap (λ o. transform_named o exclusive_name ∷ []) (form_read d list.path list.tags 0 (codes "Transform") exclusive_name first)

  pub external_transforms : (j k : ℕ) (uri_ octets : List ℕ) → ReferenceThere j k uri_ External octets
      → map (transform_of d) (transforms d (reference path outer draft j k uri_)) ≡ []
  external_transforms j k uri_ octets s =
      let r : Spot = reference path outer draft j k uri_ in
      ap (λ spots. map (transform_of d) (in_lists d spots)) (elements_stand d r (Element (ds_named (codes "Reference")) (reference_attributes draft k uri_) (inner_of draft External octets)) s)

  abbrev pub LastThere : ℕ → List ℕ → Type 0
  LastThere j octets = Stands d (last_at path outer draft j) (Element (ds_named (codes "Reference")) (last_attributes draft) (inner_of draft (Named (properties_id draft.id)) octets))

  pub last_transforms : (j : ℕ) (octets : List ℕ) → LastThere j octets → map (transform_of d) (transforms d (last_at path outer draft j)) ≡ Canonical next_form ∷ []
  last_transforms j octets s =
      let r : Spot = last_at path outer draft j in
      let list : Spot = list_at r in
      let one : Nodes = algorithm (codes "Transform") exclusive_name in
      let there = child_there d r (Element (ds_named (codes "Reference")) (last_attributes draft) (inner_of draft (Named (properties_id draft.id)) octets)) s 0 (ds_named (codes "Transforms")) [] one refl in
      let first = child_there d list (Element (ds_named (codes "Transforms")) [] one) there 0 (ds_named (codes "Transform")) (algorithm_attributes exclusive_name) no_nodes refl in
      ap (λ spots. map (transform_of d) (in_lists d spots)) (elements_stand d r (Element (ds_named (codes "Reference")) (last_attributes draft) (inner_of draft (Named (properties_id draft.id)) octets)) s)
      ∙ ap (λ spots. map (transform_of d) (spots ++ [])) (elements_stand d list (Element (ds_named (codes "Transforms")) [] one) there)
      ∙ ap (λ o. transform_named o exclusive_name ∷ []) (form_read d list.path list.tags 0 (codes "Transform") exclusive_name first)

  -- Chains.

  pub document_chain : (j k : ℕ) (uri_ octets : List ℕ) → place_named uri_ ≡ Document → ReferenceThere j k uri_ Document octets
      → chain d (reference path outer draft j k uri_) ≡ Some enveloped_chain
  document_chain j k uri_ octets e s = let t = document_transforms j k uri_ octets s in λ i. chain_on (is_external (e i)) (t i)

  pub named_chain : (j k : ℕ) (uri_ x octets : List ℕ) → place_named uri_ ≡ Named x → ReferenceThere j k uri_ (Named x) octets
      → chain d (reference path outer draft j k uri_) ≡ Some exclusive_chain
  named_chain j k uri_ x octets e s = let t = named_transforms j k uri_ x octets s in λ i. chain_on (is_external (e i)) (t i)

  pub external_chain : (j k : ℕ) (uri_ octets : List ℕ) → place_named uri_ ≡ External → ReferenceThere j k uri_ External octets
      → chain d (reference path outer draft j k uri_) ≡ Some outside_chain
  external_chain j k uri_ octets e s = let t = external_transforms j k uri_ octets s in λ i. chain_on (is_external (e i)) (t i)

  pub last_chain : (j : ℕ) (octets : List ℕ) → LastThere j octets → chain d (last_at path outer draft j) ≡ Some exclusive_chain
  last_chain j octets s = ap (chain_on false) (last_transforms j octets s)

  -- Octets, for the path of a signature.

  abbrev octets_with : Handed → Path → Spot → Option Chain → Place → Option NodeSet → List ℕ
  octets_with handed own r c p target =
      octets_by plain_form d (by_chain d (option_and_then (λ set. Some (less_taken own set c)) target) (handed_in handed p r) c)

  pub document_octets : (handed : Handed) (own : Path) (j k : ℕ) (uri_ octets : List ℕ) → place_named uri_ ≡ Document → ReferenceThere j k uri_ Document octets
      → digest_octets handed d own (reference path outer draft j k uri_) ≡ octets_of next_form (without (set_at []) own) d
  document_octets handed own j k uri_ octets e s =
      let c = document_chain j k uri_ octets e s in
      λ i. octets_with handed own (reference path outer draft j k uri_) (c i) (e i) (target_set d (e i))

  pub named_octets_are : (handed : Handed) (own : Path) (j k : ℕ) (uri_ x octets : List ℕ) (apex : Path) → place_named uri_ ≡ Named x → target_set d (Named x) ≡ Some (set_at apex)
      → ReferenceThere j k uri_ (Named x) octets → digest_octets handed d own (reference path outer draft j k uri_) ≡ octets_of next_form (set_at apex) d
  named_octets_are handed own j k uri_ x octets apex e t s =
      let c = named_chain j k uri_ x octets e s in
      (λ i. octets_with handed own (reference path outer draft j k uri_) (c i) (e i) (target_set d (e i)))
      ∙ ap (octets_with handed own (reference path outer draft j k uri_) (Some exclusive_chain) (Named x)) t

  pub external_octets : (handed : Handed) (own : Path) (j k : ℕ) (uri_ octets : List ℕ) → place_named uri_ ≡ External → ReferenceThere j k uri_ External octets
      → digest_octets handed d own (reference path outer draft j k uri_) ≡ unwrap_or (handed uri_) []
  external_octets handed own j k uri_ octets e s =
      let c = external_chain j k uri_ octets e s in
      (λ i. octets_with handed own (reference path outer draft j k uri_) (c i) (e i) (target_set d (e i)))
      ∙ given (handed uri_)
    where
      given : (o : Option (List ℕ)) → octets_by plain_form d (by_chain d None o (Some outside_chain)) ≡ unwrap_or o []
      given None = refl
      given (Some octets) = refl

  pub last_octets : (handed : Handed) (own : Path) (j : ℕ) (octets : List ℕ) (apex : Path) → target_set d (Named (properties_id draft.id)) ≡ Some (set_at apex)
      → LastThere j octets → digest_octets handed d own (last_at path outer draft j) ≡ octets_of next_form (set_at apex) d
  last_octets handed own j octets apex t s =
      let c = last_chain j octets s in
      let p : Place = Named (properties_id draft.id) in
      (λ i. octets_with handed own (last_at path outer draft j) (c i) p (target_set d p))
      ∙ ap (octets_with handed own (last_at path outer draft j) (Some exclusive_chain) p) t
