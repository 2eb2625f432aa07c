-- The shape of the prepared signature: what each line of it finds, which is nothing.
use Rattle.std.proofs.Common.{◌≡◌, ℕ, suc, ◌+◌, true, false, cond, not, ◌||◌, List, [], ◌∷◌, ◌++◌, length, Some, refl, ◌∙◌, ap, codes}
use Rattle.std.proofs.lemmas.List.{append-nil}
use Rattle.std.specs.Prelude.{filter, flat_map, is_some, is_none}
use Rattle.std.specs.List.{list_any}
use Rattle.base64.specs.GeneralPurpose.{encode_of, IsBytes}
use Rattle.base64.specs.Engines.{standard}
use Rattle.document_model.specs.Names.{Name}
use Rattle.document_model.specs.Items.{Attribute}
use Rattle.document_model.specs.Tree.{Node, Nodes, Path, Element, no_nodes, below, joined}
use Rattle.document_model.specs.Scopes.{Tag}
use Rattle.document_model.specs.Methods.{exclusive_name}
use Rattle.signature_model.specs.Vocabulary.{DigestKind, Sha256, Sha384, Sha512, digest_name, digest_named, ds}
use Rattle.signature_model.specs.Spots.{Spot, is_called, elements_in, called, first, paths, held_at, emptied_all, text_among, has_stray_text, is_text_alone}
use Rattle.signature_model.specs.Base64.{skipping}
use Rattle.signature_model.specs.Parts as parts
use Rattle.signature_model.specs.Parts.{octets_in, is_blank, digest_methods, digest_values, form_in, transform_lists}
use Rattle.signature_model.specs.Holding.{Slot, one, at_most_one, any_number, one_or_more, first_misfit, misfits_among, misfits, without_attribute, with_stray_text, without_value, without_octets}
use Rattle.signature_model.specs.Shape.{parts_line, info_line, form_line, method_line, reference_line_of, reference_line, stamp_methods}
use Rattle.signature_model.specs.Chains.{Place, Document, Named, External, place_named}
use Rattle.signature_model.specs.Fragments.{text, encoded}
use Rattle.signature_model.specs.Prepared.{Draft, algorithm, enveloped_transform, properties_id, references_from, last_reference}
use Rattle.signature_model.proofs.Standing.{Each}
use Rattle.covered_items.proofs.NewElements.{Stands, spot_below, held_stands, elements_stand, child_there}
use Rattle.covered_items.proofs.StampFragments.{text_whole}
use Rattle.covered_items.proofs.Base64ReadBack.{read_back}
use Rattle.prepared_documents.specs.Places.{signature_attributes}
use Rattle.prepared_documents.proofs.Reading as reading
use Rattle.prepared_documents.proofs.Reading.{ds_named, xades_named, algorithm_attributes, reference_attributes, last_attributes, There, ReferencesThere, references_at, last_at, info_inner, signature_inner}
use Rattle.prepared_documents.proofs.Chained.{form_read, list_at, inner_of, ReferenceThere, LastThere}
use Rattle.prepared_documents.proofs.PartsOf as of

-- Words.

pub Unstray : Nodes → Spot → Type 0
Unstray d spot = has_stray_text (held_at d spot.path) ≡ false

pub stray_none : (d : Nodes) (spots : List Spot) → Each (Unstray d) spots → with_stray_text d spots ≡ []
unfolding Unstray
stray_none d [] h = refl
stray_none d (spot ∷ spots) h =
    ap (λ b. paths (cond b (spot ∷ filter (λ s. has_stray_text (held_at d s.path)) spots) (filter (λ s. has_stray_text (held_at d s.path)) spots))) h.0
    ∙ stray_none d spots h.1

pub unstray : (d : Nodes) (spot : Spot) (node : Node) → Stands d spot node → has_stray_text (emptied_all (below node)) ≡ false → Unstray d spot
unfolding Unstray
unstray d spot node s e = ap has_stray_text (held_stands d spot node s) ∙ e

pub text_alone : (cs : List ℕ) → is_text_alone (emptied_all (text cs)) ≡ true
text_alone [] = refl
text_alone (c ∷ cs) = refl

pub value_none : (d : Nodes) (spot : Spot) (name : Name) (attributes : List Attribute) (cs : List ℕ) → Stands d spot (Element name attributes (text cs)) → without_value d (spot ∷ []) ≡ []
value_none d spot name attributes cs s =
    ap (λ nodes. paths (cond (not (is_text_alone nodes)) (spot ∷ []) [])) (held_stands d spot (Element name attributes (text cs)) s)
    ∙ ap (λ b. paths (cond (not b) (spot ∷ []) [])) (text_alone cs)

pub octets_read : (d : Nodes) (spot : Spot) (name : Name) (attributes : List Attribute) (octets : List ℕ) → IsBytes octets → Stands d spot (Element name attributes (encoded octets))
    → octets_in d spot ≡ Some octets
octets_read d spot name attributes octets b s =
    ap (λ nodes. skipping (text_among nodes)) (held_stands d spot (Element name attributes (encoded octets)) s)
    ∙ ap skipping (text_whole (encode_of standard octets)) ∙ read_back octets b

pub octets_none : (d : Nodes) (spot : Spot) (name : Name) (attributes : List Attribute) (octets : List ℕ) → IsBytes octets → Stands d spot (Element name attributes (encoded octets))
    → without_octets d (spot ∷ []) ≡ []
octets_none d spot name attributes octets b s =
    let v = value_none d spot name attributes (encode_of standard octets) s in
    let o = octets_read d spot name attributes octets b s in
    λ i. v i ++ paths (cond (not (is_some (o i))) (spot ∷ []) [])

pub misfits_none : (d : Nodes) (slots : List Slot) (spot : Spot) (children : List Spot) → elements_in d spot ≡ children → misfits_among slots spot children ≡ [] → misfits d slots (spot ∷ []) ≡ []
misfits_none d slots spot children e m = append-nil (misfits_among slots spot (elements_in d spot)) ∙ ap (misfits_among slots spot) e ∙ m

pub named_back : (kind : DigestKind) → digest_named (digest_name kind) ≡ Some kind
named_back Sha256 = refl
named_back Sha384 = refl
named_back Sha512 = refl

-- no text between elements
elements_unstray : (draft : Draft) (digest_of : List ℕ → List ℕ) (k : ℕ) (uris : List (List ℕ)) (value : List ℕ)
    → has_stray_text (emptied_all (joined (references_from draft digest_of k uris) (last_reference draft value))) ≡ false
elements_unstray draft digest_of k [] value = refl
elements_unstray draft digest_of k (uri ∷ uris) value = elements_unstray draft digest_of (suc k) uris value

abbrev ReferenceSlots : List Slot
ReferenceSlots = at_most_one (ds (codes "Transforms")) ∷ one (ds (codes "DigestMethod")) ∷ one (ds (codes "DigestValue")) ∷ []

abbrev InfoSlots : List Slot
InfoSlots = one (ds (codes "CanonicalizationMethod")) ∷ one (ds (codes "SignatureMethod")) ∷ one_or_more (ds (codes "Reference")) ∷ []

abbrev line_with : Nodes → Spot → List Spot → List Spot → List Spot → List Path → List Path
line_with d r lists methods values misfitting =
    with_stray_text d (r ∷ first lists ++ methods) ++ without_attribute (codes "URI") (r ∷ []) ++ misfitting
    ++ without_attribute (codes "Algorithm") methods ++ without_octets d values

module _ (d : Nodes) (path : Path) (outer : List Tag) (draft : Draft) where
  document_line : (j k : ℕ) (uri_ octets : List ℕ) → IsBytes octets → ReferenceThere d path outer draft j k uri_ Document octets → reference_line_of d (reading.reference path outer draft j k uri_) ≡ []
  document_line j k uri_ octets b s =
      let r : Spot = reading.reference path outer draft j k uri_ in
      let node : Node = Element (ds_named (codes "Reference")) (reference_attributes draft k uri_) (inner_of draft Document octets) in
      let dm : Spot = spot_below r.path r.tags 1 (ds_named (codes "DigestMethod")) (algorithm_attributes (digest_name draft.digest)) in
      let dv : Spot = spot_below r.path r.tags 2 (ds_named (codes "DigestValue")) [] in
      let kids : elements_in d r ≡ list_at r ∷ dm ∷ dv ∷ [] = elements_stand d r node s in
      let dm_there = child_there d r node s 1 (ds_named (codes "DigestMethod")) (algorithm_attributes (digest_name draft.digest)) no_nodes refl in
      let dv_there = child_there d r node s 2 (ds_named (codes "DigestValue")) [] (encoded octets) refl in
      let lists : transform_lists d r ≡ list_at r ∷ [] = ap (filter (is_called (ds (codes "Transforms")))) kids in
      let methods : digest_methods d (r ∷ []) ≡ dm ∷ [] =
      ap first (append-nil (called d (ds (codes "DigestMethod")) r)) ∙ ap (λ spots. first (filter (is_called (ds (codes "DigestMethod"))) spots)) kids in
      let values : digest_values d (r ∷ []) ≡ dv ∷ [] =
      ap first (append-nil (called d (ds (codes "DigestValue")) r)) ∙ ap (λ spots. first (filter (is_called (ds (codes "DigestValue"))) spots)) kids in
      let fits = misfits_none d ReferenceSlots r (list_at r ∷ dm ∷ dv ∷ []) kids refl in
      let list_there = child_there d r node s 0 (ds_named (codes "Transforms")) [] (joined (enveloped_transform Document) (algorithm (codes "Transform") exclusive_name)) refl in
      let stray = stray_none d (r ∷ list_at r ∷ dm ∷ []) (unstray d r node s refl, (unstray d (list_at r) (Element (ds_named (codes "Transforms")) [] (joined (enveloped_transform Document) (algorithm (codes "Transform") exclusive_name))) list_there refl, (unstray d dm (Element (ds_named (codes "DigestMethod")) (algorithm_attributes (digest_name draft.digest)) no_nodes) dm_there refl, tt))) in
      let octets_ = octets_none d dv (ds_named (codes "DigestValue")) [] octets b dv_there in
      (λ i. line_with d r (lists i) (methods i) (values i) (fits i)) ∙ (λ i. stray i ++ [] ++ [] ++ [] ++ octets_ i)

  named_line : (j k : ℕ) (uri_ x octets : List ℕ) → IsBytes octets → ReferenceThere d path outer draft j k uri_ (Named x) octets → reference_line_of d (reading.reference path outer draft j k uri_) ≡ []
  named_line j k uri_ x octets b s =
      let r : Spot = reading.reference path outer draft j k uri_ in
      let node : Node = Element (ds_named (codes "Reference")) (reference_attributes draft k uri_) (inner_of draft (Named x) octets) in
      let dm : Spot = spot_below r.path r.tags 1 (ds_named (codes "DigestMethod")) (algorithm_attributes (digest_name draft.digest)) in
      let dv : Spot = spot_below r.path r.tags 2 (ds_named (codes "DigestValue")) [] in
      let kids : elements_in d r ≡ list_at r ∷ dm ∷ dv ∷ [] = elements_stand d r node s in
      let dm_there = child_there d r node s 1 (ds_named (codes "DigestMethod")) (algorithm_attributes (digest_name draft.digest)) no_nodes refl in
      let dv_there = child_there d r node s 2 (ds_named (codes "DigestValue")) [] (encoded octets) refl in
      let lists : transform_lists d r ≡ list_at r ∷ [] = ap (filter (is_called (ds (codes "Transforms")))) kids in
      let methods : digest_methods d (r ∷ []) ≡ dm ∷ [] =
      ap first (append-nil (called d (ds (codes "DigestMethod")) r)) ∙ ap (λ spots. first (filter (is_called (ds (codes "DigestMethod"))) spots)) kids in
      let values : digest_values d (r ∷ []) ≡ dv ∷ [] =
      ap first (append-nil (called d (ds (codes "DigestValue")) r)) ∙ ap (λ spots. first (filter (is_called (ds (codes "DigestValue"))) spots)) kids in
      let fits = misfits_none d ReferenceSlots r (list_at r ∷ dm ∷ dv ∷ []) kids refl in
      let list_there = child_there d r node s 0 (ds_named (codes "Transforms")) [] (algorithm (codes "Transform") exclusive_name) refl in
      let stray = stray_none d (r ∷ list_at r ∷ dm ∷ []) (unstray d r node s refl, (unstray d (list_at r) (Element (ds_named (codes "Transforms")) [] (algorithm (codes "Transform") exclusive_name)) list_there refl, (unstray d dm (Element (ds_named (codes "DigestMethod")) (algorithm_attributes (digest_name draft.digest)) no_nodes) dm_there refl, tt))) in
      let octets_ = octets_none d dv (ds_named (codes "DigestValue")) [] octets b dv_there in
      (λ i. line_with d r (lists i) (methods i) (values i) (fits i)) ∙ (λ i. stray i ++ [] ++ [] ++ [] ++ octets_ i)

  external_line : (j k : ℕ) (uri_ octets : List ℕ) → IsBytes octets → ReferenceThere d path outer draft j k uri_ External octets → reference_line_of d (reading.reference path outer draft j k uri_) ≡ []
  external_line j k uri_ octets b s =
      let r : Spot = reading.reference path outer draft j k uri_ in
      let node : Node = Element (ds_named (codes "Reference")) (reference_attributes draft k uri_) (inner_of draft External octets) in
      let dm : Spot = spot_below r.path r.tags 0 (ds_named (codes "DigestMethod")) (algorithm_attributes (digest_name draft.digest)) in
      let dv : Spot = spot_below r.path r.tags 1 (ds_named (codes "DigestValue")) [] in
      let kids : elements_in d r ≡ dm ∷ dv ∷ [] = elements_stand d r node s in
      let dm_there = child_there d r node s 0 (ds_named (codes "DigestMethod")) (algorithm_attributes (digest_name draft.digest)) no_nodes refl in
      let dv_there = child_there d r node s 1 (ds_named (codes "DigestValue")) [] (encoded octets) refl in
      let lists : transform_lists d r ≡ [] = ap (filter (is_called (ds (codes "Transforms")))) kids in
      let methods : digest_methods d (r ∷ []) ≡ dm ∷ [] =
      ap first (append-nil (called d (ds (codes "DigestMethod")) r)) ∙ ap (λ spots. first (filter (is_called (ds (codes "DigestMethod"))) spots)) kids in
      let values : digest_values d (r ∷ []) ≡ dv ∷ [] =
      ap first (append-nil (called d (ds (codes "DigestValue")) r)) ∙ ap (λ spots. first (filter (is_called (ds (codes "DigestValue"))) spots)) kids in
      let fits = misfits_none d ReferenceSlots r (dm ∷ dv ∷ []) kids refl in
      let stray = stray_none d (r ∷ dm ∷ []) (unstray d r node s refl, (unstray d dm (Element (ds_named (codes "DigestMethod")) (algorithm_attributes (digest_name draft.digest)) no_nodes) dm_there refl, tt)) in
      let octets_ = octets_none d dv (ds_named (codes "DigestValue")) [] octets b dv_there in
      (λ i. line_with d r (lists i) (methods i) (values i) (fits i)) ∙ (λ i. stray i ++ [] ++ [] ++ [] ++ octets_ i)

  last_line : (j : ℕ) (octets : List ℕ) → IsBytes octets → LastThere d path outer draft j octets → reference_line_of d (last_at path outer draft j) ≡ []
  last_line j octets b s =
      let r : Spot = last_at path outer draft j in
      let node : Node = Element (ds_named (codes "Reference")) (last_attributes draft) (inner_of draft (Named (properties_id draft.id)) octets) in
      let dm : Spot = spot_below r.path r.tags 1 (ds_named (codes "DigestMethod")) (algorithm_attributes (digest_name draft.digest)) in
      let dv : Spot = spot_below r.path r.tags 2 (ds_named (codes "DigestValue")) [] in
      let kids : elements_in d r ≡ list_at r ∷ dm ∷ dv ∷ [] = elements_stand d r node s in
      let dm_there = child_there d r node s 1 (ds_named (codes "DigestMethod")) (algorithm_attributes (digest_name draft.digest)) no_nodes refl in
      let dv_there = child_there d r node s 2 (ds_named (codes "DigestValue")) [] (encoded octets) refl in
      let lists : transform_lists d r ≡ list_at r ∷ [] = ap (filter (is_called (ds (codes "Transforms")))) kids in
      let methods : digest_methods d (r ∷ []) ≡ dm ∷ [] =
      ap first (append-nil (called d (ds (codes "DigestMethod")) r)) ∙ ap (λ spots. first (filter (is_called (ds (codes "DigestMethod"))) spots)) kids in
      let values : digest_values d (r ∷ []) ≡ dv ∷ [] =
      ap first (append-nil (called d (ds (codes "DigestValue")) r)) ∙ ap (λ spots. first (filter (is_called (ds (codes "DigestValue"))) spots)) kids in
      let fits = misfits_none d ReferenceSlots r (list_at r ∷ dm ∷ dv ∷ []) kids refl in
      let list_there = child_there d r node s 0 (ds_named (codes "Transforms")) [] (algorithm (codes "Transform") exclusive_name) refl in
      let stray = stray_none d (r ∷ list_at r ∷ dm ∷ []) (unstray d r node s refl, (unstray d (list_at r) (Element (ds_named (codes "Transforms")) [] (algorithm (codes "Transform") exclusive_name)) list_there refl, (unstray d dm (Element (ds_named (codes "DigestMethod")) (algorithm_attributes (digest_name draft.digest)) no_nodes) dm_there refl, tt))) in
      let octets_ = octets_none d dv (ds_named (codes "DigestValue")) [] octets b dv_there in
      (λ i. line_with d r (lists i) (methods i) (values i) (fits i)) ∙ (λ i. stray i ++ [] ++ [] ++ [] ++ octets_ i)

  one_line : (j k : ℕ) (uri_ octets : List ℕ) → IsBytes octets → ReferenceThere d path outer draft j k uri_ (place_named uri_) octets → reference_line_of d (reading.reference path outer draft j k uri_) ≡ []
  one_line j k uri_ octets b s = by_place (place_named uri_) s
    where
      by_place : (p : Place) → ReferenceThere d path outer draft j k uri_ p octets → reference_line_of d (reading.reference path outer draft j k uri_) ≡ []
      by_place Document s = document_line j k uri_ octets b s
      by_place (Named x) s = named_line j k uri_ x octets b s
      by_place External s = external_line j k uri_ octets b s

  all_lines : (digest digest_of : List ℕ → List ℕ) (last_value : List ℕ) → ((uri : List ℕ) → IsBytes (digest_of uri)) → (j k : ℕ) (uris : List (List ℕ)) (behind : List Spot)
      → ReferencesThere d path outer digest digest_of last_value draft j k uris
      → flat_map (reference_line_of d) (references_at path outer draft j k uris ++ behind) ≡ flat_map (reference_line_of d) behind
  all_lines digest digest_of last_value b j k [] behind s = refl
  all_lines digest digest_of last_value b j k (uri ∷ uris) behind s =
      let o = one_line j k uri (digest_of uri) (b uri) s.0 in
      let more = all_lines digest digest_of last_value b (suc j) (suc k) uris behind s.1 in
      λ i. o i ++ more i

module _ (d : Nodes) (path : Path) (outer : List Tag) (digest digest_of : List ℕ → List ℕ) (last_value : List ℕ) (draft : Draft) (s : There d path outer digest digest_of last_value draft) where
  abbrev sig : Spot
  sig = reading.signature path outer draft

  abbrev info : Spot
  info = reading.info path outer draft

  abbrev last : Spot
  last = last_at path outer draft (2 + length draft.references)

  abbrev refs : List Spot
  refs = references_at path outer draft 2 1 draft.references ++ last ∷ []

  pub sig_unstray : Unstray d sig
  sig_unstray = unstray d sig (Element (ds_named (codes "Signature")) (signature_attributes draft) (signature_inner digest digest_of last_value draft)) s refl

  pub parts_none : parts_line d sig ≡ []
  parts_none =
      let stray = stray_none d (sig ∷ []) (sig_unstray, tt) in
      let fits = misfits_none d (one (ds (codes "SignedInfo")) ∷ one (ds (codes "SignatureValue")) ∷ one (ds (codes "KeyInfo")) ∷ any_number (ds (codes "Object")) ∷ []) sig _
      (of.sig_children d path outer digest digest_of last_value draft s) refl in
      λ i. stray i ++ fits i

  has_reference : (j k : ℕ) (uris : List (List ℕ)) (i : ℕ) → list_any (is_called (ds (codes "Reference"))) (references_at path outer draft j k uris ++ last_at path outer draft i ∷ []) ≡ true
  has_reference j k [] i = refl
  has_reference j k (uri ∷ uris) i = refl

  references_fit : (j k : ℕ) (uris : List (List ℕ)) (i : ℕ) → first_misfit (one_or_more (ds (codes "Reference")) ∷ []) (references_at path outer draft j k uris ++ last_at path outer draft i ∷ []) ≡ []
  references_fit j k [] i = refl
  references_fit j k (uri ∷ uris) i = references_fit (suc j) (suc k) uris i

  pub info_none : info_line d sig ≡ []
  info_none =
      let is = of.info_is d path outer digest digest_of last_value draft s in
      let m = of.method_is d path outer digest digest_of last_value draft s in
      let sm = of.signature_method_is d path outer digest digest_of last_value draft s in
      let method : Spot = reading.method path outer draft in
      let signature_method : Spot = reading.signature_method path outer draft in
      let stray = stray_none d (info ∷ method ∷ signature_method ∷ []) (unstray d info (Element (ds_named (codes "SignedInfo")) [] (info_inner digest_of last_value draft)) (reading.info_there d path outer digest digest_of last_value draft s) (elements_unstray draft digest_of 1 draft.references last_value), (unstray d method (Element (ds_named (codes "CanonicalizationMethod")) (algorithm_attributes exclusive_name) no_nodes) (reading.method_there d path outer digest digest_of last_value draft s) refl, (unstray d signature_method (Element (ds_named (codes "SignatureMethod")) (algorithm_attributes draft.method) no_nodes) (reading.signature_method_there d path outer digest digest_of last_value draft s) refl, tt))) in
      let h = has_reference 2 1 draft.references (2 + length draft.references) in
      let f = references_fit 2 1 draft.references (2 + length draft.references) in
      let fits = misfits_none d InfoSlots info (method ∷ signature_method ∷ refs) (of.info_children d path outer digest digest_of last_value draft s) (λ i. cond (not (h i) || false) (info.path ∷ []) (f i)) in
      (λ i. with_stray_text d ((is i ++ m i) ++ sm i) ++ misfits d InfoSlots (is i)) ∙ (λ i. stray i ++ fits i)

  pub no_stamp_methods : stamp_methods d sig ≡ []
  no_stamp_methods = ap (flat_map (parts.stamp_method d)) (of.no_stamps d path outer digest digest_of last_value draft s)

  pub form_none : form_line d sig ≡ []
  form_none =
      let m = of.method_is d path outer digest digest_of last_value draft s in
      let method : Spot = reading.method path outer draft in
      let f = form_read d info.path info.tags 0 (codes "CanonicalizationMethod") exclusive_name (reading.method_there d path outer digest digest_of last_value draft s) in
      (λ i. with_stray_text d (no_stamp_methods i) ++ paths (filter (λ spot. is_none (form_in d spot)) (m i ++ no_stamp_methods i)))
      ∙ ap (λ o. paths (cond (is_none o) (method ∷ []) [])) f

  pub method_none : method_line d sig ≡ []
  method_none = ap (without_attribute (codes "Algorithm")) (of.signature_method_is d path outer digest digest_of last_value draft s)

  pub reference_none : ((uri : List ℕ) → IsBytes (digest_of uri)) → IsBytes last_value → reference_line d sig ≡ []
  reference_none b v =
      let there = reading.references_there d path outer digest digest_of last_value draft s in
      ap (flat_map (reference_line_of d)) (of.references_are d path outer digest digest_of last_value draft s)
      ∙ all_lines d path outer draft digest digest_of last_value b 2 1 draft.references (last ∷ []) there.0
      ∙ append-nil (reference_line_of d last)
      ∙ last_line d path outer draft (2 + length draft.references) last_value v there.1
