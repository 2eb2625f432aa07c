-- The shape of the prepared signature: the lines on its properties, its certificates and its value.
use Rattle.std.proofs.Common.{◌≡◌, ℕ, suc, ◌+◌, Bool, true, false, cond, not, List, [], ◌∷◌, ◌++◌, length, Some, refl, sym, ◌∙◌, ap, subst, codes, arith}
use Rattle.std.proofs.lemmas.List.{append-nil}
use Rattle.std.proofs.lemmas.Slice.Eq.{bytes_eq-Decides}
use Rattle.std.specs.Prelude.{filter, flat_map, map, drop, is_some, is_none}
use Rattle.base64.specs.GeneralPurpose.{encode_of, IsBytes}
use Rattle.base64.specs.Engines.{standard}
use Rattle.base64.specs.Rfc4648.{encode_symbols}
use Rattle.document_model.specs.Characters.{◌is◌, is_empty}
use Rattle.document_model.specs.Names.{Name, Expanded}
use Rattle.document_model.specs.Items.{Attribute}
use Rattle.document_model.specs.Tree.{Node, Nodes, Path, Element, no_nodes, nth, joined}
use Rattle.document_model.specs.Scopes.{Tag}
use Rattle.document_model.specs.Methods.{exclusive_name}
use Rattle.signature_model.specs.Vocabulary.{digest_name, ds, xades, enveloped_name, fragment}
use Rattle.signature_model.specs.Spots.{Spot, is_called, attribute, elements_in, called, called_in, first, paths, held_at, emptied_all, text_among, has_stray_text, is_text_alone, without_white}
use Rattle.signature_model.specs.Base64.{skipping}
use Rattle.signature_model.specs.Parts as parts
use Rattle.signature_model.specs.Parts.{octets_in, is_blank, digest_methods, digest_values, digest_kind, transform_lists, transforms, is_typed, is_values, is_validation_data, values_of, data_of_values}
use Rattle.signature_model.specs.Holding.{one, at_most_one, misfits, lacking, further, not_one, without_attribute, with_stray_text, without_value, without_octets, without_text}
use Rattle.signature_model.specs.Shape.{or_first, points_to, id_of, qualifying_line, properties_line, is_reaching_out, points_to_one, covered_line, signed_line, key_line, value_line, is_in_stamp, stamp_line, values_line}
use Rattle.signature_model.specs.Chains.{Place, Document, Named, External, place_named}
use Rattle.signature_model.specs.Fragments.{text, encoded}
use Rattle.signature_model.specs.Prepared.{Draft, algorithm, digest_nodes, enveloped_transform, properties_id, first_certificate}
use Rattle.signature_model.proofs.Standing.{Each}
use Rattle.signature_model.proofs.Lists.{each_append, each_map, each_filter}
use Rattle.covered_items.proofs.NewElements.{Stands, spot_below, held_stands, elements_stand, child_there}
use Rattle.covered_items.proofs.StampFragments.{text_whole}
use Rattle.covered_items.proofs.Base64ReadBack.{read_back}
use Rattle.prepared_documents.proofs.Reading as reading
use Rattle.prepared_documents.proofs.Reading.{ds_named, xades_named, algorithm_attributes, reference_attributes, last_attributes, qualifying_attributes, properties_attributes, There, ReferencesThere, references_at, last_at, certificate_nodes, properties_inner, signed_inner, cert_inner, certificate_inner, certificates_at, Follow, follow_first, follow_more}
use Rattle.prepared_documents.proofs.Chained.{list_at, transform_at, in_lists, inner_of, ReferenceThere, LastThere}
use Rattle.prepared_documents.proofs.PartsOf as of
use Rattle.prepared_documents.proofs.LinesInfo.{Unstray, stray_none, unstray, value_none, octets_none, misfits_none, named_back, text_alone}

-- Words.

pub same_is : (x : List ℕ) → (x is x) ≡ true
same_is x = (bytes_eq-Decides x x).1 refl

pub lacking_none : (d : Nodes) (name : Expanded) (holder : Spot) (found : Spot) (found_too : List Spot) → called d name holder ≡ found ∷ found_too → lacking d name (holder ∷ []) ≡ []
lacking_none d name holder found more e = ap (λ spots. paths (cond (is_empty spots) (holder ∷ []) [])) e

pub further_none : (d : Nodes) (name : Expanded) (holder : Spot) (found : Spot) → called d name holder ≡ found ∷ [] → further d name (holder ∷ []) ≡ []
further_none d name holder found e = append-nil (paths (drop 1 (called d name holder))) ∙ ap (λ spots. paths (drop 1 spots)) e

pub one_there : (d : Nodes) (name : Expanded) (holder : Spot) (found : Spot) → called d name holder ≡ found ∷ [] → not_one d name (holder ∷ []) ≡ []
one_there d name holder found e =
    let l = lacking_none d name holder found [] e in
    let f = further_none d name holder found e in
    λ i. l i ++ f i

pub text_none : (d : Nodes) (spot : Spot) (name : Name) (attributes : List Attribute) (cs : List ℕ) → is_empty (without_white cs) ≡ false → Stands d spot (Element name attributes (text cs)) → without_text d (spot ∷ []) ≡ []
text_none d spot name attributes cs e s =
    let v = value_none d spot name attributes cs s in
    let t : is_blank d spot ≡ false =
    ap (λ nodes. is_empty (without_white (text_among nodes))) (held_stands d spot (Element name attributes (text cs)) s)
    ∙ ap (λ t. is_empty (without_white t)) (text_whole cs) ∙ e in
    λ i. v i ++ paths (cond (t i) (spot ∷ []) [])

pub filter_unstray : (d : Nodes) (p : Spot → Bool) (spots : List Spot) → Each (Unstray d) spots → with_stray_text d (filter p spots) ≡ []
filter_unstray d p spots h = stray_none d (filter p spots) (each_map (λ x. Unstray d x × (p x ≡ true)) (Unstray d) (filter p spots) (λ x e. e.0) (each_filter (Unstray d) p spots h))

module _ (d : Nodes) (path : Path) (outer : List Tag) (draft : Draft) where
  pub document_transforms : (j k : ℕ) (uri_ octets : List ℕ) → ReferenceThere d path outer draft j k uri_ Document octets → transforms d (reading.reference path outer draft j k uri_) ≡ transform_at (list_at (reading.reference path outer draft j k uri_)) 0 enveloped_name ∷ transform_at (list_at (reading.reference path outer draft j k uri_)) 1 exclusive_name ∷ []
  document_transforms j k uri_ octets s =
      let r : Spot = reading.reference path outer draft j k uri_ in
      let node : Node = Element (ds_named (codes "Reference")) (reference_attributes draft k uri_) (inner_of draft Document octets) in
      let list : Node = Element (ds_named (codes "Transforms")) [] (joined (enveloped_transform Document) (algorithm (codes "Transform") exclusive_name)) in
      ap (in_lists d) (elements_stand d r node s)
      ∙ append-nil (elements_in d (list_at r))
      ∙ elements_stand d (list_at r) list (child_there d r node s 0 (ds_named (codes "Transforms")) [] (joined (enveloped_transform Document) (algorithm (codes "Transform") exclusive_name)) refl)

  document_unstray : (j k : ℕ) (uri_ octets : List ℕ) → ReferenceThere d path outer draft j k uri_ Document octets → Each (Unstray d) (transforms d (reading.reference path outer draft j k uri_))
  document_unstray j k uri_ octets s =
      let r : Spot = reading.reference path outer draft j k uri_ in
      let node : Node = Element (ds_named (codes "Reference")) (reference_attributes draft k uri_) (inner_of draft Document octets) in
      let list : Node = Element (ds_named (codes "Transforms")) [] (joined (enveloped_transform Document) (algorithm (codes "Transform") exclusive_name)) in
      let there = child_there d r node s 0 (ds_named (codes "Transforms")) [] (joined (enveloped_transform Document) (algorithm (codes "Transform") exclusive_name)) refl in
      let t0 = unstray d (transform_at (list_at r) 0 enveloped_name) (Element (ds_named (codes "Transform")) (algorithm_attributes enveloped_name) no_nodes) (child_there d (list_at r) list there 0 (ds_named (codes "Transform")) (algorithm_attributes enveloped_name) no_nodes refl) refl in
      let t1 = unstray d (transform_at (list_at r) 1 exclusive_name) (Element (ds_named (codes "Transform")) (algorithm_attributes exclusive_name) no_nodes) (child_there d (list_at r) list there 1 (ds_named (codes "Transform")) (algorithm_attributes exclusive_name) no_nodes refl) refl in
      subst (Each (Unstray d)) (sym (document_transforms j k uri_ octets s)) (t0, (t1, tt))

  pub named_transforms : (j k : ℕ) (uri_ x octets : List ℕ) → ReferenceThere d path outer draft j k uri_ (Named x) octets → transforms d (reading.reference path outer draft j k uri_) ≡ transform_at (list_at (reading.reference path outer draft j k uri_)) 0 exclusive_name ∷ []
  named_transforms j k uri_ x octets s =
      let r : Spot = reading.reference path outer draft j k uri_ in
      let node : Node = Element (ds_named (codes "Reference")) (reference_attributes draft k uri_) (inner_of draft (Named x) octets) in
      let list : Node = Element (ds_named (codes "Transforms")) [] (algorithm (codes "Transform") exclusive_name) in
      ap (in_lists d) (elements_stand d r node s)
      ∙ append-nil (elements_in d (list_at r))
      ∙ elements_stand d (list_at r) list (child_there d r node s 0 (ds_named (codes "Transforms")) [] (algorithm (codes "Transform") exclusive_name) refl)

  named_unstray : (j k : ℕ) (uri_ x octets : List ℕ) → ReferenceThere d path outer draft j k uri_ (Named x) octets → Each (Unstray d) (transforms d (reading.reference path outer draft j k uri_))
  named_unstray j k uri_ x octets s =
      let r : Spot = reading.reference path outer draft j k uri_ in
      let node : Node = Element (ds_named (codes "Reference")) (reference_attributes draft k uri_) (inner_of draft (Named x) octets) in
      let list : Node = Element (ds_named (codes "Transforms")) [] (algorithm (codes "Transform") exclusive_name) in
      let there = child_there d r node s 0 (ds_named (codes "Transforms")) [] (algorithm (codes "Transform") exclusive_name) refl in
      let t0 = unstray d (transform_at (list_at r) 0 exclusive_name) (Element (ds_named (codes "Transform")) (algorithm_attributes exclusive_name) no_nodes) (child_there d (list_at r) list there 0 (ds_named (codes "Transform")) (algorithm_attributes exclusive_name) no_nodes refl) refl in
      subst (Each (Unstray d)) (sym (named_transforms j k uri_ x octets s)) (t0, tt)

  pub last_transforms : (j : ℕ) (octets : List ℕ) → LastThere d path outer draft j octets → transforms d (last_at path outer draft j) ≡ transform_at (list_at (last_at path outer draft j)) 0 exclusive_name ∷ []
  last_transforms j octets s =
      let r : Spot = last_at path outer draft j in
      let node : Node = Element (ds_named (codes "Reference")) (last_attributes draft) (inner_of draft (Named (properties_id draft.id)) octets) in
      let list : Node = Element (ds_named (codes "Transforms")) [] (algorithm (codes "Transform") exclusive_name) in
      ap (in_lists d) (elements_stand d r node s)
      ∙ append-nil (elements_in d (list_at r))
      ∙ elements_stand d (list_at r) list (child_there d r node s 0 (ds_named (codes "Transforms")) [] (algorithm (codes "Transform") exclusive_name) refl)

  last_unstray : (j : ℕ) (octets : List ℕ) → LastThere d path outer draft j octets → Each (Unstray d) (transforms d (last_at path outer draft j))
  last_unstray j octets s =
      let r : Spot = last_at path outer draft j in
      let node : Node = Element (ds_named (codes "Reference")) (last_attributes draft) (inner_of draft (Named (properties_id draft.id)) octets) in
      let list : Node = Element (ds_named (codes "Transforms")) [] (algorithm (codes "Transform") exclusive_name) in
      let there = child_there d r node s 0 (ds_named (codes "Transforms")) [] (algorithm (codes "Transform") exclusive_name) refl in
      let t0 = unstray d (transform_at (list_at r) 0 exclusive_name) (Element (ds_named (codes "Transform")) (algorithm_attributes exclusive_name) no_nodes) (child_there d (list_at r) list there 0 (ds_named (codes "Transform")) (algorithm_attributes exclusive_name) no_nodes refl) refl in
      subst (Each (Unstray d)) (sym (last_transforms j octets s)) (t0, tt)

  external_unstray : (j k : ℕ) (uri_ octets : List ℕ) → ReferenceThere d path outer draft j k uri_ External octets → Each (Unstray d) (transforms d (reading.reference path outer draft j k uri_))
  external_unstray j k uri_ octets s =
      let r : Spot = reading.reference path outer draft j k uri_ in
      let e : transforms d r ≡ [] = ap (in_lists d) (elements_stand d r (Element (ds_named (codes "Reference")) (reference_attributes draft k uri_) (inner_of draft External octets)) s) in
      subst (Each (Unstray d)) (sym e) tt

  one_unstray : (j k : ℕ) (uri_ octets : List ℕ) → ReferenceThere d path outer draft j k uri_ (place_named uri_) octets → Each (Unstray d) (transforms d (reading.reference path outer draft j k uri_))
  one_unstray j k uri_ octets s = by_place (place_named uri_) s
    where
      by_place : (p : Place) → ReferenceThere d path outer draft j k uri_ p octets → Each (Unstray d) (transforms d (reading.reference path outer draft j k uri_))
      by_place Document s = document_unstray j k uri_ octets s
      by_place (Named x) s = named_unstray j k uri_ x octets s
      by_place External s = external_unstray j k uri_ octets s

  all_unstray : (digest digest_of : List ℕ → List ℕ) (last_value : List ℕ) → (j k : ℕ) (uris : List (List ℕ)) (behind : List Spot)
      → ReferencesThere d path outer digest digest_of last_value draft j k uris → Each (Unstray d) (flat_map (transforms d) behind)
      → Each (Unstray d) (flat_map (transforms d) (references_at path outer draft j k uris ++ behind))
  all_unstray digest digest_of last_value j k [] behind s h = h
  all_unstray digest digest_of last_value j k (uri ∷ uris) behind s h =
      each_append (Unstray d) (transforms d (reading.reference path outer draft j k uri)) (flat_map (transforms d) (references_at path outer draft (suc j) (suc k) uris ++ behind))
      (one_unstray j k uri (digest_of uri) s.0) (all_unstray digest digest_of last_value (suc j) (suc k) uris behind s.1 h)

module _ (d : Nodes) (path : Path) (outer : List Tag) (digest digest_of : List ℕ → List ℕ) (last_value : List ℕ) (draft : Draft) (s : There d path outer digest digest_of last_value draft) where
  abbrev sig : Spot
  sig = reading.signature path outer draft

  abbrev object : Spot
  object = reading.object path outer draft

  abbrev qualifying : Spot
  qualifying = reading.qualifying path outer draft

  abbrev properties : Spot
  properties = reading.properties path outer draft

  abbrev last : Spot
  last = last_at path outer draft (2 + length draft.references)

  pub qualifying_none : qualifying_line d sig ≡ []
  qualifying_none =
      let qo = of.qualifying_objects_are d path outer digest digest_of last_value draft s in
      let q = of.qualifying_is d path outer digest digest_of last_value draft s in
      let stray = stray_none d (object ∷ []) (unstray d object _ (reading.object_there d path outer digest digest_of last_value draft s) refl, tt) in
      let more = further_none d (xades (codes "QualifyingProperties")) object qualifying
      (ap (filter (is_called (xades (codes "QualifyingProperties")))) (of.object_children d path outer digest digest_of last_value draft s)) in
      let same = same_is (fragment draft.id) in
      (λ i. with_stray_text d (qo i)
      ++ (cond (is_empty (qo i)) (or_first (parts.objects d sig) sig) [])
      ++ paths (drop 1 (qo i))
      ++ further d (xades (codes "QualifyingProperties")) (first (qo i))
      ++ without_attribute (codes "Id") (sig ∷ [])
      ++ without_attribute (codes "Target") (q i)
      ++ paths (filter (λ spot. not (points_to (attribute (codes "Target") spot) (id_of sig))) (q i)))
      ∙ (λ i. stray i ++ [] ++ [] ++ more i ++ [] ++ [] ++ paths (cond (not (same i)) (qualifying ∷ []) []))

  pub properties_none : properties_line d sig ≡ []
  properties_none =
      let q = of.qualifying_is d path outer digest digest_of last_value draft s in
      let p = of.properties_is d path outer digest digest_of last_value draft s in
      let u = of.unsigned_is d path outer digest digest_of last_value draft s in
      let l = of.list_is d path outer digest digest_of last_value draft s in
      let stray = stray_none d (qualifying ∷ properties ∷ []) (
        unstray d qualifying _ (reading.qualifying_there d path outer digest digest_of last_value draft s) refl,
        (unstray d properties _ (reading.properties_there d path outer digest digest_of last_value draft s) refl, tt),
      ) in
      let fits = misfits_none d (one (xades (codes "SignedProperties")) ∷ at_most_one (xades (codes "UnsignedProperties")) ∷ []) qualifying _
      (of.qualifying_children d path outer digest digest_of last_value draft s) refl in
      (λ i. with_stray_text d (((q i ++ p i) ++ u i) ++ l i)
      ++ misfits d (one (xades (codes "SignedProperties")) ∷ at_most_one (xades (codes "UnsignedProperties")) ∷ []) (q i)
      ++ without_attribute (codes "Id") (p i)
      ++ misfits d (at_most_one (xades (codes "UnsignedSignatureProperties")) ∷ []) (u i))
      ∙ (λ i. stray i ++ fits i ++ [] ++ [])

  one_typed : (j k : ℕ) (uris : List (List ℕ)) (i : ℕ) → filter is_typed (references_at path outer draft j k uris ++ last_at path outer draft i ∷ []) ≡ last_at path outer draft i ∷ []
  one_typed j k [] i = refl
  one_typed j k (uri ∷ uris) i = one_typed (suc j) (suc k) uris i

  pub typed_is : filter is_typed (parts.references d sig) ≡ last ∷ []
  typed_is = ap (filter is_typed) (of.references_are d path outer digest digest_of last_value draft s) ∙ one_typed 2 1 draft.references (2 + length draft.references)

  pub covered_none : covered_line d sig ≡ []
  covered_none =
      let t = typed_is in
      let p = of.properties_is d path outer digest digest_of last_value draft s in
      let same = same_is (fragment (properties_id draft.id)) in
      let there = reading.references_there d path outer digest digest_of last_value draft s in
      let out : flat_map (transforms d) (last ∷ []) ≡ transform_at (list_at last) 0 exclusive_name ∷ [] =
      append-nil (transforms d last) ∙ last_transforms d path outer draft (2 + length draft.references) last_value there.1 in
      (λ i. (cond (is_empty (t i)) (paths (first (parts.references d sig))) [])
      ++ paths (drop 1 (t i))
      ++ paths (filter (λ reference. not (points_to_one (p i) reference)) (first (t i)))
      ++ paths (filter is_reaching_out (flat_map (transforms d) (first (t i)))))
      ∙ (λ i. [] ++ [] ++ paths (cond (not (same i)) (last ∷ []) []) ++ paths (filter is_reaching_out (out i)))

  pub signed_none : is_empty (without_white draft.time) ≡ false → IsBytes (digest (first_certificate draft)) → signed_line d sig ≡ []
  signed_none time b =
      let holder : Spot = reading.signed path outer draft in
      let property : Spot = reading.certificate path outer draft in
      let cert : Spot = reading.cert path outer draft in
      let dig : Spot = reading.cert_digest path outer draft in
      let value : List ℕ = digest (first_certificate draft) in
      let node : Node = Element (xades_named (codes "CertDigest")) [] (digest_nodes draft.digest value) in
      let h = of.signed_is d path outer digest digest_of last_value draft s in
      let sp = of.properties_is d path outer digest digest_of last_value draft s in
      let pr = of.certificate_is d path outer digest digest_of last_value draft s in
      let c = of.cert_is d path outer digest digest_of last_value draft s in
      let g = of.digest_is d path outer digest digest_of last_value draft s in
      let tm = of.time_is d path outer digest digest_of last_value draft s in
      let g_there = reading.cert_digest_there d path outer digest digest_of last_value draft s in
      let dm : Spot = spot_below dig.path dig.tags 0 (ds_named (codes "DigestMethod")) (algorithm_attributes (digest_name draft.digest)) in
      let dv : Spot = spot_below dig.path dig.tags 1 (ds_named (codes "DigestValue")) [] in
      let dv_there = child_there d dig node g_there 1 (ds_named (codes "DigestValue")) [] (encoded value) refl in
      let kids : elements_in d dig ≡ dm ∷ dv ∷ [] = elements_stand d dig node g_there in
      let dms : digest_methods d (dig ∷ []) ≡ dm ∷ [] = ap first (append-nil (called d (ds (codes "DigestMethod")) dig)) ∙ ap (λ spots. first (filter (is_called (ds (codes "DigestMethod"))) spots)) kids in
      let dvs : digest_values d (dig ∷ []) ≡ dv ∷ [] = ap first (append-nil (called d (ds (codes "DigestValue")) dig)) ∙ ap (λ spots. first (filter (is_called (ds (codes "DigestValue"))) spots)) kids in
      let stray = stray_none d (holder ∷ property ∷ cert ∷ dig ∷ []) (
        unstray d holder _ (reading.signed_there d path outer digest digest_of last_value draft s) refl,
        (
          unstray d property _ (reading.certificate_there d path outer digest digest_of last_value draft s) refl,
          (
            unstray d cert _ (reading.cert_there d path outer digest digest_of last_value draft s) refl,
            (unstray d dig _ g_there refl, tt),
          ),
        ),
      ) in
      let a = one_there d (xades (codes "SignedSignatureProperties")) properties holder (ap (filter (is_called (xades (codes "SignedSignatureProperties")))) (of.properties_children d path outer digest digest_of last_value draft s)) in
      let b1 = one_there d (xades (codes "SigningTime")) holder (reading.time path outer draft) (ap (filter (is_called (xades (codes "SigningTime")))) (of.signed_children d path outer digest digest_of last_value draft s)) in
      let t = text_none d (reading.time path outer draft) (xades_named (codes "SigningTime")) [] draft.time time (reading.time_there d path outer digest digest_of last_value draft s) in
      let b2 = one_there d (xades (codes "SigningCertificateV2")) holder property (ap (filter (is_called (xades (codes "SigningCertificateV2")))) (of.signed_children d path outer digest digest_of last_value draft s)) in
      let l1 = lacking_none d (xades (codes "Cert")) property cert [] (ap (filter (is_called (xades (codes "Cert")))) (of.certificate_children d path outer digest digest_of last_value draft s)) in
      let l2 = lacking_none d (xades (codes "CertDigest")) cert dig [] (ap (filter (is_called (xades (codes "CertDigest")))) (of.cert_children d path outer digest digest_of last_value draft s)) in
      let l3 = lacking_none d (ds (codes "DigestMethod")) dig dm [] (ap (filter (is_called (ds (codes "DigestMethod")))) kids) in
      let l4 = lacking_none d (ds (codes "DigestValue")) dig dv [] (ap (filter (is_called (ds (codes "DigestValue")))) kids) in
      let k : digest_kind (dm ∷ []) ≡ Some draft.digest = named_back draft.digest in
      let o = octets_none d dv (ds_named (codes "DigestValue")) [] value b dv_there in
      let cf : first (called_in d (xades (codes "Cert")) (parts.signing_certificate_property d sig)) ≡ cert ∷ [] = ap first c in
      (λ i. with_stray_text d (((h i ++ pr i) ++ cf i) ++ g i)
      ++ not_one d (xades (codes "SignedSignatureProperties")) (sp i)
      ++ not_one d (xades (codes "SigningTime")) (h i)
      ++ without_text d (tm i)
      ++ not_one d (xades (codes "SigningCertificateV2")) (h i)
      ++ lacking d (xades (codes "Cert")) (pr i)
      ++ lacking d (xades (codes "CertDigest")) (cf i)
      ++ lacking d (ds (codes "DigestMethod")) (g i)
      ++ paths (filter (λ spot. is_none (digest_kind (spot ∷ []))) (digest_methods d (g i)))
      ++ lacking d (ds (codes "DigestValue")) (g i)
      ++ without_octets d (digest_values d (g i)))
      ∙ (λ i. stray i ++ a i ++ b1 i ++ t i ++ b2 i ++ l1 i ++ l2 i ++ l3 i ++ paths (filter (λ spot. is_none (digest_kind (spot ∷ []))) (dms i)) ++ l4 i ++ without_octets d (dvs i))
      ∙ (λ i. [] ++ [] ++ [] ++ [] ++ [] ++ [] ++ [] ++ [] ++ paths (cond (is_none (k i)) (dm ∷ []) []) ++ [] ++ o i)

  -- certificates

  abbrev pub CertificatesThere : ℕ → List (List ℕ) → Type 0
  CertificatesThere j [] = Unit {0}
  CertificatesThere j (octets ∷ others) =
      Stands d (spot_below (reading.data_ path outer draft).path (reading.data_ path outer draft).tags j (ds_named (codes "X509Certificate")) []) (Element (ds_named (codes "X509Certificate")) [] (encoded octets))
      × CertificatesThere (suc j) others

  certificates_from : (j : ℕ) (certificates : List (List ℕ)) → Follow j (certificate_nodes certificates) (certificate_nodes draft.certificates) → CertificatesThere j certificates
  certificates_from j [] f = tt
  certificates_from j (octets ∷ others) f = (
    child_there d (reading.data_ path outer draft) _ (reading.data_there d path outer digest digest_of last_value draft s) j (ds_named (codes "X509Certificate")) [] (encoded octets)
        (follow_first j (Element (ds_named (codes "X509Certificate")) [] (encoded octets)) (certificate_nodes others) (certificate_nodes draft.certificates) f),
    certificates_from (suc j) others (follow_more j (Element (ds_named (codes "X509Certificate")) [] (encoded octets)) (certificate_nodes others) (certificate_nodes draft.certificates) f),
  )

  pub certificates_there : CertificatesThere 0 draft.certificates
  certificates_there = certificates_from 0 draft.certificates (λ i c e. let n : 0 + i ≡ i = omega arith in ap (λ k. nth k (certificate_nodes draft.certificates)) n ∙ e)

  values_alone : (j : ℕ) (certificates : List (List ℕ)) → CertificatesThere j certificates → without_value d (certificates_at path outer draft j certificates) ≡ []
  values_alone j [] t = refl
  values_alone j (octets ∷ others) t =
      let spot : Spot = spot_below (reading.data_ path outer draft).path (reading.data_ path outer draft).tags j (ds_named (codes "X509Certificate")) [] in
      let rest : List Spot = filter (λ x. not (is_text_alone (held_at d x.path))) (certificates_at path outer draft (suc j) others) in
      ap (λ nodes. paths (cond (not (is_text_alone nodes)) (spot ∷ rest) rest)) (held_stands d spot (Element (ds_named (codes "X509Certificate")) [] (encoded octets)) t.0)
      ∙ ap (λ b. paths (cond (not b) (spot ∷ rest) rest)) (text_alone (encode_of standard octets))
      ∙ values_alone (suc j) others t.1

  not_empty : (certificates : List (List ℕ)) → is_empty certificates ≡ false → is_empty (certificates_at path outer draft 0 certificates) ≡ false
  not_empty [] e = e
  not_empty (octets ∷ others) e = refl

  data_unstray : (certificates : List (List ℕ)) → has_stray_text (emptied_all (certificate_nodes certificates)) ≡ false
  data_unstray [] = refl
  data_unstray (octets ∷ others) = data_unstray others

  pub key_none : is_empty draft.certificates ≡ false → key_line d sig ≡ []
  key_none some =
      let key : Spot = reading.key path outer draft in
      let dat : Spot = reading.data_ path outer draft in
      let k = of.key_is d path outer digest digest_of last_value draft s in
      let e = of.key_data_is d path outer digest digest_of last_value draft s in
      let c = of.certificates_are d path outer digest digest_of last_value draft s in
      let stray = stray_none d (key ∷ dat ∷ []) (
        unstray d key _ (reading.key_there d path outer digest digest_of last_value draft s) refl,
        (unstray d dat _ (reading.data_there d path outer digest digest_of last_value draft s) (data_unstray draft.certificates), tt),
      ) in
      let l = lacking_none d (ds (codes "X509Data")) key dat [] (ap (filter (is_called (ds (codes "X509Data")))) (of.key_children d path outer digest digest_of last_value draft s)) in
      let n = not_empty draft.certificates some in
      let v = values_alone 0 draft.certificates certificates_there in
      (λ i. with_stray_text d (k i ++ e i) ++ lacking d (ds (codes "X509Data")) (k i) ++ (cond (is_empty (c i)) (paths (first (e i))) []) ++ without_value d (c i))
      ∙ (λ i. stray i ++ l i ++ (cond (n i) (paths (dat ∷ [])) []) ++ v i)

  nothing_read : skipping [] ≡ Some []
  unfolding encode_symbols
  nothing_read = read_back [] (λ i. omega arith)

  pub value_empty : value_line d sig ≡ []
  value_empty =
      let value : Spot = reading.value path outer draft in
      let h = held_stands d value (Element (ds_named (codes "SignatureValue")) [] no_nodes) (reading.value_there d path outer digest digest_of last_value draft s) in
      ap (without_octets d) (of.value_is d path outer digest digest_of last_value draft s)
      ∙ (λ i. paths (cond (not (is_text_alone (h i))) (value ∷ []) []) ++ paths (cond (not (is_some (skipping (text_among (h i))))) (value ∷ []) []))
      ∙ (λ i. paths (cond (not (is_some (nothing_read i))) (value ∷ []) []))

  pub stamp_none : stamp_line d sig ≡ []
  stamp_none =
      let n = of.no_stamps d path outer digest digest_of last_value draft s in
      λ i. with_stray_text d (n i)
      ++ further d (ds (codes "CanonicalizationMethod")) (n i)
      ++ not_one d (xades (codes "EncapsulatedTimeStamp")) (n i)
      ++ paths (filter (λ child. not (is_in_stamp child)) (flat_map (elements_in d) (n i)))
      ++ without_value d (flat_map (λ holder. first (parts.token_elements d holder)) (n i))

  pub values_none : values_line d sig ≡ []
  values_none =
      let dig : Spot = reading.cert_digest path outer draft in
      let value : List ℕ = digest (first_certificate draft) in
      let node : Node = Element (xades_named (codes "CertDigest")) [] (digest_nodes draft.digest value) in
      let g_there = reading.cert_digest_there d path outer digest digest_of last_value draft s in
      let dm : Spot = spot_below dig.path dig.tags 0 (ds_named (codes "DigestMethod")) (algorithm_attributes (digest_name draft.digest)) in
      let dms : digest_methods d (dig ∷ []) ≡ dm ∷ [] = ap first (append-nil (called d (ds (codes "DigestMethod")) dig)) ∙ ap (λ spots. first (filter (is_called (ds (codes "DigestMethod"))) spots)) (elements_stand d dig node g_there) in
      let dm_there = child_there d dig node g_there 0 (ds_named (codes "DigestMethod")) (algorithm_attributes (digest_name draft.digest)) no_nodes refl in
      let dm_stray = stray_none d (dm ∷ []) (unstray d dm (Element (ds_named (codes "DigestMethod")) (algorithm_attributes (digest_name draft.digest)) no_nodes) dm_there refl, tt) in
      let g = of.digest_is d path outer digest digest_of last_value draft s in
      let n = of.no_properties d path outer digest digest_of last_value draft s in
      let r = of.references_are d path outer digest digest_of last_value draft s in
      let there = reading.references_there d path outer digest digest_of last_value draft s in
      let behind : Each (Unstray d) (flat_map (transforms d) (last ∷ [])) = subst (Each (Unstray d)) (sym (append-nil (transforms d last))) (last_unstray d path outer draft (2 + length draft.references) last_value there.1) in
      let all = all_unstray d path outer draft digest digest_of last_value 2 1 draft.references (last ∷ []) there.0 behind in
      let t = filter_unstray d (is_called (ds (codes "Transform"))) (flat_map (transforms d) (references_at path outer draft 2 1 draft.references ++ last ∷ [])) all in
      (λ i. paths (drop 1 (filter (is_called (xades (codes "CertificateValues"))) (n i)))
      ++ paths (drop 1 (filter (is_called (xades (codes "RevocationValues"))) (n i)))
      ++ with_stray_text d (filter is_validation_data (n i) ++ flat_map (values_of d) (n i)
      ++ flat_map (λ holder. cond (is_called (xades (codes "RevocationValues")) holder) (called d (xades (codes "CRLValues")) holder) []) (flat_map (values_of d) (n i)))
      ++ without_value d (map (λ datum. datum.spot) (flat_map (data_of_values d) (flat_map (values_of d) (n i))))
      ++ with_stray_text d (filter (is_called (ds (codes "Transform"))) (flat_map (transforms d) (r i)))
      ++ with_stray_text d (digest_methods d (g i)))
      ∙ (λ i. [] ++ [] ++ [] ++ [] ++ t i ++ with_stray_text d (dms i))
      ∙ (λ i. [] ++ dm_stray i)
