-- A signature that has taken validation data has its parts again.
use Rattle.std.proofs.Common.{◌≡◌, ℕ, Bool, true, false, cond, not, ◌+◌, List, [], ◌∷◌, ◌++◌, arith, refl, sym, ◌∙◌, ap, subst, codes, append_assoc}
use Rattle.std.proofs.lemmas.Bool.{not-true}
use Rattle.std.proofs.lemmas.List.{append-nil, map-append}
use Rattle.std.proofs.lemmas.Grind.{flat_map-append}
use Rattle.std.proofs.lemmas.List.Elements.{filter-append}
use Rattle.std.specs.Prelude.{filter, flat_map, drop, map}
use Rattle.std.specs.List.{list_any}
use Rattle.document_model.specs.Names.{Name, Expanded}
use Rattle.document_model.specs.Items.{Attribute}
use Rattle.document_model.specs.Tree.{Nodes, Path, Element, no_nodes, ◌⨾◌, put_last}
use Rattle.document_model.specs.Scopes.{Tag}
use Rattle.document_model.specs.Insertion.{HasNoIdentifiers}
use Rattle.signature_model.specs.Vocabulary.{ds, xades, xadesv141_space}
use Rattle.signature_model.specs.Spots.{Spot, is_called, held_at, has_stray_text, is_text_alone, elements_in, called_in, first, paths}
use Rattle.signature_model.specs.Parts as parts
use Rattle.signature_model.specs.Parts.{DatumKind, Datum, Certificate, RevocationList, PropertyKind, SignatureStamp, ArchiveStamp, Material, Passed, counted, host, references, properties, stamps, is_signed, kind_of, is_values, is_validation_data, has_values, values_of, data_of_values, data_of, data_in, key_certificates, key_data, key_info, transforms, certificate_digest, digest_methods, token_elements, token}
use Rattle.signature_model.specs.Holding.{with_stray_text, without_value}
use Rattle.signature_model.specs.Shape.{value_holders, values_line}
use Rattle.signature_model.specs.Readable.{is_bad, bad_data, HasParts}
use Rattle.signature_model.specs.Covers.{IsFree}
use Rattle.signature_model.specs.Fragments.{Data, prefixed, declaring, wrapped, stands_alone, data_fragment, content_of, with_item}
use Rattle.signature_model.specs.Keeping.{IsSpot, IsSignature, TakesItem}
use Rattle.signature_model.proofs.Standing.{Each}
use Rattle.signature_model.proofs.Lists.{both, neither, each_append, each_map, each_filter, each_flat, flat_same, filter_same}
use Rattle.signature_model.proofs.Apart.{Apart, IsNamed, all_apart, named_apart}
use Rattle.signature_model.proofs.References.{references_stay, references_named, transforms_stay, transforms_stand}
use Rattle.signature_model.proofs.Covered.{signature_apart}
use Rattle.signature_model.proofs.PropertyKept.{IsHeld}
use Rattle.signature_model.proofs.PartsStay.{key_info_stays, method_stays, method_apart}
use Rattle.signature_model.proofs.ItemKept.{put_at}
use Rattle.signature_model.proofs.Plain.{content_plain, none_and}
use Rattle.signature_model.proofs.ShapeLines.{front_nothing, behind_nothing, map_nothing, lines_of, shape_of}
use Rattle.covered_items.proofs.NewElements.{Stands, spot_below, held_stands, elements_stand, spots_from, stand_within}
use Rattle.covered_items.proofs.NewHolders.{filter_without}
use Rattle.covered_items.proofs.SignedPartsStay.{chain_stays, named_in, first_in, key_info_named, cert_stays, methods_stay}
use Rattle.attached_items.proofs.Inside.{Inside, held_inside, child_inside, inside_apart}
use Rattle.covered_items.proofs.HoldingStays as words
use Rattle.attached_items.proofs.LinesStay as lines
use Rattle.attached_items.proofs.LinesStay.{value_line_stays}
use Rattle.attached_items.proofs.ReadAs.{IsReadAs, read_as, reads}
use Rattle.covered_items.specs.Whole.{AreWhole}
use Rattle.covered_items.proofs.Lists.{paths_both, spots_of, kinds_of, none_of_each, each_of_none, each_front, each_behind}
use Rattle.attached_items.proofs.DeepSpots.{Passes}
use Rattle.covered_items.proofs.NewProperties.{no_stray, ManyProperties, many_properties}
use Rattle.covered_items.proofs.DataCovers.{values_are_elements}
use Rattle.attached_items.proofs.DataHolders.{crls, IsFine, IsHolder, values_of_data, all_hold, one_certificates, one_revocations}
use Rattle.attached_items.proofs.OldProperties as old

-- What is put in as properties: material, whose values are whole.

pub record IsMaterial (is_whole : DatumKind → List ℕ → Bool) (d : Nodes) (property : Spot) : Type 0 where
  pub kind : kind_of property ≡ Material
  pub stray : has_stray_text (held_at d property.path) ≡ false
  pub holders : Each (IsHolder is_whole d) (values_of d property)

abbrev pub validation_name : Name
validation_name = prefixed (codes "xadesv141") (codes "TimeStampValidationData")

abbrev pub validation_attributes : List Attribute
validation_attributes = declaring (codes "xadesv141") xadesv141_space ∷ []

holder_is_material : (is_whole : DatumKind → List ℕ → Bool) (d : Nodes) (holder : Spot) → IsHolder is_whole d holder → IsMaterial is_whole d holder
holder_is_material is_whole d holder h = record {
  kind = h.material;
  stray = h.stray;
  holders = subst (λ (b : Bool). Each (IsHolder is_whole d) (cond b (holder ∷ []) (cond (is_validation_data holder) (filter is_values (elements_in d holder)) []))) (sym h.values) (h, tt);
}

validation_is_material : (is_whole : DatumKind → List ℕ → Bool) (d : Nodes) (certificates lists : List (List ℕ)) → AreWhole is_whole Certificate certificates → AreWhole is_whole RevocationList lists
    → (path : Path) (tags : List Tag) (k : ℕ)
    → Stands d (spot_below path tags k validation_name validation_attributes) (Element validation_name validation_attributes (values_of_data is_whole d certificates lists))
    → IsMaterial is_whole d (spot_below path tags k validation_name validation_attributes)
validation_is_material is_whole d certificates lists v w path tags k s =
    let spot : Spot = spot_below path tags k validation_name validation_attributes in
    let inner : Nodes = values_of_data is_whole d certificates lists in
    let node = Element validation_name validation_attributes inner in
    let elements : elements_in d spot ≡ spots_from spot.path spot.tags 0 inner = elements_stand d spot node s in
    let all = all_hold is_whole d certificates lists v w spot.path spot.tags 0 (stand_within d spot validation_name validation_attributes inner s) in
    record {
      kind = refl;
      stray = ap has_stray_text (held_stands d spot node s) ∙ no_stray inner (values_are_elements certificates lists);
      holders = each_map (λ h. IsHolder is_whole d h × (is_values h ≡ true)) (IsHolder is_whole d) _ (λ h p. p.0)
          (each_filter (IsHolder is_whole d) is_values (elements_in d spot) (subst (Each (IsHolder is_whole d)) (sym elements) all));
    }

not_stamp : (is_whole : DatumKind → List ℕ → Bool) (d : Nodes) (property : Spot) → IsMaterial is_whole d property → parts.is_stamp property ≡ false
not_stamp is_whole d property m = ap parts.is_stamp_kind m.kind

-- The new properties, with what is counted of them.

pub record NewMaterial (is_whole : DatumKind → List ℕ → Bool) (document added : Nodes) (signature place : Spot) (content : Nodes) : Type 0 where
  pub many : ManyProperties document added signature place content
  pub material : Each (IsMaterial is_whole (put_last added place.path document)) (spots_from many.path many.tags many.number content)
  pub certificates : drop 1 (filter (is_called (xades (codes "CertificateValues"))) (properties document signature)) ≡ []
      → drop 1 (filter (is_called (xades (codes "CertificateValues"))) (properties document signature ++ spots_from many.path many.tags many.number content)) ≡ []
  pub lists : drop 1 (filter (is_called (xades (codes "RevocationValues"))) (properties document signature)) ≡ []
      → drop 1 (filter (is_called (xades (codes "RevocationValues"))) (properties document signature ++ spots_from many.path many.tags many.number content)) ≡ []

-- where there are no values before
none_of_any : (p f : Spot → Bool) (spots : List Spot) → ((spot : Spot) → p spot ≡ false → f spot ≡ false) → list_any p spots ≡ false → filter f spots ≡ []
none_of_any p f [] i e = refl
none_of_any p f (spot ∷ spots) i e =
    let n = neither (p spot) (list_any p spots) e in
    let here = i spot n.0 in
    let more = none_of_any p f spots i n.1 in
    λ j. cond (here j) (spot ∷ more j) (more j)

module _ (is_whole : DatumKind → List ℕ → Bool) (document added : Nodes) (signature place : Spot) (certificates lists : List (List ℕ))
    (v : AreWhole is_whole Certificate certificates) (w : AreWhole is_whole RevocationList lists)
    (s : IsSignature document signature) (h : host document signature ≡ place ∷ []) (free : IsFree document signature) (n : HasNoIdentifiers added) where
  abbrev new_ : Nodes
  new_ = put_last added place.path document

  abbrev bare : Nodes
  bare = values_of_data is_whole new_ certificates lists

  alone_material : has_values document signature ≡ false → added ≡ wrapped document signature bare → NewMaterial is_whole document added signature place bare
  alone_material none a =
      let many = many_properties document added signature place bare (values_are_elements certificates lists) a s h free n in
      let all = all_hold is_whole new_ certificates lists v w many.path many.tags many.number many.stand in
      let more = spots_from many.path many.tags many.number bare in
      let no_certificates = none_of_any is_values (is_called (xades (codes "CertificateValues"))) (properties document signature)
      (λ spot e. (neither (is_called (xades (codes "CertificateValues")) spot) (is_called (xades (codes "RevocationValues")) spot) e).0) none in
      let no_lists = none_of_any is_values (is_called (xades (codes "RevocationValues"))) (properties document signature)
      (λ spot e. (neither (is_called (xades (codes "CertificateValues")) spot) (is_called (xades (codes "RevocationValues")) spot) e).1) none in
      record {
        many = many;
        material = each_map (IsHolder is_whole new_) (IsMaterial is_whole new_) more (holder_is_material is_whole new_) all;
        certificates = λ e. ap (drop 1) (filter-append (is_called (xades (codes "CertificateValues"))) (properties document signature) more)
            ∙ ap (λ front. drop 1 (front ++ filter (is_called (xades (codes "CertificateValues"))) more)) no_certificates ∙ one_certificates certificates lists many.path many.tags many.number;
        lists = λ e. ap (drop 1) (filter-append (is_called (xades (codes "RevocationValues"))) (properties document signature) more)
            ∙ ap (λ front. drop 1 (front ++ filter (is_called (xades (codes "RevocationValues"))) more)) no_lists ∙ one_revocations certificates lists many.path many.tags many.number;
      }

  abbrev inside_data : Nodes
  inside_data = Element validation_name validation_attributes bare ⨾ no_nodes

  held_material : added ≡ wrapped document signature inside_data → NewMaterial is_whole document added signature place inside_data
  held_material a =
      let many = many_properties document added signature place inside_data tt a s h free n in
      let spot : Spot = spot_below many.path many.tags many.number validation_name validation_attributes in
      let here : many.number + 0 ≡ many.number = omega arith in
      let there = subst (λ (j : ℕ). Stands new_ (spot_below many.path many.tags j validation_name validation_attributes) (Element validation_name validation_attributes bare)) here
      (many.stand 0 validation_name validation_attributes bare refl) in
      record {
        many = many;
        material = (validation_is_material is_whole new_ certificates lists v w many.path many.tags many.number there, tt);
        certificates = λ e. ap (drop 1) (filter_without (is_called (xades (codes "CertificateValues"))) (properties document signature) spot refl) ∙ e;
        lists = λ e. ap (drop 1) (filter_without (is_called (xades (codes "RevocationValues"))) (properties document signature) spot refl) ∙ e;
      }

-- All of it, for new material.

module _ (is_whole : DatumKind → List ℕ → Bool) (document added : Nodes) (signature place : Spot) (content : Nodes) (m : NewMaterial is_whole document added signature place content) where
  abbrev new : Nodes
  new = put_last added place.path document

  abbrev name : Expanded
  name = m.many.host_name

  abbrev D : Spot → Type 0
  D spot = Inside document place spot

  abbrev more : List Spot
  more = spots_from m.many.path m.many.tags m.many.number content

  passes : Passes document place D
  passes = record { down = child_inside document place; apart = inside_apart document place }

  all_inside : Each D (properties document signature)
  all_inside = each_map (IsHeld document place) D (properties document signature) (held_inside document place) m.many.held

  to_apart : (spots : List Spot) → Each D spots → Each (Apart document place) spots
  to_apart spots h = each_map D (Apart document place) spots passes.apart h

  stamps_same : stamps new signature ≡ stamps document signature
  stamps_same =
      ap (filter parts.is_stamp) m.many.grown ∙ filter-append parts.is_stamp (properties document signature) more
      ∙ ap (λ back. filter parts.is_stamp (properties document signature) ++ back) (none_of_each parts.is_stamp more
      (each_map (IsMaterial is_whole new) (λ p. parts.is_stamp p ≡ false) more (not_stamp is_whole new) m.material))
      ∙ append-nil (stamps document signature)

  stamps_inside : Each D (stamps document signature)
  stamps_inside = old.stamps_pass document added signature place D passes (properties document signature) all_inside

  -- The holders of values.

  abbrev new_holders : List Spot
  new_holders = flat_map (values_of new) more

  holders_grow : value_holders new signature ≡ value_holders document signature ++ new_holders
  holders_grow =
      ap (flat_map (values_of new)) m.many.grown ∙ flat_map-append (values_of new) (properties document signature) more
      ∙ ap (λ front. front ++ new_holders) (flat_same D (values_of new) (values_of document) (properties document signature) (old.values_same document added signature place D passes) all_inside)

  holders_inside : Each D (value_holders document signature)
  holders_inside = each_flat D D (values_of document) (properties document signature) (old.values_pass document added signature place D passes) all_inside

  holders_fine : Each (IsHolder is_whole new) new_holders
  holders_fine = each_flat (IsMaterial is_whole new) (IsHolder is_whole new) (values_of new) more (λ p i. i.holders) m.material

  -- Transforms of References, and certificates.

  stands : IsSpot document signature
  stands = m.many.setting.setting.signature_named.stands

  all_references : Each (IsNamed document (ds (codes "Reference"))) (references document signature)
  all_references = references_named document signature stands

  transforms_same : flat_map (transforms new) (references new signature) ≡ flat_map (transforms document) (references document signature)
  transforms_same =
      ap (flat_map (transforms new)) (references_stay document added place signature name m.many.setting.setting.place_named m.many.setting.setting.other (signature_apart document added signature place name m.many.setting.setting))
      ∙ flat_same (IsNamed document (ds (codes "Reference"))) (transforms new) (transforms document) (references document signature)
      (λ r k. transforms_stay document added place r name m.many.setting.setting.place_named m.many.setting.setting.other
      (named_apart document place (ds (codes "Reference")) name m.many.setting.setting.place_named m.many.setting.setting.other.reference r k)) all_references

  transforms_named : Each (IsNamed document (ds (codes "Transform"))) (filter (is_called (ds (codes "Transform"))) (flat_map (transforms document) (references document signature)))
  transforms_named = each_map (λ t. IsSpot document t × (is_called (ds (codes "Transform")) t ≡ true)) (IsNamed document (ds (codes "Transform"))) _ (λ t h. record { stands = h.0; named = h.1 })
      (each_filter (IsSpot document) (is_called (ds (codes "Transform"))) (flat_map (transforms document) (references document signature))
      (each_flat (IsNamed document (ds (codes "Reference"))) (IsSpot document) (transforms document) (references document signature) (λ r k. transforms_stand document r k.stands) all_references))

  abbrev HasNoText : Spot → Type 0
  HasNoText spot = has_stray_text (held_at new spot.path) ≡ false

  without_text : (spots : List Spot) → Each HasNoText spots → with_stray_text new spots ≡ []
  without_text spots h = ap paths (none_of_each (λ spot. has_stray_text (held_at new spot.path)) spots h)

  -- elements of the old document have no more text
  old_text : (spots : List Spot) → Each D spots → with_stray_text document spots ≡ [] → Each HasNoText spots
  old_text spots h e = each_of_none (λ spot. has_stray_text (held_at new spot.path)) spots
      (map_nothing (λ (spot : Spot). spot.path) (filter (λ spot. has_stray_text (held_at new spot.path)) spots) (words.stray_stays document added place spots (to_apart spots h) ∙ e))

  abbrev datum_spots : List Datum → List Spot
  datum_spots all = map (λ (datum : Datum). datum.spot) all

  pub values_again : values_line document signature ≡ [] → values_line new signature ≡ []
  values_again e =
      let all : List Spot = properties document signature in
      let holders : List Spot = value_holders document signature in
      let c = cert_stays document added signature place name m.many.setting.setting m.many.apart m.many.signed in
      let cv = is_called (xades (codes "CertificateValues")) in
      let rv = is_called (xades (codes "RevocationValues")) in
      let v2 = filter is_validation_data all ++ holders ++ flat_map (crls document) holders in
      let old_data : List Datum = flat_map (data_of_values document) holders in
      let v3 = datum_spots old_data in
      let v4 = filter (is_called (ds (codes "Transform"))) (flat_map (transforms document) (references document signature)) in
      let p0 = paths (drop 1 (filter cv all)) in
      let p1 = paths (drop 1 (filter rv all)) in
      let p2 = with_stray_text document v2 in
      let p3 = without_value document v3 in
      let p4 = with_stray_text document v4 in
      let p5 = with_stray_text document (digest_methods document (certificate_digest document signature)) in
      let r4 = front_nothing (p0 ++ p1 ++ p2 ++ p3 ++ p4) p5 e in
      let f5 = behind_nothing (p0 ++ p1 ++ p2 ++ p3 ++ p4) p5 e in
      let r3 = front_nothing (p0 ++ p1 ++ p2 ++ p3) p4 r4 in
      let f4 = behind_nothing (p0 ++ p1 ++ p2 ++ p3) p4 r4 in
      let r2 = front_nothing (p0 ++ p1 ++ p2) p3 r3 in
      let f3 = behind_nothing (p0 ++ p1 ++ p2) p3 r3 in
      let r1 = front_nothing (p0 ++ p1) p2 r2 in
      let f2 = behind_nothing (p0 ++ p1) p2 r2 in
      let f0 = front_nothing p0 p1 r1 in
      let f1 = behind_nothing p0 p1 r1 in
      let validation_inside : Each D (filter is_validation_data all) =
      each_map (λ p. D p × (is_validation_data p ≡ true)) D _ (λ p h. h.0) (each_filter D is_validation_data all all_inside) in
      let crls_inside : Each D (flat_map (crls document) holders) = each_flat D D (crls document) holders (old.crls_pass document added signature place D passes) holders_inside in
      let old_all : Each HasNoText v2 = old_text v2 (each_append D (filter is_validation_data all ++ holders) (flat_map (crls document) holders)
      (each_append D (filter is_validation_data all) holders validation_inside holders_inside) crls_inside) f2 in
      let old_front = each_front HasNoText (filter is_validation_data all ++ holders) (flat_map (crls document) holders) old_all in
      let old_crls = each_behind HasNoText (filter is_validation_data all ++ holders) (flat_map (crls document) holders) old_all in
      let old_validation = each_front HasNoText (filter is_validation_data all) holders old_front in
      let old_holders = each_behind HasNoText (filter is_validation_data all) holders old_front in
      let new_validation : Each HasNoText (filter is_validation_data more) =
      each_map (λ p. IsMaterial is_whole new p × (is_validation_data p ≡ true)) HasNoText _ (λ p h. h.0.stray) (each_filter (IsMaterial is_whole new) is_validation_data more m.material) in
      let validation_same : filter is_validation_data (properties new signature) ≡ filter is_validation_data all ++ filter is_validation_data more =
      ap (filter is_validation_data) m.many.grown ∙ filter-append is_validation_data all more in
      let crls_grow : flat_map (crls new) (value_holders new signature) ≡ flat_map (crls document) holders ++ flat_map (crls new) new_holders =
      ap (flat_map (crls new)) holders_grow ∙ flat_map-append (crls new) holders new_holders
      ∙ ap (λ front. front ++ flat_map (crls new) new_holders) (flat_same D (crls new) (crls document) holders (old.crls_same document added signature place D passes) holders_inside) in
      let new_crls : Each HasNoText (flat_map (crls new) new_holders) = each_flat (IsHolder is_whole new) HasNoText (crls new) new_holders (λ h i. i.lists) holders_fine in
      let new_holders_text : Each HasNoText new_holders = each_map (IsHolder is_whole new) HasNoText new_holders (λ h i. i.stray) holders_fine in
      let n0 : paths (drop 1 (filter cv (properties new signature))) ≡ [] =
      ap (λ spots. paths (drop 1 (filter cv spots))) m.many.grown ∙ ap paths (m.certificates (map_nothing (λ (spot : Spot). spot.path) _ f0)) in
      let n1 : paths (drop 1 (filter rv (properties new signature))) ≡ [] =
      ap (λ spots. paths (drop 1 (filter rv spots))) m.many.grown ∙ ap paths (m.lists (map_nothing (λ (spot : Spot). spot.path) _ f1)) in
      let n2 : with_stray_text new (filter is_validation_data (properties new signature) ++ value_holders new signature ++ flat_map (crls new) (value_holders new signature)) ≡ [] =
      (λ i. with_stray_text new (validation_same i ++ holders_grow i ++ crls_grow i))
      ∙ without_text ((filter is_validation_data all ++ filter is_validation_data more) ++ (holders ++ new_holders) ++ (flat_map (crls document) holders ++ flat_map (crls new) new_holders))
      (each_append HasNoText ((filter is_validation_data all ++ filter is_validation_data more) ++ (holders ++ new_holders)) (flat_map (crls document) holders ++ flat_map (crls new) new_holders)
      (each_append HasNoText (filter is_validation_data all ++ filter is_validation_data more) (holders ++ new_holders)
      (each_append HasNoText (filter is_validation_data all) (filter is_validation_data more) old_validation new_validation)
      (each_append HasNoText holders new_holders old_holders new_holders_text))
      (each_append HasNoText (flat_map (crls document) holders) (flat_map (crls new) new_holders) old_crls new_crls)) in
      let new_data : List Datum = flat_map (data_of_values new) new_holders in
      let data_grow : flat_map (data_of_values new) (value_holders new signature) ≡ old_data ++ new_data =
      ap (flat_map (data_of_values new)) holders_grow ∙ flat_map-append (data_of_values new) holders new_holders
      ∙ ap (λ front. front ++ new_data) (flat_same D (data_of_values new) (data_of_values document) holders (old.data_same document added signature place D passes) holders_inside) in
      let new_fine : Each (IsFine is_whole new) new_data = each_flat (IsHolder is_whole new) (IsFine is_whole new) (data_of_values new) new_holders (λ h i. i.data_) holders_fine in
      let new_alone : Each (λ spot. not (is_text_alone (held_at new spot.path)) ≡ false) (datum_spots new_data) =
      spots_of (λ spot. not (is_text_alone (held_at new spot.path)) ≡ false) new_data
      (each_map (IsFine is_whole new) (λ (datum : Datum). not (is_text_alone (held_at new datum.spot.path)) ≡ false) new_data (λ datum i. i.alone) new_fine) in
      let v3_inside : Each D v3 = spots_of D old_data (each_flat D (λ (datum : Datum). D datum.spot) (data_of_values document) holders (old.data_pass document added signature place D passes) holders_inside) in
      let n3 : without_value new (datum_spots (flat_map (data_of_values new) (value_holders new signature))) ≡ [] =
      ap (λ data_. without_value new (datum_spots data_)) data_grow
      ∙ ap (without_value new) (map-append (λ (datum : Datum). datum.spot) old_data new_data)
      ∙ ap paths (filter-append (λ spot. not (is_text_alone (held_at new spot.path))) v3 (datum_spots new_data))
      ∙ paths_both (filter (λ spot. not (is_text_alone (held_at new spot.path))) v3) (filter (λ spot. not (is_text_alone (held_at new spot.path))) (datum_spots new_data))
      ∙ none_and _ _ (words.value_stays document added place v3 (to_apart v3 v3_inside) ∙ f3)
      (ap paths (none_of_each (λ spot. not (is_text_alone (held_at new spot.path))) (datum_spots new_data) new_alone)) in
      let n4 = ap (λ spots. with_stray_text new (filter (is_called (ds (codes "Transform"))) spots)) transforms_same
      ∙ words.stray_stays document added place v4 (all_apart document place (ds (codes "Transform")) name m.many.setting.setting.place_named m.many.setting.setting.other.transform v4 transforms_named) ∙ f4 in
      let n5 = ap (with_stray_text new) (methods_stay document added place name (xades (codes "CertDigest")) m.many.setting.setting.place_named m.many.apart.cert_digest _ (certificate_digest document signature) c.same c.named)
      ∙ words.stray_stays document added place (digest_methods document (certificate_digest document signature))
      (all_apart document place (ds (codes "DigestMethod")) name m.many.setting.setting.place_named m.many.apart.digest_method (digest_methods document (certificate_digest document signature))
      (first_in document (ds (codes "DigestMethod")) (xades (codes "CertDigest")) (certificate_digest document signature) c.named)) ∙ f5 in
      none_and _ _ (none_and _ _ (none_and _ _ (none_and _ _ (none_and _ _ n0 n1) n2) n3) n4) n5

  -- Read values.

  keys_named : Each (IsNamed document (ds (codes "X509Certificate"))) (key_certificates document signature)
  keys_named = named_in document (ds (codes "X509Certificate")) (ds (codes "X509Data")) (key_data document signature)
      (named_in document (ds (codes "X509Data")) (ds (codes "KeyInfo")) (key_info document signature) (key_info_named document signature stands))

  keys_same : key_certificates new signature ≡ key_certificates document signature
  keys_same =
      let keys = key_info_named document signature stands in
      let d : key_data new signature ≡ key_data document signature = ap (called_in new (ds (codes "X509Data"))) (key_info_stays document added signature place name m.many.setting.setting)
      ∙ chain_stays document added place name (ds (codes "X509Data")) (ds (codes "KeyInfo")) m.many.setting.setting.place_named m.many.apart.key_info (key_info document signature) keys in
      ap (called_in new (ds (codes "X509Certificate"))) d
      ∙ chain_stays document added place name (ds (codes "X509Certificate")) (ds (codes "X509Data")) m.many.setting.setting.place_named m.many.apart.key_data (key_data document signature)
      (named_in document (ds (codes "X509Data")) (ds (codes "KeyInfo")) (key_info document signature) keys)

  data_grows : data_in new signature ≡ data_in document signature ++ flat_map (data_of new) more
  data_grows =
      let keys : List Datum = parts.as_kind parts.Certificate (key_certificates document signature) in
      let past : List Datum = flat_map (data_of document) (properties document signature) in
      (λ i. parts.as_kind parts.Certificate (keys_same i) ++ flat_map (data_of new) (m.many.grown i))
      ∙ ap (λ back. keys ++ back) (flat_map-append (data_of new) (properties document signature) more
      ∙ ap (λ front. front ++ flat_map (data_of new) more) (flat_same D (data_of new) (data_of document) (properties document signature) (old.property_data_same document added signature place D passes) all_inside))
      ∙ sym (append_assoc keys past (flat_map (data_of new) more))

  material_data : (p : Spot) → IsMaterial is_whole new p → Each (IsFine is_whole new) (data_of new p)
  material_data p i =
      subst (λ (b : Bool). Each (IsFine is_whole new) (cond b (parts.as_kind parts.Token (first (token_elements new p))) (flat_map (data_of_values new) (values_of new p)))) (sym (not_stamp is_whole new p i))
      (each_flat (IsHolder is_whole new) (IsFine is_whole new) (data_of_values new) (values_of new p) (λ h j. j.data_) i.holders)

  pub data_again : bad_data is_whole document signature ≡ [] → bad_data is_whole new signature ≡ []
  data_again e =
      let all : List Datum = data_in document signature in
      let fresh : List Datum = flat_map (data_of new) more in
      let fine : Each (λ (datum : Datum). is_bad is_whole new datum ≡ false) fresh =
      each_map (IsFine is_whole new) (λ (datum : Datum). is_bad is_whole new datum ≡ false) fresh (λ datum i. i.fine)
      (each_flat (IsMaterial is_whole new) (IsFine is_whole new) (data_of new) more material_data m.material) in
      let apart : Each (λ (datum : Datum). Apart document place datum.spot) all =
      each_append (λ (datum : Datum). Apart document place datum.spot) (parts.as_kind parts.Certificate (key_certificates document signature)) (flat_map (data_of document) (properties document signature))
      (kinds_of (Apart document place) parts.Certificate (key_certificates document signature)
      (all_apart document place (ds (codes "X509Certificate")) name m.many.setting.setting.place_named m.many.apart.key_certificate (key_certificates document signature) keys_named))
      (each_map (λ (datum : Datum). D datum.spot) (λ (datum : Datum). Apart document place datum.spot) _ (λ datum d. passes.apart datum.spot d)
      (each_flat D (λ (datum : Datum). D datum.spot) (data_of document) (properties document signature) (old.property_data_pass document added signature place D passes) all_inside)) in
      ap (λ data_. map (λ (datum : Datum). datum.spot.path) (filter (is_bad is_whole new) data_)) data_grows
      ∙ ap (map (λ (datum : Datum). datum.spot.path)) (filter-append (is_bad is_whole new) all fresh
      ∙ ap (λ back. filter (is_bad is_whole new) all ++ back) (none_of_each (is_bad is_whole new) fresh fine)
      ∙ append-nil (filter (is_bad is_whole new) all)
      ∙ filter_same (λ (datum : Datum). Apart document place datum.spot) (is_bad is_whole new) (is_bad is_whole document) all (old.bad_same document added signature place D passes is_whole) apart)
      ∙ e

  pub data_read : IsReadAs is_whole document signature → IsReadAs is_whole new signature
  data_read r =
      let l = lines_of document signature r.shape in
      let s = m.many.setting in
      let b = s.setting in
      let a = m.many.apart in
      let e = m.many.signed in
      record {
        include = old.include_same document added signature place D passes stamps_same stamps_inside ∙ r.include;
        data_ = data_again r.data_;
        shape = shape_of new signature (record {
          parts = lines.parts_stay document added signature place name b a e ∙ l.parts;
          info = lines.info_line_stays document added signature place name b a e ∙ l.info;
          form = old.form_same document added signature place D passes stamps_same stamps_inside (method_stays document added signature place name b) (method_apart document added signature place name b) ∙ l.form;
          method = lines.method_line_stays document added signature place name b a e ∙ l.method;
          reference = lines.reference_line_stays document added signature place name b a e ∙ l.reference;
          qualifying = lines.qualifying_line_stays document added signature place name b a e ∙ l.qualifying;
          properties = m.many.around l.properties;
          covered = lines.covered_line_stays document added signature place name b a e ∙ l.covered;
          signed = lines.signed_line_stays document added signature place name b a e ∙ l.signed;
          object = lines.data_object_line_stays document added signature place name b a e ∙ l.object;
          key = lines.key_line_stays document added signature place name b a e ∙ l.key;
          value = value_line_stays document added signature place name s ∙ l.value;
          stamp = old.stamp_same document added signature place D passes stamps_same stamps_inside ∙ l.stamp;
          values = values_again l.values;
        });
      }

-- By what stands in the document before.

pub new_material : (A : Type 0) (is_whole : DatumKind → List ℕ → Bool) (document : Nodes) (signature place : Spot) (certificates lists : List (List ℕ))
    → AreWhole is_whole Certificate certificates → AreWhole is_whole RevocationList lists → TakesItem document signature (Data certificates lists) → host document signature ≡ place ∷ []
    → ((content : Nodes) → NewMaterial is_whole document (content_of document signature (Data certificates lists)) signature place content → A) → A
new_material A is_whole document signature place certificates lists v w t h go = by_alone (stands_alone document signature) refl
  where
    by_alone : (b : Bool) → stands_alone document signature ≡ b → A
    by_alone true e =
        let added : Nodes = content_of document signature (Data certificates lists) in
        let none : has_values document signature ≡ false = not-true (has_values document signature) (both (not (has_values document signature)) _ e).0 in
        go _ (alone_material is_whole document added signature place certificates lists v w t.is_signature h t.free (content_plain document signature (Data certificates lists)) none
        (ap (λ b. wrapped document signature (data_fragment b certificates lists)) e))
    by_alone false e =
        let added : Nodes = content_of document signature (Data certificates lists) in
        go _ (held_material is_whole document added signature place certificates lists v w t.is_signature h t.free (content_plain document signature (Data certificates lists))
        (ap (λ b. wrapped document signature (data_fragment b certificates lists)) e))

pub data_has_parts : (is_whole : DatumKind → List ℕ → Bool) (document : Nodes) (signature : Spot) (certificates lists : List (List ℕ))
    → AreWhole is_whole Certificate certificates → AreWhole is_whole RevocationList lists → TakesItem document signature (Data certificates lists)
    → HasParts is_whole document signature → HasParts is_whole (with_item document signature (Data certificates lists)) signature
data_has_parts is_whole document signature certificates lists v w takes has =
    let item = Data certificates lists in
    let place : Spot = takes.property_place.0 in
    let added : Nodes = content_of document signature item in
    let r = read_as is_whole document signature has in
    reads is_whole (with_item document signature item) signature
    (subst (λ (d : Nodes). IsReadAs is_whole d signature) (put_at document added (host document signature) place takes.property_place.1)
    (new_material (IsReadAs is_whole (put_last added place.path document) signature) is_whole document signature place certificates lists v w takes takes.property_place.1
    (λ content m. data_read is_whole document added signature place content m r)))
