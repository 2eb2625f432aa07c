-- Validation data as they stand: the elements that hold certificates and lists.
use Rattle.std.proofs.Common.{◌≡◌, ℕ, suc, ◌+◌, Bool, true, false, cond, not, List, [], ◌∷◌, Some, arith, refl, sym, ◌∙◌, ap, subst, codes}
use Rattle.std.specs.Prelude.{filter, drop}
use Rattle.std.specs.Option.{option_map_or}
use Rattle.base64.specs.GeneralPurpose.{IsBytes, encode_of}
use Rattle.base64.specs.Engines.{standard}
use Rattle.document_model.specs.Names.{Name}
use Rattle.document_model.specs.Items.{Attribute}
use Rattle.document_model.specs.Tree.{Nodes, Path, Element, no_nodes, ◌⨾◌}
use Rattle.document_model.specs.Scopes.{Tag}
use Rattle.signature_model.specs.Vocabulary.{xades}
use Rattle.signature_model.specs.Base64.{skipping}
use Rattle.signature_model.specs.Spots.{Spot, is_called, held_at, has_stray_text, is_text_alone, text_among, elements_in, called}
use Rattle.signature_model.specs.Parts as parts
use Rattle.signature_model.specs.Parts.{DatumKind, Datum, Certificate, RevocationList, PropertyKind, Material, kind_of, is_values, values_of, data_of_values, octets_in}
use Rattle.signature_model.specs.Readable.{is_bad}
use Rattle.signature_model.specs.Fragments.{prefixed, encoded, each, certificates_fragment, lists_fragment, ◌then◌}
use Rattle.signature_model.proofs.Standing.{Each}
use Rattle.signature_model.proofs.Lists.{each_filter, each_map, each_flat}
use Rattle.covered_items.proofs.NewElements.{Stands, spot_below, held_stands, elements_stand, child_there, AreElements, StandAll, spots_from, stand_within}
use Rattle.covered_items.proofs.NewHolders.{declared}
use Rattle.covered_items.proofs.StampFragments.{text_whole, text_is_alone}
use Rattle.covered_items.proofs.Base64ReadBack.{read_back}
use Rattle.covered_items.specs.Whole.{AreWhole}
use Rattle.covered_items.proofs.NewProperties.{no_stray}

abbrev pub crls : Nodes → Spot → List Spot
crls d holder = cond (is_called (xades (codes "RevocationValues")) holder) (called d (xades (codes "CRLValues")) holder) []

abbrev pub certificates_name : Name
certificates_name = prefixed (codes "xades") (codes "CertificateValues")

abbrev pub certificate_name : Name
certificate_name = prefixed (codes "xades") (codes "EncapsulatedX509Certificate")

abbrev pub revocations_name : Name
revocations_name = prefixed (codes "xades") (codes "RevocationValues")

abbrev pub lists_name : Name
lists_name = prefixed (codes "xades") (codes "CRLValues")

abbrev pub list_name : Name
list_name = prefixed (codes "xades") (codes "EncapsulatedCRLValue")

-- elements of base64, one for each object
abbrev pub all_encoded : Name → List (List ℕ) → Nodes
all_encoded name objects = each (λ octets. Element name [] (encoded octets) ⨾ no_nodes) objects

pub are_elements : (name : Name) (objects : List (List ℕ)) → AreElements (all_encoded name objects)
are_elements name [] = tt
are_elements name (octets ∷ objects) = are_elements name objects

-- A datum that is read, and whole.
pub record IsFine (is_whole : DatumKind → List ℕ → Bool) (d : Nodes) (datum : Datum) : Type 0 where
  pub alone : not (is_text_alone (held_at d datum.spot.path)) ≡ false
  pub fine : is_bad is_whole d datum ≡ false

module _ (is_whole : DatumKind → List ℕ → Bool) (d : Nodes) where
  abbrev FineAs : DatumKind → Spot → Type 0
  FineAs kind spot = IsFine is_whole d (record { kind = kind; spot = spot })

  pub fine_there : (kind : DatumKind) (octets : List ℕ) → IsBytes octets → is_whole kind octets ≡ true → (spot : Spot) (name : Name) (attributes : List Attribute)
      → Stands d spot (Element name attributes (encoded octets)) → FineAs kind spot
  fine_there kind octets bytes whole spot name attributes s =
      let held = held_stands d spot (Element name attributes (encoded octets)) s in
      let read : octets_in d spot ≡ Some octets = ap (λ nodes. skipping (text_among nodes)) held ∙ ap skipping (text_whole (encode_of standard octets)) ∙ read_back octets bytes in
      record {
        alone = ap (λ nodes. not (is_text_alone nodes)) held ∙ ap not (text_is_alone (encode_of standard octets));
        fine = ap (λ o. not (option_map_or (is_whole kind) o false)) read ∙ ap not whole;
      }

  pub all_fine : (kind : DatumKind) (name : Name) (objects : List (List ℕ)) → AreWhole is_whole kind objects → (path : Path) (tags : List Tag) (i : ℕ)
      → StandAll d path tags i (all_encoded name objects) → Each (FineAs kind) (spots_from path tags i (all_encoded name objects))
  all_fine kind name [] w path tags i s = tt
  all_fine kind name (octets ∷ objects) w path tags i s =
      let zero_ : i + 0 ≡ i = omega arith in (
        fine_there kind octets w.0 w.1 (spot_below path tags i name []) name []
            (subst (λ (j : ℕ). Stands d (spot_below path tags j name []) (Element name [] (encoded octets))) zero_ (s 0 name [] (encoded octets) refl)),
        all_fine kind name objects w.2 path tags (suc i)
            (λ k n a inner e.
            let m : i + suc k ≡ suc i + k = omega arith in
            subst (λ (j : ℕ). Stands d (spot_below path tags j n a) (Element n a inner)) m (s (suc k) n a inner e)),
      )

  pub fine_kinds : (kind : DatumKind) (spots : List Spot) → Each (FineAs kind) spots → Each (IsFine is_whole d) (parts.as_kind kind spots)
  fine_kinds kind [] h = tt
  fine_kinds kind (spot ∷ spots) h = (h.0, fine_kinds kind spots h.1)

  kept : (P : Spot → Type 0) (f : Spot → Bool) (spots : List Spot) → Each P spots → Each P (filter f spots)
  kept P f spots h = each_map (λ s. P s × (f s ≡ true)) P (filter f spots) (λ s h. h.0) (each_filter P f spots h)

  -- CertificateValues or RevocationValues that stand
  pub record IsHolder (holder : Spot) : Type 0 where
    pub values : is_values holder ≡ true
    pub material : kind_of holder ≡ Material
    pub stray : has_stray_text (held_at d holder.path) ≡ false
    pub lists : Each (λ spot. has_stray_text (held_at d spot.path) ≡ false) (crls d holder)
    pub data_ : Each (IsFine is_whole d) (data_of_values d holder)

  abbrev certificates_spot : Path → List Tag → ℕ → Spot
  certificates_spot path tags k = spot_below path tags k certificates_name declared

  abbrev revocations_spot : Path → List Tag → ℕ → Spot
  revocations_spot path tags k = spot_below path tags k revocations_name declared

  certificates_hold : (certificates : List (List ℕ)) → AreWhole is_whole Certificate certificates → (path : Path) (tags : List Tag) (k : ℕ)
      → Stands d (certificates_spot path tags k) (Element certificates_name declared (all_encoded certificate_name certificates)) → IsHolder (certificates_spot path tags k)
  certificates_hold certificates w path tags k s =
      let spot : Spot = certificates_spot path tags k in
      let inner : Nodes = all_encoded certificate_name certificates in
      let node = Element certificates_name declared inner in
      let elements : elements_in d spot ≡ spots_from spot.path spot.tags 0 inner = elements_stand d spot node s in
      let all : Each (FineAs Certificate) (elements_in d spot) =
      subst (Each (FineAs Certificate)) (sym elements) (all_fine Certificate certificate_name certificates w spot.path spot.tags 0 (stand_within d spot certificates_name declared inner s)) in
      record {
        values = refl;
        material = refl;
        stray = ap has_stray_text (held_stands d spot node s) ∙ no_stray inner (are_elements certificate_name certificates);
        lists = tt;
        data_ = fine_kinds Certificate _ (kept (FineAs Certificate) (is_called (xades (codes "EncapsulatedX509Certificate"))) (elements_in d spot) all);
      }

  -- CRLValues
  pub record IsListHolder (spot : Spot) : Type 0 where
    pub stray : has_stray_text (held_at d spot.path) ≡ false
    pub all : Each (FineAs RevocationList) (elements_in d spot)

  revocations_hold : (lists : List (List ℕ)) → AreWhole is_whole RevocationList lists → (path : Path) (tags : List Tag) (k : ℕ)
      → Stands d (revocations_spot path tags k) (Element revocations_name declared (Element lists_name [] (all_encoded list_name lists) ⨾ no_nodes)) → IsHolder (revocations_spot path tags k)
  revocations_hold lists w path tags k s =
      let spot : Spot = revocations_spot path tags k in
      let inner : Nodes = all_encoded list_name lists in
      let node = Element revocations_name declared (Element lists_name [] inner ⨾ no_nodes) in
      let child : Spot = spot_below spot.path spot.tags 0 lists_name [] in
      let child_stands = child_there d spot node s 0 lists_name [] inner refl in
      let children : elements_in d spot ≡ child ∷ [] = elements_stand d spot node s in
      let elements : elements_in d child ≡ spots_from child.path child.tags 0 inner = elements_stand d child (Element lists_name [] inner) child_stands in
      let holder : IsListHolder child = record {
        stray = ap has_stray_text (held_stands d child (Element lists_name [] inner) child_stands) ∙ no_stray inner (are_elements list_name lists);
        all = subst (Each (FineAs RevocationList)) (sym elements) (all_fine RevocationList list_name lists w child.path child.tags 0 (stand_within d child lists_name [] inner child_stands));
      } in
      let holders : Each IsListHolder (called d (xades (codes "CRLValues")) spot) =
      kept IsListHolder (is_called (xades (codes "CRLValues"))) (elements_in d spot) (subst (Each IsListHolder) (sym children) (holder, tt)) in
      record {
        values = refl;
        material = refl;
        stray = ap has_stray_text (held_stands d spot node s);
        lists = each_map IsListHolder (λ c. has_stray_text (held_at d c.path) ≡ false) _ (λ c h. h.stray) holders;
        data_ = fine_kinds RevocationList _ (each_flat IsListHolder (FineAs RevocationList) (called d (xades (codes "EncapsulatedCRLValue"))) _
            (λ c h. kept (FineAs RevocationList) (is_called (xades (codes "EncapsulatedCRLValue"))) (elements_in d c) h.all) holders);
      }

  abbrev pub values_of_data : List (List ℕ) → List (List ℕ) → Nodes
  values_of_data certificates lists = certificates_fragment certificates then lists_fragment lists

  there : (path : Path) (tags : List Tag) (k j m : ℕ) (name : Name) (attributes : List Attribute) (inner : Nodes) → k + j ≡ m
      → Stands d (spot_below path tags (k + j) name attributes) (Element name attributes inner) → Stands d (spot_below path tags m name attributes) (Element name attributes inner)
  there path tags k j m name attributes inner e s = subst (λ (n : ℕ). Stands d (spot_below path tags n name attributes) (Element name attributes inner)) e s

  pub all_hold : (certificates lists : List (List ℕ)) → AreWhole is_whole Certificate certificates → AreWhole is_whole RevocationList lists → (path : Path) (tags : List Tag) (k : ℕ)
      → StandAll d path tags k (values_of_data certificates lists) → Each IsHolder (spots_from path tags k (values_of_data certificates lists))
  all_hold [] [] v w path tags k s = tt
  all_hold (c ∷ cs) [] v w path tags k s =
      let e : k + 0 ≡ k = omega arith in (
        certificates_hold (c ∷ cs) v path tags k (there path tags k 0 k certificates_name declared _ e (s 0 certificates_name declared (all_encoded certificate_name (c ∷ cs)) refl)),
        tt,
      )
  all_hold [] (l ∷ ls) v w path tags k s =
      let e : k + 0 ≡ k = omega arith in (
        revocations_hold (l ∷ ls) w path tags k (there path tags k 0 k revocations_name declared _ e (s 0 revocations_name declared (Element lists_name [] (all_encoded list_name (l ∷ ls)) ⨾ no_nodes) refl)),
        tt,
      )
  all_hold (c ∷ cs) (l ∷ ls) v w path tags k s =
      let e : k + 0 ≡ k = omega arith in
      let f : k + 1 ≡ suc k = omega arith in
      let first_ = certificates_hold (c ∷ cs) v path tags k (there path tags k 0 k certificates_name declared _ e (s 0 certificates_name declared (all_encoded certificate_name (c ∷ cs)) refl)) in
      let second = revocations_hold (l ∷ ls) w path tags (suc k) (there path tags k 1 (suc k) revocations_name declared _ f (s 1 revocations_name declared (Element lists_name [] (all_encoded list_name (l ∷ ls)) ⨾ no_nodes) refl)) in
      (first_, (second, tt))

-- they are elements, and one of each name at most

pub one_certificates : (certificates lists : List (List ℕ)) (path : Path) (tags : List Tag) (k : ℕ)
    → drop 1 (filter (is_called (xades (codes "CertificateValues"))) (spots_from path tags k (certificates_fragment certificates then lists_fragment lists))) ≡ []
one_certificates [] [] path tags k = refl
one_certificates (c ∷ cs) [] path tags k = refl
one_certificates [] (l ∷ ls) path tags k = refl
one_certificates (c ∷ cs) (l ∷ ls) path tags k = refl

pub one_revocations : (certificates lists : List (List ℕ)) (path : Path) (tags : List Tag) (k : ℕ)
    → drop 1 (filter (is_called (xades (codes "RevocationValues"))) (spots_from path tags k (certificates_fragment certificates then lists_fragment lists))) ≡ []
one_revocations [] [] path tags k = refl
one_revocations (c ∷ cs) [] path tags k = refl
one_revocations [] (l ∷ ls) path tags k = refl
one_revocations (c ∷ cs) (l ∷ ls) path tags k = refl
