-- The lines of the shape that read time-stamps say nothing again where a time-stamp is put in, a signature's or an archive's.
use Rattle.std.proofs.Common.{◌≡◌, ℕ, ◌+◌, Bool, true, false, cond, not, ◌||◌, arith, subst, List, [], ◌∷◌, ◌++◌, Option, Some, refl, sym, ◌∙◌, ap, codes, append_assoc}
use Rattle.std.proofs.lemmas.List.{append-nil}
use Rattle.std.proofs.lemmas.Grind.{flat_map-append}
use Rattle.std.proofs.lemmas.List.Elements.{filter-append}
use Rattle.std.specs.Prelude.{filter, flat_map, drop, is_none}
use Rattle.base64.specs.GeneralPurpose.{IsBytes, encode_of}
use Rattle.base64.specs.Engines.{standard}
use Rattle.document_model.specs.Canonical.{Form}
use Rattle.document_model.specs.Characters.{is_empty}
use Rattle.document_model.specs.Names.{Name, Expanded}
use Rattle.document_model.specs.Items.{Attribute}
use Rattle.document_model.specs.Tree.{Nodes, Path, Element, no_nodes, put_last}
use Rattle.document_model.specs.Scopes.{Tag}
use Rattle.signature_model.specs.Vocabulary.{ds, xades}
use Rattle.signature_model.specs.Base64.{skipping}
use Rattle.signature_model.specs.Spots.{Spot, is_called, elements_in, called, first, paths, held_at, has_stray_text, is_text_alone, emptied_all, text_among}
use Rattle.signature_model.specs.Parts as parts
use Rattle.signature_model.specs.Parts.{DatumKind, Datum, method, references, certificate_digest, digest_methods, properties, stamps, stamp_method, token_elements, form_in, octets_in, is_values, is_validation_data, values_of, data_of_values, includes, key_certificates, transforms, signed_properties}
use Rattle.signature_model.specs.Holding.{with_stray_text, further, lacking, not_one, without_value}
use Rattle.signature_model.specs.Shape.{stamp_methods, form_line, is_in_stamp, stamp_line}
use Rattle.signature_model.specs.Fragments.{encoded}
use Rattle.signature_model.proofs.Standing.{Each}
use Rattle.signature_model.proofs.Lists.{each_append, each_first, each_map, each_filter, each_flat, flat_same, filter_same}
use Rattle.signature_model.proofs.Apart.{Apart, called_stay, elements_stay, form_stays}
use Rattle.signature_model.proofs.PropertyKept.{IsHeld, held_apart}
use Rattle.signature_model.proofs.PartsStay.{method_apart}
use Rattle.covered_items.proofs.NewElements.{one_element, Stands, spot_below, held_stands, elements_stand, child_there}
use Rattle.covered_items.proofs.StampFragments.{stamp_inner, token_name, method_name, method_attributes, method_read, text_whole, text_is_alone}
use Rattle.covered_items.proofs.NewProperties.{ManyProperties}
use Rattle.covered_items.proofs.NewHolders.{filter_behind, filter_without}
use Rattle.covered_items.proofs.Base64ReadBack.{read_back}
use Rattle.attached_items.proofs.Inside.{Inside, held_inside, filtered_inside, all_inside_apart}
use Rattle.covered_items.proofs.HoldingStays as words
use Rattle.covered_items.proofs.Lists.{paths_both}
use Rattle.signature_model.proofs.Plain.{none_and}
use Rattle.signature_model.proofs.ShapeLines.{front_nothing, behind_nothing, map_nothing}

-- A kind of time-stamp that is put in: its name and attributes, those of its token's element, and what is told by them wherever it stands.

pub record StampKind : Type 0 where
  pub name : Name
  pub attributes : List Attribute
  pub token_attributes : List Attribute

abbrev pub stamp_content : StampKind → List ℕ → Nodes
stamp_content kind octets = one_element kind.name kind.attributes (stamp_inner kind.token_attributes octets)

abbrev pub stamp_spot : StampKind → Path → List Tag → ℕ → Spot
stamp_spot kind path tags k = spot_below path tags k kind.name kind.attributes

abbrev pub token_of_spot : StampKind → Spot → Spot
token_of_spot kind property = spot_below property.path property.tags 1 token_name kind.token_attributes

pub record IsStampKind (kind : StampKind) : Type 0 where
  pub is_stamp : (path : Path) (tags : List Tag) (k : ℕ) → parts.is_stamp (stamp_spot kind path tags k) ≡ true
  pub certificates : (path : Path) (tags : List Tag) (k : ℕ) → is_called (xades (codes "CertificateValues")) (stamp_spot kind path tags k) ≡ false
  pub revocations : (path : Path) (tags : List Tag) (k : ℕ) → is_called (xades (codes "RevocationValues")) (stamp_spot kind path tags k) ≡ false
  pub validation : (path : Path) (tags : List Tag) (k : ℕ) → is_validation_data (stamp_spot kind path tags k) ≡ false
  pub token : (path : Path) (tags : List Tag) (k : ℕ) → is_called (xades (codes "EncapsulatedTimeStamp")) (token_of_spot kind (stamp_spot kind path tags k)) ≡ true
  pub no_method : (path : Path) (tags : List Tag) (k : ℕ) → is_called (ds (codes "CanonicalizationMethod")) (token_of_spot kind (stamp_spot kind path tags k)) ≡ false
  pub no_include : (path : Path) (tags : List Tag) (k : ℕ) → is_called (xades (codes "Include")) (token_of_spot kind (stamp_spot kind path tags k)) ≡ false

module _ (kind : StampKind) (is : IsStampKind kind) (document : Nodes) (signature place : Spot) (octets : List ℕ) (bytes : IsBytes octets) (added : Nodes)
    (one : ManyProperties document added signature place (stamp_content kind octets)) where
  abbrev pub new : Nodes
  new = put_last added place.path document

  abbrev pub property : Spot
  property = stamp_spot kind one.path one.tags one.number

  abbrev pub method_spot : Spot
  method_spot = spot_below property.path property.tags 0 method_name method_attributes

  abbrev token_attributes : List Attribute
  token_attributes = kind.token_attributes

  abbrev pub token_spot : Spot
  token_spot = spot_below property.path property.tags 1 token_name token_attributes

  there : Stands new property (Element kind.name kind.attributes (stamp_inner kind.token_attributes octets))
  there =
      let here : one.number + 0 ≡ one.number = omega arith in
      subst (λ (j : ℕ). Stands new (stamp_spot kind one.path one.tags j) (Element kind.name kind.attributes (stamp_inner kind.token_attributes octets))) here
      (one.stand 0 kind.name kind.attributes (stamp_inner kind.token_attributes octets) refl)

  pub children : elements_in new property ≡ method_spot ∷ token_spot ∷ []
  children = elements_stand new property (Element kind.name kind.attributes (stamp_inner kind.token_attributes octets)) there

  pub property_held : held_at new property.path ≡ emptied_all (stamp_inner kind.token_attributes octets)
  property_held = held_stands new property (Element kind.name kind.attributes (stamp_inner kind.token_attributes octets)) there

  -- what a test keeps of the two children
  kept : (f : Spot → Bool) (b : Bool) → f token_spot ≡ b → filter f (elements_in new property) ≡ filter f (method_spot ∷ []) ++ cond b (token_spot ∷ []) []
  kept f b e = ap (filter f) children ∙ filter-append f (method_spot ∷ []) (token_spot ∷ []) ∙ ap (λ c. filter f (method_spot ∷ []) ++ cond c (token_spot ∷ []) []) e

  method_there : Stands new method_spot (Element method_name method_attributes no_nodes)
  method_there = child_there new property (Element kind.name kind.attributes (stamp_inner kind.token_attributes octets)) there 0 method_name method_attributes no_nodes refl

  token_there : Stands new token_spot (Element token_name token_attributes (encoded octets))
  token_there = child_there new property (Element kind.name kind.attributes (stamp_inner kind.token_attributes octets)) there 1 token_name token_attributes (encoded octets) refl

  pub tokens : token_elements new property ≡ token_spot ∷ []
  tokens = kept (is_called (xades (codes "EncapsulatedTimeStamp"))) true (is.token one.path one.tags one.number)

  pub methods : stamp_method new property ≡ method_spot ∷ []
  methods = ap first (kept (is_called (ds (codes "CanonicalizationMethod"))) false (is.no_method one.path one.tags one.number))

  pub token_octets : octets_in new token_spot ≡ Some octets
  token_octets = ap (λ nodes. skipping (text_among nodes)) (held_stands new token_spot (Element token_name token_attributes (encoded octets)) token_there)
      ∙ ap skipping (text_whole (encode_of standard octets)) ∙ read_back octets bytes

  pub stamps_grow : stamps new signature ≡ stamps document signature ++ property ∷ []
  stamps_grow = ap (filter parts.is_stamp) one.grown ∙ filter_behind parts.is_stamp (properties document signature) property (is.is_stamp one.path one.tags one.number)

  stamps_held : Each (IsHeld document place) (stamps document signature)
  stamps_held = each_map (λ p. IsHeld document place p × (parts.is_stamp p ≡ true)) (IsHeld document place) (stamps document signature) (λ p h. h.0)
      (each_filter (IsHeld document place) parts.is_stamp (properties document signature) one.held)

  stamps_apart : Each (Apart document place) (stamps document signature)
  stamps_apart = each_map (IsHeld document place) (Apart document place) (stamps document signature) (held_apart document place) stamps_held

  -- text that isn't white space, in more elements
  pub stray_more : (xs ys : List Spot) → Each (Apart document place) xs → with_stray_text document xs ≡ [] → with_stray_text new ys ≡ [] → with_stray_text new (xs ++ ys) ≡ []
  stray_more xs ys a e f =
      ap paths (filter-append (λ spot. has_stray_text (held_at new spot.path)) xs ys) ∙ paths_both (filter (λ spot. has_stray_text (held_at new spot.path)) xs) _
      ∙ none_and _ _ (words.stray_stays document added place xs a ∙ e) f

  pub stray_in : (spot : Spot) → has_stray_text (held_at new spot.path) ≡ false → with_stray_text new (spot ∷ []) ≡ []
  stray_in spot e = ap (λ b. paths (cond b (spot ∷ []) [])) e

  -- Methods.

  methods_grow : stamp_methods new signature ≡ stamp_methods document signature ++ method_spot ∷ []
  methods_grow =
      ap (flat_map (stamp_method new)) stamps_grow ∙ flat_map-append (stamp_method new) (stamps document signature) (property ∷ [])
      ∙ ap (λ more. flat_map (stamp_method new) (stamps document signature) ++ more) (append-nil (stamp_method new property) ∙ methods)
      ∙ ap (λ front. front ++ method_spot ∷ []) (flat_same (Apart document place) (stamp_method new) (stamp_method document) (stamps document signature)
      (λ p a. ap first (called_stay document added place (ds (codes "CanonicalizationMethod")) p a)) stamps_apart)

  methods_inside : Each (Inside document place) (stamp_methods document signature)
  methods_inside = each_flat (IsHeld document place) (Inside document place) (stamp_method document) (stamps document signature)
      (λ p h. each_first (Inside document place) _ (filtered_inside document place p (is_called (ds (codes "CanonicalizationMethod"))) (held_inside document place p h))) stamps_held

  methods_apart : Each (Apart document place) (stamp_methods document signature)
  methods_apart = all_inside_apart document place (stamp_methods document signature) methods_inside

  -- Form: each method names a form.
  pub form_again : form_line document signature ≡ [] → method new signature ≡ method document signature → Each (Apart document place) (method document signature) → form_line new signature ≡ []
  form_again e same method_apart =
      let old : List Spot = method document signature ++ stamp_methods document signature in
      let first_part = front_nothing (with_stray_text document (stamp_methods document signature)) _ e in
      let second_part = map_nothing (λ (spot : Spot). spot.path) _ (behind_nothing (with_stray_text document (stamp_methods document signature)) _ e) in
      let t = ap (with_stray_text new) methods_grow
      ∙ stray_more (stamp_methods document signature) (method_spot ∷ []) methods_apart first_part
      (stray_in method_spot (ap has_stray_text (held_stands new method_spot (Element method_name method_attributes no_nodes) method_there))) in
      let formed : is_none (form_in new method_spot) ≡ false = ap (λ (o : Option Form). is_none o) (method_read new property.path property.tags 0 method_there) in
      let old_same : filter (λ spot. is_none (form_in new spot)) old ≡ filter (λ spot. is_none (form_in document spot)) old =
      filter_same (Apart document place) _ _ old (λ spot a. ap (λ (o : Option Form). is_none o) (form_stays document added place spot a))
      (each_append (Apart document place) (method document signature) (stamp_methods document signature) method_apart methods_apart) in
      let f : paths (filter (λ spot. is_none (form_in new spot)) (method new signature ++ stamp_methods new signature)) ≡ [] =
      (λ i. paths (filter (λ spot. is_none (form_in new spot)) (same i ++ methods_grow i)))
      ∙ ap (λ spots. paths (filter (λ spot. is_none (form_in new spot)) spots)) (sym (append_assoc (method document signature) (stamp_methods document signature) (method_spot ∷ [])))
      ∙ ap paths (filter_without (λ spot. is_none (form_in new spot)) old method_spot formed)
      ∙ ap paths (old_same ∙ second_part) in
      none_and _ _ t f

  -- Stamps: what a time-stamp holds.

  flat_more : (f g : Spot → List Spot) → ((p : Spot) → Apart document place p → f p ≡ g p) → flat_map f (stamps new signature) ≡ flat_map g (stamps document signature) ++ f property
  flat_more f g h =
      ap (flat_map f) stamps_grow ∙ flat_map-append f (stamps document signature) (property ∷ [])
      ∙ (λ i. flat_same (Apart document place) f g (stamps document signature) h stamps_apart i ++ append-nil (f property) i)

  further_again : (x : Expanded) → further document x (stamps document signature) ≡ [] → paths (drop 1 (called new x property)) ≡ [] → further new x (stamps new signature) ≡ []
  further_again x e f =
      ap (further new x) stamps_grow ∙ flat_map-append (λ p. paths (drop 1 (called new x p))) (stamps document signature) (property ∷ [])
      ∙ none_and _ _ (words.further_stay document added place x (stamps document signature) stamps_apart ∙ e) (append-nil (paths (drop 1 (called new x property))) ∙ f)

  lacking_again : (x : Expanded) → lacking document x (stamps document signature) ≡ [] → is_empty (called new x property) ≡ false → lacking new x (stamps new signature) ≡ []
  lacking_again x e f =
      ap (lacking new x) stamps_grow ∙ ap paths (filter_without (λ p. is_empty (called new x p)) (stamps document signature) property f)
      ∙ words.lacking_stay document added place x (stamps document signature) stamps_apart ∙ e

  pub stamp_again : stamp_line document signature ≡ [] → stamp_line new signature ≡ []
  stamp_again e =
      let old : List Spot = stamps document signature in
      let token_in : not (is_in_stamp token_spot) ≡ false =
      (λ i. not (is.no_method one.path one.tags one.number i || is.token one.path one.tags one.number i || is_called (xades (codes "Include")) token_spot)) in
      let m = ds (codes "CanonicalizationMethod") in
      let x = xades (codes "EncapsulatedTimeStamp") in
      let p0 = with_stray_text document old in
      let p1 = further document m old in
      let p2 = not_one document x old in
      let p3 = paths (filter (λ child. not (is_in_stamp child)) (flat_map (elements_in document) old)) in
      let p4 = without_value document (flat_map (λ holder. first (token_elements document holder)) old) in
      let r3 = front_nothing (p0 ++ p1 ++ p2 ++ p3) p4 e in
      let f4 = behind_nothing (p0 ++ p1 ++ p2 ++ p3) p4 e in
      let r2 = front_nothing (p0 ++ p1 ++ p2) p3 r3 in
      let f3 = behind_nothing (p0 ++ p1 ++ p2) p3 r3 in
      let r1 = front_nothing (p0 ++ p1) p2 r2 in
      let f2 = behind_nothing (p0 ++ p1) p2 r2 in
      let f0 = front_nothing p0 p1 r1 in
      let f1 = behind_nothing p0 p1 r1 in
      let n0 = ap (with_stray_text new) stamps_grow ∙ stray_more old (property ∷ []) stamps_apart f0 (stray_in property (ap has_stray_text property_held)) in
      let n1 = further_again m f1 (ap (λ spots. paths (drop 1 spots)) (kept (is_called m) false (is.no_method one.path one.tags one.number))) in
      let n2 = none_and _ _ (lacking_again x (front_nothing (lacking document x old) (further document x old) f2) (ap (λ (spots : List Spot). is_empty spots) tokens))
      (further_again x (behind_nothing (lacking document x old) (further document x old) f2) (ap (λ spots. paths (drop 1 spots)) tokens)) in
      let n3 : paths (filter (λ child. not (is_in_stamp child)) (flat_map (elements_in new) (stamps new signature))) ≡ [] =
      ap (λ spots. paths (filter (λ child. not (is_in_stamp child)) spots)) (flat_more (elements_in new) (elements_in document) (λ p a. elements_stay document added place p a))
      ∙ ap paths (filter-append (λ child. not (is_in_stamp child)) (flat_map (elements_in document) old) (elements_in new property))
      ∙ (λ i. paths (map_nothing (λ (spot : Spot). spot.path) _ f3 i ++ kept (λ child. not (is_in_stamp child)) false token_in i)) in
      let token_of : Spot → List Spot = λ holder. first (token_elements document holder) in
      let new_token_of : Spot → List Spot = λ holder. first (token_elements new holder) in
      let tokens_apart = all_inside_apart document place (flat_map token_of old)
      (each_flat (IsHeld document place) (Inside document place) token_of old
      (λ p h. each_first (Inside document place) _ (filtered_inside document place p (is_called x) (held_inside document place p h))) stamps_held) in
      let valued : not (is_text_alone (held_at new token_spot.path)) ≡ false =
      ap (λ nodes. not (is_text_alone nodes)) (held_stands new token_spot (Element token_name token_attributes (encoded octets)) token_there)
      ∙ ap not (text_is_alone (encode_of standard octets)) in
      let n4 : without_value new (flat_map new_token_of (stamps new signature)) ≡ [] =
      ap (without_value new) (flat_more new_token_of token_of (λ p a. ap first (called_stay document added place x p a)) ∙ ap (λ more. flat_map token_of old ++ first more) tokens)
      ∙ ap paths (filter_without (λ spot. not (is_text_alone (held_at new spot.path))) (flat_map token_of old) token_spot valued)
      ∙ words.value_stays document added place (flat_map token_of old) tokens_apart ∙ f4 in
      none_and _ _ (none_and _ _ (none_and _ _ (none_and _ _ n0 n1) n2) n3) n4

  -- No Include.
  pub include_again : includes new signature ≡ includes document signature
  include_again =
      flat_more (called new (xades (codes "Include"))) (called document (xades (codes "Include"))) (λ p a. called_stay document added place (xades (codes "Include")) p a)
      ∙ ap (λ more. includes document signature ++ more) (kept (is_called (xades (codes "Include"))) false (is.no_include one.path one.tags one.number))
      ∙ append-nil (includes document signature)
