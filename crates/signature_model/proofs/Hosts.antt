-- The law for properties, by the host: UnsignedSignatureProperties, UnsignedProperties or QualifyingProperties.
use Rattle.std.proofs.Common.{◌≡◌, true, List, [], ◌∷◌, ◌++◌, refl, sym, ◌∙◌, ap, subst, inl, inr, ◌⊎◌, codes, append_assoc}
use Rattle.std.proofs.lemmas.List.{append-nil}
use Rattle.std.specs.Prelude.{flat_map}
use Rattle.document_model.specs.Names.{Expanded}
use Rattle.document_model.specs.Tree.{Nodes, put_last}
use Rattle.document_model.specs.Insertion.{HasNoIdentifiers}
use Rattle.signature_model.specs.Vocabulary.{ds, xades}
use Rattle.signature_model.specs.Spots.{Spot, is_called, elements_in, called, called_in, first}
use Rattle.signature_model.specs.Parts.{is_qualifying, qualifying_objects, qualifying, unsigned, unsigned_signature, properties, host, objects}
use Rattle.signature_model.specs.Covers.{IsFree}
use Rattle.signature_model.specs.Keeping.{IsSpot, IsSignature, PropertyKeepsCovers}
use Rattle.signature_model.proofs.Standing.{Each, IsChild, children_stand}
use Rattle.signature_model.proofs.Lists.{each_filter, each_map, each_flat, each_first}
use Rattle.signature_model.proofs.Apart.{Apart, IsNamed, named_apart, called_in_stay}
use Rattle.signature_model.proofs.References.{IsOther}
use Rattle.signature_model.proofs.Covered.{Below, IsProperty, free_at_host}
use Rattle.signature_model.proofs.AtHost.{elements_at_host}
use Rattle.signature_model.proofs.PropertyKept.{PropertySetting, PropertiesGrow, IsPart, parts_called, setting_keeps}
use Rattle.signature_model.proofs.PartsStay.{objects_apart, qualifying_objects_stay}

-- Elements below the Object of the properties.

abbrev Inner : Nodes → Spot → Spot → Type 0
Inner document signature spot = IsSpot document spot × Below document signature spot

abbrev pub InnerNamed : Nodes → Spot → Expanded → Spot → Type 0
InnerNamed document signature name spot = IsNamed document name spot × Below document signature spot

child_below : (document : Nodes) (signature holder spot : Spot) → Below document signature holder → IsChild document holder spot → Below document signature spot
child_below document signature holder spot b c = record {
  object = b.object;
  is_child = b.is_child;
  named = b.named;
  qualifies = b.qualifies;
  rest = b.rest ++ c.number.0 ∷ [];
  path = c.number.1 ∙ ap (λ path. path ++ c.number.0 ∷ []) b.path ∙ append_assoc b.object.path b.rest (c.number.0 ∷ []);
}

called_inner : (document : Nodes) (signature : Spot) (name : Expanded) (holders : List Spot) → Each (Inner document signature) holders
    → Each (InnerNamed document signature name) (called_in document name holders)
called_inner document signature name holders h =
    each_flat (Inner document signature) (InnerNamed document signature name) (called document name) holders
    (λ holder i. each_map (λ spot. IsChild document holder spot × (is_called name spot ≡ true)) (InnerNamed document signature name) (called document name holder)
    (λ spot c. (record { stands = c.0.stands; named = c.1 }, child_below document signature holder spot i.1 c.0))
    (each_filter (IsChild document holder) (is_called name) (elements_in document holder) (children_stand document holder i.0))) h

unnamed : (document : Nodes) (signature : Spot) (name : Expanded) (spots : List Spot) → Each (InnerNamed document signature name) spots → Each (Inner document signature) spots
unnamed document signature name spots h = each_map (InnerNamed document signature name) (Inner document signature) spots (λ spot i. (i.0.stands, i.1)) h

objects_inner : (document : Nodes) (signature : Spot) → IsSpot document signature → Each (Inner document signature) (qualifying_objects document signature)
objects_inner document signature s =
    each_map (λ spot. IsPart document signature (ds (codes "Object")) spot × (is_qualifying document spot ≡ true)) (Inner document signature) _
    (λ spot c. (c.0.0.stands, record { object = spot; is_child = c.0.0; named = c.0.1; qualifies = c.1; rest = []; path = sym (append-nil spot.path) }))
    (each_filter (IsPart document signature (ds (codes "Object"))) (is_qualifying document) (objects document signature) (parts_called document signature (ds (codes "Object")) s))

pub qualifying_inner : (document : Nodes) (signature : Spot) → IsSpot document signature
    → Each (InnerNamed document signature (xades (codes "QualifyingProperties"))) (qualifying document signature)
qualifying_inner document signature s =
    each_first (InnerNamed document signature (xades (codes "QualifyingProperties"))) _
    (called_inner document signature (xades (codes "QualifyingProperties")) (first (qualifying_objects document signature))
    (each_first (Inner document signature) _ (objects_inner document signature s)))

pub unsigned_inner : (document : Nodes) (signature : Spot) → IsSpot document signature
    → Each (InnerNamed document signature (xades (codes "UnsignedProperties"))) (unsigned document signature)
unsigned_inner document signature s =
    each_first (InnerNamed document signature (xades (codes "UnsignedProperties"))) _
    (called_inner document signature (xades (codes "UnsignedProperties")) (qualifying document signature)
    (unnamed document signature (xades (codes "QualifyingProperties")) _ (qualifying_inner document signature s)))

pub list_inner : (document : Nodes) (signature : Spot) → IsSpot document signature
    → Each (InnerNamed document signature (xades (codes "UnsignedSignatureProperties"))) (unsigned_signature document signature)
list_inner document signature s =
    each_first (InnerNamed document signature (xades (codes "UnsignedSignatureProperties"))) _
    (called_inner document signature (xades (codes "UnsignedSignatureProperties")) (unsigned document signature)
    (unnamed document signature (xades (codes "UnsignedProperties")) _ (unsigned_inner document signature s)))

-- The host is the first of the three.

no_first : (h : Spot) → [] ≡ h ∷ [] → ⊥
no_first h e = subst IsNone e tt
  where
    IsNone : List Spot → Type 0
    IsNone [] = Unit {0}
    IsNone (x ∷ xs) = ⊥

pub pick : (xs ys zs : List Spot) (h : Spot) → first (first xs ++ first ys ++ first zs) ≡ h ∷ []
    → (first xs ≡ h ∷ []) ⊎ (((first xs ≡ []) × (first ys ≡ h ∷ [])) ⊎ ((first xs ≡ []) × (first ys ≡ []) × (first zs ≡ h ∷ [])))
pick (x ∷ xs) ys zs h e = inl e
pick [] (y ∷ ys) zs h e = inr (inl (refl, e))
pick [] [] (z ∷ zs) h e = inr (inr (refl, refl, e))
pick [] [] [] h e = absurd (no_first h e)

-- The setting, for a host with one of the three names.

pub setting_of : (document added : Nodes) (signature place : Spot) (host_name : Expanded) → IsSignature document signature → IsOther host_name → IsProperty host_name
    → InnerNamed document signature host_name place → host document signature ≡ place ∷ [] → IsFree document signature → HasNoIdentifiers added
    → PropertySetting document added signature place host_name
setting_of document added signature place host_name s other names i e free n = record {
  setting = record {
    signature_named = record { stands = s.stands; named = s.named };
    place_named = i.0;
    other = other;
    no_identifiers = n;
    unreached = free_at_host document signature place e free;
  };
  names = names;
  below = i.1;
}

pub at_place : (document : Nodes) (signature place : Spot) (name : Expanded) (spots : List Spot) → Each (InnerNamed document signature name) spots → spots ≡ place ∷ [] → InnerNamed document signature name place
at_place document signature place name spots h e = (subst (Each (InnerNamed document signature name)) e h).0

-- without a list of properties there is no property
none_grow : (document added : Nodes) (signature place : Spot) → unsigned_signature document signature ≡ [] → PropertiesGrow document added signature place
none_grow document added signature place e =
    let none : properties document signature ≡ [] = ap (flat_map (elements_in document)) e in record {
      more = properties (put_last added place.path document) signature;
      grown = ap (λ spots. spots ++ properties (put_last added place.path document) signature) (sym none);
      held = subst (Each (IsChild document place)) (sym none) tt;
    }

-- the list of properties is the host
list_grows : (document added : Nodes) (signature place : Spot) → PropertySetting document added signature place (xades (codes "UnsignedSignatureProperties"))
    → unsigned_signature document signature ≡ place ∷ [] → PropertiesGrow document added signature place
list_grows document added signature place s e =
    let new : Nodes = put_last added place.path document in
    let name : Expanded = xades (codes "UnsignedSignatureProperties") in
    let stands = s.setting.signature_named.stands in
    let q : qualifying new signature ≡ qualifying document signature =
    ap (λ spots. first (called_in new (xades (codes "QualifyingProperties")) (first spots))) (qualifying_objects_stay document added signature place name s.setting refl)
    ∙ ap first (called_in_stay document added place (xades (codes "QualifyingProperties")) (first (qualifying_objects document signature))
    (each_first (Apart document place) _
    (each_map (λ spot. Apart document place spot × (is_qualifying document spot ≡ true)) (Apart document place) _ (λ spot a. a.0)
    (each_filter (Apart document place) (is_qualifying document) (objects document signature) (objects_apart document added signature place name s.setting refl))))) in
    let q_apart : Each (Apart document place) (qualifying document signature) =
    each_map (InnerNamed document signature (xades (codes "QualifyingProperties"))) (Apart document place) _
    (λ spot i. named_apart document place (xades (codes "QualifyingProperties")) name s.setting.place_named refl spot i.0) (qualifying_inner document signature stands) in
    let u : unsigned new signature ≡ unsigned document signature =
    ap (λ spots. first (called_in new (xades (codes "UnsignedProperties")) spots)) q
    ∙ ap first (called_in_stay document added place (xades (codes "UnsignedProperties")) (qualifying document signature) q_apart) in
    let u_apart : Each (Apart document place) (unsigned document signature) =
    each_map (InnerNamed document signature (xades (codes "UnsignedProperties"))) (Apart document place) _
    (λ spot i. named_apart document place (xades (codes "UnsignedProperties")) name s.setting.place_named refl spot i.0) (unsigned_inner document signature stands) in
    let l : unsigned_signature new signature ≡ unsigned_signature document signature =
    ap (λ spots. first (called_in new name spots)) u
    ∙ ap first (called_in_stay document added place name (unsigned document signature) u_apart) in
    let old : properties document signature ≡ elements_in document place = ap (flat_map (elements_in document)) e ∙ append-nil (elements_in document place) in
    let grown = elements_at_host document added place s.setting.place_named.stands in
    record {
      more = grown.0;
      grown = ap (flat_map (elements_in new)) (l ∙ e) ∙ append-nil (elements_in new place) ∙ grown.1 ∙ ap (λ spots. spots ++ grown.0) (sym old);
      held = subst (Each (IsChild document place)) (sym old) (children_stand document place s.setting.place_named.stands);
    }

pub property_keeps_covers : PropertyKeepsCovers
property_keeps_covers handed document added signature place s e free n =
    elim (pick (called_in document (xades (codes "UnsignedSignatureProperties")) (unsigned document signature))
    (called_in document (xades (codes "UnsignedProperties")) (qualifying document signature))
    (called_in document (xades (codes "QualifyingProperties")) (first (qualifying_objects document signature))) place e) [
      | inl l ↦ let name : Expanded = xades (codes "UnsignedSignatureProperties") in
          let setting = setting_of document added signature place name s (record { signature = refl; signed_info = refl; method = refl; reference = refl; transforms = refl; transform = refl })
          (record { value = refl; object = refl; token = refl }) (at_place document signature place name _ (list_inner document signature s.stands) l) e free n in
          setting_keeps handed document added signature place name setting (list_grows document added signature place setting l)
      | inr r ↦ elim r [
        | inl u ↦ let name : Expanded = xades (codes "UnsignedProperties") in
            setting_keeps handed document added signature place name
            (setting_of document added signature place name s (record { signature = refl; signed_info = refl; method = refl; reference = refl; transforms = refl; transform = refl })
            (record { value = refl; object = refl; token = refl }) (at_place document signature place name _ (unsigned_inner document signature s.stands) u.1) e free n)
            (none_grow document added signature place u.0)
        | inr q ↦ let name : Expanded = xades (codes "QualifyingProperties") in
            setting_keeps handed document added signature place name
            (setting_of document added signature place name s (record { signature = refl; signed_info = refl; method = refl; reference = refl; transforms = refl; transform = refl })
            (record { value = refl; object = refl; token = refl }) (at_place document signature place name _ (qualifying_inner document signature s.stands) q.2) e free n)
            (none_grow document added signature place q.0)
      ]
    ]
