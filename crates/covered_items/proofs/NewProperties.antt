-- Several elements that are put in as properties: the properties are the old ones and these. By the host: UnsignedSignatureProperties,
-- UnsignedProperties or QualifyingProperties.
use Rattle.std.proofs.Common.{◌≡◌, ℕ, false, cond, not, ◌||◌, List, [], ◌∷◌, ◌++◌, refl, sym, ◌∙◌, ap, subst, inl, inr, codes}
use Rattle.std.proofs.lemmas.List.{append-nil}
use Rattle.std.specs.Prelude.{flat_map, filter}
use Rattle.std.specs.List.{list_all}
use Rattle.document_model.specs.Characters.{is_white}
use Rattle.document_model.specs.Names.{Expanded}
use Rattle.document_model.specs.Tree.{Nodes, Path, Element, Text, Comment, Instruction, no_nodes, ◌⨾◌, below, joined, count, put_last}
use Rattle.document_model.specs.Scopes.{Tag}
use Rattle.document_model.specs.Insertion.{HasNoIdentifiers}
use Rattle.signature_model.specs.Vocabulary.{xades}
use Rattle.signature_model.specs.Spots.{Spot, is_called, emptied_all, held_in, has_stray_text, elements_in, called, called_in, first}
use Rattle.signature_model.specs.Parts.{qualifying_objects, qualifying, unsigned, unsigned_signature, properties, signed_properties, host}
use Rattle.signature_model.specs.Holding.{first_misfit, lacks_one, misfits_among, misfits, without_attribute, with_stray_text}
use Rattle.signature_model.specs.Shape.{properties_line}
use Rattle.signature_model.specs.Covers.{IsFree}
use Rattle.signature_model.specs.Fragments.{in_property_list, in_unsigned, wrapped}
use Rattle.signature_model.specs.Keeping.{IsSpot, IsSignature}
use Rattle.signature_model.proofs.Standing.{Each, IsChild, children_stand}
use Rattle.signature_model.proofs.AtHost.{held_at_host}
use Rattle.signature_model.proofs.PropertyKept.{PropertySetting, IsHeld}
use Rattle.signature_model.proofs.Hosts.{setting_of, at_place, pick, qualifying_inner, unsigned_inner, list_inner}
use Rattle.signature_model.proofs.Outer.{qualifying_stays, qualifying_apart, unsigned_stays, unsigned_apart, list_stays}
use Rattle.covered_items.proofs.NewElements.{AreElements, StandAll, spots_from, spot_below, new_spot, elements_with_one, elements_stand, held_stands, child_there, new_stands, stand_within, many_elements, stand_last}
use Rattle.covered_items.proofs.NewHolders.{IsApart, list_name, unsigned_name, declared, filter_without, first_nothing, called_new, none_before, signed_stay, wrapped_in}
use Rattle.covered_items.proofs.HoldingStays as words
use Rattle.covered_items.proofs.PropertiesLine.{stray_one, none_of_one, nothing_first, lone, unless, pair, still_has, HolderSlots, ListSlots, parts_of, line_of, one_holder, of_holder, sp_apart}

-- Text in an element that gets elements.

pub no_stray : (content : Nodes) → AreElements content → has_stray_text (emptied_all content) ≡ false
no_stray no_nodes a = refl
no_stray (Element name attributes inner ⨾ nodes) a = no_stray nodes a
no_stray (Text cs ⨾ nodes) a = absurd a
no_stray (Comment cs ⨾ nodes) a = absurd a
no_stray (Instruction target content ⨾ nodes) a = absurd a

stray_joined : (content : Nodes) → AreElements content → (nodes : Nodes) → has_stray_text (emptied_all (joined nodes content)) ≡ has_stray_text (emptied_all nodes)
stray_joined content a no_nodes = no_stray content a
stray_joined content a (Element n b i ⨾ nodes) = stray_joined content a nodes
stray_joined content a (Comment cs ⨾ nodes) = stray_joined content a nodes
stray_joined content a (Instruction target c ⨾ nodes) = stray_joined content a nodes
stray_joined content a (Text cs ⨾ next ⨾ nodes) = ap (λ b. not (list_all is_white cs) || b) (stray_joined content a (next ⨾ nodes))
stray_joined no_nodes a (Text cs ⨾ no_nodes) = refl
stray_joined (Element n b i ⨾ content) a (Text cs ⨾ no_nodes) = ap (λ b. not (list_all is_white cs) || b) (no_stray content a)
stray_joined (Text es ⨾ content) a (Text cs ⨾ no_nodes) = absurd a
stray_joined (Comment es ⨾ content) a (Text cs ⨾ no_nodes) = absurd a
stray_joined (Instruction target c ⨾ content) a (Text cs ⨾ no_nodes) = absurd a

host_many_stray : (document : Nodes) (place : Spot) (s : IsSpot document place) (content : Nodes) → AreElements content
    → with_stray_text document (place ∷ []) ≡ [] → with_stray_text (put_last content place.path document) (place ∷ []) ≡ []
host_many_stray document place s content a e =
    stray_one (put_last content place.path document) place
    (ap has_stray_text (held_at_host document content place.path s.element)
    ∙ stray_joined content a (below s.element.0)
    ∙ ap has_stray_text (sym (ap held_in s.element.1)) ∙ none_of_one document place e)

-- What is put in as properties, whatever the host.
pub record ManyProperties (document added : Nodes) (signature place : Spot) (content : Nodes) : Type 0 where
  pub host_name : Expanded
  pub setting : PropertySetting document added signature place host_name
  pub path : Path
  pub tags : List Tag
  pub number : ℕ
  pub grown : properties (put_last added place.path document) signature ≡ properties document signature ++ spots_from path tags number content
  pub held : Each (IsHeld document place) (properties document signature)
  pub apart : IsApart host_name
  pub signed : signed_properties (put_last added place.path document) signature ≡ signed_properties document signature
  pub stand : StandAll (put_last added place.path document) path tags number content
  pub around : properties_line document signature ≡ [] → properties_line (put_last added place.path document) signature ≡ []

-- the list of properties is the host
many_in_list : (document : Nodes) (signature place : Spot) (content : Nodes) → AreElements content
    → PropertySetting document content signature place (xades (codes "UnsignedSignatureProperties"))
    → unsigned_signature document signature ≡ place ∷ [] → ManyProperties document content signature place content
many_in_list document signature place content elements s l =
    let new : Nodes = put_last content place.path document in
    let host_name = xades (codes "UnsignedSignatureProperties") in
    let stands = s.setting.place_named.stands in
    let list = list_stays document content signature place host_name s.setting (record { object = refl; qualifying = refl; unsigned = refl }) in
    let old : properties document signature ≡ elements_in document place = ap (flat_map (elements_in document)) l ∙ append-nil (elements_in document place) in
    let signed_ = signed_stay document content signature place host_name s.setting refl refl in
    let q = qualifying_stays document content signature place host_name s.setting refl in
    let u = unsigned_stays document content signature place host_name s.setting refl refl in
    let qa = qualifying_apart document content signature place host_name s.setting refl refl in
    let ua = unsigned_apart document content signature place host_name s.setting (record { object = refl; qualifying = refl; unsigned = refl }) in
    let sa = sp_apart document content signature place host_name s refl in
    record {
      host_name = host_name;
      setting = s;
      path = place.path;
      tags = place.tags;
      number = count (below stands.element.0);
      grown = ap (flat_map (elements_in new)) (list ∙ l) ∙ append-nil (elements_in new place) ∙ many_elements document place stands content elements
          ∙ ap (λ spots. spots ++ spots_from place.path place.tags (count (below stands.element.0)) content) (sym old);
      held = subst (Each (IsChild document place)) (sym old) (children_stand document place stands);
      apart = record { object = refl; key_info = refl; key_data = refl; key_certificate = refl; signature_method = refl; digest_method = refl; digest_value = refl; signed_properties = refl; signed_signature = refl; signing_certificate = refl; cert = refl; cert_digest = refl; signing_time = refl; signed_data = refl; format = refl; mime = refl };
      signed = signed_;
      stand = stand_last document place stands content elements;
      around = λ e.
          let p = parts_of document signature e in
          line_of new signature (record {
            q_text = ap (with_stray_text new) q ∙ words.stray_stays document content place (qualifying document signature) qa ∙ p.q_text;
            s_text = ap (with_stray_text new) signed_ ∙ words.stray_stays document content place (signed_properties document signature) sa ∙ p.s_text;
            u_text = ap (with_stray_text new) u ∙ words.stray_stays document content place (unsigned document signature) ua ∙ p.u_text;
            l_text = ap (with_stray_text new) (list ∙ l) ∙ host_many_stray document place stands content elements (sym (ap (with_stray_text document) l) ∙ p.l_text);
            holder = ap (misfits new HolderSlots) q ∙ words.misfits_stay document content place HolderSlots (qualifying document signature) qa ∙ p.holder;
            id = ap (without_attribute (codes "Id")) signed_ ∙ p.id;
            list = ap (misfits new ListSlots) u ∙ words.misfits_stay document content place ListSlots (unsigned document signature) ua ∙ p.list;
          });
    }

-- UnsignedProperties is the host
many_in_unsigned : (document : Nodes) (signature place : Spot) (content : Nodes) → AreElements content
    → PropertySetting document (in_property_list content) signature place (xades (codes "UnsignedProperties"))
    → unsigned_signature document signature ≡ [] → unsigned document signature ≡ place ∷ []
    → ManyProperties document (in_property_list content) signature place content
many_in_unsigned document signature place content elements s l u =
    let added : Nodes = in_property_list content in
    let new : Nodes = put_last added place.path document in
    let host_name = xades (codes "UnsignedProperties") in
    let x = xades (codes "UnsignedSignatureProperties") in
    let stands = s.setting.place_named.stands in
    let list : Spot = new_spot place stands.element.0 list_name declared in
    let list_there = new_stands document place stands list_name declared content in
    let none : first (called document x place) ≡ [] = first_nothing _ (sym (ap (λ spots. first (called_in document x spots)) u) ∙ l) in
    let un : unsigned new signature ≡ place ∷ [] = unsigned_stays document added signature place host_name s.setting refl refl ∙ u in
    let is_list : unsigned_signature new signature ≡ list ∷ [] =
    ap (λ spots. first (called_in new x spots)) un ∙ ap first (append-nil (called new x place)) ∙ called_new document place stands x list_name declared content none refl in
    let signed_ = signed_stay document added signature place host_name s.setting refl refl in
    let q = qualifying_stays document added signature place host_name s.setting refl in
    let qa = qualifying_apart document added signature place host_name s.setting refl refl in
    let sa = sp_apart document added signature place host_name s refl in
    record {
      host_name = host_name;
      setting = s;
      path = list.path;
      tags = list.tags;
      number = 0;
      grown = ap (flat_map (elements_in new)) is_list ∙ append-nil (elements_in new list)
          ∙ elements_stand new list (Element list_name declared content) list_there
          ∙ ap (λ spots. spots ++ spots_from list.path list.tags 0 content) (sym (none_before document signature l));
      held = subst (Each (IsChild document place)) (sym (none_before document signature l)) tt;
      apart = record { object = refl; key_info = refl; key_data = refl; key_certificate = refl; signature_method = refl; digest_method = refl; digest_value = refl; signed_properties = refl; signed_signature = refl; signing_certificate = refl; cert = refl; cert_digest = refl; signing_time = refl; signed_data = refl; format = refl; mime = refl };
      signed = signed_;
      stand = stand_within new list list_name declared content list_there;
      around = λ e.
          let p = parts_of document signature e in
          line_of new signature (record {
            q_text = ap (with_stray_text new) q ∙ words.stray_stays document added place (qualifying document signature) qa ∙ p.q_text;
            s_text = ap (with_stray_text new) signed_ ∙ words.stray_stays document added place (signed_properties document signature) sa ∙ p.s_text;
            u_text = ap (with_stray_text new) un ∙ host_many_stray document place stands added tt (sym (ap (with_stray_text document) u) ∙ p.u_text);
            l_text = ap (with_stray_text new) is_list ∙ stray_one new list (ap has_stray_text (held_stands new list (Element list_name declared content) list_there) ∙ no_stray content elements);
            holder = ap (misfits new HolderSlots) q ∙ words.misfits_stay document added place HolderSlots (qualifying document signature) qa ∙ p.holder;
            id = ap (without_attribute (codes "Id")) signed_ ∙ p.id;
            list = of_holder new ListSlots (unsigned new signature) place un
                (ap (misfits_among ListSlots place) (elements_with_one document place stands list_name declared content)
                ∙ lone x (elements_in document place) list (one_holder document ListSlots (unsigned document signature) place u p.list) (nothing_first (called document x place) none) refl);
          });
    }

-- QualifyingProperties is the host
many_in_qualifying : (document : Nodes) (signature place : Spot) (content : Nodes) → AreElements content
    → PropertySetting document (in_unsigned (in_property_list content)) signature place (xades (codes "QualifyingProperties"))
    → unsigned_signature document signature ≡ [] → unsigned document signature ≡ [] → qualifying document signature ≡ place ∷ []
    → ManyProperties document (in_unsigned (in_property_list content)) signature place content
many_in_qualifying document signature place content elements s l u q =
    let in_list_ : Nodes = in_property_list content in
    let added : Nodes = in_unsigned in_list_ in
    let new : Nodes = put_last added place.path document in
    let host_name = xades (codes "QualifyingProperties") in
    let x = xades (codes "UnsignedProperties") in
    let y = xades (codes "UnsignedSignatureProperties") in
    let stands = s.setting.place_named.stands in
    let holder_ : Spot = new_spot place stands.element.0 unsigned_name declared in
    let holder_there = new_stands document place stands unsigned_name declared in_list_ in
    let list_ : Spot = spot_below holder_.path holder_.tags 0 list_name declared in
    let list_there = child_there new holder_ (Element unsigned_name declared in_list_) holder_there 0 list_name declared content refl in
    let none : first (called document x place) ≡ [] = first_nothing _ (sym (ap (λ spots. first (called_in document x spots)) q) ∙ u) in
    let sa = sp_apart document added signature place host_name s refl in
    let qn : qualifying new signature ≡ place ∷ [] = qualifying_stays document added signature place host_name s.setting refl ∙ q in
    let un : unsigned new signature ≡ holder_ ∷ [] =
    ap (λ spots. first (called_in new x spots)) qn ∙ ap first (append-nil (called new x place)) ∙ called_new document place stands x unsigned_name declared in_list_ none refl in
    let children : elements_in new holder_ ≡ list_ ∷ [] = elements_stand new holder_ (Element unsigned_name declared in_list_) holder_there in
    let ln : unsigned_signature new signature ≡ list_ ∷ [] =
    ap (λ spots. first (called_in new y spots)) un ∙ ap first (append-nil (called new y holder_)) ∙ ap (λ spots. first (filter (is_called y) spots)) children in
    let signed_ : signed_properties new signature ≡ signed_properties document signature =
    ap (λ spots. first (called_in new (xades (codes "SignedProperties")) spots)) qn
    ∙ ap first (append-nil (called new (xades (codes "SignedProperties")) place))
    ∙ ap (λ spots. first (filter (is_called (xades (codes "SignedProperties"))) spots)) (elements_with_one document place stands unsigned_name declared in_list_)
    ∙ ap first (filter_without (is_called (xades (codes "SignedProperties"))) (elements_in document place) holder_ refl)
    ∙ ap first (sym (append-nil (called document (xades (codes "SignedProperties")) place)))
    ∙ ap (λ spots. first (called_in document (xades (codes "SignedProperties")) spots)) (sym q) in
    record {
      host_name = host_name;
      setting = s;
      path = list_.path;
      tags = list_.tags;
      number = 0;
      grown = ap (flat_map (elements_in new)) ln ∙ append-nil (elements_in new list_)
          ∙ elements_stand new list_ (Element list_name declared content) list_there
          ∙ ap (λ spots. spots ++ spots_from list_.path list_.tags 0 content) (sym (none_before document signature l));
      held = subst (Each (IsChild document place)) (sym (none_before document signature l)) tt;
      apart = record { object = refl; key_info = refl; key_data = refl; key_certificate = refl; signature_method = refl; digest_method = refl; digest_value = refl; signed_properties = refl; signed_signature = refl; signing_certificate = refl; cert = refl; cert_digest = refl; signing_time = refl; signed_data = refl; format = refl; mime = refl };
      signed = signed_;
      stand = stand_within new list_ list_name declared content list_there;
      around = λ e.
          let p = parts_of document signature e in
          let was = one_holder document HolderSlots (qualifying document signature) place q p.holder in
          let both = unless (lacks_one HolderSlots (elements_in document place)) place.path (first_misfit HolderSlots (elements_in document place)) was in
          line_of new signature (record {
            q_text = ap (with_stray_text new) qn ∙ host_many_stray document place stands added tt (sym (ap (with_stray_text document) q) ∙ p.q_text);
            s_text = ap (with_stray_text new) signed_ ∙ words.stray_stays document added place (signed_properties document signature) sa ∙ p.s_text;
            u_text = ap (with_stray_text new) un ∙ stray_one new holder_ (ap has_stray_text (held_stands new holder_ (Element unsigned_name declared in_list_) holder_there));
            l_text = ap (with_stray_text new) ln ∙ stray_one new list_ (ap has_stray_text (held_stands new list_ (Element list_name declared content) list_there) ∙ no_stray content elements);
            holder = of_holder new HolderSlots (qualifying new signature) place qn
                (ap (misfits_among HolderSlots place) (elements_with_one document place stands unsigned_name declared in_list_)
                ∙ (λ i. cond (still_has (xades (codes "SignedProperties")) x (elements_in document place) holder_ both.0 i) (place.path ∷ [])
                (pair (xades (codes "SignedProperties")) x (elements_in document place) holder_ both.0 both.1 (nothing_first (called document x place) none) refl i)));
            id = ap (without_attribute (codes "Id")) signed_ ∙ p.id;
            list = of_holder new ListSlots (unsigned new signature) holder_ un (ap (misfits_among ListSlots holder_) children);
          });
    }

-- Whatever the host.
pub many_properties : (document added : Nodes) (signature place : Spot) (content : Nodes) → AreElements content → added ≡ wrapped document signature content
    → IsSignature document signature → host document signature ≡ place ∷ [] → IsFree document signature → HasNoIdentifiers added
    → ManyProperties document added signature place content
many_properties document added signature place content elements a s e free n =
    let P : Nodes → Type 0 = λ nodes. HasNoIdentifiers nodes → ManyProperties document nodes signature place content in
    elim (pick (called_in document (xades (codes "UnsignedSignatureProperties")) (unsigned document signature))
    (called_in document (xades (codes "UnsignedProperties")) (qualifying document signature))
    (called_in document (xades (codes "QualifyingProperties")) (first (qualifying_objects document signature))) place e) [
      | inl l ↦
          let is : added ≡ content = a ∙ wrapped_in document signature content (place ∷ []) (unsigned document signature) l refl in
          subst P (sym is) (λ m. many_in_list document signature place content elements
          (setting_of document content signature place (xades (codes "UnsignedSignatureProperties")) s
          (record { signature = refl; signed_info = refl; method = refl; reference = refl; transforms = refl; transform = refl })
          (record { value = refl; object = refl; token = refl }) (at_place document signature place (xades (codes "UnsignedSignatureProperties")) _ (list_inner document signature s.stands) l) e free m) l) n
      | inr r ↦ elim r [
        | inl u ↦
            let is : added ≡ in_property_list content = a ∙ wrapped_in document signature content [] (place ∷ []) u.0 u.1 in
            subst P (sym is) (λ m. many_in_unsigned document signature place content elements
            (setting_of document (in_property_list content) signature place (xades (codes "UnsignedProperties")) s
            (record { signature = refl; signed_info = refl; method = refl; reference = refl; transforms = refl; transform = refl })
            (record { value = refl; object = refl; token = refl }) (at_place document signature place (xades (codes "UnsignedProperties")) _ (unsigned_inner document signature s.stands) u.1) e free m) u.0 u.1) n
        | inr q ↦
            let is : added ≡ in_unsigned (in_property_list content) = a ∙ wrapped_in document signature content [] [] q.0 q.1 in
            subst P (sym is) (λ m. many_in_qualifying document signature place content elements
            (setting_of document (in_unsigned (in_property_list content)) signature place (xades (codes "QualifyingProperties")) s
            (record { signature = refl; signed_info = refl; method = refl; reference = refl; transforms = refl; transform = refl })
            (record { value = refl; object = refl; token = refl }) (at_place document signature place (xades (codes "QualifyingProperties")) _ (qualifying_inner document signature s.stands) q.2) e free m) q.0 q.1 q.2) n
      ]
    ]
