-- What time-stamps add to what a signature covers.
use Rattle.std.proofs.Common.{◌≡◌, ℕ, true, cond, List, [], ◌∷◌, ◌++◌, refl, ◌∙◌, ap, subst, codes}
use Rattle.std.proofs.lemmas.List.{append-nil}
use Rattle.base64.specs.GeneralPurpose.{IsBytes}
use Rattle.document_model.specs.Names.{Name}
use Rattle.document_model.specs.Items.{Attribute}
use Rattle.document_model.specs.Tree.{Nodes, put_last}
use Rattle.document_model.specs.Insertion.{HasNoIdentifiers}
use Rattle.signature_model.specs.Vocabulary.{xades_space}
use Rattle.signature_model.specs.Spots.{Spot}
use Rattle.signature_model.specs.Parts.{PropertyKind, SignatureStamp, ArchiveStamp, properties, host, is_signed, kind_of, token, stamp_form}
use Rattle.signature_model.specs.Chains.{Handed}
use Rattle.signature_model.specs.Octets.{octets_of_stamp, octets_at, next_form, next_octets}
use Rattle.signature_model.specs.Covers.{Stamped, stamped_by, stamped, covers, IsFree}
use Rattle.signature_model.specs.Fragments.{Stamp, Archive, with_item, declaring, wrapped, stamp_fragment, archive_fragment, content_of}
use Rattle.signature_model.specs.Keeping.{IsSignature, TakesItem}
use Rattle.signature_model.proofs.Lists.{each_map}
use Rattle.signature_model.proofs.PropertyKept.{Beside, IsHeld, held_beside, stamp_octets_stay, setting_adds}
use Rattle.signature_model.proofs.ItemKept.{put_at}
use Rattle.signature_model.proofs.Plain.{content_plain}
use Rattle.covered_items.proofs.NewElements.{one_element, spot_below, stand_first}
use Rattle.covered_items.proofs.NewProperties.{ManyProperties, many_properties}
use Rattle.covered_items.proofs.StampFragments.{stamp_inner, signature_stamp_name, signature_stamp_attributes, archive_stamp_name, archive_stamp_attributes, stamp_kind, stamp_token, stamp_form_next, archive_kind, archive_token, archive_form_next}

-- a time-stamp that is put in: its kind, its token, and that its form is that of the next one
pub record NewStamp (document added : Nodes) (signature place : Spot) (kind : PropertyKind) (octets : List ℕ) : Type 0 where
  pub name : Name
  pub attributes : List Attribute
  pub inner : Nodes
  pub one : ManyProperties document added signature place (one_element name attributes inner)
  pub kind_is : kind_of (spot_below one.path one.tags one.number name attributes) ≡ kind
  pub token_is : token (put_last added place.path document) (spot_below one.path one.tags one.number name attributes) ≡ octets
  pub form_is : stamp_form (put_last added place.path document) (spot_below one.path one.tags one.number name attributes) ≡ next_form

abbrev pub stamp_spot : {document added : Nodes} {signature place : Spot} {kind : PropertyKind} {octets : List ℕ} → NewStamp document added signature place kind octets → Spot
stamp_spot n = spot_below n.one.path n.one.tags n.one.number n.name n.attributes

-- what it covers is what was next
pub octets_are_next : (handed : Handed) (document added : Nodes) (signature place : Spot) (kind : PropertyKind) (octets : List ℕ)
    → (n : NewStamp document added signature place kind octets)
    → octets_at handed (put_last added place.path document) signature (properties document signature) (spot_below n.one.path n.one.tags n.one.number n.name n.attributes)
    ≡ next_octets kind handed document signature
octets_are_next handed document added signature place kind octets n =
    let new : Nodes = put_last added place.path document in
    (λ i. octets_of_stamp (n.kind_is i) (n.form_is i) handed new signature (properties document signature))
    ∙ stamp_octets_stay kind next_form handed document added signature place n.one.host_name n.one.setting (properties document signature)
    (each_map (IsHeld document place) (Beside document place) (properties document signature) (held_beside document place) n.one.held)

-- a kind that is a time-stamp's
abbrev IsStamped : PropertyKind → List ℕ → List ℕ → Type 0
IsStamped kind token octets = stamped_by kind token octets ≡ Stamped token octets ∷ []

adds : (handed : Handed) (document added : Nodes) (signature place : Spot) (kind : PropertyKind) (octets : List ℕ)
    → NewStamp document added signature place kind octets → is_signed document signature ≡ true → IsStamped kind octets (next_octets kind handed document signature)
    → covers handed (put_last added place.path document) signature ≡ covers handed document signature ++ Stamped octets (next_octets kind handed document signature) ∷ []
adds handed document added signature place kind octets n signed is =
    let new : Nodes = put_last added place.path document in
    let spot : Spot = spot_below n.one.path n.one.tags n.one.number n.name n.attributes in
    let next = octets_are_next handed document added signature place kind octets n in
    let kinds = n.kind_is in
    let tokens = n.token_is in
    let last : stamped handed new signature (properties document signature) (spot ∷ []) ≡ Stamped octets (next_octets kind handed document signature) ∷ [] =
    append-nil (stamped_by (kind_of spot) (token new spot) (octets_at handed new signature (properties document signature) spot))
    ∙ (λ i. stamped_by (kinds i) (tokens i) (next i)) ∙ is in
    setting_adds handed document added signature place n.one.host_name n.one.setting (record { more = spot ∷ []; grown = n.one.grown; held = n.one.held })
    ∙ ap (λ b. covers handed document signature ++ cond b (stamped handed new signature (properties document signature) (spot ∷ [])) []) signed
    ∙ ap (λ entries. covers handed document signature ++ entries) last

-- The two kinds.

pub new_stamp : (document added : Nodes) (signature place : Spot) (octets : List ℕ) → IsBytes octets → added ≡ wrapped document signature (stamp_fragment octets)
    → IsSignature document signature → host document signature ≡ place ∷ [] → IsFree document signature → HasNoIdentifiers added
    → NewStamp document added signature place SignatureStamp octets
new_stamp document added signature place octets b a s e free plain =
    let one = many_properties document added signature place (one_element signature_stamp_name signature_stamp_attributes (stamp_inner [] octets)) tt a s e free plain in
    let new : Nodes = put_last added place.path document in
    let there = stand_first new one.path one.tags one.number signature_stamp_name signature_stamp_attributes (stamp_inner [] octets) one.stand in
    record {
      name = signature_stamp_name;
      attributes = signature_stamp_attributes;
      inner = stamp_inner [] octets;
      one = one;
      kind_is = stamp_kind one.path one.tags one.number;
      token_is = stamp_token new one.path one.tags one.number octets b there;
      form_is = stamp_form_next new one.path one.tags one.number octets there;
    }

pub new_archive : (document added : Nodes) (signature place : Spot) (octets : List ℕ) → IsBytes octets → added ≡ wrapped document signature (archive_fragment octets)
    → IsSignature document signature → host document signature ≡ place ∷ [] → IsFree document signature → HasNoIdentifiers added
    → NewStamp document added signature place ArchiveStamp octets
new_archive document added signature place octets b a s e free plain =
    let inner : Nodes = stamp_inner (declaring (codes "xades") xades_space ∷ []) octets in
    let one = many_properties document added signature place (one_element archive_stamp_name archive_stamp_attributes inner) tt a s e free plain in
    let new : Nodes = put_last added place.path document in
    let there = stand_first new one.path one.tags one.number archive_stamp_name archive_stamp_attributes inner one.stand in
    record {
      name = archive_stamp_name;
      attributes = archive_stamp_attributes;
      inner = inner;
      one = one;
      kind_is = archive_kind one.path one.tags one.number;
      token_is = archive_token new one.path one.tags one.number octets b there;
      form_is = archive_form_next new one.path one.tags one.number octets there;
    }

pub stamp_covers : (handed : Handed) (document : Nodes) (signature : Spot) (token : List ℕ) → IsBytes token → TakesItem document signature (Stamp token)
    → covers handed (with_item document signature (Stamp token)) signature ≡ covers handed document signature ++ Stamped token (next_octets SignatureStamp handed document signature) ∷ []
stamp_covers handed document signature token b t =
    let content : Nodes = content_of document signature (Stamp token) in
    let place : Spot = t.property_place.0 in
    let P : Nodes → Type 0 = λ new. covers handed new signature ≡ covers handed document signature ++ Stamped token (next_octets SignatureStamp handed document signature) ∷ [] in
    subst P (put_at document content (host document signature) place t.property_place.1)
    (adds handed document content signature place SignatureStamp token
    (new_stamp document content signature place token b refl t.is_signature t.property_place.1 t.free (content_plain document signature (Stamp token))) t.may refl)

pub archive_covers : (handed : Handed) (document : Nodes) (signature : Spot) (token : List ℕ) → IsBytes token → TakesItem document signature (Archive token)
    → covers handed (with_item document signature (Archive token)) signature ≡ covers handed document signature ++ Stamped token (next_octets ArchiveStamp handed document signature) ∷ []
archive_covers handed document signature token b t =
    let content : Nodes = content_of document signature (Archive token) in
    let place : Spot = t.property_place.0 in
    let P : Nodes → Type 0 = λ new. covers handed new signature ≡ covers handed document signature ++ Stamped token (next_octets ArchiveStamp handed document signature) ∷ [] in
    subst P (put_at document content (host document signature) place t.property_place.1)
    (adds handed document content signature place ArchiveStamp token
    (new_archive document content signature place token b refl t.is_signature t.property_place.1 t.free (content_plain document signature (Archive token))) t.may refl)
