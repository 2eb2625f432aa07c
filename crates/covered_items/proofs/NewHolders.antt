-- The elements around properties that are put in: their names, what they hold, and what stays.
use Rattle.std.proofs.Common.{◌≡◌, Bool, true, false, cond, not, List, [], ◌∷◌, ◌++◌, refl, sym, ◌∙◌, ap, codes}
use Rattle.std.proofs.lemmas.List.{append-nil}
use Rattle.std.proofs.lemmas.List.Elements.{filter-append}
use Rattle.std.specs.Prelude.{flat_map, filter}
use Rattle.document_model.specs.Characters.{is_empty}
use Rattle.document_model.specs.Names.{Name, Expanded, same_expanded}
use Rattle.document_model.specs.Items.{Attribute}
use Rattle.document_model.specs.Tree.{Nodes, put_last}
use Rattle.signature_model.specs.Vocabulary.{ds, xades, xades_space}
use Rattle.signature_model.specs.Spots.{Spot, is_called, elements_in, called, called_in, first}
use Rattle.signature_model.specs.Parts.{qualifying, unsigned, unsigned_signature, properties, signed_properties}
use Rattle.signature_model.specs.Fragments.{prefixed, declaring, in_property_list, in_unsigned, wrapped}
use Rattle.signature_model.specs.Keeping.{IsSpot}
use Rattle.signature_model.proofs.Outer.{qualifying_stays, qualifying_apart}
use Rattle.signature_model.proofs.Covered.{Setting}
use Rattle.signature_model.proofs.Apart.{called_in_stay}
use Rattle.signature_model.proofs.ShapeLines.{not_nothing}
use Rattle.covered_items.proofs.NewElements.{one_element, new_spot, elements_with_one}

-- The element into which content is put has another name than the Objects, and than what is read of KeyInfo, of the methods and of the
-- signed properties.
pub record IsApart (host_name : Expanded) : Type 0 where
  pub object : same_expanded (ds (codes "Object")) host_name ≡ false
  pub key_info : same_expanded (ds (codes "KeyInfo")) host_name ≡ false
  pub key_data : same_expanded (ds (codes "X509Data")) host_name ≡ false
  pub key_certificate : same_expanded (ds (codes "X509Certificate")) host_name ≡ false
  pub signature_method : same_expanded (ds (codes "SignatureMethod")) host_name ≡ false
  pub digest_method : same_expanded (ds (codes "DigestMethod")) host_name ≡ false
  pub digest_value : same_expanded (ds (codes "DigestValue")) host_name ≡ false
  pub signed_properties : same_expanded (xades (codes "SignedProperties")) host_name ≡ false
  pub signed_signature : same_expanded (xades (codes "SignedSignatureProperties")) host_name ≡ false
  pub signing_certificate : same_expanded (xades (codes "SigningCertificateV2")) host_name ≡ false
  pub cert : same_expanded (xades (codes "Cert")) host_name ≡ false
  pub cert_digest : same_expanded (xades (codes "CertDigest")) host_name ≡ false
  pub signing_time : same_expanded (xades (codes "SigningTime")) host_name ≡ false
  pub signed_data : same_expanded (xades (codes "SignedDataObjectProperties")) host_name ≡ false
  pub format : same_expanded (xades (codes "DataObjectFormat")) host_name ≡ false
  pub mime : same_expanded (xades (codes "MimeType")) host_name ≡ false

-- The names of what is around properties.

abbrev pub list_name : Name
list_name = prefixed (codes "xades") (codes "UnsignedSignatureProperties")

abbrev pub unsigned_name : Name
unsigned_name = prefixed (codes "xades") (codes "UnsignedProperties")

abbrev pub declared : List Attribute
declared = declaring (codes "xades") xades_space ∷ []

pub filter_behind : {A : Type 0} (p : A → Bool) (xs : List A) (x : A) → p x ≡ true → filter p (xs ++ x ∷ []) ≡ filter p xs ++ x ∷ []
filter_behind p xs x e = filter-append p xs (x ∷ []) ∙ ap (λ b. filter p xs ++ cond b (x ∷ []) []) e

pub filter_without : {A : Type 0} (p : A → Bool) (xs : List A) (x : A) → p x ≡ false → filter p (xs ++ x ∷ []) ≡ filter p xs
filter_without p xs x e = filter-append p xs (x ∷ []) ∙ ap (λ b. filter p xs ++ cond b (x ∷ []) []) e ∙ append-nil (filter p xs)

-- where the QualifyingProperties aren't the host
pub signed_stay : (document added : Nodes) (signature place : Spot) (host_name : Expanded) → Setting document added signature place host_name
    → same_expanded (ds (codes "Object")) host_name ≡ false → same_expanded (xades (codes "QualifyingProperties")) host_name ≡ false
    → signed_properties (put_last added place.path document) signature ≡ signed_properties document signature
signed_stay document added signature place host_name s d dq =
    ap (λ spots. first (called_in (put_last added place.path document) (xades (codes "SignedProperties")) spots)) (qualifying_stays document added signature place host_name s d)
    ∙ ap first (called_in_stay document added place (xades (codes "SignedProperties")) (qualifying document signature) (qualifying_apart document added signature place host_name s d dq))

pub first_behind : (xs : List Spot) (x : Spot) → first xs ≡ [] → first (xs ++ x ∷ []) ≡ x ∷ []
first_behind [] x e = refl
first_behind (y ∷ xs) x e = absurd (not_nothing y [] e)

pub first_nothing : (spots : List Spot) → first (spots ++ []) ≡ [] → first spots ≡ []
first_nothing spots e = ap first (sym (append-nil spots)) ∙ e

-- the first element with a name that an element holds is the new one, where it held none
pub called_new : (document : Nodes) (place : Spot) (s : IsSpot document place) (x : Expanded) (name : Name) (attributes : List Attribute) (inner : Nodes)
    → first (called document x place) ≡ [] → is_called x (new_spot place s.element.0 name attributes) ≡ true
    → first (called (put_last (one_element name attributes inner) place.path document) x place) ≡ new_spot place s.element.0 name attributes ∷ []
called_new document place s x name attributes inner none e =
    ap (λ spots. first (filter (is_called x) spots)) (elements_with_one document place s name attributes inner)
    ∙ ap first (filter_behind (is_called x) (elements_in document place) (new_spot place s.element.0 name attributes) e)
    ∙ first_behind (called document x place) (new_spot place s.element.0 name attributes) none

-- without a list of properties there is none
pub none_before : (document : Nodes) (signature : Spot) → unsigned_signature document signature ≡ [] → properties document signature ≡ []
none_before document signature e = ap (flat_map (elements_in document)) e

-- what is wrapped around properties, by what is there
pub wrapped_in : (document : Nodes) (signature : Spot) (nodes : Nodes) (list outer : List Spot) → unsigned_signature document signature ≡ list → unsigned document signature ≡ outer
    → wrapped document signature nodes ≡ cond (not (is_empty list)) nodes (cond (not (is_empty outer)) (in_property_list nodes) (in_unsigned (in_property_list nodes)))
wrapped_in document signature nodes list outer e f =
    λ i. cond (not (is_empty (e i))) nodes (cond (not (is_empty (f i))) (in_property_list nodes) (in_unsigned (in_property_list nodes)))
