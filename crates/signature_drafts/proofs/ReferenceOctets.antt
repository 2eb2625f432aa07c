-- References in octets.
use Rattle.std.proofs.Common.{◌≡◌, ℕ, suc, ◌+◌, ◌<◌, ◌≤◌, List, [], ◌∷◌, ◌++◌, length, get_or, drop, refl, sym, ◌∙◌, ap, append_assoc, arith, codes}
use Rattle.std.proofs.lemmas.List.{append-nil, drop_more, drop_all}
use Rattle.std.specs.Char.{encode_utf8}
use Rattle.std.specs.Fmt.{decimal}
use Rattle.algorithms.specs.DigestKind.{uri_of}
use Rattle.algorithms.specs.declared.digest_kinds.DigestKind as code
use Rattle.algorithms.specs.declared.digest_kinds.DigestKind.TheVariants as kinds
use Rattle.document_model.specs.Items.{Attribute}
use Rattle.document_model.specs.Tree.{Nodes, no_nodes}
use Rattle.signature_model.specs.Vocabulary.{digest_name, fragment, signed_properties_type}
use Rattle.signature_model.specs.Chains.{Place, Document, Named, External, place_named}
use Rattle.signature_model.specs.Fragments.{written_octets, prefixed, having, ds_element, encoded, ◌then◌}
use Rattle.signature_model.specs.Prepared.{Draft, algorithm, digest_nodes, transform_nodes, reference_id, reference_nodes, references_from, properties_id, last_reference}
use Rattle.signature_elements.specs.DigestKinds.{kind_in}
use Rattle.signature_drafts.specs.Properties.{attributes_octets, digest_with}
use Rattle.signature_drafts.specs.Uris.{target_at}
use Rattle.signature_drafts.specs.declared.uris.UriTarget.TheVariants as targets
use Rattle.signature_drafts.proofs.Written.{quoted, each_attribute, element_octets, joined_octets, each_joined, joins}
use Rattle.signature_drafts.proofs.QuotedTexts.{quoted_append, quoted_decimal}

pub whole_transforms : written_octets (transform_nodes Document) ≡ codes "<ds:Transforms><ds:Transform Algorithm=\"http://www.w3.org/2000/09/xmldsig#enveloped-signature\"></ds:Transform><ds:Transform Algorithm=\"http://www.w3.org/2001/10/xml-exc-c14n#\"></ds:Transform></ds:Transforms>"
unfolding encode_utf8
whole_transforms = refl

pub named_transforms : (identifier : List ℕ) → written_octets (transform_nodes (Named identifier)) ≡ codes "<ds:Transforms><ds:Transform Algorithm=\"http://www.w3.org/2001/10/xml-exc-c14n#\"></ds:Transform></ds:Transforms>"
unfolding encode_utf8
named_transforms identifier = refl

pub quoted_id : (id : List ℕ) (k : ℕ) → quoted (reference_id id k) ≡ quoted id ++ (codes "-r" ++ decimal k)
unfolding encode_utf8
quoted_id id k =
    quoted_append (id ++ codes "-r") (decimal k) ∙ (λ i. quoted_append id (codes "-r") i ++ quoted_decimal k i) ∙ append_assoc (quoted id) (codes "-r") (decimal k)

pub method_octets : (uri : List ℕ) → written_octets (algorithm (codes "SignatureMethod") uri)
    ≡ joins (codes "<ds:SignatureMethod Algorithm=\"" ∷ quoted uri ∷ codes "\"></ds:SignatureMethod>" ∷ [])
unfolding encode_utf8
method_octets uri = element_octets (prefixed (codes "ds") (codes "SignatureMethod")) (having (codes "Algorithm") uri ∷ []) no_nodes

pub digest_octets : (ds : List Attribute) (name value : List ℕ) → written_octets (digest_with ds name value)
    ≡ joins (codes "<ds:DigestMethod" ∷ attributes_octets ds ∷ codes " Algorithm=\"" ∷ quoted name ∷ codes "\"></ds:DigestMethod><ds:DigestValue" ∷ attributes_octets ds ∷ codes ">"
    ∷ written_octets (encoded value) ∷ codes "</ds:DigestValue>" ∷ [])
unfolding encode_utf8
digest_octets ds name value =
    let method : Nodes = ds_element (codes "DigestMethod") (ds ++ having (codes "Algorithm") name ∷ []) no_nodes in
    let told : Nodes = ds_element (codes "DigestValue") ds (encoded value) in
    let first : written_octets method ≡ codes "<ds:DigestMethod" ++ (attributes_octets ds ++ (codes " Algorithm=\"" ++ (quoted name ++ codes "\"></ds:DigestMethod>"))) =
    element_octets (prefixed (codes "ds") (codes "DigestMethod")) (ds ++ having (codes "Algorithm") name ∷ []) no_nodes
    ∙ ap (λ x. codes "<ds:DigestMethod" ++ x) (each_joined ds (having (codes "Algorithm") name ∷ []) (codes "></ds:DigestMethod>")) in
    let second : written_octets told ≡ codes "<ds:DigestValue" ++ (attributes_octets ds ++ (codes ">" ++ (written_octets (encoded value) ++ codes "</ds:DigestValue>"))) =
    element_octets (prefixed (codes "ds") (codes "DigestValue")) ds (encoded value)
    ∙ ap (λ x. codes "<ds:DigestValue" ++ x) (ap (λ a. each_attribute a (codes ">" ++ (written_octets (encoded value) ++ codes "</ds:DigestValue>"))) (sym (append-nil ds)) ∙ each_joined ds [] (codes ">" ++ (written_octets (encoded value) ++ codes "</ds:DigestValue>"))) in
    joined_octets method told ∙ (λ i. first i ++ second i)
    ∙ regroup (codes "<ds:DigestMethod") (attributes_octets ds) (codes " Algorithm=\"") (quoted name) (codes "\"></ds:DigestMethod>") (codes "<ds:DigestValue" ++ (attributes_octets ds ++ (codes ">" ++ (written_octets (encoded value) ++ codes "</ds:DigestValue>"))))
  where
    regroup : (a b c d e rest : List ℕ) → (a ++ (b ++ (c ++ (d ++ e)))) ++ rest ≡ a ++ (b ++ (c ++ (d ++ (e ++ rest))))
    regroup a b c d e rest = simp append_assoc

-- a digest in the signature: no declarations
pub plain_digest : (name value : List ℕ) → written_octets (digest_with [] name value) ≡ written_octets (algorithm (codes "DigestMethod") name then ds_element (codes "DigestValue") [] (encoded value))
plain_digest name value = refl

pub reference_octets : (draft : Draft) (k : ℕ) (uri value : List ℕ) → written_octets (reference_nodes draft k uri value)
    ≡ joins (codes "<ds:Reference Id=\"" ∷ quoted draft.id ∷ codes "-r" ∷ decimal k ∷ codes "\" URI=\"" ∷ quoted uri ∷ codes "\">" ∷ written_octets (transform_nodes (place_named uri))
    ∷ written_octets (digest_nodes draft.digest value) ∷ codes "</ds:Reference>" ∷ [])
unfolding encode_utf8
reference_octets draft k uri value =
    let transforms : Nodes = transform_nodes (place_named uri) in
    let told : Nodes = digest_nodes draft.digest value in
    let end : List ℕ = codes "</ds:Reference>" in
    element_octets (prefixed (codes "ds") (codes "Reference")) (having (codes "Id") (reference_id draft.id k) ∷ having (codes "URI") uri ∷ []) (transforms then told)
    ∙ (λ i. codes "<ds:Reference Id=\"" ++ (quoted_id draft.id k i ++ (codes "\" URI=\"" ++ (quoted uri ++ (codes "\">" ++ (joined_octets transforms told i ++ end))))))
    ∙ regroup (codes "<ds:Reference Id=\"") (quoted draft.id) (codes "-r") (decimal k) (codes "\" URI=\"") (quoted uri) (codes "\">") (written_octets transforms) (written_octets told) end
  where
    regroup : (a b c d e f g h i j : List ℕ) → a ++ ((b ++ (c ++ d)) ++ (e ++ (f ++ (g ++ ((h ++ i) ++ j))))) ≡ joins (a ∷ b ∷ c ∷ d ∷ e ∷ f ∷ g ∷ h ∷ i ∷ j ∷ [])
    regroup a b c d e f g h i j = simp (append_assoc, append-nil)

pub last_octets : (draft : Draft) (value : List ℕ) → written_octets (last_reference draft value)
    ≡ joins (codes "<ds:Reference Type=\"http://uri.etsi.org/01903#SignedProperties\" URI=\"#" ∷ quoted draft.id
    ∷ codes "-sp\"><ds:Transforms><ds:Transform Algorithm=\"http://www.w3.org/2001/10/xml-exc-c14n#\"></ds:Transform></ds:Transforms>" ∷ written_octets (digest_nodes draft.digest value) ∷ codes "</ds:Reference>" ∷ [])
unfolding encode_utf8
last_octets draft value =
    let transforms : Nodes = transform_nodes (Named []) in
    let told : Nodes = digest_nodes draft.digest value in
    let end : List ℕ = codes "</ds:Reference>" in
    let front : List ℕ = codes "<ds:Reference Type=\"http://uri.etsi.org/01903#SignedProperties\" URI=\"#" in
    element_octets (prefixed (codes "ds") (codes "Reference")) (having (codes "Type") signed_properties_type ∷ having (codes "URI") (fragment (properties_id draft.id)) ∷ []) (transforms then told)
    ∙ (λ i. front ++ (quoted_append draft.id (codes "-sp") i ++ (codes "\">" ++ (joined_octets transforms told i ++ end))))
    ∙ regroup front (quoted draft.id) (codes "-sp") (codes "\">") (codes "<ds:Transforms><ds:Transform Algorithm=\"http://www.w3.org/2001/10/xml-exc-c14n#\"></ds:Transform></ds:Transforms>") (written_octets told) end
  where
    regroup : (a b c d e f g : List ℕ) → a ++ ((b ++ c) ++ (d ++ ((e ++ f) ++ g))) ≡ a ++ (b ++ (c ++ (d ++ (e ++ (f ++ (g ++ []))))))
    regroup a b c d e f g = simp (append_assoc, append-nil)

-- names of digest algorithms stand for themselves
pub uri_named : (kind : code.DigestKind) → uri_of kind ≡ quoted (digest_name (kind_in kind))
unfolding encode_utf8
uri_named kinds.Sha256 = refl
uri_named kinds.Sha384 = refl
uri_named kinds.Sha512 = refl

-- by what the URI names
pub document_transforms : (place : Place) → target_at place ≡ targets.Document → written_octets (transform_nodes place) ≡ codes "<ds:Transforms><ds:Transform Algorithm=\"http://www.w3.org/2000/09/xmldsig#enveloped-signature\"></ds:Transform><ds:Transform Algorithm=\"http://www.w3.org/2001/10/xml-exc-c14n#\"></ds:Transform></ds:Transforms>"
document_transforms Document e = whole_transforms
document_transforms (Named identifier) e = cc
document_transforms External e = cc

pub element_transforms : (place : Place) → target_at place ≡ targets.Element → written_octets (transform_nodes place) ≡ codes "<ds:Transforms><ds:Transform Algorithm=\"http://www.w3.org/2001/10/xml-exc-c14n#\"></ds:Transform></ds:Transforms>"
element_transforms Document e = cc
element_transforms (Named identifier) e = named_transforms identifier
element_transforms External e = cc

-- References one after another

pub references_end : (draft : Draft) (digest_of : List ℕ → List ℕ) (k n : ℕ) (uris : List (List ℕ)) (out whole : List ℕ) → length uris ≤ n
    → out ++ written_octets (references_from draft digest_of k (drop n uris)) ≡ whole → out ≡ whole
references_end draft digest_of k n uris out whole h e =
    sym (append-nil out) ∙ ap (λ x. out ++ written_octets (references_from draft digest_of k x)) (sym (drop_all n uris h)) ∙ e

pub references_more : (draft : Draft) (digest_of : List ℕ → List ℕ) (n : ℕ) (uris : List (List ℕ)) (uri value out new whole : List ℕ) → n < length uris → uri ≡ get_or uris n [] → value ≡ digest_of (get_or uris n [])
    → new ≡ out ++ written_octets (reference_nodes draft (n + 1) uri value) → out ++ written_octets (references_from draft digest_of (n + 1) (drop n uris)) ≡ whole
    → new ++ written_octets (references_from draft digest_of (n + 1 + 1) (drop (n + 1) uris)) ≡ whole
references_more draft digest_of n uris uri value out new whole h g d e f =
    let u : List ℕ = get_or uris n [] in
    let one : Nodes = reference_nodes draft (n + 1) u (digest_of u) in
    let rest : ℕ → Nodes = λ k. references_from draft digest_of k (drop (n + 1) uris) in
    let next : n + 1 + 1 ≡ suc (n + 1) = omega arith in
    let put : new ≡ out ++ written_octets one =
    e ∙ ap (λ x. out ++ written_octets (reference_nodes draft (n + 1) x value)) g ∙ ap (λ x. out ++ written_octets (reference_nodes draft (n + 1) u x)) d in
    ap (λ k. new ++ written_octets (rest k)) next
    ∙ ap (λ x. x ++ written_octets (rest (suc (n + 1)))) put
    ∙ append_assoc out (written_octets one) (written_octets (rest (suc (n + 1))))
    ∙ ap (λ x. out ++ x) (sym (joined_octets one (rest (suc (n + 1)))))
    ∙ ap (λ x. out ++ written_octets (references_from draft digest_of (n + 1) x)) (sym (drop_more uris n [] h))
    ∙ f
