-- The identifiers of the prepared signature.
use Rattle.std.proofs.Common.{◌≡◌, ℕ, suc, Bool, true, false, cond, not, ◌&&◌, ◌||◌, List, [], ◌∷◌, ◌++◌, refl, ◌∙◌, ap, codes}
use Rattle.std.specs.List.{list_any}
use Rattle.base64.specs.GeneralPurpose.{encode_of}
use Rattle.base64.specs.Engines.{standard}
use Rattle.document_model.specs.Characters.{◌is◌, is_empty}
use Rattle.document_model.specs.Items.{Attribute}
use Rattle.document_model.specs.Tree.{Node, Nodes, Path, Element, Text, Comment, Instruction, no_nodes, ◌⨾◌, joined}
use Rattle.document_model.specs.NodeSets.{is_identifier, once_each, identified, identified_in}
use Rattle.signature_model.specs.Vocabulary.{DigestKind}
use Rattle.signature_model.specs.Chains.{Place, Document, Named, External, place_named}
use Rattle.signature_model.specs.Fragments.{text, encoded, ds_element, xades_element, having}
use Rattle.signature_model.specs.Prepared.{Draft, digest_nodes, reference_id, properties_id, transform_nodes, reference_nodes, references_from, last_reference, mime_type, formats_from, first_certificate}
use Rattle.signature_model.proofs.Lists.{neither}
use Rattle.signature_model.proofs.Plain.{is_id_name}
use Rattle.signature_model.proofs.Plain.{none_and}
use Rattle.prepared_documents.specs.Places.{signature_attributes}
use Rattle.prepared_documents.proofs.Reading.{ds_named, properties_attributes, qualifying_attributes, info_inner, certificate_nodes, properties_inner, signature_inner}

abbrev pub carries_it : List ℕ → Attribute → Bool
carries_it x a = is_id_name a && (a.value is x)

abbrev mutual
  pub carried : List ℕ → Nodes → Bool
  carried x no_nodes = false
  carried x (node ⨾ nodes) = carried_in x node || carried x nodes

  pub carried_in : List ℕ → Node → Bool
  carried_in x (Element name attributes nodes) = list_any (carries_it x) attributes || carried x nodes
  carried_in x (Text cs) = false
  carried_in x (Comment cs) = false
  carried_in x (Instruction target content) = false

regroup : (a b c d : Bool) → ((b && d) && c) ≡ false → (a && b && c && d) ≡ false
regroup false b c d e = refl
regroup true false c d e = refl
regroup true true false d e = refl
regroup true true true true e = e
regroup true true true false e = refl

not_identifier : (x : List ℕ) (a : Attribute) → carries_it x a ≡ false → is_identifier x a ≡ false
not_identifier x a e = regroup (not (is_empty x)) (is_empty a.name.prefix) (a.value is x) _ e

none_once : (x : List ℕ) (path : Path) (attributes : List Attribute) → list_any (carries_it x) attributes ≡ false → once_each x path attributes ≡ []
none_once x path [] e = refl
none_once x path (a ∷ attributes) e =
    let h = neither (carries_it x a) (list_any (carries_it x) attributes) e in
    ap (λ b. cond b (path ∷ once_each x path attributes) (once_each x path attributes)) (not_identifier x a h.0) ∙ none_once x path attributes h.1

mutual
  pub none_identified : (x : List ℕ) (path : Path) (k : ℕ) (nodes : Nodes) → carried x nodes ≡ false → identified x path k nodes ≡ []
  none_identified x path k no_nodes e = refl
  none_identified x path k (node ⨾ nodes) e =
      let h = neither (carried_in x node) (carried x nodes) e in
      none_and (identified_in x (path ++ k ∷ []) node) (identified x path (suc k) nodes)
      (none_identified_in x (path ++ k ∷ []) node h.0) (none_identified x path (suc k) nodes h.1)

  pub none_identified_in : (x : List ℕ) (path : Path) (node : Node) → carried_in x node ≡ false → identified_in x path node ≡ []
  none_identified_in x path (Element name attributes nodes) e =
      let h = neither (list_any (carries_it x) attributes) (carried x nodes) e in
      none_and (once_each x path attributes) (identified x path 0 nodes)
      (none_once x path attributes h.0) (none_identified x path 0 nodes h.1)
  none_identified_in x path (Text cs) e = refl
  none_identified_in x path (Comment cs) e = refl
  none_identified_in x path (Instruction target content) e = refl

-- The pieces of the signature.

both_not : (a b : Bool) → a ≡ false → b ≡ false → (a || b) ≡ false
both_not a b e f = λ i. e i || f i

joined_not : (x : List ℕ) (a b : Nodes) → carried x a ≡ false → carried x b ≡ false → carried x (joined a b) ≡ false
joined_not x no_nodes b e f = f
joined_not x (Element name attributes inner ⨾ a) b e f = let h = neither (carried_in x (Element name attributes inner)) (carried x a) e in
    both_not _ _ h.0 (joined_not x a b h.1 f)
joined_not x (Comment cs ⨾ a) b e f = joined_not x a b e f
joined_not x (Instruction target content ⨾ a) b e f = joined_not x a b e f
joined_not x (Text cs ⨾ next ⨾ a) b e f = joined_not x (next ⨾ a) b e f
joined_not x (Text cs ⨾ no_nodes) no_nodes e f = refl
joined_not x (Text cs ⨾ no_nodes) (Text ds ⨾ b) e f = f
joined_not x (Text cs ⨾ no_nodes) (Element name attributes inner ⨾ b) e f = f
joined_not x (Text cs ⨾ no_nodes) (Comment ds ⨾ b) e f = f
joined_not x (Text cs ⨾ no_nodes) (Instruction target content ⨾ b) e f = f

text_not : (x cs : List ℕ) → carried x (text cs) ≡ false
text_not x [] = refl
text_not x (c ∷ cs) = refl

-- an element without attributes
plain_ds : (x local : List ℕ) (inner : Nodes) → carried x inner ≡ false → carried x (ds_element local [] inner) ≡ false
plain_ds x local inner e = λ i. e i || false

plain_xades : (x local : List ℕ) (inner : Nodes) → carried x inner ≡ false → carried x (xades_element local [] inner) ≡ false
plain_xades x local inner e = λ i. e i || false

digest_not : (x : List ℕ) (kind : DigestKind) (value : List ℕ) → carried x (digest_nodes kind value) ≡ false
digest_not x kind value = plain_ds x (codes "DigestValue") (encoded value) (text_not x (encode_of standard value))

transforms_not : (x : List ℕ) (p : Place) → carried x (transform_nodes p) ≡ false
transforms_not x Document = refl
transforms_not x (Named identifier) = refl
transforms_not x External = refl

-- no Reference has it as its identifier
abbrev pub NoReference : List ℕ → Draft → ℕ → List (List ℕ) → Type 0
NoReference x draft k [] = Unit {0}
NoReference x draft k (uri ∷ uris) = ((reference_id draft.id k is x) ≡ false) × NoReference x draft (suc k) uris

reference_not : (x : List ℕ) (draft : Draft) (k : ℕ) (uri value : List ℕ) → (reference_id draft.id k is x) ≡ false → carried x (reference_nodes draft k uri value) ≡ false
reference_not x draft k uri value e =
    let inner = joined_not x (transform_nodes (place_named uri)) (digest_nodes draft.digest value) (transforms_not x (place_named uri)) (digest_not x draft.digest value) in
    λ i. ((e i || false) || inner i) || false

references_not : (x : List ℕ) (draft : Draft) (digest_of : List ℕ → List ℕ) (k : ℕ) (uris : List (List ℕ)) → NoReference x draft k uris → carried x (references_from draft digest_of k uris) ≡ false
references_not x draft digest_of k [] n = refl
references_not x draft digest_of k (uri ∷ uris) n =
    joined_not x (reference_nodes draft k uri (digest_of uri)) (references_from draft digest_of (suc k) uris) (reference_not x draft k uri (digest_of uri) n.0) (references_not x draft digest_of (suc k) uris n.1)

last_not : (x : List ℕ) (draft : Draft) (value : List ℕ) → carried x (last_reference draft value) ≡ false
last_not x draft value = let inner = digest_not x draft.digest value in λ i. inner i || false

pub info_not : (x : List ℕ) (digest_of : List ℕ → List ℕ) (value : List ℕ) (draft : Draft) → NoReference x draft 1 draft.references → carried x (info_inner digest_of value draft) ≡ false
info_not x digest_of value draft n =
    joined_not x (references_from draft digest_of 1 draft.references) (last_reference draft value) (references_not x draft digest_of 1 draft.references n) (last_not x draft value)

pub certificates_not : (x : List ℕ) (certificates : List (List ℕ)) → carried x (certificate_nodes certificates) ≡ false
certificates_not x [] = refl
certificates_not x (octets ∷ others) =
    joined_not x (ds_element (codes "X509Certificate") [] (encoded octets)) (certificate_nodes others)
    (plain_ds x (codes "X509Certificate") (encoded octets) (text_not x (encode_of standard octets))) (certificates_not x others)

formats_not : (x : List ℕ) (draft : Draft) (k : ℕ) (uris : List (List ℕ)) → carried x (formats_from draft k uris) ≡ false
formats_not x draft k [] = refl
formats_not x draft k (uri ∷ uris) =
    both_not _ _ (plain_xades x (codes "MimeType") (text (mime_type (place_named uri))) (text_not x (mime_type (place_named uri)))) (formats_not x draft (suc k) uris)

pub signed_not : (x : List ℕ) (digest : List ℕ → List ℕ) (draft : Draft) → carried x (properties_inner digest draft) ≡ false
signed_not x digest draft =
    let t = text_not x draft.time in
    let d = digest_not x draft.digest (digest (first_certificate draft)) in
    let f = formats_not x draft 1 draft.references in
    λ i. (t i || (((d i || false) || false) || false)) || (f i || false)

-- an identifier that is none of the signature's
pub record IsOther (x : List ℕ) (draft : Draft) : Type 0 where
  pub own : (draft.id is x) ≡ false
  pub properties : (properties_id draft.id is x) ≡ false
  pub references : NoReference x draft 1 draft.references

pub signature_not : (x : List ℕ) (digest digest_of : List ℕ → List ℕ) (value : List ℕ) (draft : Draft) → IsOther x draft
    → carried_in x (Element (ds_named (codes "Signature")) (signature_attributes draft) (signature_inner digest digest_of value draft)) ≡ false
signature_not x digest digest_of value draft o =
    let a = o.own in
    let p = o.properties in
    let i_ = info_not x digest_of value draft o.references in
    let c = certificates_not x draft.certificates in
    let s = signed_not x digest draft in
    λ i. (a i || false) || (i_ i || ((c i || false) || ((((((p i || false) || s i) || false) || false)) || false)))

-- the identifier of the SignedProperties stands there alone

once_there : (x : List ℕ) (path : Path) (a : Attribute) → is_identifier x a ≡ true → once_each x path (a ∷ []) ≡ path ∷ []
once_there x path a e = ap (λ b. cond b (path ∷ []) []) e

pub record IsProperties (draft : Draft) : Type 0 where
  pub some : is_empty (properties_id draft.id) ≡ false
  pub own : (draft.id is properties_id draft.id) ≡ false
  pub same : (properties_id draft.id is properties_id draft.id) ≡ true
  pub references : NoReference (properties_id draft.id) draft 1 draft.references

pub properties_found : (path : Path) (digest digest_of : List ℕ → List ℕ) (value : List ℕ) (draft : Draft) → IsProperties draft
    → identified_in (properties_id draft.id) path (Element (ds_named (codes "Signature")) (signature_attributes draft) (signature_inner digest digest_of value draft))
    ≡ (((path ++ 3 ∷ []) ++ 0 ∷ []) ++ 0 ∷ []) ∷ []
properties_found path digest digest_of value draft h =
    let x : List ℕ = properties_id draft.id in
    let sp : Path = ((path ++ 3 ∷ []) ++ 0 ∷ []) ++ 0 ∷ [] in
    let a : once_each x path (signature_attributes draft) ≡ [] = none_once x path (signature_attributes draft) (λ i. h.own i || false) in
    let f : identified x (path ++ 0 ∷ []) 0 (info_inner digest_of value draft) ≡ [] = none_identified x (path ++ 0 ∷ []) 0 (info_inner digest_of value draft) (info_not x digest_of value draft h.references) in
    let k : identified x (path ++ 2 ∷ []) 0 (ds_element (codes "X509Data") [] (certificate_nodes draft.certificates)) ≡ [] =
    none_identified x (path ++ 2 ∷ []) 0 (ds_element (codes "X509Data") [] (certificate_nodes draft.certificates)) (plain_ds x (codes "X509Data") (certificate_nodes draft.certificates) (certificates_not x draft.certificates)) in
    let q : once_each x ((path ++ 3 ∷ []) ++ 0 ∷ []) (qualifying_attributes draft) ≡ [] = none_once x ((path ++ 3 ∷ []) ++ 0 ∷ []) (qualifying_attributes draft) refl in
    let p : once_each x sp (properties_attributes draft) ≡ sp ∷ [] = once_there x sp (having (codes "Id") (properties_id draft.id)) (λ i. ((not (h.some i) && true) && h.same i) && true) in
    let s : identified x sp 0 (properties_inner digest draft) ≡ [] = none_identified x sp 0 (properties_inner digest draft) (signed_not x digest draft) in
    λ i. a i ++ (f i ++ (k i ++ (((q i ++ ((p i ++ s i) ++ [])) ++ []) ++ [])))
