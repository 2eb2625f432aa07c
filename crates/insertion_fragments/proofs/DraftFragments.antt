-- The prepared signature is such nodes.
use Rattle.std.proofs.Common.{◌≡◌, ℕ, zero, suc, ◌/◌, ◌%◌, ◌<◌, Bool, true, false, cond, not, ◌&&◌, List, [], ◌∷◌, ◌++◌, None, refl, sym, ap, subst, arith, nat_eq, codes}
use Rattle.std.proofs.lemmas.Bool.{and_from}
use Rattle.std.proofs.lemmas.Bool.Decides.{nat_tests}
use Rattle.std.specs.List.{list_all}
use Rattle.std.specs.Fmt.{decimal, digits, digits_onto, digit_glyph}
use Rattle.std.specs.Char.{encode_utf8}
use Rattle.document_model.specs.Characters.{is_empty}
use Rattle.document_model.specs.Items.{Attribute}
use Rattle.document_model.specs.Tree.{Nodes, Path, no_nodes, joined, put_last}
use Rattle.document_model.specs.Scopes.{Tag, is_sound, declared_space, tags_at}
use Rattle.document_model.specs.Documents.{document_of, fault}
use Rattle.document_model.specs.Insertion.{put_inside}
use Rattle.document_model.specs.Methods.{exclusive_name}
use Rattle.signature_model.specs.Vocabulary.{DigestKind, digest_name, ds_space, xades_space, enveloped_name, signed_properties_type, fragment}
use Rattle.signature_model.specs.Vocabulary.{Sha256, Sha384, Sha512}
use Rattle.signature_model.specs.Chains.{Place, Document, Named, External, place_named, is_external, Handed}
use Rattle.signature_model.specs.Fragments.{prefixed, having, declaring, ds_element, xades_element, text, encoded, each, written_octets}
use Rattle.signature_model.specs.Prepared.{Draft, algorithm, digest_nodes, reference_id, enveloped_transform, transform_nodes, reference_nodes, references_from, properties_id, last_reference, mime_type, formats_from, first_certificate, properties_nodes, signature_nodes, prepared_nodes, root_path}
use Rattle.insertions.specs.Content.{IsContent, nodes_of_content, SpellsWithin}
use Rattle.insertions.proofs.Law.{content_spelled}
use Rattle.insertions.proofs.Quiet.{all_both}
use Rattle.insertion_fragments.specs.Fragment.{may_write, IsSimpleName, IsFragment}
use Rattle.base64.specs.GeneralPurpose.{IsBytes}
use Rattle.covered_items.specs.Whole.{EachBytes}
use Rattle.insertion_fragments.specs.Drafts.{EachWritable, IsWritable, PreparedIsSpelled, GivesBytes}
use Rattle.insertion_fragments.proofs.DocumentElement.{root_is}
use Rattle.insertion_fragments.proofs.WrittenNodes.{are_content}
use Rattle.insertion_fragments.proofs.ItemFragments.{simple_name, encoded_fragment, text_fragment, own_first}

-- digits

glyph : (n : ℕ) → may_write (digit_glyph false (n % 10)) ≡ true
glyph n = low (n % 10) (omega arith)
  where
    low : (d : ℕ) → d < 10 → may_write (digit_glyph false d) ≡ true
    low d h = grind (arith, nat_tests)

onto_writes : (k n : ℕ) (acc : List ℕ) → list_all may_write acc ≡ true → list_all may_write (digits_onto k 10 false n acc) ≡ true
onto_writes zero n acc h = h
onto_writes (suc k) n acc h =
    let more : list_all may_write (digit_glyph false (n % 10) ∷ acc) ≡ true = and_from (may_write (digit_glyph false (n % 10))) (list_all may_write acc) (glyph n) h in
    either (onto_writes k (n / 10) (digit_glyph false (n % 10) ∷ acc) more) more (nat_eq (n / 10) 0)
  where
    either : list_all may_write (digits_onto k 10 false (n / 10) (digit_glyph false (n % 10) ∷ acc)) ≡ true → list_all may_write (digit_glyph false (n % 10) ∷ acc) ≡ true → (b : Bool)
        → list_all may_write (cond b (digit_glyph false (n % 10) ∷ acc) (digits_onto k 10 false (n / 10) (digit_glyph false (n % 10) ∷ acc))) ≡ true
    either f g true = g
    either f g false = f

decimal_writes : (n : ℕ) → list_all may_write (decimal n) ≡ true
unfolding digits
decimal_writes n = onto_writes 64 n [] refl

-- elements with the prefix `ds`, in a scope that has it

abbrev Has : List ℕ → List Tag → Type 0
Has prefix tags = is_empty (declared_space prefix tags) ≡ false

sound : (b : Bool) → b ≡ false → ((not b && true) && true) ≡ true
sound b h = ap (λ b. (not b && true) && true) h

abbrev ds_name : List ℕ → Type 0
ds_name local = IsSimpleName (prefixed (codes "ds") local)

ds_plain : (tags : List Tag) (local : List ℕ) (inner : Nodes) → ds_name local → Has (codes "ds") tags → IsFragment (record { name = prefixed (codes "ds") local; attributes = [] } ∷ tags) inner
    → IsFragment tags (ds_element local [] inner)
unfolding is_sound encode_utf8
ds_plain tags local inner n h f = ((n, tt, omega arith, sound _ h, f), tt)

xades_plain : (tags : List Tag) (local : List ℕ) (inner : Nodes) → IsSimpleName (prefixed (codes "xades") local) → Has (codes "xades") tags
    → IsFragment (record { name = prefixed (codes "xades") local; attributes = [] } ∷ tags) inner → IsFragment tags (xades_element local [] inner)
unfolding is_sound encode_utf8
xades_plain tags local inner n h f = ((n, tt, omega arith, sound _ h, f), tt)

algorithm_is : (tags : List Tag) (local name : List ℕ) → ds_name local → Has (codes "ds") tags → list_all may_write name ≡ true → IsFragment tags (algorithm local name)
unfolding is_sound encode_utf8
algorithm_is tags local name n h w = ((n, (simple_name _ refl refl, w, tt), omega arith, sound _ h, tt), tt)

digest_name_writes : (kind : DigestKind) → list_all may_write (digest_name kind) ≡ true
digest_name_writes Sha256 = refl
digest_name_writes Sha384 = refl
digest_name_writes Sha512 = refl

digest_is : (tags : List Tag) (kind : DigestKind) (value : List ℕ) → Has (codes "ds") tags → IsBytes value → IsFragment tags (digest_nodes kind value)
digest_is tags kind value h b = (
  (algorithm_is tags (codes "DigestMethod") (digest_name kind) (simple_name _ refl refl) h (digest_name_writes kind)).0,
  ds_plain tags (codes "DigestValue") (encoded value) (simple_name _ refl refl) h (encoded_fragment _ value b),
)

-- the scope of an element

abbrev in_ds : List ℕ → List Attribute → List Tag → List Tag
in_ds local attributes tags = record { name = prefixed (codes "ds") local; attributes = attributes } ∷ tags

abbrev in_xades : List ℕ → List Attribute → List Tag → List Tag
in_xades local attributes tags = record { name = prefixed (codes "xades") local; attributes = attributes } ∷ tags

-- References

exclusive_is : (tags : List Tag) → Has (codes "ds") tags → IsFragment tags (algorithm (codes "Transform") exclusive_name)
exclusive_is tags h = algorithm_is tags (codes "Transform") exclusive_name (simple_name _ refl refl) h refl

enveloped_is : (tags : List Tag) (place : Place) → Has (codes "ds") tags → IsFragment tags (joined (enveloped_transform place) (algorithm (codes "Transform") exclusive_name))
enveloped_is tags Document h = ((algorithm_is tags (codes "Transform") enveloped_name (simple_name _ refl refl) h refl).0, exclusive_is tags h)
enveloped_is tags (Named identifier) h = exclusive_is tags h
enveloped_is tags External h = exclusive_is tags h

transforms_then : (tags : List Tag) (place : Place) (behind : Nodes) → Has (codes "ds") tags → IsFragment tags behind → IsFragment tags (joined (transform_nodes place) behind)
transforms_then tags place behind h f = go (is_external place)
  where
    go : (b : Bool) → IsFragment tags (joined (cond b no_nodes (ds_element (codes "Transforms") [] (joined (enveloped_transform place) (algorithm (codes "Transform") exclusive_name)))) behind)
    go true = f
    go false = ((ds_plain tags (codes "Transforms") (joined (enveloped_transform place) (algorithm (codes "Transform") exclusive_name)) (simple_name _ refl refl) h (enveloped_is _ place h)).0, f)

reference_writes : (id : List ℕ) (k : ℕ) → list_all may_write id ≡ true → list_all may_write (reference_id id k) ≡ true
reference_writes id k h = all_both may_write (id ++ codes "-r") (decimal k) (all_both may_write id (codes "-r") h refl) (decimal_writes k)

reference_is : (tags : List Tag) (draft : Draft) (k : ℕ) (uri value : List ℕ) → Has (codes "ds") tags → list_all may_write draft.id ≡ true → list_all may_write uri ≡ true → IsBytes value
    → IsFragment tags (reference_nodes draft k uri value)
unfolding is_sound encode_utf8
reference_is tags draft k uri value h i u b = (
  (
    simple_name _ refl refl,
    (simple_name _ refl refl, reference_writes draft.id k i, (simple_name _ refl refl, u, tt)),
    omega arith,
    sound _ h,
    transforms_then _ (place_named uri) (digest_nodes draft.digest value) h (digest_is _ draft.digest value h b),
  ),
  tt,
)

references_then : (tags : List Tag) (draft : Draft) (digest_of : List ℕ → List ℕ) (k : ℕ) (uris : List (List ℕ)) (behind : Nodes) → Has (codes "ds") tags → list_all may_write draft.id ≡ true
    → EachWritable uris → ((uri : List ℕ) → IsBytes (digest_of uri)) → IsFragment tags behind → IsFragment tags (joined (references_from draft digest_of k uris) behind)
references_then tags draft digest_of k [] behind h i w b f = f
references_then tags draft digest_of k (uri ∷ uris) behind h i w b f =
    ((reference_is tags draft k uri (digest_of uri) h i w.0 (b uri)).0, references_then tags draft digest_of (suc k) uris behind h i w.1 b f)

last_is : (tags : List Tag) (draft : Draft) (value : List ℕ) → Has (codes "ds") tags → list_all may_write draft.id ≡ true → IsBytes value → IsFragment tags (last_reference draft value)
unfolding is_sound encode_utf8
last_is tags draft value h i b =
    let inner : List Tag = in_ds (codes "Reference") (having (codes "Type") signed_properties_type ∷ having (codes "URI") (fragment (properties_id draft.id)) ∷ []) tags in (
      (
        simple_name _ refl refl,
        (simple_name _ refl refl, refl, (simple_name _ refl refl, all_both may_write draft.id (codes "-sp") i refl, tt)),
        omega arith,
        sound _ h,
        ((ds_plain inner (codes "Transforms") (algorithm (codes "Transform") exclusive_name) (simple_name _ refl refl) h (exclusive_is (in_ds (codes "Transforms") [] inner) h)).0, digest_is inner draft.digest value h b),
      ),
      tt,
    )

-- Properties

mime_is : (tags : List Tag) (place : Place) → IsFragment tags (text (mime_type place))
mime_is tags place = go (is_external place)
  where
    go : (b : Bool) → IsFragment tags (text (cond b (codes "application/octet-stream") (codes "text/xml")))
    go true = text_fragment tags (codes "application/octet-stream") refl
    go false = text_fragment tags (codes "text/xml") refl

formats_are : (tags : List Tag) (draft : Draft) (k : ℕ) (uris : List (List ℕ)) → Has (codes "xades") tags → list_all may_write draft.id ≡ true → IsFragment tags (formats_from draft k uris)
unfolding is_sound encode_utf8
formats_are tags draft k [] h i = tt
formats_are tags draft k (uri ∷ uris) h i = (
  (
    simple_name _ refl refl,
    (simple_name _ refl refl, reference_writes draft.id k i, tt),
    omega arith,
    sound _ h,
    xades_plain _ (codes "MimeType") (text (mime_type (place_named uri))) (simple_name _ refl refl) h (mime_is _ (place_named uri)),
  ),
  formats_are tags draft (suc k) uris h i,
)

properties_are : (tags : List Tag) (digest : List ℕ → List ℕ) (draft : Draft) → Has (codes "xades") tags → Has (codes "ds") tags → IsWritable draft → ((octets : List ℕ) → IsBytes (digest octets))
    → IsFragment tags (properties_nodes digest draft)
unfolding is_sound encode_utf8
properties_are tags digest draft h d w b =
    let inner : List Tag = in_xades (codes "SignedProperties") (having (codes "Id") (properties_id draft.id) ∷ []) tags in
    let signed : List Tag = in_xades (codes "SignedSignatureProperties") [] inner in
    let certificate : List Tag = in_xades (codes "SigningCertificateV2") [] signed in
    let one : List Tag = in_xades (codes "Cert") [] certificate in
    let value : List ℕ = digest (first_certificate draft) in
    let time = xades_plain signed (codes "SigningTime") (text draft.time) (simple_name _ refl refl) h (text_fragment (in_xades (codes "SigningTime") [] signed) draft.time w.time_simple) in
    let digested = xades_plain one (codes "CertDigest") (digest_nodes draft.digest value) (simple_name _ refl refl) h (digest_is (in_xades (codes "CertDigest") [] one) draft.digest value d (b (first_certificate draft))) in
    let cert = xades_plain certificate (codes "Cert") (xades_element (codes "CertDigest") [] (digest_nodes draft.digest value)) (simple_name _ refl refl) h digested in
    let signing = xades_plain signed (codes "SigningCertificateV2") (xades_element (codes "Cert") [] (xades_element (codes "CertDigest") [] (digest_nodes draft.digest value))) (simple_name _ refl refl) h cert in
    let list : Nodes = joined (xades_element (codes "SigningTime") [] (text draft.time))
    (xades_element (codes "SigningCertificateV2") [] (xades_element (codes "Cert") [] (xades_element (codes "CertDigest") [] (digest_nodes draft.digest value)))) in
    let first = xades_plain inner (codes "SignedSignatureProperties") list (simple_name _ refl refl) h (time.0, signing) in
    let second = xades_plain inner (codes "SignedDataObjectProperties") (formats_from draft 1 draft.references) (simple_name _ refl refl) h
    (formats_are (in_xades (codes "SignedDataObjectProperties") [] inner) draft 1 draft.references h w.id_writable) in
    ((simple_name _ refl refl, (simple_name _ refl refl, all_both may_write draft.id (codes "-sp") w.id_writable refl, tt), omega arith, sound _ h, (first.0, second)), tt)

-- The signature

keys_are : (tags : List Tag) (xs : List (List ℕ)) → Has (codes "ds") tags → EachBytes xs → IsFragment tags (each (λ octets. ds_element (codes "X509Certificate") [] (encoded octets)) xs)
keys_are tags [] h b = tt
keys_are tags (x ∷ xs) h b = ((ds_plain tags (codes "X509Certificate") (encoded x) (simple_name _ refl refl) h (encoded_fragment _ x b.0)).0, keys_are tags xs h b.1)

signature_is : (tags : List Tag) (digest digest_of : List ℕ → List ℕ) (value : List ℕ) (draft : Draft) → IsWritable draft → ((octets : List ℕ) → IsBytes (digest octets)) → ((uri : List ℕ) → IsBytes (digest_of uri))
    → IsBytes value → IsFragment tags (signature_nodes digest digest_of value draft)
unfolding is_sound encode_utf8
signature_is tags digest digest_of value draft w b c v =
    let top : List Tag = in_ds (codes "Signature") (declaring (codes "ds") ds_space ∷ having (codes "Id") draft.id ∷ []) tags in
    let info : List Tag = in_ds (codes "SignedInfo") [] top in
    let key : List Tag = in_ds (codes "KeyInfo") [] top in
    let data_scope : List Tag = in_ds (codes "X509Data") [] key in
    let object : List Tag = in_ds (codes "Object") [] top in
    let qualifying : List Tag = in_xades (codes "QualifyingProperties") (declaring (codes "xades") xades_space ∷ having (codes "Target") (fragment draft.id) ∷ []) object in
    let canonical = algorithm_is info (codes "CanonicalizationMethod") exclusive_name (simple_name _ refl refl) refl refl in
    let method = algorithm_is info (codes "SignatureMethod") draft.method (simple_name _ refl refl) refl w.method_writable in
    let last = last_is info draft value refl w.id_writable v in
    let references = references_then info draft digest_of 1 draft.references (last_reference draft value) refl w.id_writable w.references_writable c last in
    let signed_info = ds_plain top (codes "SignedInfo") (joined (algorithm (codes "CanonicalizationMethod") exclusive_name) (joined (algorithm (codes "SignatureMethod") draft.method)
    (joined (references_from draft digest_of 1 draft.references) (last_reference draft value)))) (simple_name _ refl refl) refl (canonical.0, (method.0, references)) in
    let signature_value = ds_plain top (codes "SignatureValue") no_nodes (simple_name _ refl refl) refl tt in
    let keys : Nodes = each (λ octets. ds_element (codes "X509Certificate") [] (encoded octets)) draft.certificates in
    let x509 = ds_plain key (codes "X509Data") keys (simple_name _ refl refl) refl (keys_are data_scope draft.certificates refl w.certificates_bytes) in
    let key_info = ds_plain top (codes "KeyInfo") (ds_element (codes "X509Data") [] keys) (simple_name _ refl refl) refl x509 in
    let properties = properties_are qualifying digest draft refl refl w b in
    let inside : IsFragment object (xades_element (codes "QualifyingProperties") (declaring (codes "xades") xades_space ∷ having (codes "Target") (fragment draft.id) ∷ []) (properties_nodes digest draft)) =
    ((simple_name _ refl refl, (simple_name _ refl refl, refl, (simple_name _ refl refl, w.id_writable, tt)), omega arith, refl, properties), tt) in
    let object_is = ds_plain top (codes "Object") (xades_element (codes "QualifyingProperties") (declaring (codes "xades") xades_space ∷ having (codes "Target") (fragment draft.id) ∷ []) (properties_nodes digest draft))
    (simple_name _ refl refl) refl inside in
    ((simple_name _ refl refl, (simple_name _ refl refl, refl, (simple_name _ refl refl, w.id_writable, tt)), omega arith, refl, (signed_info.0, (signature_value.0, (key_info.0, object_is)))), tt)

abbrev Legal : List ℕ → Nodes → List Tag → Type 0
Legal written nodes tags = (c : IsContent tags written) × (nodes_of_content c ≡ nodes)

-- the prepared signature is legal content of the document element
pub prepared_legal : (digest : DigestKind → List ℕ → List ℕ) (handed : Handed) (draft : Draft) (bytes : List ℕ) → GivesBytes digest → IsWritable draft → fault bytes ≡ None
    → Legal (written_octets (prepared_nodes digest handed (document_of bytes) draft)) (prepared_nodes digest handed (document_of bytes) draft) (tags_at (document_of bytes) (root_path 0 (document_of bytes)))
prepared_legal digest handed draft bytes b w none =
    let document : Nodes = document_of bytes in
    let nodes : Nodes = prepared_nodes digest handed document draft in
    let first = own_first document (root_path 0 document) (root_is bytes none) in
    let fragment_is : IsFragment (first.0 ∷ first.1) nodes = signature_is (first.0 ∷ first.1) _ _ _ draft w (b draft.digest) (λ uri. b draft.digest _) (b draft.digest _) in
    subst (Legal (written_octets nodes) nodes) (sym first.2) (are_content first.0 first.1 nodes fragment_is)

pub prepared_spelled : PreparedIsSpelled
prepared_spelled digest handed draft bytes b w none =
    let document : Nodes = document_of bytes in
    let path : Path = root_path 0 document in
    let written : List ℕ = written_octets (prepared_nodes digest handed document draft) in
    let legal = prepared_legal digest handed draft bytes b w none in
    subst (λ n. SpellsWithin (put_inside written path bytes) (put_last n path document)) legal.1 (content_spelled written bytes path none (root_is bytes none) legal.0)
