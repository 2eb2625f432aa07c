-- All that a signature says stays right once it has taken an item, so it needs to be judged but once.
use Rattle.std.proofs.Common.{◌≡◌, ℕ, ℤ, suc, Bool, true, false, not, List, [], ◌∷◌, ◌++◌, Option, Some, None, refl, sym, ◌∙◌, ap, subst, codes}
use Rattle.std.specs.Option.{option_map_or}
use Rattle.std.specs.Prelude.{is_none, unwrap_or}
use Rattle.attached_lists.specs.Accepted.{IsAccepted, IsReadFile}
use Rattle.attached_lists.proofs.Files.{item_spelled}
use Rattle.attached_items.proofs.AllItems.{item_is_read_again}
use Rattle.base64.specs.GeneralPurpose.{IsBytes}
use Rattle.covered_items.specs.Whole.{IsWholeItem}
use Rattle.covered_items.proofs.DataCovers.{data_are_elements}
use Rattle.covered_items.proofs.NewHolders.{IsApart, signed_stay}
use Rattle.covered_items.proofs.NewProperties.{ManyProperties, many_properties}
use Rattle.covered_items.proofs.NewValue as value_in
use Rattle.covered_items.proofs.SignedPartsStay.{methods_stay, signature_method_stays, signing_certificate_stays, values_stay}
use Rattle.covered_items.proofs.StampsAdded.{new_archive, new_stamp}
use Rattle.document_model.specs.Documents.{document_of, fault}
use Rattle.document_model.specs.Items.{or_else}
use Rattle.document_model.specs.Names.{Expanded}
use Rattle.document_model.specs.NodeSets.{is_within}
use Rattle.document_model.specs.Tree.{Nodes, put_last}
use Rattle.policy_rules.specs.Rules.{Rules}
use Rattle.qualifying_props.specs.Digests.{digest}
use Rattle.qualifying_props.specs.PartsOf.{name_in}
use Rattle.qualifying_props.specs.Whole.{is_whole}
use Rattle.signature_checks.specs.Codes.{first_code}
use Rattle.signature_checks.specs.Keys.{method_kind}
use Rattle.signature_checks.specs.Validity.{digest_test, first_differing, signer_tests, validity_tests}
use Rattle.signature_checks.specs.declared.codes.Code.{Code}
use Rattle.signature_checks.specs.declared.codes.Code.TheVariants.{AlreadySigned, CertificateDiffers, DigestDiffers, NotSigned}
use Rattle.signature_model.specs.Chains.{Handed, when}
use Rattle.signature_model.specs.Fragments as model
use Rattle.signature_model.specs.Fragments.{bytes_with_item, content_of, data_fragment, stands_alone, with_item}
use Rattle.signature_model.specs.Keeping.{TakesItem}
use Rattle.signature_model.specs.Octets.{joined_octets, value_octets}
use Rattle.signature_model.specs.Parts as parts
use Rattle.signature_model.specs.Parts.{digest_kind, form_or, has_digest, host, method, octets_or_none, plain_form, references, signed_info, signed_properties, value}
use Rattle.signature_model.specs.Readable.{Read}
use Rattle.signature_model.specs.Spots.{Spot}
use Rattle.signature_model.specs.Vocabulary.{ds}
use Rattle.signature_model.proofs.Apart.{other_path}
use Rattle.signature_model.proofs.Covered.{Setting, Unreached, signature_apart, unreached_references}
use Rattle.signature_model.proofs.ItemKept.{put_at}
use Rattle.signature_model.proofs.Lists.{each_first, each_map, not_within_other}
use Rattle.signature_model.proofs.PartsStay.{info_stays, method_apart, method_stays}
use Rattle.signature_model.proofs.Plain.{content_plain}
use Rattle.signature_model.proofs.PropertyKept.{Beside, IsPart, form_or_stays, joined_stay, parts_called, signed_octets_stay, value_bytes_stay}
use Rattle.signature_model.proofs.ReadTakes.{read_takes_item}
use Rattle.signature_model.proofs.References.{reference_stays, references_stay}
use Rattle.signature_model.proofs.Standing.{Each}
use Rattle.augmenter.specs.Items.{IsItemCode, item_in, put_by, signature_tests, with_one}
use Rattle.augmenter.specs.Judging.{IsValid}
use Rattle.augmenter.specs.declared.items.Item.{Item}
use Rattle.augmenter.specs.declared.items.ItemKind.{ItemKind}
use Rattle.augmenter.specs.declared.items.ItemKind.TheVariants.{Archive, Material, Stamp, Value}
use Rattle.augmenter.proofs.OneItem.{gives, may_take, passed_tests, read_by, whole_item}

-- The tests on all that it says are the same where content is put in.

module _ (rules : Rules) (handed : Handed) (document added : Nodes) (signature place : Spot) (host_name : Expanded) (s : Setting document added signature place host_name) (a : IsApart host_name) where
  abbrev new : Nodes
  new = put_last added place.path document

  differing_stays : (k : ℕ) (list : List Spot) → Each (Unreached document signature place) list
      → first_differing handed new signature.path k list ≡ first_differing handed document signature.path k list
  differing_stays k [] h = refl
  differing_stays k (reference ∷ list) h =
      let methods = methods_stay document added place host_name (ds (codes "Reference")) s.place_named s.other.reference (reference ∷ []) (reference ∷ []) refl (h.0.0, tt) in
      let values = values_stay document added place host_name (ds (codes "Reference")) s.place_named s.other.reference a (reference ∷ []) (reference ∷ []) refl (h.0.0, tt) in
      let covered = reference_stays plain_form handed document added place host_name s.place_named s.other s.no_identifiers signature.path reference h.0.0 h.0.1 in
      let others = differing_stays (suc k) list h.1 in
      λ i. or_else (when (not (has_digest digest (digest_kind (methods i)) (values i) (covered i))) (DigestDiffers k (option_map_or (λ kind. digest kind (covered i)) (digest_kind (methods i)) []) (values i))) (others i)

  digests_stay : digest_test handed new signature ≡ digest_test handed document signature
  digests_stay =
      ap (first_differing handed new signature.path 1) (references_stay document added place signature host_name s.place_named s.other (signature_apart document added signature place host_name s))
      ∙ differing_stays 1 (references document signature) (unreached_references document added signature place host_name s)

  tests_stay : (octets : List ℕ) → signed_properties new signature ≡ signed_properties document signature → value_octets new signature ≡ value_octets document signature
      → validity_tests rules handed new signature octets ≡ validity_tests rules handed document signature octets
  tests_stay octets signed covered =
      let certificates = signing_certificate_stays digest document added signature place host_name s a signed in
      let methods = signature_method_stays document added signature place host_name s in
      λ i. digests_stay i ∷ when (is_none (certificates i)) CertificateDiffers ∷ signer_tests (method_kind rules (name_in (methods i))) (unwrap_or (certificates i) []) (covered i) octets

-- What the value is once an item is put in.
abbrev value_with : model.Item → List ℕ → List ℕ
value_with (model.Value octets) old = octets
value_with (model.Stamp token) old = old
value_with (model.Data certificates lists) old = old
value_with (model.Archive token) old = old

-- a document says of its signature what another one does, with another value
record SaysSo (rules : Rules) (handed : Handed) (document new : Nodes) (signature : Spot) (octets : List ℕ) : Type 0 where
  pub tests : (value : List ℕ) → validity_tests rules handed new signature value ≡ validity_tests rules handed document signature value
  pub value_is : parts.value_octets new signature ≡ octets

-- properties

says_with : (rules : Rules) (handed : Handed) (document added : Nodes) (signature place : Spot) (content : Nodes) → ManyProperties document added signature place content
    → SaysSo rules handed document (put_last added place.path document) signature (parts.value_octets document signature)
says_with rules handed document added signature place content many = record {
  tests = λ octets. tests_stay rules handed document added signature place many.host_name many.setting.setting many.apart octets many.signed
      (signed_octets_stay document added signature place many.host_name many.setting);
  value_is = value_bytes_stay document added signature place many.host_name many.setting;
}

-- a value

module _ (rules : Rules) (handed : Handed) (document : Nodes) (signature place : Spot) (octets : List ℕ) (bytes : IsBytes octets) (takes : TakesItem document signature (model.Value octets))
    (is_place : value document signature ≡ place ∷ []) where
  abbrev filled : Nodes
  filled = put_last (model.encoded octets) place.path document

  set : Setting document (model.encoded octets) signature place (ds (codes "SignatureValue"))
  set = value_in.set document signature place octets bytes takes is_place

  apart : IsApart (ds (codes "SignatureValue"))
  apart = record { object = refl; key_info = refl; key_data = refl; key_certificate = refl; signature_method = refl; digest_method = refl; digest_value = refl; signed_properties = refl; signed_signature = refl; signing_certificate = refl; cert = refl; cert_digest = refl; signing_time = refl; signed_data = refl; format = refl; mime = refl }

  beside : (spot : Spot) → IsPart document signature (ds (codes "SignedInfo")) spot → Beside document place spot
  beside spot part =
      let at = value_in.place_part document signature place octets bytes takes is_place in
      let other : part.0.number.0 ≡ at.0.number.0 → ⊥ = λ e. other_path document spot place part.0.stands at.0.stands (ds (codes "SignedInfo")) (ds (codes "SignatureValue")) part.1 at.1 refl
      (part.0.number.1 ∙ ap (λ j. signature.path ++ j ∷ []) e ∙ sym at.0.number.1) in
      record { stands = part.0.stands; beside = (λ i. is_within (part.0.number.1 i) (at.0.number.1 i)) ∙ not_within_other signature.path part.0.number.0 at.0.number.0 [] other }

  covered : value_octets filled signature ≡ value_octets document signature
  covered =
      let infos = info_stays document (model.encoded octets) signature place (ds (codes "SignatureValue")) set in
      let methods = method_stays document (model.encoded octets) signature place (ds (codes "SignatureValue")) set in
      let apart_method = method_apart document (model.encoded octets) signature place (ds (codes "SignatureValue")) set in
      (λ i. joined_octets (form_or plain_form filled (methods i)) filled (infos i))
      ∙ ap (λ form. joined_octets form filled (signed_info document signature)) (form_or_stays plain_form document (model.encoded octets) place (method document signature) apart_method)
      ∙ joined_stay (form_or plain_form document (method document signature)) document (model.encoded octets) place set.place_named.stands (signed_info document signature)
      (each_first (Beside document place) _ (each_map (IsPart document signature (ds (codes "SignedInfo"))) (Beside document place) _ beside (parts_called document signature (ds (codes "SignedInfo")) takes.is_signature.stands)))

  says_filled : SaysSo rules handed document filled signature octets
  says_filled = record {
    tests = λ any. tests_stay rules handed document (model.encoded octets) signature place (ds (codes "SignatureValue")) set apart any
        (signed_stay document (model.encoded octets) signature place (ds (codes "SignatureValue")) set refl refl) covered;
    value_is = ap (octets_or_none filled) (value_in.value_new document signature place octets bytes takes is_place)
        ∙ ap (λ o. unwrap_or o []) (value_in.octets_new document signature place octets bytes takes is_place);
  }

-- by the kind of the item

says : (rules : Rules) (handed : Handed) (document : Nodes) (signature : Spot) (item : model.Item) → IsWholeItem is_whole item → TakesItem document signature item
    → SaysSo rules handed document (with_item document signature item) signature (value_with item (parts.value_octets document signature))
says rules handed document signature (model.Value octets) w t =
    subst (λ (new : Nodes). SaysSo rules handed document new signature octets) (put_at document (content_of document signature (model.Value octets)) (value document signature) t.value_place.0 t.value_place.1)
    (says_filled rules handed document signature t.value_place.0 octets w t t.value_place.1)
says rules handed document signature (model.Stamp token) w t =
    let added : Nodes = content_of document signature (model.Stamp token) in
    let place : Spot = t.property_place.0 in
    subst (λ (new : Nodes). SaysSo rules handed document new signature (parts.value_octets document signature)) (put_at document added (host document signature) place t.property_place.1)
    (says_with rules handed document added signature place _
    (new_stamp document added signature place token w.0 refl t.is_signature t.property_place.1 t.free (content_plain document signature (model.Stamp token))).one)
says rules handed document signature (model.Data certificates lists) w t =
    let added : Nodes = content_of document signature (model.Data certificates lists) in
    let place : Spot = t.property_place.0 in
    let alone : Bool = stands_alone document signature in
    subst (λ (new : Nodes). SaysSo rules handed document new signature (parts.value_octets document signature)) (put_at document added (host document signature) place t.property_place.1)
    (says_with rules handed document added signature place (data_fragment alone certificates lists)
    (many_properties document added signature place (data_fragment alone certificates lists) (data_are_elements alone certificates lists) refl t.is_signature t.property_place.1 t.free
    (content_plain document signature (model.Data certificates lists))))
says rules handed document signature (model.Archive token) w t =
    let added : Nodes = content_of document signature (model.Archive token) in
    let place : Spot = t.property_place.0 in
    subst (λ (new : Nodes). SaysSo rules handed document new signature (parts.value_octets document signature)) (put_at document added (host document signature) place t.property_place.1)
    (says_with rules handed document added signature place _
    (new_archive document added signature place token w.0 refl t.is_signature t.property_place.1 t.free (content_plain document signature (model.Archive token))).one)

-- An item that has passed: what it leaves is valid.

behind : (a : Option Code) (others : List (Option Code)) → None ≡ first_code (a ∷ others) → first_code others ≡ None
behind None others e = sym e
behind (Some code) others e = cc

passed_valid : (rules : Rules) (handed : Handed) (document : Nodes) (signature : Spot) (kind : ItemKind) (octets : List ℕ) → None ≡ first_code (signature_tests kind octets rules handed document signature)
    → first_code (validity_tests rules handed document signature (value_with (put_by kind octets) (parts.value_octets document signature))) ≡ None
passed_valid rules handed document signature Value octets e = behind (when (parts.is_signed document signature) AlreadySigned) (validity_tests rules handed document signature octets) e
passed_valid rules handed document signature Stamp octets e = behind (when (not (parts.is_signed document signature)) NotSigned) (validity_tests rules handed document signature (parts.value_octets document signature)) e
passed_valid rules handed document signature Material octets e = behind (when (not (parts.is_signed document signature)) NotSigned) (validity_tests rules handed document signature (parts.value_octets document signature)) e
passed_valid rules handed document signature Archive octets e = behind (when (not (parts.is_signed document signature)) NotSigned) (validity_tests rules handed document signature (parts.value_octets document signature)) e

-- what is known needs no test
pub known_passes : (signed : Bool) (tests : List (Option Code)) → signed ≡ true → first_code tests ≡ None → None ≡ first_code (when (not signed) NotSigned ∷ tests)
known_passes true tests e h = sym h
known_passes false tests e h = cc

same_read : (a b : Spot) → Read a ≡ Read b → a ≡ b
same_read a b e = cc

pub validity_stays : (rules : Rules) (handed : Handed) (moment : ℤ) (item : Item) (bytes : List ℕ) → fault bytes ≡ None → IsItemCode rules handed moment item bytes None
    → IsBytes item.bytes → fault (with_one item bytes) ≡ None → IsValid rules handed (document_of (with_one item bytes))
validity_stays rules handed moment item bytes right code octets fits =
    let one = read_by rules handed moment item bytes code in
    let signature : Spot = one.signature in
    let document : Nodes = document_of bytes in
    let tests = passed_tests rules handed moment item bytes signature one.free.read code in
    let may = may_take rules handed moment item document signature tests in
    let whole = whole_item rules handed moment document signature item.kind item.bytes tests.1 octets in
    let given = gives item bytes signature one.free.read in
    let r : IsReadFile is_whole signature bytes = record { right = right; is_read = one.free } in
    let accepted : IsAccepted is_whole signature bytes (item_in item) = record { may = may; whole = whole; fits = ap fault (sym given) ∙ fits } in
    let takes = read_takes_item is_whole document signature (item_in item) one.free.read one.free.free may in
    let spelled : document_of (with_one item bytes) ≡ with_item document signature (item_in item) = ap document_of given ∙ item_spelled is_whole signature bytes (item_in item) r accepted in
    let new : Nodes = with_item document signature (item_in item) in
    let so = says rules handed document signature (item_in item) whole takes in
    let holds : first_code (validity_tests rules handed new signature (parts.value_octets new signature)) ≡ None =
    ap first_code (so.tests (parts.value_octets new signature)) ∙ ap (λ v. first_code (validity_tests rules handed document signature v)) so.value_is
    ∙ passed_valid rules handed document signature item.kind item.bytes tests.0 in
    subst (IsValid rules handed) (sym spelled)
    (λ other is. subst (λ (spot : Spot). first_code (validity_tests rules handed new spot (parts.value_octets new spot)) ≡ None)
    (same_read signature other (sym (item_is_read_again is_whole document signature (item_in item) whole one.free may).read ∙ is)) holds)
