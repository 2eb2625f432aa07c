-- What the tests on References find in a prepared document, and which certificate signs it.
use Rattle.std.proofs.Common.{◌≡◌, ℕ, suc, ◌+◌, Bool, true, false, cond, ◌&&◌, List, [], ◌∷◌, ◌++◌, length, Option, Some, None, refl, ◌∙◌, ap, subst, codes}
use Rattle.std.proofs.lemmas.List.{append-nil}
use Rattle.std.proofs.lemmas.Option.{none-some}
use Rattle.std.specs.Prelude.{filter, map, unwrap_or, option_and_then, is_none}
use Rattle.std.specs.List.{list_all, find}
use Rattle.base64.specs.GeneralPurpose.{IsBytes}
use Rattle.document_model.specs.Characters.{◌is◌, is_empty}
use Rattle.document_model.specs.Tree.{Node, Nodes, Path, Element}
use Rattle.document_model.specs.Scopes.{Tag, tags_at}
use Rattle.document_model.specs.NodeSets.{NodeSet, Target, Missing, Single, Double, target_of}
use Rattle.signature_model.specs.Vocabulary.{DigestKind, ds}
use Rattle.signature_model.specs.Spots.{Spot, is_called, called, first}
use Rattle.signature_model.specs.Parts as parts
use Rattle.signature_model.specs.Parts.{DatumKind, digest_kind, digest_methods, digest_values, has_digest, octets_or_none, octets_in, signing_certificate}
use Rattle.signature_model.specs.Chains.{Handed, Place, Document, Named, External, place_named, place, is_external, Chain, chain, apex_of, set_at, handed_in, is_missing, is_double, on_target, when, Fault, TargetMissing, TargetTwice, NoChain, NotHandedIn, DigestName, target_missing, target_twice, no_chain, no_digest, not_handed_in, not_base64, not_base64_text, decoded_text, whole_text, first_of, first_code, fault}
use Rattle.signature_model.specs.Octets.{next_form}
use Rattle.document_model.specs.Canonical.{octets_of}
use Rattle.signature_model.specs.Fragments.{encoded}
use Rattle.signature_model.specs.Prepared.{Draft, digest_nodes, properties_id, first_certificate, named_octets, properties_octets, prepared}
use Rattle.signature_model.proofs.Standing.{Each}
use Rattle.signature_model.proofs.Lists.{not_both, each_map}
use Rattle.covered_items.specs.Whole.{EachBytes}
use Rattle.covered_items.proofs.WholeBytes.{whole_bytes}
use Rattle.covered_items.proofs.NewElements.{spot_below, elements_stand, child_there}
use Rattle.prepared_documents.specs.Places.{root_of, signature_in}
use Rattle.prepared_documents.specs.Preparable.{IsTarget, AreTargets, IsPreparable}
use Rattle.prepared_documents.specs.PreparedRead.{IsComplete}
use Rattle.insertion_fragments.specs.Drafts.{GivesBytes}
use Rattle.signature_model.specs.Octets.{has_its_digest}
use Rattle.prepared_documents.specs.Judged.{IsHanded, AreHanded, ReferencesAreSound, CertificateIsFirst, MethodIsTheDrafts}
use Rattle.prepared_documents.proofs.Reading as reading
use Rattle.prepared_documents.proofs.Reading.{ds_named, xades_named, algorithm_attributes, reference_attributes, last_attributes, references_at, last_at, ReferencesThere, There, certificates_at}
use Rattle.prepared_documents.proofs.Chained.{inner_of, ReferenceThere, LastThere, enveloped_chain, exclusive_chain, outside_chain, document_chain, named_chain, external_chain, last_chain, last_octets}
use Rattle.prepared_documents.proofs.Original as original
use Rattle.prepared_documents.proofs.Original.{there, target_stays, one_reference}
use Rattle.prepared_documents.proofs.PartsOf as of
use Rattle.prepared_documents.proofs.LinesInfo.{octets_read, named_back}
use Rattle.prepared_documents.proofs.LinesRest as rest
use Rattle.prepared_documents.proofs.LinesRest.{same_is, CertificatesThere}
use Rattle.prepared_documents.proofs.FreeNew.{here, properties_target}

-- The digest that a Reference tells.

module _ (d : Nodes) (path : Path) (outer : List Tag) (draft : Draft) where
  document_kind : (j k : ℕ) (uri_ octets : List ℕ) → ReferenceThere d path outer draft j k uri_ Document octets → digest_kind (digest_methods d (reading.reference path outer draft j k uri_ ∷ [])) ≡ Some draft.digest
  document_kind j k uri_ octets s =
      let r : Spot = reading.reference path outer draft j k uri_ in
      let node : Node = Element (ds_named (codes "Reference")) (reference_attributes draft k uri_) (inner_of draft Document octets) in
      ap (λ spots. digest_kind (first spots)) (append-nil (called d (ds (codes "DigestMethod")) r))
      ∙ ap (λ spots. digest_kind (first (filter (is_called (ds (codes "DigestMethod"))) spots))) (elements_stand d r node s) ∙ named_back draft.digest

  document_value : (j k : ℕ) (uri_ octets : List ℕ) → IsBytes octets → ReferenceThere d path outer draft j k uri_ Document octets → octets_or_none d (digest_values d (reading.reference path outer draft j k uri_ ∷ [])) ≡ octets
  document_value j k uri_ octets b s =
      let r : Spot = reading.reference path outer draft j k uri_ in
      let dv : Spot = spot_below r.path r.tags 2 (ds_named (codes "DigestValue")) [] in
      let node : Node = Element (ds_named (codes "Reference")) (reference_attributes draft k uri_) (inner_of draft Document octets) in
      ap (λ spots. octets_or_none d (first spots)) (append-nil (called d (ds (codes "DigestValue")) r))
      ∙ ap (λ spots. octets_or_none d (first (filter (is_called (ds (codes "DigestValue"))) spots))) (elements_stand d r node s)
      ∙ ap (λ o. unwrap_or o []) (octets_read d dv (ds_named (codes "DigestValue")) [] octets b (child_there d r node s 2 (ds_named (codes "DigestValue")) [] (encoded octets) refl))

  named_kind : (j k : ℕ) (uri_ x octets : List ℕ) → ReferenceThere d path outer draft j k uri_ (Named x) octets → digest_kind (digest_methods d (reading.reference path outer draft j k uri_ ∷ [])) ≡ Some draft.digest
  named_kind j k uri_ x octets s =
      let r : Spot = reading.reference path outer draft j k uri_ in
      let node : Node = Element (ds_named (codes "Reference")) (reference_attributes draft k uri_) (inner_of draft (Named x) octets) in
      ap (λ spots. digest_kind (first spots)) (append-nil (called d (ds (codes "DigestMethod")) r))
      ∙ ap (λ spots. digest_kind (first (filter (is_called (ds (codes "DigestMethod"))) spots))) (elements_stand d r node s) ∙ named_back draft.digest

  named_value : (j k : ℕ) (uri_ x octets : List ℕ) → IsBytes octets → ReferenceThere d path outer draft j k uri_ (Named x) octets → octets_or_none d (digest_values d (reading.reference path outer draft j k uri_ ∷ [])) ≡ octets
  named_value j k uri_ x octets b s =
      let r : Spot = reading.reference path outer draft j k uri_ in
      let dv : Spot = spot_below r.path r.tags 2 (ds_named (codes "DigestValue")) [] in
      let node : Node = Element (ds_named (codes "Reference")) (reference_attributes draft k uri_) (inner_of draft (Named x) octets) in
      ap (λ spots. octets_or_none d (first spots)) (append-nil (called d (ds (codes "DigestValue")) r))
      ∙ ap (λ spots. octets_or_none d (first (filter (is_called (ds (codes "DigestValue"))) spots))) (elements_stand d r node s)
      ∙ ap (λ o. unwrap_or o []) (octets_read d dv (ds_named (codes "DigestValue")) [] octets b (child_there d r node s 2 (ds_named (codes "DigestValue")) [] (encoded octets) refl))

  external_kind : (j k : ℕ) (uri_ octets : List ℕ) → ReferenceThere d path outer draft j k uri_ External octets → digest_kind (digest_methods d (reading.reference path outer draft j k uri_ ∷ [])) ≡ Some draft.digest
  external_kind j k uri_ octets s =
      let r : Spot = reading.reference path outer draft j k uri_ in
      let node : Node = Element (ds_named (codes "Reference")) (reference_attributes draft k uri_) (inner_of draft External octets) in
      ap (λ spots. digest_kind (first spots)) (append-nil (called d (ds (codes "DigestMethod")) r))
      ∙ ap (λ spots. digest_kind (first (filter (is_called (ds (codes "DigestMethod"))) spots))) (elements_stand d r node s) ∙ named_back draft.digest

  external_value : (j k : ℕ) (uri_ octets : List ℕ) → IsBytes octets → ReferenceThere d path outer draft j k uri_ External octets → octets_or_none d (digest_values d (reading.reference path outer draft j k uri_ ∷ [])) ≡ octets
  external_value j k uri_ octets b s =
      let r : Spot = reading.reference path outer draft j k uri_ in
      let dv : Spot = spot_below r.path r.tags 1 (ds_named (codes "DigestValue")) [] in
      let node : Node = Element (ds_named (codes "Reference")) (reference_attributes draft k uri_) (inner_of draft External octets) in
      ap (λ spots. octets_or_none d (first spots)) (append-nil (called d (ds (codes "DigestValue")) r))
      ∙ ap (λ spots. octets_or_none d (first (filter (is_called (ds (codes "DigestValue"))) spots))) (elements_stand d r node s)
      ∙ ap (λ o. unwrap_or o []) (octets_read d dv (ds_named (codes "DigestValue")) [] octets b (child_there d r node s 1 (ds_named (codes "DigestValue")) [] (encoded octets) refl))

  last_kind : (j : ℕ) (octets : List ℕ) → LastThere d path outer draft j octets → digest_kind (digest_methods d (last_at path outer draft j ∷ [])) ≡ Some draft.digest
  last_kind j octets s =
      let r : Spot = last_at path outer draft j in
      let node : Node = Element (ds_named (codes "Reference")) (last_attributes draft) (inner_of draft (Named (properties_id draft.id)) octets) in
      ap (λ spots. digest_kind (first spots)) (append-nil (called d (ds (codes "DigestMethod")) r))
      ∙ ap (λ spots. digest_kind (first (filter (is_called (ds (codes "DigestMethod"))) spots))) (elements_stand d r node s) ∙ named_back draft.digest

  last_value_ : (j : ℕ) (octets : List ℕ) → IsBytes octets → LastThere d path outer draft j octets → octets_or_none d (digest_values d (last_at path outer draft j ∷ [])) ≡ octets
  last_value_ j octets b s =
      let r : Spot = last_at path outer draft j in
      let dv : Spot = spot_below r.path r.tags 2 (ds_named (codes "DigestValue")) [] in
      let node : Node = Element (ds_named (codes "Reference")) (last_attributes draft) (inner_of draft (Named (properties_id draft.id)) octets) in
      ap (λ spots. octets_or_none d (first spots)) (append-nil (called d (ds (codes "DigestValue")) r))
      ∙ ap (λ spots. octets_or_none d (first (filter (is_called (ds (codes "DigestValue"))) spots))) (elements_stand d r node s)
      ∙ ap (λ o. unwrap_or o []) (octets_read d dv (ds_named (codes "DigestValue")) [] octets b (child_there d r node s 2 (ds_named (codes "DigestValue")) [] (encoded octets) refl))

  one_kind : (j k : ℕ) (uri_ octets : List ℕ) → ReferenceThere d path outer draft j k uri_ (place_named uri_) octets → digest_kind (digest_methods d (reading.reference path outer draft j k uri_ ∷ [])) ≡ Some draft.digest
  one_kind j k uri_ octets s = by_place (place_named uri_) s
    where
      by_place : (p : Place) → ReferenceThere d path outer draft j k uri_ p octets → digest_kind (digest_methods d (reading.reference path outer draft j k uri_ ∷ [])) ≡ Some draft.digest
      by_place Document s = document_kind j k uri_ octets s
      by_place (Named x) s = named_kind j k uri_ x octets s
      by_place External s = external_kind j k uri_ octets s

  one_value : (j k : ℕ) (uri_ octets : List ℕ) → IsBytes octets → ReferenceThere d path outer draft j k uri_ (place_named uri_) octets → octets_or_none d (digest_values d (reading.reference path outer draft j k uri_ ∷ [])) ≡ octets
  one_value j k uri_ octets b s = by_place (place_named uri_) s
    where
      by_place : (p : Place) → ReferenceThere d path outer draft j k uri_ p octets → octets_or_none d (digest_values d (reading.reference path outer draft j k uri_ ∷ [])) ≡ octets
      by_place Document s = document_value j k uri_ octets b s
      by_place (Named x) s = named_value j k uri_ x octets b s
      by_place External s = external_value j k uri_ octets b s

-- Faults, test by test.

first_none : (test : ℕ → Spot → Option Fault) (k : ℕ) (spots : List Spot) → Each (λ r. (i : ℕ) → test i r ≡ None) spots → first_of test k spots ≡ None
first_none test k [] h = refl
first_none test k (r ∷ spots) h = rw (h.0 k) (first_none test (suc k) spots h.1)

code_none : (test : ℕ → Spot → Option Fault) (tests : List (ℕ → Spot → Option Fault)) (spots : List Spot) → first_of test 1 spots ≡ None → first_code tests spots ≡ None → first_code (test ∷ tests) spots ≡ None
code_none test tests spots e h = rw e h

record Sound (handed : Handed) (d : Nodes) (own : Path) (r : Spot) : Type 0 where
  missing : (k : ℕ) → target_missing d k r ≡ None
  twice : (k : ℕ) → target_twice d k r ≡ None
  chained : (k : ℕ) → no_chain d k r ≡ None
  digested_ : (k : ℕ) → no_digest d k r ≡ None
  handed_ : (k : ℕ) → not_handed_in handed k r ≡ None
  decoded : (k : ℕ) → not_base64 handed d own k r ≡ None

sound_all : (handed : Handed) (d : Nodes) (own : Path) (spots : List Spot) → Each (Sound handed d own) spots → fault handed d own spots ≡ None
sound_all handed d own spots h =
    code_none (target_missing d) (target_twice d ∷ no_chain d ∷ no_digest d ∷ not_handed_in handed ∷ not_base64 handed d own ∷ []) spots (first_none (target_missing d) 1 spots (each_map (Sound handed d own) (λ r. (i : ℕ) → target_missing d i r ≡ None) spots (λ r s. s.missing) h))
    (code_none (target_twice d) (no_chain d ∷ no_digest d ∷ not_handed_in handed ∷ not_base64 handed d own ∷ []) spots (first_none (target_twice d) 1 spots (each_map (Sound handed d own) (λ r. (i : ℕ) → target_twice d i r ≡ None) spots (λ r s. s.twice) h))
    (code_none (no_chain d) (no_digest d ∷ not_handed_in handed ∷ not_base64 handed d own ∷ []) spots (first_none (no_chain d) 1 spots (each_map (Sound handed d own) (λ r. (i : ℕ) → no_chain d i r ≡ None) spots (λ r s. s.chained) h))
    (code_none (no_digest d) (not_handed_in handed ∷ not_base64 handed d own ∷ []) spots (first_none (no_digest d) 1 spots (each_map (Sound handed d own) (λ r. (i : ℕ) → no_digest d i r ≡ None) spots (λ r s. s.digested_) h))
    (code_none (not_handed_in handed) (not_base64 handed d own ∷ []) spots (first_none (not_handed_in handed) 1 spots (each_map (Sound handed d own) (λ r. (i : ℕ) → not_handed_in handed i r ≡ None) spots (λ r s. s.handed_) h))
    (code_none (not_base64 handed d own) ([]) spots (first_none (not_base64 handed d own) 1 spots (each_map (Sound handed d own) (λ r. (i : ℕ) → not_base64 handed d own i r ≡ None) spots (λ r s. s.decoded) h))
    refl)))))

abbrev decoded_with : Handed → Nodes → Path → ℕ → Spot → Option Chain → Option Fault
decoded_with handed d own k r c = option_and_then (not_base64_text k) (decoded_text (whole_text handed d own r) c)

sound_named : (handed : Handed) (d : Nodes) (own : Path) (r : Spot) (x : List ℕ) (path : Path) (kind : DigestKind) → place r ≡ Named x → target_of x d ≡ Single path → chain d r ≡ Some exclusive_chain
    → digest_kind (digest_methods d (r ∷ [])) ≡ Some kind → Sound handed d own r
sound_named handed d own r x path kind e t c g = record {
  missing = λ k. (λ i. when (on_target d is_missing (e i)) (TargetMissing k)) ∙ ap (λ o. when (is_missing o) (TargetMissing k)) t;
  twice = λ k. (λ i. when (on_target d is_double (e i)) (TargetTwice k)) ∙ ap (λ o. when (is_double o) (TargetTwice k)) t;
  chained = λ k. ap (λ o. when (is_none o) (NoChain k)) c;
  digested_ = λ k. ap (λ o. when (is_none o) (DigestName k)) g;
  handed_ = λ k. λ i. when (is_external (e i) && is_none (handed_in handed (e i) r)) (NotHandedIn k);
  decoded = λ k. ap (decoded_with handed d own k r) c;
}

sound_document : (handed : Handed) (d : Nodes) (own : Path) (r : Spot) (kind : DigestKind) → place r ≡ Document → chain d r ≡ Some enveloped_chain
    → digest_kind (digest_methods d (r ∷ [])) ≡ Some kind → Sound handed d own r
sound_document handed d own r kind e c g = record {
  missing = λ k. λ i. when (on_target d is_missing (e i)) (TargetMissing k);
  twice = λ k. λ i. when (on_target d is_double (e i)) (TargetTwice k);
  chained = λ k. ap (λ o. when (is_none o) (NoChain k)) c;
  digested_ = λ k. ap (λ o. when (is_none o) (DigestName k)) g;
  handed_ = λ k. λ i. when (is_external (e i) && is_none (handed_in handed (e i) r)) (NotHandedIn k);
  decoded = λ k. ap (decoded_with handed d own k r) c;
}

sound_external : (handed : Handed) (d : Nodes) (own : Path) (r : Spot) (octets : List ℕ) (kind : DigestKind) → place r ≡ External → handed (parts.uri r) ≡ Some octets → chain d r ≡ Some outside_chain
    → digest_kind (digest_methods d (r ∷ [])) ≡ Some kind → Sound handed d own r
sound_external handed d own r octets kind e o c g = record {
  missing = λ k. λ i. when (on_target d is_missing (e i)) (TargetMissing k);
  twice = λ k. λ i. when (on_target d is_double (e i)) (TargetTwice k);
  chained = λ k. ap (λ o. when (is_none o) (NoChain k)) c;
  digested_ = λ k. ap (λ o. when (is_none o) (DigestName k)) g;
  handed_ = λ k. (λ i. when (is_external (e i) && is_none (handed_in handed (e i) r)) (NotHandedIn k)) ∙ ap (λ q. when (true && is_none q) (NotHandedIn k)) o;
  decoded = λ k. ap (decoded_with handed d own k r) c;
}

-- the target of the last Reference is one element
single_of : (t : Target) (path : Path) → option_and_then (λ q. Some (set_at q)) (apex_of t) ≡ Some (set_at path) → t ≡ Single path
single_of Missing path e = absurd (none-some _ e)
single_of (Single q) path e = ap (λ o. Single (apex_in o)) e
  where
    apex_in : Option NodeSet → Path
    apex_in None = []
    apex_in (Some set) = set.apex
single_of Double path e = absurd (none-some _ e)

module _ (digest : DigestKind → List ℕ → List ℕ) (handed : Handed) (document : Nodes) (draft : Draft) (p : IsPreparable document draft) where
  abbrev new : Nodes
  new = prepared digest handed document draft

  abbrev own : Path
  own = (signature_in document draft).path

  abbrev outer : List Tag
  outer = tags_at document (root_of document)

  abbrev digest_of : List ℕ → List ℕ
  digest_of = original.digest_of digest handed document draft p.root

  abbrev last_value : List ℕ
  last_value = original.last_value digest handed document draft p.root

  abbrev sig : Spot
  sig = signature_in document draft

  one_sound : (j k : ℕ) (uri_ octets : List ℕ) → ReferenceThere new own outer draft j k uri_ (place_named uri_) octets → IsTarget document (place_named uri_) → IsHanded handed (place_named uri_) uri_
      → Sound handed new own (reading.reference own outer draft j k uri_)
  one_sound j k uri_ octets s t h = by_place (place_named uri_) refl
    where
      by_place : (q : Place) → place_named uri_ ≡ q → Sound handed new own (reading.reference own outer draft j k uri_)
      by_place Document e =
          let s' = subst (λ q. ReferenceThere new own outer draft j k uri_ q octets) e s in
          sound_document handed new own (reading.reference own outer draft j k uri_) draft.digest e (document_chain new own outer draft j k uri_ octets e s') (document_kind new own outer draft j k uri_ octets s')
      by_place (Named x) e =
          let s' = subst (λ q. ReferenceThere new own outer draft j k uri_ q octets) e s in
          let g : IsTarget document (Named x) = subst (IsTarget document) e t in
          sound_named handed new own (reading.reference own outer draft j k uri_) x g.0 draft.digest e (target_stays digest handed document draft p x g.0 g.1 ∙ g.1)
          (named_chain new own outer draft j k uri_ x octets e s') (named_kind new own outer draft j k uri_ x octets s')
      by_place External e =
          let s' = subst (λ q. ReferenceThere new own outer draft j k uri_ q octets) e s in
          let g : IsHanded handed External uri_ = subst (λ q. IsHanded handed q uri_) e h in
          sound_external handed new own (reading.reference own outer draft j k uri_) g.0 draft.digest e g.1 (external_chain new own outer draft j k uri_ octets e s') (external_kind new own outer draft j k uri_ octets s')

  last_sound : (j : ℕ) (octets : List ℕ) → LastThere new own outer draft j octets → Sound handed new own (last_at own outer draft j)
  last_sound j octets s =
      let x : List ℕ = properties_id draft.id in
      let t = single_of (target_of x new) (reading.properties own outer draft).path (properties_target digest handed document draft p) in
      sound_named handed new own (last_at own outer draft j) x (reading.properties own outer draft).path draft.digest refl t (last_chain new own outer draft j octets s) (last_kind new own outer draft j octets s)

  all_sound : (j k : ℕ) (uris : List (List ℕ)) (behind : List Spot) → ReferencesThere new own outer (digest draft.digest) digest_of last_value draft j k uris → AreTargets document uris → AreHanded handed uris
      → Each (Sound handed new own) behind → Each (Sound handed new own) (references_at own outer draft j k uris ++ behind)
  all_sound j k [] behind s t h b = b
  all_sound j k (uri_ ∷ uris) behind s t h b = (one_sound j k uri_ (digest_of uri_) s.0 t.0 h.0, all_sound (suc j) (suc k) uris behind s.1 t.1 h.1 b)

  pub none_at_fault : AreHanded handed draft.references → fault handed new own (parts.references new sig) ≡ None
  none_at_fault h =
      let s = reading.references_there new own outer (digest draft.digest) digest_of last_value draft (here digest handed document draft p) in
      let last : Spot = last_at own outer draft (2 + length draft.references) in
      ap (fault handed new own) (of.references_are new own outer (digest draft.digest) digest_of last_value draft (here digest handed document draft p))
      ∙ sound_all handed new own (references_at own outer draft 2 1 draft.references ++ last ∷ [])
      (all_sound 2 1 draft.references (last ∷ []) s.0 p.may.targets h (last_sound (2 + length draft.references) last_value s.1, tt))

  -- digests

  one_digest : GivesBytes digest → (j k : ℕ) (uri_ : List ℕ) → ReferenceThere new own outer draft j k uri_ (place_named uri_) (digest_of uri_) → IsTarget document (place_named uri_)
      → has_its_digest digest handed new own (reading.reference own outer draft j k uri_) ≡ true
  one_digest g j k uri_ s t =
      let a = one_kind new own outer draft j k uri_ (digest_of uri_) s in
      let b = one_value new own outer draft j k uri_ (digest_of uri_) (g draft.digest (named_octets handed document uri_)) s in
      let c = one_reference digest handed document draft p j k uri_ (digest_of uri_) s t in
      (λ i. has_digest digest (a i) (b i) (c i)) ∙ same_is (digest_of uri_)

  all_digests : GivesBytes digest → (j k : ℕ) (uris : List (List ℕ)) (behind : List Spot) → ReferencesThere new own outer (digest draft.digest) digest_of last_value draft j k uris → AreTargets document uris
      → list_all (has_its_digest digest handed new own) behind ≡ true → list_all (has_its_digest digest handed new own) (references_at own outer draft j k uris ++ behind) ≡ true
  all_digests g j k [] behind s t h = h
  all_digests g j k (uri_ ∷ uris) behind s t h =
      let a = one_digest g j k uri_ s.0 t.0 in
      let b = all_digests g (suc j) (suc k) uris behind s.1 t.1 h in
      λ i. a i && b i

  -- where the SignedProperties have the octets that were digested
  pub digests_right : GivesBytes digest → octets_of next_form (set_at (reading.properties own outer draft).path) new ≡ properties_octets (digest draft.digest) draft
      → list_all (has_its_digest digest handed new own) (parts.references new sig) ≡ true
  digests_right g e =
      let s = reading.references_there new own outer (digest draft.digest) digest_of last_value draft (here digest handed document draft p) in
      let j : ℕ = 2 + length draft.references in
      let last : Spot = last_at own outer draft j in
      let a = last_kind new own outer draft j last_value s.1 in
      let b = last_value_ new own outer draft j last_value (g draft.digest (properties_octets (digest draft.digest) draft)) s.1 in
      let c = last_octets new own outer draft handed own j last_value (reading.properties own outer draft).path (properties_target digest handed document draft p) s.1 ∙ e in
      let right : has_its_digest digest handed new own last ≡ true = (λ i. has_digest digest (a i) (b i) (c i)) ∙ same_is last_value in
      ap (list_all (has_its_digest digest handed new own)) (of.references_are new own outer (digest draft.digest) digest_of last_value draft (here digest handed document draft p))
      ∙ all_digests g 2 1 draft.references (last ∷ []) s.0 p.may.targets (λ i. right i && true)

  -- the certificate

  octets_back : (j : ℕ) (certificates : List (List ℕ)) → EachBytes certificates → CertificatesThere new own outer (digest draft.digest) digest_of last_value draft (here digest handed document draft p) j certificates
      → map (λ spot. unwrap_or (octets_in new spot) []) (certificates_at own outer draft j certificates) ≡ certificates
  octets_back j [] b t = refl
  octets_back j (octets ∷ others) b t =
      let spot : Spot = spot_below (reading.data_ own outer draft).path (reading.data_ own outer draft).tags j (ds_named (codes "X509Certificate")) [] in
      let one = octets_read new spot (ds_named (codes "X509Certificate")) [] octets b.0 t.0 in
      let more = octets_back (suc j) others b.1 t.1 in
      λ i. unwrap_or (one i) [] ∷ more i

  found_first : (certificates : List (List ℕ)) (wanted : List ℕ) → is_empty certificates ≡ false → (digest draft.digest (first_certificate (record draft { certificates = certificates })) is wanted) ≡ true
      → find (has_digest digest (Some draft.digest) wanted) certificates ≡ Some (first_certificate (record draft { certificates = certificates }))
  found_first [] wanted e h = absurd (not_both e)
  found_first (octets ∷ others) wanted e h = ap (λ b. cond b (Some octets) (find (has_digest digest (Some draft.digest) wanted) others)) h

  pub certificate_first : (is_whole : DatumKind → List ℕ → Bool) → GivesBytes digest → IsComplete is_whole draft → signing_certificate digest new sig ≡ Some (first_certificate draft)
  certificate_first is_whole g c =
      let h = here digest handed document draft p in
      let dig : Spot = reading.cert_digest own outer draft in
      let value : List ℕ = digest draft.digest (first_certificate draft) in
      let node : Node = Element (xades_named (codes "CertDigest")) [] (digest_nodes draft.digest value) in
      let d_there = reading.cert_digest_there new own outer (digest draft.digest) digest_of last_value draft h in
      let dv : Spot = spot_below dig.path dig.tags 1 (ds_named (codes "DigestValue")) [] in
      let found = of.digest_is new own outer (digest draft.digest) digest_of last_value draft h in
      let kind : digest_kind (digest_methods new (dig ∷ [])) ≡ Some draft.digest =
      ap (λ spots. digest_kind (first spots)) (append-nil (called new (ds (codes "DigestMethod")) dig))
      ∙ ap (λ spots. digest_kind (first (filter (is_called (ds (codes "DigestMethod"))) spots))) (elements_stand new dig node d_there) ∙ named_back draft.digest in
      let told : octets_or_none new (digest_values new (dig ∷ [])) ≡ value =
      ap (λ spots. octets_or_none new (first spots)) (append-nil (called new (ds (codes "DigestValue")) dig))
      ∙ ap (λ spots. octets_or_none new (first (filter (is_called (ds (codes "DigestValue"))) spots))) (elements_stand new dig node d_there)
      ∙ ap (λ o. unwrap_or o []) (octets_read new dv (ds_named (codes "DigestValue")) [] value (g draft.digest (first_certificate draft))
      (child_there new dig node d_there 1 (ds_named (codes "DigestValue")) [] (encoded value) refl)) in
      let keys = ap (map (λ spot. unwrap_or (octets_in new spot) [])) (of.certificates_are new own outer (digest draft.digest) digest_of last_value draft h)
      ∙ octets_back 0 draft.certificates (whole_bytes is_whole _ draft.certificates c.whole) (rest.certificates_there new own outer (digest draft.digest) digest_of last_value draft h) in
      (λ i. find (has_digest digest (digest_kind (digest_methods new (found i))) (octets_or_none new (digest_values new (found i)))) (keys i))
      ∙ (λ i. find (has_digest digest (kind i) (told i)) draft.certificates)
      ∙ found_first draft.certificates value c.signer (same_is value)

pub sound_references : ReferencesAreSound
sound_references digest handed document draft h p = none_at_fault digest handed document draft p h

pub first_signs : CertificateIsFirst
first_signs is_whole digest handed document draft g c p = certificate_first digest handed document draft p is_whole g c

pub method_is_drafts : MethodIsTheDrafts
method_is_drafts digest handed document draft p =
    let d : Nodes = prepared digest handed document draft in
    let path : Path = (signature_in document draft).path in
    let tags : List Tag = tags_at document (root_of document) in (
      reading.signature_method path tags draft,
      of.signature_method_is d path tags (digest draft.digest) (original.digest_of digest handed document draft p.root) (original.last_value digest handed document draft p.root) draft (here digest handed document draft p),
      refl,
    )
