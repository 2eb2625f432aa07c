-- The new signature is free: no node set of its References holds a place of it.
use Rattle.std.proofs.Common.{◌≡◌, ℕ, suc, ◌+◌, ◌<◌, Bool, true, false, cond, not, ◌&&◌, ◌||◌, ◌==◌, List, [], ◌∷◌, ◌++◌, length, Option, Some, None, refl, sym, ◌∙◌, ap, subst, codes, arith, append_assoc}
use Rattle.std.proofs.lemmas.List.{append-nil, append_cancel_left}
use Rattle.std.proofs.lemmas.Option.{none-some}
use Rattle.std.proofs.lemmas.Slice.Eq.{bytes_eq-Decides}
use Rattle.std.specs.Prelude.{filter, option_and_then}
use Rattle.std.specs.Fmt.{decimal}
use Rattle.std.specs.List.{list_any}
use Rattle.std.specs.Option.{option_map_or}
use Rattle.document_model.specs.Characters.{◌is◌, is_empty}
use Rattle.document_model.specs.Tree.{Nodes, Path, Element, no_nodes, below, count}
use Rattle.document_model.specs.Scopes.{Tag, tags_at}
use Rattle.document_model.specs.NodeSets.{NodeSet, is_within, Target, Missing, Single, Double, target_among, target_of, identified}
use Rattle.signature_model.specs.Vocabulary.{DigestKind}
use Rattle.signature_model.specs.Spots.{Spot, text_among, without_white}
use Rattle.signature_model.specs.Parts.{is_blank, is_signed}
use Rattle.signature_model.specs.Chains.{Handed, Place, Document, Named, External, place_named, Chain, apex_of, set_at, target_set, node_set, less_taken}
use Rattle.signature_model.specs.Covers.{places, lies_in, is_reached, covers_place, first_covering, IsFree}
use Rattle.signature_model.specs.Prepared.{Draft, reference_id, properties_id, prepared}
use Rattle.signature_model.proofs.Lists.{not_both, not_within_holder, not_within_other}
use Rattle.signature_model.proofs.PropertyKept.{same_self}
use Rattle.signature_model.proofs.References.{target_stands}
use Rattle.signature_model.proofs.FreeBelow.{new_not_reached}
use Rattle.covered_items.proofs.NewElements.{held_stands}
use Rattle.prepared_documents.specs.Places.{root_of, signature_in, signature_attributes}
use Rattle.prepared_documents.specs.Preparable.{IsTarget, AreTargets, IsPreparable}
use Rattle.prepared_documents.proofs.TakenAway.{no_nth}
use Rattle.prepared_documents.proofs.Reading as reading
use Rattle.prepared_documents.proofs.Reading.{ds_named, references_at, last_at, ReferencesThere, There}
use Rattle.prepared_documents.proofs.Chained.{exclusive_chain, ReferenceThere, LastThere, document_chain, named_chain, external_chain, last_chain}
use Rattle.prepared_documents.proofs.Found.{identified_there}
use Rattle.prepared_documents.proofs.Carried.{NoReference, IsProperties, properties_found}
use Rattle.prepared_documents.proofs.Original as original
use Rattle.prepared_documents.proofs.Original.{place_is, there, target_stays, not_around, root_step, full_single, full_identified}
use Rattle.prepared_documents.proofs.PartsOf as of
use Rattle.prepared_documents.proofs.LinesRest.{same_is}
use Rattle.signature_model.proofs.FreeBelow.{within_more}
use Rattle.covered_items.proofs.Lists.{heads, tails}

-- Paths.

not_longer : (apex more path : Path) → is_within apex path ≡ false → is_within (apex ++ more) path ≡ false
not_longer [] more path e = absurd (not_both e)
not_longer (k ∷ apex) more [] e = refl
not_longer (k ∷ apex) more (j ∷ path) e = by_bool (not_longer apex more path) (k == j) e
  where
    by_bool : (is_within apex path ≡ false → is_within (apex ++ more) path ≡ false) → (b : Bool) → (b && is_within apex path) ≡ false → (b && is_within (apex ++ more) path) ≡ false
    by_bool f true e = f e
    by_bool f false e = refl

-- The identifiers of the signature are told apart.

abbrev IsNothing : List ℕ → Type 0
IsNothing [] = Unit {0}
IsNothing (c ∷ cs) = ⊥

pub differs : (a b : List ℕ) → (a ≡ b → ⊥) → (a is b) ≡ false
differs a b d = by_bool (a is b) refl
  where
    by_bool : (t : Bool) → (a is b) ≡ t → t ≡ false
    by_bool false e = refl
    by_bool true e = absurd (d ((bytes_eq-Decides a b).0 e))

not_properties : (id : List ℕ) → id ≡ properties_id id → ⊥
not_properties id e = subst IsNothing (append_cancel_left id [] (codes "-sp") (append-nil id ∙ e)) tt

unlike : (a b : ℕ) → a < b → a ≡ b → ⊥
unlike a b h e = omega arith

not_reference : (id : List ℕ) (k : ℕ) → reference_id id k ≡ properties_id id → ⊥
not_reference id k e =
    let same : codes "-r" ++ decimal k ≡ codes "-sp" = append_cancel_left id (codes "-r" ++ decimal k) (codes "-sp") (sym (append_assoc id (codes "-r") (decimal k)) ∙ e) in
    unlike 114 115 (omega arith) (heads (tails same))

no_reference : (draft : Draft) (k : ℕ) (uris : List (List ℕ)) → NoReference (properties_id draft.id) draft k uris
no_reference draft k [] = tt
no_reference draft k (uri ∷ uris) = (differs (reference_id draft.id k) (properties_id draft.id) (not_reference draft.id k), no_reference draft (suc k) uris)

some_text : (id : List ℕ) → is_empty (properties_id id) ≡ false
some_text [] = refl
some_text (c ∷ cs) = refl

pub properties_told : (draft : Draft) → IsProperties draft
properties_told draft = record {
  some = some_text draft.id;
  own = differs draft.id (properties_id draft.id) (not_properties draft.id);
  same = same_is (properties_id draft.id);
  references = no_reference draft 1 draft.references;
}

none_missing : (paths : List Path) → target_among paths ≡ Missing → paths ≡ []
none_missing [] e = refl
none_missing (p ∷ []) e = absurd (none-some p (sym (ap apex_of e)))
none_missing (p ∷ q ∷ paths) e = absurd (subst IsNotDouble (sym e) tt)
  where
    IsNotDouble : Target → Type 0
    IsNotDouble Missing = Unit {0}
    IsNotDouble (Single path) = Unit {0}
    IsNotDouble Double = ⊥

module _ (digest : DigestKind → List ℕ → List ℕ) (handed : Handed) (document : Nodes) (draft : Draft) (p : IsPreparable document draft) where
  abbrev new : Nodes
  new = prepared digest handed document draft

  abbrev own : Path
  own = (signature_in document draft).path

  abbrev outer : List Tag
  outer = tags_at document (root_of document)

  abbrev digest_of : List ℕ → List ℕ
  digest_of = original.digest_of digest handed document draft p.root

  abbrev last_value : List ℕ
  last_value = original.last_value digest handed document draft p.root

  abbrev sig : Spot
  sig = signature_in document draft

  abbrev value : Spot
  value = reading.value own outer draft

  abbrev qualifying : Spot
  qualifying = reading.qualifying own outer draft

  abbrev properties_path : Path
  properties_path = (reading.properties own outer draft).path

  abbrev pub here : There new own outer (digest draft.digest) digest_of last_value draft
  here = there digest handed document draft p.root

  -- the target of the last Reference

  pub properties_target : target_set new (Named (properties_id draft.id)) ≡ Some (set_at properties_path)
  properties_target =
      let r = p.root in
      let x : List ℕ = properties_id draft.id in
      let inside : Nodes = original.inner digest handed document draft r in
      let none = none_missing (identified x [] 0 document) p.may.properties_free in
      let found = identified_there x (ds_named (codes "Signature")) (signature_attributes draft) inside document (root_of document) r.0 r.1 r.2 none
      ∙ properties_found (root_of document ++ count (below r.0) ∷ []) (digest draft.digest) digest_of last_value draft (properties_told draft)
      ∙ ap (λ q. (((q ++ 3 ∷ []) ++ 0 ∷ []) ++ 0 ∷ []) ∷ []) (sym (place_is document draft r)) in
      ap (λ paths. option_and_then (λ q. Some (set_at q)) (apex_of (target_among paths))) found

  -- places

  value_blank : is_blank new value ≡ true
  value_blank = ap (λ nodes. is_empty (without_white (text_among nodes)))
      (held_stands new value (Element (ds_named (codes "SignatureValue")) [] no_nodes) (reading.value_there new own outer (digest draft.digest) digest_of last_value draft here))

  pub not_signed : is_signed new sig ≡ false
  not_signed = ap (list_any (λ spot. not (is_blank new spot))) (of.value_is new own outer (digest draft.digest) digest_of last_value draft here)
      ∙ ap (λ b. not b || false) value_blank

  places_are : places new sig ≡ value ∷ qualifying ∷ []
  places_are =
      let v = of.value_is new own outer (digest draft.digest) digest_of last_value draft here in
      let h = of.host_is new own outer (digest draft.digest) digest_of last_value draft here in
      (λ i. filter (is_blank new) (v i) ++ h i) ∙ (λ i. cond (value_blank i) (value ∷ []) [] ++ qualifying ∷ [])

  -- node sets

  abbrev reached_with : Path → Option Chain → Option NodeSet → Bool
  reached_with q c target = option_map_or (λ set. lies_in set q) (option_and_then (λ set. Some (less_taken own set c)) target) false

  own_within : (rest : Path) → is_within own (own ++ rest) ≡ true
  own_within rest = within_more own own rest (same_self own)

  -- a place below the signature, in the set of an element of the original document
  not_below : (x : List ℕ) (apex : Path) → target_of x document ≡ Single apex → (apex ≡ root_of document → ⊥) → (rest : Path) → lies_in (set_at apex) (own ++ rest) ≡ false
  not_below x apex t d rest =
      let r = p.root in
      let full = full_single (identified x [] 0 document) apex (full_identified x [] 0 document) t in
      let set : target_set document (Named x) ≡ Some (set_at apex) = ap (λ o. option_and_then (λ q. Some (set_at q)) (apex_of o)) t in
      let out : lies_in (set_at apex) (root_of document) ≡ false = ap (λ b. b && true) (not_around apex (root_of document) (root_step 0 document) full d) in
      ap (λ q. lies_in (set_at apex) (q ++ rest)) (place_is document draft r)
      ∙ ap (lies_in (set_at apex)) (append_assoc (root_of document) (count (below r.0) ∷ []) rest)
      ∙ new_not_reached document (set_at apex) (root_of document) (count (below r.0)) rest r.0 (target_stands document (Named x) (set_at apex) set) r.1 (no_nth (below r.0)) out

  one_place : (j k : ℕ) (uri octets : List ℕ) (rest : Path) → ReferenceThere new own outer draft j k uri (place_named uri) octets → IsTarget document (place_named uri)
      → option_map_or (λ set. lies_in set (own ++ rest)) (node_set new own (reading.reference own outer draft j k uri)) false ≡ false
  one_place j k uri octets rest s t = by_place (place_named uri) refl
    where
      by_place : (q : Place) → place_named uri ≡ q → option_map_or (λ set. lies_in set (own ++ rest)) (node_set new own (reading.reference own outer draft j k uri)) false ≡ false
      by_place Document e =
          let c = document_chain new own outer draft j k uri octets e (subst (λ q. ReferenceThere new own outer draft j k uri q octets) e s) in
          (λ i. reached_with (own ++ rest) (c i) (target_set new (e i)))
          ∙ ap (λ b. true && not b) (own_within rest)
      by_place (Named x) e =
          let h : IsTarget document (Named x) = subst (IsTarget document) e t in
          let c = named_chain new own outer draft j k uri x octets e (subst (λ q. ReferenceThere new own outer draft j k uri q octets) e s) in
          let set : target_set new (Named x) ≡ Some (set_at h.0) =
          ap (λ o. option_and_then (λ q. Some (set_at q)) (apex_of o)) (target_stays digest handed document draft p x h.0 h.1 ∙ h.1) in
          (λ i. reached_with (own ++ rest) (c i) (target_set new (e i)))
          ∙ ap (reached_with (own ++ rest) (Some exclusive_chain)) set
          ∙ not_below x h.0 h.1 h.2 rest
      by_place External e =
          let c = external_chain new own outer draft j k uri octets e (subst (λ q. ReferenceThere new own outer draft j k uri q octets) e s) in
          λ i. reached_with (own ++ rest) (c i) (target_set new (e i))

  neither_place : (r : Spot) → is_reached new own value r ≡ false → is_reached new own qualifying r ≡ false → covers_place new sig r ≡ false
  neither_place r a b = ap (list_any (λ place. is_reached new own place r)) places_are ∙ (λ i. a i || (b i || false))

  one_free : (j k : ℕ) (uri octets : List ℕ) → ReferenceThere new own outer draft j k uri (place_named uri) octets → IsTarget document (place_named uri)
      → covers_place new sig (reading.reference own outer draft j k uri) ≡ false
  one_free j k uri octets s t =
      let r : Spot = reading.reference own outer draft j k uri in
      let q : (own ++ 3 ∷ []) ++ 0 ∷ [] ≡ own ++ 3 ∷ 0 ∷ [] = append_assoc own (3 ∷ []) (0 ∷ []) in
      neither_place r (one_place j k uri octets (1 ∷ []) s t)
      (ap (λ place. option_map_or (λ set. lies_in set place) (node_set new own r) false) q ∙ one_place j k uri octets (3 ∷ 0 ∷ []) s t)

  last_free : (j : ℕ) (octets : List ℕ) → LastThere new own outer draft j octets → covers_place new sig (last_at own outer draft j) ≡ false
  last_free j octets s =
      let r : Spot = last_at own outer draft j in
      let c = last_chain new own outer draft j octets s in
      let x : Place = Named (properties_id draft.id) in
      let reached : (place : Path) → is_within properties_path place ≡ false → option_map_or (λ set. lies_in set place) (node_set new own r) false ≡ false =
      λ place e. (λ i. reached_with place (c i) (target_set new x)) ∙ ap (reached_with place (Some exclusive_chain)) properties_target ∙ ap (λ b. b && true) e in
      let first = not_longer ((own ++ 3 ∷ []) ++ 0 ∷ []) (0 ∷ []) value.path (not_longer (own ++ 3 ∷ []) (0 ∷ []) value.path (not_within_other own 3 1 [] (λ e. unlike 1 3 (omega arith) (sym e)))) in
      neither_place r (reached value.path first) (reached qualifying.path (not_within_holder qualifying.path 0))

  all_free : (j k n : ℕ) (uris : List (List ℕ)) (behind : List Spot) → ReferencesThere new own outer (digest draft.digest) digest_of last_value draft j k uris → AreTargets document uris
      → ((n : ℕ) → first_covering new sig n behind ≡ None) → first_covering new sig n (references_at own outer draft j k uris ++ behind) ≡ None
  all_free j k n [] behind s t h = h n
  all_free j k n (uri ∷ uris) behind s t h =
      ap (λ b. cond b (Some n) (first_covering new sig (suc n) (references_at own outer draft (suc j) (suc k) uris ++ behind))) (one_free j k uri (digest_of uri) s.0 t.0)
      ∙ all_free (suc j) (suc k) (suc n) uris behind s.1 t.1 h

  pub is_free : IsFree new sig
  is_free =
      let s = reading.references_there new own outer (digest draft.digest) digest_of last_value draft here in
      let last : Spot = last_at own outer draft (2 + length draft.references) in
      ap (first_covering new sig 1) (of.references_are new own outer (digest draft.digest) digest_of last_value draft here)
      ∙ all_free 2 1 1 draft.references (last ∷ []) s.0 p.may.targets
      (λ n. ap (λ b. cond b (Some n) None) (last_free (2 + length draft.references) last_value s.1))
