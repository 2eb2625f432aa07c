-- What the References of the prepared signature cover.
use Rattle.std.proofs.Common.{◌≡◌, ℕ, suc, ◌+◌, Bool, true, false, List, [], ◌∷◌, ◌++◌, ◌==◌, ◌&&◌, cond, length, Some, refl, sym, ◌∙◌, ap, subst, codes, arith}
use Rattle.std.proofs.lemmas.List.{append-nil}
use Rattle.std.proofs.lemmas.Option.{none-some, same_Some}
use Rattle.std.proofs.lemmas.Slice.Eq.{bytes_eq-Decides}
use Rattle.std.specs.Prelude.{filter, option_and_then, unwrap_or, encode_utf8_all}
use Rattle.std.specs.Option.{option_map_or}
use Rattle.std.specs.Cmp.{unsigned_Decides}
use Rattle.document_model.specs.Characters.{◌is◌}
use Rattle.document_model.specs.Tree.{Node, Nodes, Path, Element, Text, Comment, Instruction, no_nodes, ◌⨾◌, node_at, below, count, IsElementAt}
use Rattle.document_model.specs.Items.{Attribute}
use Rattle.document_model.specs.Scopes.{Tag, tags_at}
use Rattle.document_model.specs.NodeSets.{without, is_within, identified, identified_in, once_each, is_identifier, Missing, Single, target_among, target_of}
use Rattle.document_model.specs.Canonical.{octets_of}
use Rattle.document_model.proofs.Kept.{keeps_texts}
use Rattle.signature_model.specs.Vocabulary.{DigestKind, ds}
use Rattle.signature_model.specs.Spots.{Spot, is_called, elements_in, first, called_in}
use Rattle.signature_model.specs.Parts.{signed_info, references}
use Rattle.signature_model.specs.Chains.{Handed, Place, Document, Named, External, place_named, apex_of, set_at, target_set}
use Rattle.signature_model.specs.Octets.{next_form, digest_octets}
use Rattle.signature_model.specs.Covers.{Digested, digested}
use Rattle.signature_model.specs.Keeping.{IsSpot}
use Rattle.signature_model.specs.Prepared.{Draft, reference_id, properties_id, named_octets, properties_octets, prepared, last_reference, root_path}
use Rattle.signature_model.proofs.Lists.{not_second}
use Rattle.signature_model.proofs.References.{target_stands}
use Rattle.signature_model.proofs.PropertyKept.{off}
use Rattle.covered_items.proofs.NewElements.{one_element, elements_stand, new_stands}
use Rattle.prepared_documents.specs.Places.{root_of, signature_in, signature_attributes}
use Rattle.prepared_documents.specs.Preparable.{AreFree, IsTarget, AreTargets, IsPreparable}
use Rattle.prepared_documents.specs.Covering.{named_entries}
use Rattle.prepared_documents.proofs.TakenAway.{takes_away}
use Rattle.prepared_documents.proofs.Reading as reading
use Rattle.prepared_documents.proofs.Reading.{ds_named, signature_inner, info_inner, info_there, references_at, references_read, references_there, ReferencesThere, LastThere, There, last_at}
use Rattle.prepared_documents.proofs.Chained.{ReferenceThere, document_octets, named_octets_are, external_octets}
use Rattle.prepared_documents.proofs.Found.{identified_stay}
use Rattle.prepared_documents.proofs.Carried.{IsOther, NoReference, none_identified_in, signature_not}

-- The signature where it stands.

-- its place, by the document element
abbrev pub Root : Nodes → Type 0
Root document = IsElementAt document (root_of document)

pub place_is : (document : Nodes) (draft : Draft) (r : Root document) → (signature_in document draft).path ≡ root_of document ++ count (below r.0) ∷ []
place_is document draft r = ap (λ o. root_of document ++ option_map_or (λ node. count (below node)) o 0 ∷ []) r.1

module _ (digest : DigestKind → List ℕ → List ℕ) (handed : Handed) (document : Nodes) (draft : Draft) (r : Root document) where
  abbrev pub new : Nodes
  new = prepared digest handed document draft

  abbrev pub digest_of : List ℕ → List ℕ
  digest_of uri = digest draft.digest (named_octets handed document uri)

  abbrev pub last_value : List ℕ
  last_value = digest draft.digest (properties_octets (digest draft.digest) draft)

  abbrev pub own : Path
  own = (signature_in document draft).path

  abbrev pub outer : List Tag
  outer = tags_at document (root_of document)

  abbrev pub inner : Nodes
  inner = signature_inner (digest draft.digest) digest_of last_value draft

  abbrev root_spot : Spot
  root_spot = record { path = root_of document; tags = outer }

  abbrev root_stands : IsSpot document root_spot
  root_stands = record { tags = refl; element = r }

  pub there : There new own outer (digest draft.digest) digest_of last_value draft
  there =
      let s = new_stands document root_spot root_stands (ds_named (codes "Signature")) (signature_attributes draft) inner in
      record { at = ap (node_at new) (place_is document draft r) ∙ s.at }

  -- the References

  pub infos : signed_info new (signature_in document draft) ≡ reading.info own outer draft ∷ []
  infos = ap (λ spots. first (filter (is_called (ds (codes "SignedInfo"))) spots))
      (elements_stand new (reading.signature own outer draft) (Element (ds_named (codes "Signature")) (signature_attributes draft) inner) there)

  all_called : (k j : ℕ) (uris : List (List ℕ)) (behind : List Spot)
      → filter (is_called (ds (codes "Reference"))) (references_at own outer draft j k uris ++ behind) ≡ references_at own outer draft j k uris ++ filter (is_called (ds (codes "Reference"))) behind
  all_called k j [] behind = refl
  all_called k j (uri ∷ uris) behind = ap (λ spots. reading.reference own outer draft j k uri ∷ spots) (all_called (suc k) (suc j) uris behind)

  pub references_are : references new (signature_in document draft) ≡ references_at own outer draft 2 1 draft.references ++ last_at own outer draft (2 + length draft.references) ∷ []
  references_are =
      let info : Spot = reading.info own outer draft in
      let is_reference : Spot → Bool = is_called (ds (codes "Reference")) in
      ap (called_in new (ds (codes "Reference"))) infos
      ∙ append-nil (filter is_reference (elements_in new info))
      ∙ ap (filter is_reference) (elements_stand new info (Element (ds_named (codes "SignedInfo")) [] (info_inner digest_of last_value draft)) (info_there new own outer (digest draft.digest) digest_of last_value draft there))
      ∙ ap (λ spots. filter is_reference (reading.method own outer draft ∷ reading.signature_method own outer draft ∷ spots))
      (references_read own outer draft digest_of (last_reference draft last_value) 2 1 draft.references)
      ∙ all_called 1 2 draft.references (last_at own outer draft (2 + length draft.references) ∷ [])

-- Identifiers that stay.

same_text : (a b : List ℕ) → (a is b) ≡ true → a ≡ b
same_text a b e = (bytes_eq-Decides a b).0 e

missing_single : (path : Path) → Missing ≡ Single path → ⊥
missing_single path e = none-some path (ap apex_of e)

other_text : (document : Nodes) (a x : List ℕ) (path : Path) → target_of a document ≡ Missing → target_of x document ≡ Single path → (a is x) ≡ false
other_text document a x path m s = by_bool (a is x) refl
  where
    by_bool : (b : Bool) → (a is x) ≡ b → b ≡ false
    by_bool false e = refl
    by_bool true e = absurd (missing_single path (sym m ∙ ap (λ y. target_of y document) (same_text a x e) ∙ s))

other_references : (document : Nodes) (draft : Draft) (x : List ℕ) (path : Path) → target_of x document ≡ Single path → (k : ℕ) (uris : List (List ℕ)) → AreFree document draft k uris → NoReference x draft k uris
other_references document draft x path s k [] f = tt
other_references document draft x path s k (uri ∷ uris) f = (other_text document (reference_id draft.id k) x path f.0 s, other_references document draft x path s (suc k) uris f.1)

pub target_stays : (digest : DigestKind → List ℕ → List ℕ) (handed : Handed) (document : Nodes) (draft : Draft) (p : IsPreparable document draft) (x : List ℕ) (path : Path)
    → target_of x document ≡ Single path → target_of x (prepared digest handed document draft) ≡ target_of x document
target_stays digest handed document draft p x path s =
    let r = p.root in
    let inside : Nodes = inner digest handed document draft r in
    let other : IsOther x draft = record {
      own = other_text document draft.id x path p.may.own_free s;
      properties = other_text document (properties_id draft.id) x path p.may.properties_free s;
      references = other_references document draft x path s 1 draft.references p.may.references_free;
    } in
    let none : (place : Path) → identified_in x place (Element (ds_named (codes "Signature")) (signature_attributes draft) inside) ≡ [] =
    λ place. none_identified_in x place (Element (ds_named (codes "Signature")) (signature_attributes draft) inside)
    (signature_not x (digest draft.digest) (digest_of digest handed document draft r) (last_value digest handed document draft r) draft other) in
    ap target_among (identified_stay x (ds_named (codes "Signature")) (signature_attributes draft) inside none document (root_of document) r.0 r.1)

-- An element that isn't the document element doesn't hold it.

abbrev pub IsFull : Path → Type 0
IsFull [] = ⊥
IsFull (k ∷ path) = Unit {0}

abbrev pub AllFull : List Path → Type 0
AllFull [] = Unit {0}
AllFull (path ∷ paths) = IsFull path × AllFull paths

pub full_last : (path : Path) (k : ℕ) → IsFull (path ++ k ∷ [])
full_last [] k = tt
full_last (j ∷ path) k = tt

full_both : (a b : List Path) → AllFull a → AllFull b → AllFull (a ++ b)
full_both [] b f g = g
full_both (x ∷ a) b f g = (f.0, full_both a b f.1 g)

full_once : (x : List ℕ) (path : Path) → IsFull path → (attributes : List Attribute) → AllFull (once_each x path attributes)
full_once x path f [] = tt
full_once x path f (a ∷ attributes) = by_bool (is_identifier x a) (full_once x path f attributes)
  where
    by_bool : (b : Bool) → AllFull (once_each x path attributes) → AllFull (cond b (path ∷ once_each x path attributes) (once_each x path attributes))
    by_bool true more = (f, more)
    by_bool false more = more

mutual
  pub full_identified : (x : List ℕ) (path : Path) (k : ℕ) (nodes : Nodes) → AllFull (identified x path k nodes)
  full_identified x path k no_nodes = tt
  full_identified x path k (node ⨾ nodes) =
      full_both (identified_in x (path ++ k ∷ []) node) (identified x path (suc k) nodes) (full_in x (path ++ k ∷ []) (full_last path k) node) (full_identified x path (suc k) nodes)

  full_in : (x : List ℕ) (path : Path) → IsFull path → (node : Node) → AllFull (identified_in x path node)
  full_in x path f (Element name attributes nodes) = full_both (once_each x path attributes) (identified x path 0 nodes) (full_once x path f attributes) (full_identified x path 0 nodes)
  full_in x path f (Text cs) = tt
  full_in x path f (Comment cs) = tt
  full_in x path f (Instruction target content) = tt

pub full_single : (paths : List Path) (path : Path) → AllFull paths → target_among paths ≡ Single path → IsFull path
full_single [] path f e = absurd (missing_single path e)
full_single (p ∷ []) path f e = let same : p ≡ path = same_Some p path (ap apex_of e) in subst IsFull same f.0
full_single (p ∷ q ∷ paths) path f e = absurd (none-some path (ap apex_of e))

-- the document element's path is one step, if any
abbrev pub IsStep : Path → Type 0
IsStep [] = Unit {0}
IsStep (k ∷ []) = Unit {0}
IsStep (k ∷ j ∷ path) = ⊥

pub root_step : (k : ℕ) (nodes : Nodes) → IsStep (root_path k nodes)
root_step k no_nodes = tt
root_step k (Element name attributes held ⨾ nodes) = tt
root_step k (Text cs ⨾ nodes) = root_step (suc k) nodes
root_step k (Comment cs ⨾ nodes) = root_step (suc k) nodes
root_step k (Instruction target content ⨾ nodes) = root_step (suc k) nodes

pub not_around : (apex root : Path) → IsStep root → IsFull apex → (apex ≡ root → ⊥) → is_within apex root ≡ false
not_around [] root s f d = absurd f
not_around (a ∷ apex) [] s f d = refl
not_around (a ∷ b ∷ apex) (k ∷ []) s f d = not_second (a == k) false refl
not_around (a ∷ []) (k ∷ []) s f d = by_bool (a == k) refl
  where
    by_bool : (b : Bool) → (a == k) ≡ b → (b && true) ≡ false
    by_bool false e = refl
    by_bool true e = absurd (d (ap (λ i. i ∷ []) ((unsigned_Decides a k).0 e)))
not_around (a ∷ apex) (k ∷ j ∷ root) s f d = absurd s

-- One Reference, and all.

module _ (digest : DigestKind → List ℕ → List ℕ) (handed : Handed) (document : Nodes) (draft : Draft) (p : IsPreparable document draft) where
  abbrev made : Nodes
  made = prepared digest handed document draft

  abbrev place : Path
  place = (signature_in document draft).path

  abbrev scope : List Tag
  scope = tags_at document (root_of document)

  abbrev content : Nodes
  content = inner digest handed document draft p.root

  whole_text : octets_of next_form (without (set_at []) place) made ≡ octets_of next_form (set_at []) document
  whole_text =
      let r = p.root in
      ap (λ q. octets_of next_form (without (set_at []) q) made) (place_is document draft r)
      ∙ ap encode_utf8_all ((takes_away (set_at []) document (root_of document) r.0 (ds_named (codes "Signature")) (signature_attributes draft) content refl refl r.1 r.2).1 next_form)

  target_text : (x : List ℕ) (path : Path) → target_of x document ≡ Single path → (path ≡ root_of document → ⊥)
      → octets_of next_form (set_at path) made ≡ octets_of next_form (set_at path) document
  target_text x path t d =
      let full = full_single (identified x [] 0 document) path (full_identified x [] 0 document) t in
      let set : target_set document (Named x) ≡ Some (set_at path) = ap (λ o. option_and_then (λ q. Some (set_at q)) (apex_of o)) t in
      ap encode_utf8_all ((keeps_texts (set_at path) document (one_element (ds_named (codes "Signature")) (signature_attributes draft) content) (root_of document) p.root
      (target_stands document (Named x) (set_at path) set)
      (off (is_within path (root_of document)) true true (not_around path (root_of document) (root_step 0 document) full d))).1 next_form)

  octets_as_named : Place → List ℕ → List ℕ
  octets_as_named q uri = option_map_or (λ set. octets_of next_form set document) (target_set document q) (unwrap_or (handed uri) [])

  pub one_reference : (j k : ℕ) (uri octets : List ℕ) → ReferenceThere made place scope draft j k uri (place_named uri) octets → IsTarget document (place_named uri)
      → digest_octets handed made place (reading.reference place scope draft j k uri) ≡ named_octets handed document uri
  unfolding octets_as_named
  one_reference j k uri octets s t = by_place (place_named uri) refl
    where
      by_place : (q : Place) → place_named uri ≡ q → digest_octets handed made place (reading.reference place scope draft j k uri) ≡ named_octets handed document uri
      by_place Document e =
          document_octets made place scope draft handed place j k uri octets e (subst (λ q. ReferenceThere made place scope draft j k uri q octets) e s)
          ∙ whole_text ∙ sym (ap (λ q. octets_as_named q uri) e)
      by_place (Named x) e =
          let h : IsTarget document (Named x) = subst (IsTarget document) e t in
          let new_set : target_set made (Named x) ≡ Some (set_at h.0) =
          ap (λ o. option_and_then (λ q. Some (set_at q)) (apex_of o)) (target_stays digest handed document draft p x h.0 h.1 ∙ h.1) in
          let old_set : target_set document (Named x) ≡ Some (set_at h.0) = ap (λ o. option_and_then (λ q. Some (set_at q)) (apex_of o)) h.1 in
          named_octets_are made place scope draft handed place j k uri x octets h.0 e new_set (subst (λ q. ReferenceThere made place scope draft j k uri q octets) e s)
          ∙ target_text x h.0 h.1 h.2
          ∙ sym (ap (λ q. octets_as_named q uri) e ∙ ap (λ o. option_map_or (λ set. octets_of next_form set document) o (unwrap_or (handed uri) [])) old_set)
      by_place External e =
          external_octets made place scope draft handed place j k uri octets e (subst (λ q. ReferenceThere made place scope draft j k uri q octets) e s)
          ∙ sym (ap (λ q. octets_as_named q uri) e)

  pub all_references : (j k : ℕ) (uris : List (List ℕ)) (behind : List Spot)
      → ReferencesThere made place scope (digest draft.digest) (digest_of digest handed document draft p.root) (last_value digest handed document draft p.root) draft j k uris → AreTargets document uris
      → digested handed made place k (references_at place scope draft j k uris ++ behind) ≡ named_entries handed document k uris ++ digested handed made place (k + length uris) behind
  all_references j k [] behind s t = let n : k ≡ k + 0 = omega arith in ap (λ i. digested handed made place i behind) n
  all_references j k (uri ∷ uris) behind s t =
      let n : suc k + length uris ≡ k + suc (length uris) = omega arith in
      let one = one_reference j k uri (digest_of digest handed document draft p.root uri) s.0 t.0 in
      let more = all_references (suc j) (suc k) uris behind s.1 t.1 ∙ ap (λ i. named_entries handed document (suc k) uris ++ digested handed made place i behind) n in
      λ i. Digested k (one i) ∷ more i
