-- The digest octets of a Reference stay where content is put into an element that its node set doesn't hold.
use Rattle.std.proofs.Common.{◌≡◌, ℕ, suc, ◌+◌, Bool, true, false, not, ◌&&◌, ◌||◌, cond, List, [], ◌∷◌, ◌++◌, Option, Some, None, refl, sym, ◌∙◌, ap, subst, codes, arith}
use Rattle.std.proofs.lemmas.Option.{none-some, same_Some}
use Rattle.std.specs.Prelude.{flat_map, map, option_and_then, encode_utf8_all}
use Rattle.std.specs.Option.{option_map_or}
use Rattle.document_model.specs.Names.{Expanded, same_expanded}
use Rattle.document_model.specs.Items.{Attribute}
use Rattle.document_model.specs.Tree.{Node, Nodes, Path, Element, Text, Comment, Instruction, no_nodes, ◌⨾◌, nth, below, descend, node_at, IsElementAt, put_last}
use Rattle.document_model.specs.NodeSets.{is_in_signature, NodeSet, part, target_of, target_among, identified, identified_in, once_each, is_identifier}
use Rattle.document_model.specs.Canonical.{Form, octets_of}
use Rattle.document_model.specs.Scopes.{tags_at}
use Rattle.document_model.specs.Insertion.{SameIn, HasNoIdentifiers, IsWholeOrElement}
use Rattle.document_model.proofs.Kept.{keeps_texts}
use Rattle.document_model.proofs.Targets.{keeps_targets}
use Rattle.document_model.proofs.Joins.{by_test}
use Rattle.signature_model.specs.Vocabulary.{ds}
use Rattle.signature_model.specs.Spots.{Spot, is_called, attribute, elements_in, called, first, without_white}
use Rattle.signature_model.specs.Base64.{strict}
use Rattle.signature_model.specs.Parts.{signed_info, references, transforms, transform_lists}
use Rattle.signature_model.specs.Chains.{Handed, Place, Document, Named, External, place, is_external, Chain, Taken, Nothing, OwnSignature, Made, NodesAlone, InForm, Decoded, transform_of, transform_named, Other, chain_on, chain, taken_from, less_taken, apex_of, set_at, target_set, node_set, handed_in, or_no_meaning, made_of_set, made_of_octets, texts}
use Rattle.signature_model.specs.Octets.{by_chain, octets_by, reference_octets}
use Rattle.signature_model.specs.Keeping.{IsSpot}
use Rattle.signature_model.specs.Covers.{lies_in}
use Rattle.signature_model.proofs.Standing.{Each, IsChild, children_stand, child_stands}
use Rattle.signature_model.proofs.Lists.{each_append, each_map, each_flat, each_first, flat_same, map_same}
use Rattle.signature_model.proofs.Apart.{Apart, IsNamed, named_apart, elements_stay, called_stay, called_in_stay, form_stays, called_named, called_in_named, named_stand, all_apart}

-- The host has another name than what is read of SignedInfo.
pub record IsOther (host_name : Expanded) : Type 0 where
  pub signature : same_expanded (ds (codes "Signature")) host_name ≡ false
  pub signed_info : same_expanded (ds (codes "SignedInfo")) host_name ≡ false
  pub method : same_expanded (ds (codes "CanonicalizationMethod")) host_name ≡ false
  pub reference : same_expanded (ds (codes "Reference")) host_name ≡ false
  pub transforms : same_expanded (ds (codes "Transforms")) host_name ≡ false
  pub transform : same_expanded (ds (codes "Transform")) host_name ≡ false

-- Targets are elements.

each_once : (document : Nodes) (value : List ℕ) (path : Path) → IsElementAt document path → (attributes : List Attribute)
    → Each (IsElementAt document) (once_each value path attributes)
each_once document value path h [] = tt
each_once document value path h (a ∷ attributes) =
    by_test (Each (IsElementAt document)) (is_identifier value a) _ _ (λ e. (h, each_once document value path h attributes)) (λ e. each_once document value path h attributes)

abbrev Follow : Nodes → Path → ℕ → Nodes → Type 0
Follow document path i nodes = (k : ℕ) (c : Node) → nth k nodes ≡ Some c → node_at document (path ++ (i + k) ∷ []) ≡ Some c

follow_more : (document : Nodes) (path : Path) (i : ℕ) (node : Node) (nodes : Nodes) → Follow document path i (node ⨾ nodes) → Follow document path (suc i) nodes
follow_more document path i node nodes f k c e =
    let n : suc i + k ≡ i + suc k = omega arith in ap (λ j. node_at document (path ++ j ∷ [])) n ∙ f (suc k) c e

follow_first : (document : Nodes) (path : Path) (i : ℕ) (node : Node) (nodes : Nodes) → Follow document path i (node ⨾ nodes) → node_at document (path ++ i ∷ []) ≡ Some node
follow_first document path i node nodes f =
    let n : i ≡ i + 0 = omega arith in ap (λ j. node_at document (path ++ j ∷ [])) n ∙ f 0 node refl

follow_inside : (document : Nodes) (path : Path) (m : Node) → node_at document path ≡ Some m → Follow document path 0 (below m)
follow_inside document path m e k c h =
    let n : 0 + k ≡ k = omega arith in ap (λ j. node_at document (path ++ j ∷ [])) n ∙ (child_stands document path k m c e h).0

mutual
  identified_stand : (document : Nodes) (value : List ℕ) (path : Path) (i : ℕ) (nodes : Nodes) → Follow document path i nodes
      → Each (IsElementAt document) (identified value path i nodes)
  identified_stand document value path i no_nodes f = tt
  identified_stand document value path i (node ⨾ nodes) f =
      each_append (IsElementAt document) (identified_in value (path ++ i ∷ []) node) (identified value path (suc i) nodes)
      (identified_in_stand document value (path ++ i ∷ []) node (follow_first document path i node nodes f))
      (identified_stand document value path (suc i) nodes (follow_more document path i node nodes f))

  identified_in_stand : (document : Nodes) (value : List ℕ) (path : Path) (node : Node) → node_at document path ≡ Some node
      → Each (IsElementAt document) (identified_in value path node)
  identified_in_stand document value path (Element name attributes inner) e =
      each_append (IsElementAt document) (once_each value path attributes) (identified value path 0 inner)
      (each_once document value path (Element name attributes inner, e, tt) attributes)
      (identified_stand document value path 0 inner (follow_inside document path (Element name attributes inner) e))
  identified_in_stand document value path (Text cs) e = tt
  identified_in_stand document value path (Comment cs) e = tt
  identified_in_stand document value path (Instruction target content) e = tt

follow_whole : (document : Nodes) → Follow document [] 0 document
follow_whole document k c e = let n : 0 + k ≡ k = omega arith in ap (λ j. option_and_then (descend []) (nth j document)) n ∙ ap (option_and_then (descend [])) e

single_stands : (document : Nodes) (paths : List Path) → Each (IsElementAt document) paths → (path : Path) → apex_of (target_among paths) ≡ Some path → IsElementAt document path
single_stands document [] h path e = absurd (none-some _ e)
single_stands document (p ∷ []) h path e = subst (IsElementAt document) (same_Some p path e) h.0
single_stands document (p ∷ q ∷ paths) h path e = absurd (none-some _ e)

pub whole_or_element : (document : Nodes) (path : Path) → IsElementAt document path → IsWholeOrElement document path
whole_or_element document [] h = tt
whole_or_element document (k ∷ path) h = h

on_apex : (document : Nodes) (o : Option Path) → ((path : Path) → o ≡ Some path → IsElementAt document path) → (set : NodeSet)
    → option_and_then (λ path. Some (set_at path)) o ≡ Some set → IsWholeOrElement document set.apex
on_apex document None h set e = absurd (none-some _ e)
on_apex document (Some path) h set e =
    let P : NodeSet → Type 0 = λ s. IsWholeOrElement document s.apex in
    subst P (same_Some (set_at path) set e) (whole_or_element document path (h path refl))

pub target_stands : (document : Nodes) (p : Place) (set : NodeSet) → target_set document p ≡ Some set → IsWholeOrElement document set.apex
target_stands document Document set e =
    let P : NodeSet → Type 0 = λ s. IsWholeOrElement document s.apex in subst P (same_Some (set_at []) set e) tt
target_stands document (Named identifier) set e =
    on_apex document (apex_of (target_of identifier document))
    (single_stands document (identified identifier [] 0 document) (identified_stand document identifier [] 0 document (follow_whole document))) set e
target_stands document External set e = absurd (none-some _ e)

-- What is read stays.

pub signed_info_stays : (document added : Nodes) (host signature : Spot) → Apart document host signature
    → signed_info (put_last added host.path document) signature ≡ signed_info document signature
signed_info_stays document added host signature a = ap first (called_stay document added host (ds (codes "SignedInfo")) signature a)

pub signed_info_named : (document : Nodes) (signature : Spot) → IsSpot document signature → Each (IsNamed document (ds (codes "SignedInfo"))) (signed_info document signature)
signed_info_named document signature s = each_first (IsNamed document (ds (codes "SignedInfo"))) _ (called_named document (ds (codes "SignedInfo")) signature s)

pub references_stay : (document added : Nodes) (host signature : Spot) (host_name : Expanded) → IsNamed document host_name host → IsOther host_name → Apart document host signature
    → references (put_last added host.path document) signature ≡ references document signature
references_stay document added host signature host_name h o a =
    ap (λ infos. flat_map (called (put_last added host.path document) (ds (codes "Reference"))) infos) (signed_info_stays document added host signature a)
    ∙ called_in_stay document added host (ds (codes "Reference")) (signed_info document signature)
    (all_apart document host (ds (codes "SignedInfo")) host_name h o.signed_info _ (signed_info_named document signature a.stands))

pub references_named : (document : Nodes) (signature : Spot) → IsSpot document signature → Each (IsNamed document (ds (codes "Reference"))) (references document signature)
references_named document signature s =
    called_in_named document (ds (codes "Reference")) (signed_info document signature)
    (named_stand document (ds (codes "SignedInfo")) _ (signed_info_named document signature s))

pub transforms_stay : (document added : Nodes) (host reference : Spot) (host_name : Expanded) → IsNamed document host_name host → IsOther host_name → Apart document host reference
    → transforms (put_last added host.path document) reference ≡ transforms document reference
transforms_stay document added host reference host_name h o a =
    ap (flat_map (elements_in (put_last added host.path document))) (called_stay document added host (ds (codes "Transforms")) reference a)
    ∙ flat_same (Apart document host) (elements_in (put_last added host.path document)) (elements_in document) (transform_lists document reference)
    (elements_stay document added host)
    (all_apart document host (ds (codes "Transforms")) host_name h o.transforms _ (called_named document (ds (codes "Transforms")) reference a.stands))

pub transforms_stand : (document : Nodes) (reference : Spot) → IsSpot document reference → Each (IsSpot document) (transforms document reference)
transforms_stand document reference s =
    each_flat (IsNamed document (ds (codes "Transforms"))) (IsSpot document) (elements_in document) (transform_lists document reference)
    (λ list n. each_map (IsChild document list) (IsSpot document) (elements_in document list) (λ spot c. c.stands) (children_stand document list n.stands))
    (called_named document (ds (codes "Transforms")) reference s)

same_if : {A : Type 0} (b : Bool) (x y z : A) → (b ≡ true → x ≡ y) → cond b x z ≡ cond b y z
same_if true x y z h = h refl
same_if false x y z h = refl

transform_stays : (document added : Nodes) (host : Spot) (host_name : Expanded) → IsNamed document host_name host → IsOther host_name
    → (spot : Spot) → IsSpot document spot → transform_of (put_last added host.path document) spot ≡ transform_of document spot
transform_stays document added host host_name h o spot s =
    same_if (is_called (ds (codes "Transform")) spot) _ _ Other
    (λ n. ap (λ form. option_map_or (transform_named form) (attribute (codes "Algorithm") spot) Other)
    (form_stays document added host spot (named_apart document host (ds (codes "Transform")) host_name h o.transform spot (record { stands = s; named = n }))))

pub chain_stays : (document added : Nodes) (host reference : Spot) (host_name : Expanded) → IsNamed document host_name host → IsOther host_name → Apart document host reference
    → chain (put_last added host.path document) reference ≡ chain document reference
chain_stays document added host reference host_name h o a =
    ap (chain_on (is_external (place reference)))
    (ap (map (transform_of (put_last added host.path document))) (transforms_stay document added host reference host_name h o a)
    ∙ map_same (IsSpot document) (transform_of (put_last added host.path document)) (transform_of document) (transforms document reference)
    (transform_stays document added host host_name h o) (transforms_stand document reference a.stands))

pub target_stays : (document added : Nodes) (host : Spot) → IsSpot document host → HasNoIdentifiers added → (p : Place)
    → target_set (put_last added host.path document) p ≡ target_set document p
target_stays document added host s n Document = refl
target_stays document added host s n (Named identifier) =
    ap (λ t. option_and_then (λ path. Some (set_at path)) (apex_of t)) (keeps_targets document added host.path identifier s.element n)
target_stays document added host s n External = refl

-- Octets.

octets_alone : (form : Form) (new document : Nodes) (o : Option (List ℕ)) → octets_by form new (or_no_meaning o) ≡ octets_by form document (or_no_meaning o)
octets_alone form new document None = refl
octets_alone form new document (Some octets) = refl

given_stays : (form : Form) (new document : Nodes) (given : Option (List ℕ)) (c : Option Chain)
    → octets_by form new (by_chain new None given c) ≡ octets_by form document (by_chain document None given c)
given_stays form new document given None = refl
given_stays form new document None (Some c) = refl
given_stays form new document (Some octets) (Some c) = by_made c.made
  where
    by_made : (made : Made) → octets_by form new (made_of_octets octets made) ≡ octets_by form document (made_of_octets octets made)
    by_made NodesAlone = refl
    by_made (InForm f) = refl
    by_made Decoded = octets_alone form new document (strict (without_white octets))

set_stays : (form : Form) (document added : Nodes) (host : Path) (set : NodeSet) (given : Option (List ℕ)) (c : Option Chain)
    → IsElementAt document host → IsWholeOrElement document set.apex → lies_in set host ≡ false
    → octets_by form (put_last added host document) (by_chain (put_last added host document) (Some set) given c) ≡ octets_by form document (by_chain document (Some set) given c)
set_stays form document added host set given None h w e = refl
set_stays form document added host set given (Some c) h w e = by_made c.made
  where
    kept : SameIn set (put_last added host document) document
    kept = keeps_texts set document added host h w (off (lies_in set host) (set.signatures || not (is_in_signature (tags_at document host))) e)
      where
        off : (a b : Bool) → a ≡ false → (a && b) ≡ false
        off a b f = rw f refl

    by_made : (made : Made) → octets_by form (put_last added host document) (made_of_set octets_of (put_last added host document) set made)
        ≡ octets_by form document (made_of_set octets_of document set made)
    by_made NodesAlone = ap encode_utf8_all (kept.1 form)
    by_made (InForm f) = ap encode_utf8_all (kept.1 f)
    by_made Decoded =
        ap (λ nodes. octets_by form (put_last added host document) (or_no_meaning (strict (without_white (texts nodes))))) kept.0
        ∙ octets_alone form (put_last added host document) document (strict (without_white (texts (part set document))))

pub apex_less : (signature : Path) (set : NodeSet) (c : Option Chain) → (less_taken signature set c).apex ≡ set.apex
apex_less signature set None = refl
apex_less signature set (Some c) = by_taken c.taken
  where
    by_taken : (taken : Taken) → (taken_from signature set taken).apex ≡ set.apex
    by_taken Nothing = refl
    by_taken OwnSignature = refl

-- the octets of a target's nodes, where the host isn't reached
target_octets : (form : Form) (document added : Nodes) (host signature : Path) (given : Option (List ℕ)) (c : Option Chain) → IsElementAt document host
    → (o : Option NodeSet) → ((set : NodeSet) → o ≡ Some set → IsWholeOrElement document set.apex)
    → option_map_or (λ set. lies_in set host) (option_and_then (λ set. Some (less_taken signature set c)) o) false ≡ false
    → octets_by form (put_last added host document) (by_chain (put_last added host document) (option_and_then (λ set. Some (less_taken signature set c)) o) given c)
    ≡ octets_by form document (by_chain document (option_and_then (λ set. Some (less_taken signature set c)) o) given c)
target_octets form document added host signature given c h None w e = given_stays form (put_last added host document) document given c
target_octets form document added host signature given c h (Some set) w e =
    set_stays form document added host (less_taken signature set c) given c h
    (subst (IsWholeOrElement document) (sym (apex_less signature set c)) (w set refl)) e

-- the law for one Reference
pub reference_stays : (form : Form) (handed : Handed) (document added : Nodes) (host : Spot) (host_name : Expanded) → IsNamed document host_name host → IsOther host_name
    → HasNoIdentifiers added → (signature : Path) (reference : Spot) → IsNamed document (ds (codes "Reference")) reference
    → option_map_or (λ set. lies_in set host.path) (node_set document signature reference) false ≡ false
    → reference_octets form handed (put_last added host.path document) signature reference ≡ reference_octets form handed document signature reference
reference_stays form handed document added host host_name h o n signature reference r e =
    let new : Nodes = put_last added host.path document in
    let given : Option (List ℕ) = handed_in handed (place reference) reference in
    let a = named_apart document host (ds (codes "Reference")) host_name h o.reference reference r in
    ap (λ c. octets_by form new (by_chain new (option_and_then (λ set. Some (less_taken signature set c)) (target_set new (place reference))) given c))
    (chain_stays document added host reference host_name h o a)
    ∙ ap (λ t. octets_by form new (by_chain new (option_and_then (λ set. Some (less_taken signature set (chain document reference))) t) given (chain document reference)))
    (target_stays document added host h.stands n (place reference))
    ∙ target_octets form document added host.path signature given (chain document reference) h.stands.element (target_set document (place reference))
    (target_stands document (place reference)) e
