-- The text of the SignedProperties in the prepared document is that in the signature alone.
use Rattle.std.proofs.Common.{◌≡◌, ℕ, suc, Bool, true, false, cond, ◌&&◌, ◌||◌, List, [], ◌∷◌, ◌++◌, Some, None, refl, sym, ◌∙◌, ap, inl, inr, codes}
use Rattle.std.specs.Prelude.{encode_utf8_all}
use Rattle.std.specs.Option.{option_map_or}
use Rattle.base64.specs.GeneralPurpose.{encode_of}
use Rattle.base64.specs.Engines.{standard}
use Rattle.document_model.specs.Characters.{◌is◌}
use Rattle.document_model.specs.Names.{Name}
use Rattle.document_model.specs.Items.{Attribute}
use Rattle.document_model.specs.Tree.{Node, Nodes, Path, Element, Text, Comment, Instruction, no_nodes, ◌⨾◌, node_at, count}
use Rattle.document_model.specs.Scopes.{Tag, tags_at, elements_around, with_tag_of}
use Rattle.document_model.specs.NodeSets.{NodeSet, subtree, is_within, has_in, kept, apex_alone, part}
use Rattle.document_model.specs.Canonical.{Exclusive, before_element, is_among, placed, is_before, with_prefix, declared_prefixes, at_apex, nodes_text, part_text, text_of, octets_of}
use Rattle.signature_model.specs.Vocabulary.{ds_space, xades_space}
use Rattle.signature_model.specs.Chains.{place_named, set_at}
use Rattle.signature_model.specs.Octets.{next_form}
use Rattle.signature_model.specs.Fragments.{text, xades_element}
use Rattle.signature_model.specs.Prepared.{Draft, mime_type, formats_from, first_certificate, properties_nodes, signature_nodes, properties_path, properties_octets, prepared}
use Rattle.signature_model.proofs.Standing.{tags_of, child_stands}
use Rattle.signature_model.proofs.PropertyKept.{same_self}
use Rattle.prepared_documents.specs.Places.{root_of, signature_in, signature_tag, signature_attributes}
use Rattle.prepared_documents.specs.Judged.{DigestsAreRight}
use Rattle.prepared_documents.proofs.Reading as reading
use Rattle.prepared_documents.proofs.Reading.{ds_named, xades_named, qualifying_attributes, properties_attributes, properties_inner, signature_inner, There}
use Rattle.prepared_documents.proofs.Original as original
use Rattle.prepared_documents.proofs.Original.{IsFull, full_last}
use Rattle.prepared_documents.proofs.LinesRest.{same_is}
use Rattle.prepared_documents.proofs.FreeNew.{here}
use Rattle.prepared_documents.proofs.Judging.{digests_right}
use Rattle.prepared_documents.proofs.Scoped.{AreOurs, IsOurNode, Binds, Alike, node_alike, among_placed}
use Rattle.signature_model.proofs.FreeBelow.{within_more}
use Rattle.covered_items.proofs.Lists.{tails}

-- The nodes.

text_ours : (cs : List ℕ) → AreOurs (text cs)
text_ours [] = tt
text_ours (c ∷ cs) = (tt, tt)

formats_ours : (draft : Draft) (k : ℕ) (uris : List (List ℕ)) → AreOurs (formats_from draft k uris)
formats_ours draft k [] = tt
formats_ours draft k (uri ∷ uris) = (((inr refl, (refl, refl)), (((inr refl, tt), text_ours (mime_type (place_named uri))), tt)), formats_ours draft (suc k) uris)

abbrev pub properties_node : (List ℕ → List ℕ) → Draft → Node
properties_node digest draft = Element (xades_named (codes "SignedProperties")) (properties_attributes draft) (properties_inner digest draft)

pub properties_ours : (digest : List ℕ → List ℕ) (draft : Draft) → IsOurNode (properties_node digest draft)
properties_ours digest draft =
    let value : List ℕ = encode_of standard (digest (first_certificate draft)) in
    ((inr refl, (refl, refl)), (((inr refl, tt), (((inr refl, tt), text_ours draft.time), (((inr refl, tt), (((inr refl, tt), (((inr refl, tt), (((inl refl, (refl, refl)), tt), (((inl refl, tt), text_ours value), tt))), tt)), tt)), tt))), (((inr refl, tt), formats_ours draft 1 draft.references), tt)))

-- A set below an apex keeps them all.

abbrev held : Path → NodeSet
held apex = record { apex = apex; comments = false; removed = None; signatures = true }

kept_all : (apex : Path) (outer : List Tag) (path : Path) (k : ℕ) (nodes : Nodes) → AreOurs nodes → is_within apex path ≡ true → kept (has_in (held apex)) outer path k nodes ≡ nodes
kept_all apex outer path k no_nodes o e = refl
kept_all apex outer path k (Element name attributes inner ⨾ nodes) o e =
    let w = within_more apex path (k ∷ []) e in
    let a = kept_all apex (record { name = name; attributes = attributes } ∷ outer) (path ++ k ∷ []) 0 inner o.0.1 w in
    let b = kept_all apex outer path (suc k) nodes o.1 e in
    λ i. cond (((w i && true) && true) && true) (Element name attributes (a i) ⨾ b i) (b i)
kept_all apex outer path k (Text cs ⨾ nodes) o e =
    let w = within_more apex path (k ∷ []) e in
    let b = kept_all apex outer path (suc k) nodes o.1 e in
    λ i. cond (((w i && true) && true) && true) (Text cs ⨾ b i) (b i)
kept_all apex outer path k (Comment cs ⨾ nodes) o e = absurd o.0
kept_all apex outer path k (Instruction target content ⨾ nodes) o e = absurd o.0

alone : (apex : Path) (outer : List Tag) (name : Name) (attributes : List Attribute) (inner : Nodes) → IsOurNode (Element name attributes inner)
    → apex_alone (has_in (held apex)) outer apex (Element name attributes inner) ≡ Element name attributes inner ⨾ no_nodes
alone apex outer name attributes inner o =
    let w = same_self apex in
    let a = kept_all apex (record { name = name; attributes = attributes } ∷ outer) apex 0 inner o.1 w in
    λ i. cond (((w i && true) && true) && true) (Element name attributes (a i) ⨾ no_nodes) no_nodes

abbrev pub IsLong : Path → Type 0
IsLong [] = ⊥
IsLong (k ∷ []) = ⊥
IsLong (k ∷ j ∷ path) = Unit {0}

pub long_last : (path : Path) (k : ℕ) → IsFull path → IsLong (path ++ k ∷ [])
long_last [] k f = absurd f
long_last (j ∷ []) k f = tt
long_last (j ∷ i ∷ path) k f = tt

text_part : (apex : Path) (d : Nodes) (name : Name) (attributes : List Attribute) (inner : Nodes) → IsLong apex → node_at d apex ≡ Some (Element name attributes inner) → IsOurNode (Element name attributes inner)
    → part_text (Exclusive []) apex (elements_around d apex) (count (part (held apex) (before_element d))) (part (held apex) d)
    ≡ nodes_text (Exclusive []) (at_apex (elements_around d apex)) (Element name attributes inner ⨾ no_nodes)
text_part [] d name attributes inner l e o = absurd l
text_part (k ∷ []) d name attributes inner l e o = absurd l
text_part (k ∷ j ∷ path) d name attributes inner l e o =
    let apex : Path = k ∷ j ∷ path in
    ap (λ n. nodes_text (Exclusive []) (at_apex (elements_around d apex)) (option_map_or (apex_alone (has_in (held apex)) (elements_around d apex) apex) n no_nodes)) e
    ∙ ap (nodes_text (Exclusive []) (at_apex (elements_around d apex))) (alone apex (elements_around d apex) name attributes inner o)

pub set_text : (apex : Path) (d : Nodes) (name : Name) (attributes : List Attribute) (inner : Nodes) → IsLong apex → node_at d apex ≡ Some (Element name attributes inner) → IsOurNode (Element name attributes inner)
    → text_of next_form (set_at apex) d ≡ nodes_text (Exclusive []) (at_apex (elements_around d apex)) (Element name attributes inner ⨾ no_nodes)
unfolding text_of
set_text apex d name attributes inner l e o = text_part apex d name attributes inner l e o

pub subtree_text : (apex : Path) (d : Nodes) (name : Name) (attributes : List Attribute) (inner : Nodes) → IsLong apex → node_at d apex ≡ Some (Element name attributes inner) → IsOurNode (Element name attributes inner)
    → text_of next_form (subtree apex) d ≡ nodes_text (Exclusive []) (at_apex (elements_around d apex)) (Element name attributes inner ⨾ no_nodes)
unfolding text_of
subtree_text apex d name attributes inner l e o = text_part apex d name attributes inner l e o

-- What stands around the SignedProperties.

among_self : (p : List ℕ) (ps : List (List ℕ)) → is_among p (with_prefix p ps) ≡ true
among_self p ps = by_bool (is_among p ps) refl
  where
    by_bool : (t : Bool) → is_among p ps ≡ t → is_among p (cond t ps (placed is_before p ps)) ≡ true
    by_bool true e = e
    by_bool false e = among_placed p p ps ∙ ap (λ t. t || is_among p ps) (same_is p)

among_more : (p q : List ℕ) (ps : List (List ℕ)) → is_among p ps ≡ true → is_among p (with_prefix q ps) ≡ true
among_more p q ps h = by_bool (is_among q ps)
  where
    or_true : (a b : Bool) → b ≡ true → (a || b) ≡ true
    or_true true b e = refl
    or_true false b e = e

    by_bool : (t : Bool) → is_among p (cond t ps (placed is_before q ps)) ≡ true
    by_bool true = h
    by_bool false = among_placed p q ps ∙ or_true (p is q) (is_among p ps) h

abbrev around_properties : Draft → List Tag → List Tag
around_properties draft outer =
    record { name = xades_named (codes "QualifyingProperties"); attributes = qualifying_attributes draft }
    ∷ record { name = ds_named (codes "Object"); attributes = [] } ∷ signature_tag draft ∷ outer

ds_bound : (draft : Draft) (outer : List Tag) → Binds (codes "ds") ds_space (around_properties draft outer)
ds_bound draft outer = record {
  bound = refl;
  among = among_more (codes "ds") (codes "xades") (with_prefix (codes "ds") (declared_prefixes outer)) (among_self (codes "ds") (declared_prefixes outer));
}

xades_bound : (draft : Draft) (outer : List Tag) → Binds (codes "xades") xades_space (around_properties draft outer)
xades_bound draft outer = record { bound = refl; among = among_self (codes "xades") (with_prefix (codes "ds") (declared_prefixes outer)) }

alike : (draft : Draft) (a b : List Tag) → Alike (at_apex (around_properties draft a)) (at_apex (around_properties draft b))
alike draft a b = record {
  rendered = refl;
  ds_a = ds_bound draft a;
  ds_b = ds_bound draft b;
  xades_a = xades_bound draft a;
  xades_b = xades_bound draft b;
}

-- The signature where it stands, and alone.

module _ (d : Nodes) (path : Path) (outer : List Tag) (digest digest_of : List ℕ → List ℕ) (last_value : List ℕ) (draft : Draft) (s : There d path outer digest digest_of last_value draft) where
  abbrev object_path : Path
  object_path = path ++ 3 ∷ []

  abbrev qualifying_path : Path
  qualifying_path = object_path ++ 0 ∷ []

  abbrev apex : Path
  apex = qualifying_path ++ 0 ∷ []

  abbrev signature_node : Node
  signature_node = Element (ds_named (codes "Signature")) (signature_attributes draft) (signature_inner digest digest_of last_value draft)

  abbrev object_node : Node
  object_node = Element (ds_named (codes "Object")) [] (xades_element (codes "QualifyingProperties") (qualifying_attributes draft) (properties_nodes digest draft))

  abbrev qualifying_node : Node
  qualifying_node = Element (xades_named (codes "QualifyingProperties")) (qualifying_attributes draft) (properties_nodes digest draft)

  around_there : elements_around d apex ≡ around_properties draft (elements_around d path)
  around_there =
      let at = s.at in
      let own = tags_of d path signature_node at in
      let o = child_stands d path 3 signature_node object_node at refl in
      let q = child_stands d object_path 0 object_node qualifying_node o.0 refl in
      let p = child_stands d qualifying_path 0 qualifying_node (properties_node digest draft) q.0 refl in
      let around = tags_of d apex (properties_node digest draft) p.0 in
      tails (sym around ∙ p.1) ∙ q.1 ∙ ap (with_tag_of qualifying_node) (o.1 ∙ ap (with_tag_of object_node) own)

  pub same_octets : octets_of next_form (set_at apex) d ≡ properties_octets digest draft
  same_octets =
      let ours = properties_ours digest draft in
      let alone_nodes : Nodes = signature_nodes digest (λ uri. []) [] draft in
      let there = set_text apex d (xades_named (codes "SignedProperties")) (properties_attributes draft) (properties_inner digest draft)
      (long_last qualifying_path 0 (full_last object_path 0)) (reading.properties_there d path outer digest digest_of last_value draft s).at ours in
      let alone_text = subtree_text properties_path alone_nodes (xades_named (codes "SignedProperties")) (properties_attributes draft) (properties_inner digest draft) tt refl ours in
      let same = node_alike (at_apex (around_properties draft (elements_around d path))) (at_apex (around_properties draft [])) (properties_node digest draft) ours (alike draft (elements_around d path) []) in
      ap encode_utf8_all (there
      ∙ ap (λ tags. nodes_text (Exclusive []) (at_apex tags) (properties_node digest draft ⨾ no_nodes)) around_there
      ∙ (λ i. same i ++ [])
      ∙ sym alone_text)

pub right_digests : DigestsAreRight
right_digests digest handed document draft g p =
    digests_right digest handed document draft p g
    (same_octets (prepared digest handed document draft) (signature_in document draft).path (tags_at document (root_of document)) (digest draft.digest)
    (original.digest_of digest handed document draft p.root) (original.last_value digest handed document draft p.root) draft (here digest handed document draft p))
