-- Texts of node sets stay where content is put in outside them.
use Rattle.std.proofs.Common.{◌≡◌, ℕ, zero, suc, ◌+◌, Bool, true, false, not, cond, ◌&&◌, ◌||◌, List, [], ◌∷◌, ◌++◌, Option, Some, None, refl, sym, ◌∙◌, ap, subst, inl, inr, ◌⊎◌, arith, append_assoc}
use Rattle.std.proofs.lemmas.List.{append-nil}
use Rattle.std.proofs.lemmas.Option.{none-some}
use Rattle.std.specs.Prelude.{option_and_then, option_map}
use Rattle.std.specs.Option.{option_map_or}
use Rattle.document_model.specs.Tree.{Node, Nodes, Path, Element, Text, Comment, Instruction, no_nodes, ◌⨾◌, nth, descend, IsElement, IsElementAt, joined, in_nth, with_last, put_last, count}
use Rattle.document_model.specs.Names.{Name}
use Rattle.document_model.specs.Items.{Attribute}
use Rattle.document_model.specs.Scopes.{Tag, is_named, with_tag_of, tags_at, tags_down, elements_down, elements_around}
use Rattle.document_model.specs.NodeSets.{NodeSet, signature_name, is_in_signature, reaches_in, has_in, kept, kept_node, apex_alone, part_from}
use Rattle.document_model.specs.Canonical.{Rule, part_text, in_form, before_element, text_of}
use Rattle.document_model.specs.Insertion.{IsWholeOrElement, SameIn, KeepsTexts, AreSignatures, KeepsTextsBeside}

-- a node in front of others, where it is kept
abbrev pub chosen : NodeSet → List Tag → Path → Node → Nodes → Nodes
chosen set outer path node rest = cond (has_in set outer path node) (kept_node (has_in set) outer path node ⨾ rest) rest

and_false : (a b : Bool) → a ≡ false → (a && b) ≡ false
and_false a b e = rw e refl

-- what is put into a node doesn't change its tag
with_last_tag : (added : Nodes) (host : Path) (node : Node) (outer : List Tag) → with_tag_of (with_last added host node) outer ≡ with_tag_of node outer
with_last_tag added [] (Element name attributes nodes) outer = refl
with_last_tag added [] (Text cs) outer = refl
with_last_tag added [] (Comment cs) outer = refl
with_last_tag added [] (Instruction target content) outer = refl
with_last_tag added (k ∷ host) (Element name attributes nodes) outer = refl
with_last_tag added (k ∷ host) (Text cs) outer = refl
with_last_tag added (k ∷ host) (Comment cs) outer = refl
with_last_tag added (k ∷ host) (Instruction target content) outer = refl

not_reached : (set : NodeSet) (outer : List Tag) (path : Path) (node : Node) (rest : Nodes) → reaches_in set (with_tag_of node outer) path ≡ false
    → chosen set outer path node rest ≡ rest
not_reached set outer path node rest e = let h : has_in set outer path node ≡ false = and_false _ _ e in rw h refl

-- A set holds nothing of content that is put in at a place, which stands in the scope of elements: it doesn't reach the place, or it
-- keeps none of the content.
abbrev KeepsNone : NodeSet → Nodes → List Tag → Path → Type 0
KeepsNone set added tags path =
    (nodes : Nodes) (k : ℕ) → kept (has_in set) tags path k (joined nodes added) ≡ kept (has_in set) tags path k nodes

abbrev HoldsNone : NodeSet → Nodes → List Tag → Path → Type 0
HoldsNone set added tags path = (reaches_in set tags path ≡ false) ⊎ KeepsNone set added tags path

moved : (set : NodeSet) (added : Nodes) (tags : List Tag) {p q : Path} → p ≡ q → HoldsNone set added tags p → HoldsNone set added tags q
moved set added tags e h = subst (HoldsNone set added tags) e h

deeper : (path host : Path) (i : ℕ) → path ++ i ∷ host ≡ path ++ i ∷ [] ++ host
deeper path host i = sym (append_assoc path (i ∷ []) host)

-- the elements in whose scope a place below some nodes stands
abbrev tags_below : ℕ → Path → List Tag → Nodes → List Tag
tags_below k host outer nodes = option_map_or (λ child. tags_down host child outer) (nth k nodes) []

-- the nodes that are kept, where one of them has content put in of which the set holds nothing
kept_in_nth : (set : NodeSet) (added : Nodes) (host : Path)
    → ((outer : List Tag) (path : Path) (node : Node) (rest : Nodes) → HoldsNone set added (tags_down host node outer) (path ++ host)
    → chosen set outer path (with_last added host node) rest ≡ chosen set outer path node rest)
    → (outer : List Tag) (path : Path) (nodes : Nodes) (k i : ℕ) → HoldsNone set added (tags_below k host outer nodes) (path ++ (k + i) ∷ host)
    → kept (has_in set) outer path i (in_nth k (with_last added host) nodes) ≡ kept (has_in set) outer path i nodes
kept_in_nth set added host same outer path no_nodes k i e = refl
kept_in_nth set added host same outer path (node ⨾ nodes) zero i e =
    let n : 0 + i ≡ i = omega arith in
    same outer (path ++ i ∷ []) node _ (moved set added (tags_down host node outer) (ap (λ j. path ++ j ∷ host) n ∙ deeper path host i) e)
kept_in_nth set added host same outer path (node ⨾ nodes) (suc k) i e =
    let n : suc k + i ≡ k + suc i = omega arith in
    ap (λ rest. chosen set outer (path ++ i ∷ []) node rest)
    (kept_in_nth set added host same outer path nodes k (suc i) (moved set added (tags_below k host outer nodes) (ap (λ j. path ++ j ∷ host) n) e))

put_here : (set : NodeSet) (added : Nodes) (outer : List Tag) (path : Path) (node : Node) (rest : Nodes) → HoldsNone set added (with_tag_of node outer) path
    → chosen set outer path (with_last added [] node) rest ≡ chosen set outer path node rest
put_here set added outer path node rest (inl e) =
    let P : List Tag → Type 0 = λ tags. reaches_in set tags path ≡ false in
    not_reached set outer path (with_last added [] node) rest (subst P (sym (with_last_tag added [] node outer)) e)
    ∙ sym (not_reached set outer path node rest e)
put_here set added outer path (Element name attributes nodes) rest (inr e) =
    ap (λ inner. cond (has_in set outer path (Element name attributes nodes)) (Element name attributes inner ⨾ rest) rest) (e nodes 0)
put_here set added outer path (Text cs) rest (inr e) = refl
put_here set added outer path (Comment cs) rest (inr e) = refl
put_here set added outer path (Instruction target content) rest (inr e) = refl

chosen_same : (set : NodeSet) (added : Nodes) (host : Path) (outer : List Tag) (path : Path) (node : Node) (rest : Nodes)
    → HoldsNone set added (tags_down host node outer) (path ++ host) → chosen set outer path (with_last added host node) rest ≡ chosen set outer path node rest
chosen_same set added [] outer path node rest e = put_here set added outer path node rest (moved set added (with_tag_of node outer) (append-nil path) e)
chosen_same set added (k ∷ host) outer path (Element name attributes nodes) rest e =
    let tags : List Tag = record { name = name; attributes = attributes } ∷ outer in
    let n : k ≡ k + 0 = omega arith in
    ap (λ inner. cond (has_in set outer path (Element name attributes nodes)) (Element name attributes inner ⨾ rest) rest)
    (kept_in_nth set added host (chosen_same set added host) tags path nodes k 0
    (moved set added (tags_below k host tags nodes) (ap (λ j. path ++ j ∷ host) n) e))
chosen_same set added (k ∷ host) outer path (Text cs) rest e = refl
chosen_same set added (k ∷ host) outer path (Comment cs) rest e = refl
chosen_same set added (k ∷ host) outer path (Instruction target content) rest e = refl

-- Which node stands behind another after a change.

pub nth_changed : (j k : ℕ) (change : Node → Node) (nodes : Nodes)
    → (nth k (in_nth j change nodes) ≡ nth k nodes) ⊎ ((j ≡ k) × (nth k (in_nth j change nodes) ≡ option_map change (nth k nodes)))
nth_changed j k change no_nodes = inl refl
nth_changed zero zero change (node ⨾ nodes) = inr (refl, refl)
nth_changed zero (suc k) change (node ⨾ nodes) = inl refl
nth_changed (suc j) zero change (node ⨾ nodes) = inl refl
nth_changed (suc j) (suc k) change (node ⨾ nodes) =
    elim (nth_changed j k change nodes) [ inl e ↦ inl e | inr e ↦ inr (ap suc e.0, e.1) ]

-- a node that has an element at or below it is an element
abbrev pub LeadsToElement : Path → Option Node → Type 0
LeadsToElement path o = (m : Node) × (option_and_then (descend path) o ≡ Some m) × IsElement m

abbrev IfElement : Option Node → Type 0
IfElement None = Unit {0}
IfElement (Some node) = IsElement node

text_leads_nowhere : (path : Path) (cs : List ℕ) → LeadsToElement path (Some (Text cs)) → ⊥
text_leads_nowhere [] cs l = subst IfElement (sym l.1) l.2
text_leads_nowhere (k ∷ path) cs l = none-some _ l.1

pub joined_nth : (path : Path) (k : ℕ) (nodes added : Nodes) → LeadsToElement path (nth k nodes) → nth k (joined nodes added) ≡ nth k nodes
joined_nth path k no_nodes added l = absurd (none-some _ l.1)
joined_nth path zero (Element name attributes inner ⨾ nodes) added l = refl
joined_nth path zero (Text cs ⨾ nodes) added l = absurd (text_leads_nowhere path cs l)
joined_nth path zero (Comment cs ⨾ nodes) added l = refl
joined_nth path zero (Instruction target content ⨾ nodes) added l = refl
joined_nth path (suc k) (Element name attributes inner ⨾ nodes) added l = joined_nth path k nodes added l
joined_nth path (suc k) (Text cs ⨾ no_nodes) added l = absurd (none-some _ l.1)
joined_nth path (suc k) (Text cs ⨾ node ⨾ nodes) added l = joined_nth path k (node ⨾ nodes) added l
joined_nth path (suc k) (Comment cs ⨾ nodes) added l = joined_nth path k nodes added l
joined_nth path (suc k) (Instruction target content ⨾ nodes) added l = joined_nth path k nodes added l

-- The part of the set below a node, and the elements around its apex, where the apex is reached by a path from that node.

abbrev around_below : Path → List Tag → List Tag → Option Node → List Tag
around_below path default outer o = option_map_or (λ child. elements_down path child outer) o default

abbrev part_below : NodeSet → Path → Path → List Tag → List Tag → Option Node → Nodes
part_below set full path default outer o =
    option_map_or (apex_alone (has_in set) (around_below path default outer o) full) (option_and_then (descend path) o) no_nodes

record SamePart (set : NodeSet) (full path : Path) (outer : List Tag) (a b : Option Node) : Type 0 where
  kept_part : (default : List Tag) → part_below set full path default outer a ≡ part_below set full path default outer b
  tags : (default : List Tag) → around_below path default outer a ≡ around_below path default outer b

same_node : (set : NodeSet) (full path : Path) (outer : List Tag) (a b : Option Node) → a ≡ b → SamePart set full path outer a b
same_node set full path outer a b e = record {
  kept_part = λ default. ap (part_below set full path default outer) e;
  tags = λ default. ap (around_below path default outer) e;
}

-- below the apex the set holds nothing of what is put in
abbrev Outside : NodeSet → Nodes → Path → Path → Path → List Tag → Type 0
Outside set added full path host tags = (rest : Path) → host ≡ path ++ rest → HoldsNone set added tags (full ++ rest)

child_same : (set : NodeSet) (added : Nodes) (full path host : Path) (outer : List Tag) (a b : Option Node) → a ≡ option_map (with_last added host) b
    → Outside set added full path host (option_map_or (λ child. tags_down host child outer) b []) → LeadsToElement path b
    → ((node : Node) → Outside set added full path host (tags_down host node outer) → LeadsToElement path (Some node)
    → SamePart set full path outer (Some (with_last added host node)) (Some node))
    → SamePart set full path outer a b
child_same set added full path host outer a None e out l same = absurd (none-some _ l.1)
child_same set added full path host outer a (Some node) e out l same =
    let P : Option Node → Type 0 = λ o. SamePart set full path outer o (Some node) in subst P (sym e) (same node out l)

nth_same : (set : NodeSet) (added : Nodes) (full path host : Path) (j k : ℕ) (outer : List Tag) (nodes : Nodes)
    → Outside set added full (k ∷ path) (j ∷ host) (tags_below j host outer nodes) → LeadsToElement path (nth k nodes)
    → ((node : Node) → Outside set added full path host (tags_down host node outer) → LeadsToElement path (Some node)
    → SamePart set full path outer (Some (with_last added host node)) (Some node))
    → SamePart set full path outer (nth k (in_nth j (with_last added host) nodes)) (nth k nodes)
nth_same set added full path host j k outer nodes out l same = elim (nth_changed j k (with_last added host) nodes) [
  | inl e ↦ same_node set full path outer _ _ e
  | inr e ↦ let P : ℕ → Type 0 = λ i. Outside set added full (k ∷ path) (i ∷ host) (tags_below i host outer nodes) in
      let there = subst P e.0 out in
      child_same set added full path host outer _ (nth k nodes) e.1 (λ rest h. there rest (ap (λ p. k ∷ p) h)) l same
]

part_same : (set : NodeSet) (added : Nodes) (full path host : Path) (outer : List Tag) (node : Node)
    → Outside set added full path host (tags_down host node outer) → LeadsToElement path (Some node)
    → SamePart set full path outer (Some (with_last added host node)) (Some node)
part_same set added full [] host outer node out l = record {
  kept_part = λ default. chosen_same set added host outer full node no_nodes (out host refl);
  tags = λ default. refl;
}
part_same set added full (k ∷ path) [] outer (Element name attributes nodes) out l =
    let inner : List Tag = record { name = name; attributes = attributes } ∷ outer in
    let e : nth k (joined nodes added) ≡ nth k nodes = joined_nth path k nodes added l in record {
      kept_part = λ default. ap (part_below set full path outer inner) e;
      tags = λ default. ap (around_below path outer inner) e;
    }
part_same set added full (k ∷ path) [] outer (Text cs) out l = same_node set full (k ∷ path) outer _ _ refl
part_same set added full (k ∷ path) [] outer (Comment cs) out l = same_node set full (k ∷ path) outer _ _ refl
part_same set added full (k ∷ path) [] outer (Instruction target content) out l = same_node set full (k ∷ path) outer _ _ refl
part_same set added full (k ∷ path) (j ∷ host) outer (Element name attributes nodes) out l =
    let inner : List Tag = record { name = name; attributes = attributes } ∷ outer in
    let same = nth_same set added full path host j k inner nodes out l (λ node out' l'. part_same set added full path host inner node out' l') in record {
      kept_part = λ default. same.kept_part outer;
      tags = λ default. same.tags outer;
    }
part_same set added full (k ∷ path) (j ∷ host) outer (Text cs) out l = same_node set full (k ∷ path) outer _ _ refl
part_same set added full (k ∷ path) (j ∷ host) outer (Comment cs) out l = same_node set full (k ∷ path) outer _ _ refl
part_same set added full (k ∷ path) (j ∷ host) outer (Instruction target content) out l = same_node set full (k ∷ path) outer _ _ refl

-- Nodes of the document.

pub before_same : (added : Nodes) (host : Path) (j : ℕ) (document : Nodes) → before_element (in_nth j (with_last added host) document) ≡ before_element document
before_same added host j no_nodes = refl
before_same added [] zero (Element name attributes inner ⨾ nodes) = refl
before_same added [] zero (Text cs ⨾ nodes) = refl
before_same added [] zero (Comment cs ⨾ nodes) = refl
before_same added [] zero (Instruction target content ⨾ nodes) = refl
before_same added (k ∷ host) zero (Element name attributes inner ⨾ nodes) = refl
before_same added (k ∷ host) zero (Text cs ⨾ nodes) = refl
before_same added (k ∷ host) zero (Comment cs ⨾ nodes) = refl
before_same added (k ∷ host) zero (Instruction target content ⨾ nodes) = refl
before_same added host (suc j) (Element name attributes inner ⨾ nodes) = refl
before_same added host (suc j) (Text cs ⨾ nodes) = ap (λ r. Text cs ⨾ r) (before_same added host j nodes)
before_same added host (suc j) (Comment cs ⨾ nodes) = ap (λ r. Comment cs ⨾ r) (before_same added host j nodes)
before_same added host (suc j) (Instruction target content ⨾ nodes) = ap (λ r. Instruction target content ⨾ r) (before_same added host j nodes)

-- all that the text of the part that an apex leads to is made of
record SameFrom (set : NodeSet) (apex : Path) (a b : Nodes) : Type 0 where
  front : before_element a ≡ before_element b
  held : part_from (has_in set) apex a ≡ part_from (has_in set) apex b
  around : elements_around a apex ≡ elements_around b apex

same_from : (set : NodeSet) (document added : Nodes) (host apex : Path)
    → IsElementAt document host → IsWholeOrElement document apex → HoldsNone set added (tags_at document host) host
    → SameFrom set apex (put_last added host document) document
same_from set document added [] apex h w e = absurd (none-some _ h.1)
same_from set document added (j ∷ host) [] h w e =
    let n : j ≡ j + 0 = omega arith in record {
      front = before_same added host j document;
      held = kept_in_nth set added host (chosen_same set added host) [] [] document j 0
          (moved set added (tags_below j host [] document) (ap (λ i. i ∷ host) n) e);
      around = refl;
    }
same_from set document added (j ∷ host) (k ∷ path) h w e =
    let same = nth_same set added (k ∷ path) path host j k [] document
    (λ rest m. moved set added (tags_below j host [] document) m e)
    w (λ node out l. part_same set added (k ∷ path) path host [] node out l) in record {
      front = before_same added host j document;
      held = same.kept_part [];
      around = same.tags [];
    }

abbrev text_from : Rule → NodeSet → Path → Nodes → List ℕ
text_from rule set apex document =
    part_text rule apex (elements_around document apex) (count (part_from (has_in set) apex (before_element document))) (part_from (has_in set) apex document)

same_text : (rule : Rule) (set : NodeSet) (apex : Path) (a b : Nodes) → SameFrom set apex a b → text_from rule set apex a ≡ text_from rule set apex b
same_text rule set apex a b same =
    ap (λ tags. part_text rule apex tags (count (part_from (has_in set) apex (before_element a))) (part_from (has_in set) apex a)) same.around
    ∙ ap (λ front. part_text rule apex (elements_around b apex) (count (part_from (has_in set) apex front)) (part_from (has_in set) apex a)) same.front
    ∙ ap (part_text rule apex (elements_around b apex) (count (part_from (has_in set) apex (before_element b)))) same.held

same_in : (set : NodeSet) (a b : Nodes) → ((comments : Bool) → SameFrom (record set { comments = comments }) set.apex a b) → SameIn set a b
unfolding text_of
same_in set a b same =
    ((same set.comments).held, λ form. same_text form.rule (in_form form set) set.apex a b (same (form.comments && set.comments)))

pub keeps_texts : KeepsTexts
keeps_texts set document added host h w e = same_in set (put_last added host document) document
    (λ comments. same_from (record set { comments = comments }) document added host set.apex h w (inl e))

-- Signatures beside others: a set without signatures keeps none of them.

and_last : (a b : Bool) → b ≡ false → (a && b) ≡ false
and_last true b e = e
and_last false b e = refl

signature_dropped : (set : NodeSet) (tags : List Tag) (path : Path) (name : Name) (attributes : List Attribute) (inner rest : Nodes) → set.signatures ≡ false
    → is_named tags signature_name (Element name attributes inner) ≡ true → chosen set tags path (Element name attributes inner) rest ≡ rest
signature_dropped set tags path name attributes inner rest s e =
    let tag : Tag = record { name = name; attributes = attributes } in
    let h : (set.signatures || not (is_in_signature (tag ∷ tags))) ≡ false = rw s (rw e refl) in
    not_reached set tags path (Element name attributes inner) rest (and_last _ _ h)

dropped : (set : NodeSet) (tags : List Tag) (path : Path) (added : Nodes) (k : ℕ) → set.signatures ≡ false → AreSignatures tags added
    → kept (has_in set) tags path k added ≡ no_nodes
dropped set tags path no_nodes k s e = refl
dropped set tags path (Element name attributes inner ⨾ added) k s e =
    signature_dropped set tags (path ++ k ∷ []) name attributes inner _ s e.0 ∙ dropped set tags path added (suc k) s e.1
dropped set tags path (Text cs ⨾ added) k s e = absurd e
dropped set tags path (Comment cs ⨾ added) k s e = absurd e
dropped set tags path (Instruction target content ⨾ added) k s e = absurd e

keeps_none : (set : NodeSet) (tags : List Tag) (path : Path) (added : Nodes) → set.signatures ≡ false → AreSignatures tags added → KeepsNone set added tags path
keeps_none set tags path added s e no_nodes k = dropped set tags path added k s e
keeps_none set tags path added s e (Element name attributes inner ⨾ nodes) k =
    ap (chosen set tags (path ++ k ∷ []) (Element name attributes inner)) (keeps_none set tags path added s e nodes (suc k))
keeps_none set tags path added s e (Comment cs ⨾ nodes) k =
    ap (chosen set tags (path ++ k ∷ []) (Comment cs)) (keeps_none set tags path added s e nodes (suc k))
keeps_none set tags path added s e (Instruction target content ⨾ nodes) k =
    ap (chosen set tags (path ++ k ∷ []) (Instruction target content)) (keeps_none set tags path added s e nodes (suc k))
keeps_none set tags path added s e (Text cs ⨾ next ⨾ nodes) k =
    ap (chosen set tags (path ++ k ∷ []) (Text cs)) (keeps_none set tags path added s e (next ⨾ nodes) (suc k))
keeps_none set tags path no_nodes s e (Text cs ⨾ no_nodes) k = refl
keeps_none set tags path (Element name attributes inner ⨾ added) s e (Text cs ⨾ no_nodes) k =
    ap (chosen set tags (path ++ k ∷ []) (Text cs)) (dropped set tags path (Element name attributes inner ⨾ added) (suc k) s e)
keeps_none set tags path (Text ds ⨾ added) s e (Text cs ⨾ no_nodes) k = absurd e
keeps_none set tags path (Comment ds ⨾ added) s e (Text cs ⨾ no_nodes) k = absurd e
keeps_none set tags path (Instruction target content ⨾ added) s e (Text cs ⨾ no_nodes) k = absurd e

pub keeps_texts_beside : KeepsTextsBeside
keeps_texts_beside set document added host h w s e = same_in set (put_last added host document) document
    (λ comments. let held : NodeSet = record set { comments = comments } in
    same_from held document added host set.apex h w (inr (keeps_none held (tags_at document host) host added s e)))

-- the elements around an element stay, where a set doesn't hold the host
pub keeps_around : (set : NodeSet) (document added : Nodes) (host path : Path) → IsElementAt document host → IsWholeOrElement document path
    → reaches_in set (tags_at document host) host ≡ false → elements_around (put_last added host document) path ≡ elements_around document path
keeps_around set document added host path h w e = (same_from set document added host path h w (inl e)).around
