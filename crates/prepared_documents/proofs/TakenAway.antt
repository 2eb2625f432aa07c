-- What is put in and taken away again.
use Rattle.std.proofs.Common.{◌≡◌, ℕ, zero, suc, ◌+◌, Bool, true, false, cond, not, ◌&&◌, ◌||◌, ◌==◌, List, [], ◌∷◌, ◌++◌, Option, Some, None, refl, sym, ◌∙◌, ap, arith, append_assoc}
use Rattle.std.proofs.lemmas.Option.{none-some, same_Some}
use Rattle.std.specs.Prelude.{option_and_then}
use Rattle.std.specs.Cmp.{unsigned_Decides}
use Rattle.document_model.specs.Names.{Name}
use Rattle.document_model.specs.Items.{Attribute}
use Rattle.document_model.specs.Tree.{Node, Nodes, Path, Element, Text, Comment, Instruction, no_nodes, ◌⨾◌, nth, below, descend, node_at, count, joined, in_nth, with_last, put_last, IsElement}
use Rattle.document_model.specs.Scopes.{Tag, with_tag_of, elements_around}
use Rattle.document_model.specs.NodeSets.{NodeSet, without, is_within, is_removed, is_comment, is_in_signature, has_in, kept, kept_node, part_from, part}
use Rattle.document_model.specs.Canonical.{Form, part_text, in_form, before_element, text_of}
use Rattle.document_model.proofs.Kept.{chosen, before_same}
use Rattle.signature_model.proofs.Lists.{not_both, both}
use Rattle.signature_model.proofs.PropertyKept.{same_self}
use Rattle.signature_model.proofs.FreeBelow.{none_below}
use Rattle.covered_items.proofs.Lists.{heads, tails}
use Rattle.prepared_documents.specs.TakenAway.{TakesAway}

-- A path that names nothing may be taken away.

-- the new step is the last one
within_last : (r path : Path) (k : ℕ) → is_within r path ≡ false → is_within r (path ++ k ∷ []) ≡ true → r ≡ path ++ k ∷ []
within_last [] path k e h = absurd (not_both e)
within_last (a ∷ []) [] k e h = let p = both (a == k) true h in ap (λ i. i ∷ []) ((unsigned_Decides a k).0 p.0)
within_last (a ∷ b ∷ r) [] k e h = absurd (not_both (sym (both (a == k) false h).1))
within_last (a ∷ r) (b ∷ path) k e h =
    let p = both (a == b) (is_within r (path ++ k ∷ [])) h in
    let t : (true && is_within r path) ≡ false = ap (λ b. b && is_within r path) (sym p.0) ∙ e in
    let q = within_last r path k t p.1 in
    λ i. ((unsigned_Decides a b).0 p.0) i ∷ q i

-- no node of these, or below them, has the path
abbrev Misses : Path → Path → ℕ → Nodes → Type 0
Misses r path k nodes = (j : ℕ) (rest : Path) → r ≡ path ++ (k + j) ∷ rest → option_and_then (descend rest) (nth j nodes) ≡ None

misses_more : (r path : Path) (k : ℕ) (node : Node) (nodes : Nodes) → Misses r path k (node ⨾ nodes) → Misses r path (suc k) nodes
misses_more r path k node nodes m j rest e =
    let n : suc k + j ≡ k + suc j = omega arith in m (suc j) rest (e ∙ ap (λ i. path ++ i ∷ rest) n)

misses_inside : (r path : Path) (k : ℕ) (node : Node) (nodes : Nodes) → Misses r path k (node ⨾ nodes) → Misses r (path ++ k ∷ []) 0 (below node)
misses_inside r path k node nodes m j rest e =
    let n : k ≡ k + 0 = omega arith in
    let z : 0 + j ≡ j = omega arith in
    m 0 (j ∷ rest) (e ∙ append_assoc path (k ∷ []) ((0 + j) ∷ rest) ∙ ap (λ i. path ++ i ∷ (0 + j) ∷ rest) n ∙ ap (λ i. path ++ (k + 0) ∷ i ∷ rest) z)

not_within_first : (r path : Path) (k : ℕ) (node : Node) (nodes : Nodes) → is_within r path ≡ false → Misses r path k (node ⨾ nodes) → is_within r (path ++ k ∷ []) ≡ false
not_within_first r path k node nodes e m = by_bool (is_within r (path ++ k ∷ [])) refl
  where
    by_bool : (b : Bool) → is_within r (path ++ k ∷ []) ≡ b → b ≡ false
    by_bool false h = refl
    by_bool true h =
        let n : k ≡ k + 0 = omega arith in
        absurd (none-some _ (sym (m 0 [] (within_last r path k e h ∙ ap (λ i. path ++ i ∷ []) n))))

same_test : (set : NodeSet) (r : Path) (outer : List Tag) (path : Path) (node : Node) → set.removed ≡ None → is_within r path ≡ false
    → has_in (without set r) outer path node ≡ has_in set outer path node
same_test set r outer path node n e =
    ap (λ b. ((is_within set.apex path && not b) && (set.signatures || not (is_in_signature (with_tag_of node outer)))) && (set.comments || not (is_comment node))) (e ∙ sym (ap (λ o. is_removed o path) n))

kept_unremoved : (set : NodeSet) (r : Path) → set.removed ≡ None → (outer : List Tag) (path : Path) (k : ℕ) (nodes : Nodes)
    → is_within r path ≡ false → Misses r path k nodes → kept (has_in (without set r)) outer path k nodes ≡ kept (has_in set) outer path k nodes
kept_unremoved set r n outer path k no_nodes e m = refl
kept_unremoved set r n outer path k (Element name attributes inner ⨾ nodes) e m =
    let h = not_within_first r path k (Element name attributes inner) nodes e m in
    let t = same_test set r outer (path ++ k ∷ []) (Element name attributes inner) n h in
    let a = kept_unremoved set r n (record { name = name; attributes = attributes } ∷ outer) (path ++ k ∷ []) 0 inner h (misses_inside r path k (Element name attributes inner) nodes m) in
    let b = kept_unremoved set r n outer path (suc k) nodes e (misses_more r path k (Element name attributes inner) nodes m) in
    λ i. cond (t i) (Element name attributes (a i) ⨾ b i) (b i)
kept_unremoved set r n outer path k (Text cs ⨾ nodes) e m =
    let t = same_test set r outer (path ++ k ∷ []) (Text cs) n (not_within_first r path k (Text cs) nodes e m) in
    let b = kept_unremoved set r n outer path (suc k) nodes e (misses_more r path k (Text cs) nodes m) in
    λ i. cond (t i) (Text cs ⨾ b i) (b i)
kept_unremoved set r n outer path k (Comment cs ⨾ nodes) e m =
    let t = same_test set r outer (path ++ k ∷ []) (Comment cs) n (not_within_first r path k (Comment cs) nodes e m) in
    let b = kept_unremoved set r n outer path (suc k) nodes e (misses_more r path k (Comment cs) nodes m) in
    λ i. cond (t i) (Comment cs ⨾ b i) (b i)
kept_unremoved set r n outer path k (Instruction target content ⨾ nodes) e m =
    let t = same_test set r outer (path ++ k ∷ []) (Instruction target content) n (not_within_first r path k (Instruction target content) nodes e m) in
    let b = kept_unremoved set r n outer path (suc k) nodes e (misses_more r path k (Instruction target content) nodes m) in
    λ i. cond (t i) (Instruction target content ⨾ b i) (b i)

-- What is put last isn't kept where its place is taken away.

nothing_last : (set : NodeSet) (outer : List Tag) (path : Path) (name : Name) (attributes : List Attribute) (inner : Nodes) (nodes : Nodes) (i : ℕ)
    → set.removed ≡ Some (path ++ (i + count nodes) ∷ [])
    → kept (has_in set) outer path i (joined nodes (Element name attributes inner ⨾ no_nodes)) ≡ kept (has_in set) outer path i nodes
nothing_last set outer path name attributes inner no_nodes i r =
    let n : i + 0 ≡ i = omega arith in
    let e : is_removed set.removed (path ++ i ∷ []) ≡ true = ap (λ o. is_removed o (path ++ i ∷ [])) r ∙ ap (λ k. is_within (path ++ k ∷ []) (path ++ i ∷ [])) n ∙ same_self (path ++ i ∷ []) in
    let t : has_in set outer (path ++ i ∷ []) (Element name attributes inner) ≡ false = dropped (is_within set.apex (path ++ i ∷ [])) (is_removed set.removed (path ++ i ∷ [])) _ _ e in
    ap (λ b. cond b (kept_node (has_in set) outer (path ++ i ∷ []) (Element name attributes inner) ⨾ no_nodes) no_nodes) t
  where
    dropped : (a b c d : Bool) → b ≡ true → (((a && not b) && c) && d) ≡ false
    dropped true true c d e = refl
    dropped true false c d e = absurd (not_both (sym e))
    dropped false b c d e = refl
nothing_last set outer path name attributes inner (Element n a x ⨾ nodes) i r =
    let s : i + suc (count nodes) ≡ suc i + count nodes = omega arith in
    let more = nothing_last set outer path name attributes inner nodes (suc i) (r ∙ ap (λ k. Some (path ++ k ∷ [])) s) in
    ap (λ rest. cond (has_in set outer (path ++ i ∷ []) (Element n a x)) (kept_node (has_in set) outer (path ++ i ∷ []) (Element n a x) ⨾ rest) rest) more
nothing_last set outer path name attributes inner (Comment cs ⨾ nodes) i r =
    let s : i + suc (count nodes) ≡ suc i + count nodes = omega arith in
    let more = nothing_last set outer path name attributes inner nodes (suc i) (r ∙ ap (λ k. Some (path ++ k ∷ [])) s) in
    ap (λ rest. cond (has_in set outer (path ++ i ∷ []) (Comment cs)) (Comment cs ⨾ rest) rest) more
nothing_last set outer path name attributes inner (Instruction target content ⨾ nodes) i r =
    let s : i + suc (count nodes) ≡ suc i + count nodes = omega arith in
    let more = nothing_last set outer path name attributes inner nodes (suc i) (r ∙ ap (λ k. Some (path ++ k ∷ [])) s) in
    ap (λ rest. cond (has_in set outer (path ++ i ∷ []) (Instruction target content)) (Instruction target content ⨾ rest) rest) more
nothing_last set outer path name attributes inner (Text cs ⨾ next ⨾ nodes) i r =
    let s : i + suc (count (next ⨾ nodes)) ≡ suc i + count (next ⨾ nodes) = omega arith in
    let more = nothing_last set outer path name attributes inner (next ⨾ nodes) (suc i) (r ∙ ap (λ k. Some (path ++ k ∷ [])) s) in
    ap (λ rest. cond (has_in set outer (path ++ i ∷ []) (Text cs)) (Text cs ⨾ rest) rest) more
nothing_last set outer path name attributes inner (Text cs ⨾ no_nodes) i r =
    let s : i + 1 ≡ suc i + 0 = omega arith in
    let more = nothing_last set outer path name attributes inner no_nodes (suc i) (r ∙ ap (λ k. Some (path ++ k ∷ [])) s) in
    ap (λ rest. cond (has_in set outer (path ++ i ∷ []) (Text cs)) (Text cs ⨾ rest) rest) more

-- a node, with what is put into it
abbrev SameChosen : NodeSet → Nodes → Path → Type 0
SameChosen set added host = (outer : List Tag) (path : Path) (node m : Node) (rest : Nodes) → descend host node ≡ Some m → IsElement m
    → set.removed ≡ Some ((path ++ host) ++ count (below m) ∷ [])
    → chosen set outer path (with_last added host node) rest ≡ chosen set outer path node rest

in_nth_same : (set : NodeSet) (added : Nodes) (host : Path) → SameChosen set added host
    → (outer : List Tag) (path : Path) (nodes : Nodes) (m : Node) (j i : ℕ) → option_and_then (descend host) (nth j nodes) ≡ Some m → IsElement m
    → set.removed ≡ Some ((path ++ (j + i) ∷ host) ++ count (below m) ∷ [])
    → kept (has_in set) outer path i (in_nth j (with_last added host) nodes) ≡ kept (has_in set) outer path i nodes
in_nth_same set added host same outer path no_nodes m j i e h r = refl
in_nth_same set added host same outer path (node ⨾ nodes) m zero i e h r =
    let n : 0 + i ≡ i = omega arith in
    same outer (path ++ i ∷ []) node m _ e h (r ∙ ap (λ k. Some ((path ++ k ∷ host) ++ count (below m) ∷ [])) n
    ∙ ap (λ p. Some (p ++ count (below m) ∷ [])) (sym (append_assoc path (i ∷ []) host)))
in_nth_same set added host same outer path (node ⨾ nodes) m (suc j) i e h r =
    let n : suc j + i ≡ j + suc i = omega arith in
    ap (chosen set outer (path ++ i ∷ []) node)
    (in_nth_same set added host same outer path nodes m j (suc i) e h (r ∙ ap (λ k. Some ((path ++ k ∷ host) ++ count (below m) ∷ [])) n))

chosen_same : (set : NodeSet) (name : Name) (attributes : List Attribute) (inner : Nodes) (host : Path) → SameChosen set (Element name attributes inner ⨾ no_nodes) host
chosen_same set name attributes inner [] outer path (Element n a nodes) m rest e h r =
    let is : Element n a nodes ≡ m = same_Some _ _ e in
    let z : count nodes ≡ 0 + count nodes = omega arith in
    let l : set.removed ≡ Some (path ++ (0 + count nodes) ∷ []) =
    r ∙ ap (λ p. Some (p ++ count (below m) ∷ [])) (nil_behind path) ∙ ap (λ x. Some (path ++ count (below x) ∷ [])) (sym is) ∙ ap (λ k. Some (path ++ k ∷ [])) z in
    ap (λ ns. cond (has_in set outer path (Element n a nodes)) (Element n a ns ⨾ rest) rest)
    (nothing_last set (record { name = n; attributes = a } ∷ outer) path name attributes inner nodes 0 l)
  where
    nil_behind : (p : Path) → p ++ [] ≡ p
    nil_behind [] = refl
    nil_behind (k ∷ p) = ap (λ q. k ∷ q) (nil_behind p)
chosen_same set name attributes inner [] outer path (Text cs) m rest e h r = refl
chosen_same set name attributes inner [] outer path (Comment cs) m rest e h r = refl
chosen_same set name attributes inner [] outer path (Instruction target content) m rest e h r = refl
chosen_same set name attributes inner (k ∷ host) outer path (Element n a nodes) m rest e h r =
    let z : k ≡ k + 0 = omega arith in
    ap (λ ns. cond (has_in set outer path (Element n a nodes)) (Element n a ns ⨾ rest) rest)
    (in_nth_same set (Element name attributes inner ⨾ no_nodes) host (chosen_same set name attributes inner host) (record { name = n; attributes = a } ∷ outer) path nodes m k 0 e h
    (r ∙ ap (λ j. Some ((path ++ j ∷ host) ++ count (below m) ∷ [])) z))
chosen_same set name attributes inner (k ∷ host) outer path (Text cs) m rest e h r = refl
chosen_same set name attributes inner (k ∷ host) outer path (Comment cs) m rest e h r = refl
chosen_same set name attributes inner (k ∷ host) outer path (Instruction target content) m rest e h r = refl

-- The whole document.

pub no_nth : (nodes : Nodes) → nth (count nodes) nodes ≡ None
no_nth no_nodes = refl
no_nth (node ⨾ nodes) = no_nth nodes

-- no node of the document is at the place behind all that an element holds
misses_document : (document : Nodes) (host : Path) (m : Node) → node_at document host ≡ Some m → Misses (host ++ count (below m) ∷ []) [] 0 document
misses_document document [] m e j rest p = absurd (none-some _ e)
misses_document document (k ∷ host) m e j rest p =
    let z : 0 + j ≡ j = omega arith in
    let same : k ≡ j = heads p ∙ z in
    let tails_ : host ++ count (below m) ∷ [] ≡ rest = tails p in
    ap (λ q. option_and_then (descend q) (nth j document)) (sym tails_) ∙ ap (λ i. option_and_then (descend (host ++ count (below m) ∷ [])) (nth i document)) (sym same)
    ∙ on_option (nth k document) e
  where
    on_option : (o : Option Node) → option_and_then (descend host) o ≡ Some m → option_and_then (descend (host ++ count (below m) ∷ [])) o ≡ None
    on_option None e' = refl
    on_option (Some c) e' = none_below host (count (below m)) c m e' (no_nth (below m)) []

-- the front of a document
abbrev IsFront : Nodes → Nodes → Type 0
IsFront a b = (j : ℕ) (rest : Path) → option_and_then (descend rest) (nth j b) ≡ None → option_and_then (descend rest) (nth j a) ≡ None

front : (document : Nodes) → IsFront (before_element document) document
front no_nodes j rest e = e
front (Element name attributes inner ⨾ nodes) j rest e = nothing j
  where
    nothing : (j : ℕ) → option_and_then (descend rest) (nth j no_nodes) ≡ None
    nothing j = refl
front (Text cs ⨾ nodes) zero rest e = e
front (Text cs ⨾ nodes) (suc j) rest e = front nodes j rest e
front (Comment cs ⨾ nodes) zero rest e = e
front (Comment cs ⨾ nodes) (suc j) rest e = front nodes j rest e
front (Instruction target content ⨾ nodes) zero rest e = e
front (Instruction target content ⨾ nodes) (suc j) rest e = front nodes j rest e

outside : (host : Path) (k : ℕ) → is_within (host ++ k ∷ []) [] ≡ false
outside [] k = refl
outside (j ∷ host) k = refl

part_whole : (set : NodeSet) (document : Nodes) → set.apex ≡ [] → part set document ≡ kept (has_in set) [] [] 0 document
part_whole set document e = ap (λ apex. part_from (has_in set) apex document) e

pub parts_same : (set : NodeSet) (document : Nodes) (host : Path) (m : Node) (name : Name) (attributes : List Attribute) (inner : Nodes)
    → set.apex ≡ [] → set.removed ≡ None → node_at document host ≡ Some m → IsElement m
    → part (without set (host ++ count (below m) ∷ [])) (put_last (Element name attributes inner ⨾ no_nodes) host document) ≡ part set document
parts_same set document [] m name attributes inner a n e h = absurd (none-some _ e)
parts_same set document (k ∷ host) m name attributes inner a n e h =
    let r : Path = (k ∷ host) ++ count (below m) ∷ [] in
    let z : k ≡ k + 0 = omega arith in
    let added : Nodes = Element name attributes inner ⨾ no_nodes in
    part_whole (without set r) (put_last added (k ∷ host) document) a
    ∙ in_nth_same (without set r) added host (chosen_same (without set r) name attributes inner host) [] [] document m k 0 e h (ap (λ j. Some ((j ∷ host) ++ count (below m) ∷ [])) z)
    ∙ kept_unremoved set r n [] [] 0 document (outside (k ∷ host) (count (below m))) (misses_document document (k ∷ host) m e)
    ∙ sym (part_whole set document a)

fronts_same : (set : NodeSet) (document : Nodes) (host : Path) (m : Node) (added : Nodes)
    → set.apex ≡ [] → set.removed ≡ None → node_at document host ≡ Some m
    → part (without set (host ++ count (below m) ∷ [])) (before_element (put_last added host document)) ≡ part set (before_element document)
fronts_same set document [] m added a n e = absurd (none-some _ e)
fronts_same set document (k ∷ host) m added a n e =
    let r : Path = (k ∷ host) ++ count (below m) ∷ [] in
    ap (part (without set r)) (before_same added host k document)
    ∙ part_whole (without set r) (before_element document) a
    ∙ kept_unremoved set r n [] [] 0 (before_element document) (outside (k ∷ host) (count (below m)))
    (λ j rest p. front document j rest (misses_document document (k ∷ host) m e j rest p))
    ∙ sym (part_whole set (before_element document) a)

around_same : (apex : Path) (a b : Nodes) → apex ≡ [] → elements_around a apex ≡ elements_around b apex
around_same apex a b e = ap (elements_around a) e ∙ sym (ap (elements_around b) e)

texts_same : (set : NodeSet) (document : Nodes) (host : Path) (m : Node) (name : Name) (attributes : List Attribute) (inner : Nodes)
    → set.apex ≡ [] → set.removed ≡ None → node_at document host ≡ Some m → IsElement m
    → (form : Form) → text_of form (without set (host ++ count (below m) ∷ [])) (put_last (Element name attributes inner ⨾ no_nodes) host document) ≡ text_of form set document
unfolding text_of
texts_same set document host m name attributes inner a n e h form =
    let new : Nodes = put_last (Element name attributes inner ⨾ no_nodes) host document in
    let p = parts_same (in_form form set) document host m name attributes inner a n e h in
    let f = fronts_same (in_form form set) document host m (Element name attributes inner ⨾ no_nodes) a n e in
    let o = around_same set.apex new document a in
    λ i. part_text form.rule set.apex (o i) (count (f i)) (p i)

pub takes_away : TakesAway
takes_away set document host m name attributes inner a n e h =
    (parts_same set document host m name attributes inner a n e h, texts_same set document host m name attributes inner a n e h)
