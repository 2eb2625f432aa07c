-- What is found by walking through a document, where one element is put in: identifiers and signatures.
use Rattle.std.proofs.Common.{◌≡◌, ℕ, zero, suc, ◌+◌, Bool, true, false, cond, List, [], ◌∷◌, ◌++◌, Some, None, refl, sym, ◌∙◌, ap, subst, arith, append_assoc}
use Rattle.std.proofs.lemmas.List.{append-nil}
use Rattle.std.proofs.lemmas.Option.{none-some, same_Some}
use Rattle.std.specs.Prelude.{option_and_then}
use Rattle.std.specs.Option.{option_map_or}
use Rattle.document_model.specs.Names.{Name, Expanded}
use Rattle.document_model.specs.Items.{Attribute}
use Rattle.document_model.specs.Tree.{Node, Nodes, Path, Element, Text, Comment, Instruction, no_nodes, ◌⨾◌, nth, below, descend, node_at, count, joined, in_nth, with_last, put_last, IsElement}
use Rattle.document_model.specs.Scopes.{Tag, tags_down, tags_at}
use Rattle.document_model.specs.NodeSets.{once_each, identified, identified_in}
use Rattle.signature_model.specs.Spots.{Spot, is_called, outermost, outermost_in}
use Rattle.signature_model.proofs.ShapeLines.{front_nothing, behind_nothing}
use Rattle.covered_items.proofs.NewElements.{one_element}

nil_behind : (p : Path) → p ++ [] ≡ p
nil_behind [] = refl
nil_behind (k ∷ p) = ap (λ q. k ∷ q) (nil_behind p)

-- Identifiers.

module _ (x : List ℕ) (name : Name) (attributes : List Attribute) (inner : Nodes) where
  identified_joined : (path : Path) (k : ℕ) (nodes : Nodes)
      → identified x path k (joined nodes (one_element name attributes inner))
      ≡ identified x path k nodes ++ identified_in x (path ++ (k + count nodes) ∷ []) (Element name attributes inner)
  identified_joined path k no_nodes =
      let n : k ≡ k + 0 = omega arith in append-nil (identified_in x (path ++ k ∷ []) (Element name attributes inner))
      ∙ ap (λ i. identified_in x (path ++ i ∷ []) (Element name attributes inner)) n
  identified_joined path k (Element n a i ⨾ nodes) =
      let s : suc k + count nodes ≡ k + suc (count nodes) = omega arith in
      ap (λ r. identified_in x (path ++ k ∷ []) (Element n a i) ++ r) (identified_joined path (suc k) nodes)
      ∙ sym (append_assoc (identified_in x (path ++ k ∷ []) (Element n a i)) (identified x path (suc k) nodes) (identified_in x (path ++ (suc k + count nodes) ∷ []) (Element name attributes inner)))
      ∙ ap (λ j. identified x path k (Element n a i ⨾ nodes) ++ identified_in x (path ++ j ∷ []) (Element name attributes inner)) s
  identified_joined path k (Comment cs ⨾ nodes) =
      let s : suc k + count nodes ≡ k + suc (count nodes) = omega arith in
      identified_joined path (suc k) nodes ∙ ap (λ i. identified x path (suc k) nodes ++ identified_in x (path ++ i ∷ []) (Element name attributes inner)) s
  identified_joined path k (Instruction target content ⨾ nodes) =
      let s : suc k + count nodes ≡ k + suc (count nodes) = omega arith in
      identified_joined path (suc k) nodes ∙ ap (λ i. identified x path (suc k) nodes ++ identified_in x (path ++ i ∷ []) (Element name attributes inner)) s
  identified_joined path k (Text cs ⨾ next ⨾ nodes) =
      let s : suc k + count (next ⨾ nodes) ≡ k + suc (count (next ⨾ nodes)) = omega arith in
      identified_joined path (suc k) (next ⨾ nodes) ∙ ap (λ i. identified x path (suc k) (next ⨾ nodes) ++ identified_in x (path ++ i ∷ []) (Element name attributes inner)) s
  identified_joined path k (Text cs ⨾ no_nodes) =
      let s : suc k ≡ k + 1 = omega arith in
      append-nil (identified_in x (path ++ suc k ∷ []) (Element name attributes inner)) ∙ ap (λ i. identified_in x (path ++ i ∷ []) (Element name attributes inner)) s

  -- what is found where nothing was
  abbrev FoundIn : Path → Type 0
  FoundIn host = (path : Path) (node m : Node) → descend host node ≡ Some m → IsElement m → identified_in x path node ≡ []
      → identified_in x path (with_last (one_element name attributes inner) host node) ≡ identified_in x ((path ++ host) ++ count (below m) ∷ []) (Element name attributes inner)

  found_nth : (host : Path) → FoundIn host → (path : Path) (nodes : Nodes) (m : Node) (j i : ℕ) → option_and_then (descend host) (nth j nodes) ≡ Some m → IsElement m
      → identified x path i nodes ≡ []
      → identified x path i (in_nth j (with_last (one_element name attributes inner) host) nodes) ≡ identified_in x ((path ++ (j + i) ∷ host) ++ count (below m) ∷ []) (Element name attributes inner)
  found_nth host found path no_nodes m j i e h z = absurd (none-some _ (none_at j ∙ e))
    where
      none_at : (j : ℕ) → None ≡ option_and_then (descend host) (nth j no_nodes)
      none_at j = refl
  found_nth host found path (node ⨾ nodes) m zero i e h z =
      let n : i ≡ 0 + i = omega arith in
      let f = found (path ++ i ∷ []) node m e h (front_nothing (identified_in x (path ++ i ∷ []) node) (identified x path (suc i) nodes) z) in
      let b = behind_nothing (identified_in x (path ++ i ∷ []) node) (identified x path (suc i) nodes) z in
      (λ t. f t ++ b t) ∙ append-nil (identified_in x (((path ++ i ∷ []) ++ host) ++ count (below m) ∷ []) (Element name attributes inner))
      ∙ ap (λ p. identified_in x (p ++ count (below m) ∷ []) (Element name attributes inner)) (append_assoc path (i ∷ []) host ∙ ap (λ k. path ++ k ∷ host) n)
  found_nth host found path (node ⨾ nodes) m (suc j) i e h z =
      let n : j + suc i ≡ suc j + i = omega arith in
      ap (λ r. r ++ identified x path (suc i) (in_nth j (with_last (one_element name attributes inner) host) nodes)) (front_nothing (identified_in x (path ++ i ∷ []) node) (identified x path (suc i) nodes) z)
      ∙ found_nth host found path nodes m j (suc i) e h (behind_nothing (identified_in x (path ++ i ∷ []) node) (identified x path (suc i) nodes) z)
      ∙ ap (λ k. identified_in x ((path ++ k ∷ host) ++ count (below m) ∷ []) (Element name attributes inner)) n

  found_in : (host : Path) → FoundIn host
  found_in [] path (Element n a nodes) m e h z =
      let is : Element n a nodes ≡ m = same_Some _ _ e in
      let zero_first : 0 + count nodes ≡ count nodes = omega arith in
      ap (λ r. r ++ identified x path 0 (joined nodes (one_element name attributes inner))) (front_nothing (once_each x path a) (identified x path 0 nodes) z)
      ∙ identified_joined path 0 nodes
      ∙ ap (λ r. r ++ identified_in x (path ++ (0 + count nodes) ∷ []) (Element name attributes inner)) (behind_nothing (once_each x path a) (identified x path 0 nodes) z)
      ∙ ap (λ k. identified_in x (path ++ k ∷ []) (Element name attributes inner)) zero_first
      ∙ ap (λ y. identified_in x (path ++ count (below y) ∷ []) (Element name attributes inner)) is
      ∙ ap (λ p. identified_in x (p ++ count (below m) ∷ []) (Element name attributes inner)) (sym (nil_behind path))
  found_in [] path (Text cs) m e h z = absurd (subst IsElement (sym (same_Some (Text cs) m e)) h)
  found_in [] path (Comment cs) m e h z = absurd (subst IsElement (sym (same_Some (Comment cs) m e)) h)
  found_in [] path (Instruction target content) m e h z = absurd (subst IsElement (sym (same_Some (Instruction target content) m e)) h)
  found_in (k ∷ host) path (Element n a nodes) m e h z =
      let zero_last : k + 0 ≡ k = omega arith in
      ap (λ r. r ++ identified x path 0 (in_nth k (with_last (one_element name attributes inner) host) nodes)) (front_nothing (once_each x path a) (identified x path 0 nodes) z)
      ∙ found_nth host (found_in host) path nodes m k 0 e h (behind_nothing (once_each x path a) (identified x path 0 nodes) z)
      ∙ ap (λ j. identified_in x ((path ++ j ∷ host) ++ count (below m) ∷ []) (Element name attributes inner)) zero_last
  found_in (k ∷ host) path (Text cs) m e h z = absurd (none-some _ e)
  found_in (k ∷ host) path (Comment cs) m e h z = absurd (none-some _ e)
  found_in (k ∷ host) path (Instruction target content) m e h z = absurd (none-some _ e)

  pub identified_there : (document : Nodes) (host : Path) (m : Node) → node_at document host ≡ Some m → IsElement m → identified x [] 0 document ≡ []
      → identified x [] 0 (put_last (one_element name attributes inner) host document) ≡ identified_in x (host ++ count (below m) ∷ []) (Element name attributes inner)
  identified_there document [] m e h z = absurd (none-some _ e)
  identified_there document (k ∷ host) m e h z =
      let zero_last : k + 0 ≡ k = omega arith in
      found_nth host (found_in host) [] document m k 0 e h z
      ∙ ap (λ j. identified_in x ((j ∷ host) ++ count (below m) ∷ []) (Element name attributes inner)) zero_last

  -- where the element has no such identifier, nothing changes
  module _ (none : (path : Path) → identified_in x path (Element name attributes inner) ≡ []) where
    abbrev SameFound : Path → Type 0
    SameFound host = (path : Path) (node : Node) → identified_in x path (with_last (one_element name attributes inner) host node) ≡ identified_in x path node

    same_nth : (host : Path) → SameFound host → (path : Path) (nodes : Nodes) (j i : ℕ)
        → identified x path i (in_nth j (with_last (one_element name attributes inner) host) nodes) ≡ identified x path i nodes
    same_nth host same path no_nodes j i = refl
    same_nth host same path (node ⨾ nodes) zero i = ap (λ r. r ++ identified x path (suc i) nodes) (same (path ++ i ∷ []) node)
    same_nth host same path (node ⨾ nodes) (suc j) i = ap (λ r. identified_in x (path ++ i ∷ []) node ++ r) (same_nth host same path nodes j (suc i))

    same_found : (host : Path) → SameFound host
    same_found [] path (Element n a nodes) = ap (λ r. once_each x path a ++ r) (identified_joined path 0 nodes
        ∙ ap (λ r. identified x path 0 nodes ++ r) (none (path ++ (0 + count nodes) ∷ [])) ∙ append-nil (identified x path 0 nodes))
    same_found [] path (Text cs) = refl
    same_found [] path (Comment cs) = refl
    same_found [] path (Instruction target content) = refl
    same_found (k ∷ host) path (Element n a nodes) = ap (λ r. once_each x path a ++ r) (same_nth host (same_found host) path nodes k 0)
    same_found (k ∷ host) path (Text cs) = refl
    same_found (k ∷ host) path (Comment cs) = refl
    same_found (k ∷ host) path (Instruction target content) = refl

    pub identified_stay : (document : Nodes) (host : Path) (m : Node) → node_at document host ≡ Some m
        → identified x [] 0 (put_last (one_element name attributes inner) host document) ≡ identified x [] 0 document
    identified_stay document [] m e = absurd (none-some _ e)
    identified_stay document (k ∷ host) m e = same_nth host (same_found host) [] document k 0

-- Signatures.

abbrev Full : List Spot → Type 0
Full [] = ⊥
Full (x ∷ xs) = Unit {0}

-- an element that isn't counted itself
not_called : (b : Bool) (s : Spot) (more : List Spot) → cond b (s ∷ []) more ≡ [] → (b ≡ false) × (more ≡ [])
not_called true s more e = absurd (subst Full e tt)
not_called false s more e = (refl, e)

module _ (called : Expanded) (name : Name) (attributes : List Attribute) (inner : Nodes) where
  outermost_joined : (path : Path) (tags : List Tag) (k : ℕ) (nodes : Nodes)
      → outermost called path tags k (joined nodes (one_element name attributes inner))
      ≡ outermost called path tags k nodes ++ outermost_in called (path ++ (k + count nodes) ∷ []) tags (Element name attributes inner)
  outermost_joined path tags k no_nodes =
      let n : k ≡ k + 0 = omega arith in append-nil (outermost_in called (path ++ k ∷ []) tags (Element name attributes inner))
      ∙ ap (λ i. outermost_in called (path ++ i ∷ []) tags (Element name attributes inner)) n
  outermost_joined path tags k (Element n a i ⨾ nodes) =
      let s : suc k + count nodes ≡ k + suc (count nodes) = omega arith in
      ap (λ r. outermost_in called (path ++ k ∷ []) tags (Element n a i) ++ r) (outermost_joined path tags (suc k) nodes)
      ∙ sym (append_assoc (outermost_in called (path ++ k ∷ []) tags (Element n a i)) (outermost called path tags (suc k) nodes) (outermost_in called (path ++ (suc k + count nodes) ∷ []) tags (Element name attributes inner)))
      ∙ ap (λ j. outermost called path tags k (Element n a i ⨾ nodes) ++ outermost_in called (path ++ j ∷ []) tags (Element name attributes inner)) s
  outermost_joined path tags k (Comment cs ⨾ nodes) =
      let s : suc k + count nodes ≡ k + suc (count nodes) = omega arith in
      outermost_joined path tags (suc k) nodes ∙ ap (λ i. outermost called path tags (suc k) nodes ++ outermost_in called (path ++ i ∷ []) tags (Element name attributes inner)) s
  outermost_joined path tags k (Instruction target content ⨾ nodes) =
      let s : suc k + count nodes ≡ k + suc (count nodes) = omega arith in
      outermost_joined path tags (suc k) nodes ∙ ap (λ i. outermost called path tags (suc k) nodes ++ outermost_in called (path ++ i ∷ []) tags (Element name attributes inner)) s
  outermost_joined path tags k (Text cs ⨾ next ⨾ nodes) =
      let s : suc k + count (next ⨾ nodes) ≡ k + suc (count (next ⨾ nodes)) = omega arith in
      outermost_joined path tags (suc k) (next ⨾ nodes) ∙ ap (λ i. outermost called path tags (suc k) (next ⨾ nodes) ++ outermost_in called (path ++ i ∷ []) tags (Element name attributes inner)) s
  outermost_joined path tags k (Text cs ⨾ no_nodes) =
      let s : suc k ≡ k + 1 = omega arith in
      append-nil (outermost_in called (path ++ suc k ∷ []) tags (Element name attributes inner)) ∙ ap (λ i. outermost_in called (path ++ i ∷ []) tags (Element name attributes inner)) s

  abbrev CountedIn : Path → Type 0
  CountedIn host = (path : Path) (tags : List Tag) (node m : Node) → descend host node ≡ Some m → IsElement m → outermost_in called path tags node ≡ []
      → outermost_in called path tags (with_last (one_element name attributes inner) host node)
      ≡ outermost_in called ((path ++ host) ++ count (below m) ∷ []) (tags_down host node tags) (Element name attributes inner)

  counted_nth : (host : Path) → CountedIn host → (path : Path) (tags : List Tag) (nodes : Nodes) (m : Node) (j i : ℕ) → option_and_then (descend host) (nth j nodes) ≡ Some m → IsElement m
      → outermost called path tags i nodes ≡ []
      → outermost called path tags i (in_nth j (with_last (one_element name attributes inner) host) nodes)
      ≡ outermost_in called ((path ++ (j + i) ∷ host) ++ count (below m) ∷ []) (option_map_or (λ child. tags_down host child tags) (nth j nodes) []) (Element name attributes inner)
  counted_nth host found path tags no_nodes m j i e h z = absurd (none-some _ (none_at j ∙ e))
    where
      none_at : (j : ℕ) → None ≡ option_and_then (descend host) (nth j no_nodes)
      none_at j = refl
  counted_nth host found path tags (node ⨾ nodes) m zero i e h z =
      let n : i ≡ 0 + i = omega arith in
      let f = found (path ++ i ∷ []) tags node m e h (front_nothing (outermost_in called (path ++ i ∷ []) tags node) (outermost called path tags (suc i) nodes) z) in
      let b = behind_nothing (outermost_in called (path ++ i ∷ []) tags node) (outermost called path tags (suc i) nodes) z in
      (λ t. f t ++ b t) ∙ append-nil (outermost_in called (((path ++ i ∷ []) ++ host) ++ count (below m) ∷ []) (tags_down host node tags) (Element name attributes inner))
      ∙ ap (λ p. outermost_in called (p ++ count (below m) ∷ []) (tags_down host node tags) (Element name attributes inner)) (append_assoc path (i ∷ []) host ∙ ap (λ k. path ++ k ∷ host) n)
  counted_nth host found path tags (node ⨾ nodes) m (suc j) i e h z =
      let n : j + suc i ≡ suc j + i = omega arith in
      ap (λ r. r ++ outermost called path tags (suc i) (in_nth j (with_last (one_element name attributes inner) host) nodes)) (front_nothing (outermost_in called (path ++ i ∷ []) tags node) (outermost called path tags (suc i) nodes) z)
      ∙ counted_nth host found path tags nodes m j (suc i) e h (behind_nothing (outermost_in called (path ++ i ∷ []) tags node) (outermost called path tags (suc i) nodes) z)
      ∙ ap (λ k. outermost_in called ((path ++ k ∷ host) ++ count (below m) ∷ []) (option_map_or (λ child. tags_down host child tags) (nth j nodes) []) (Element name attributes inner)) n

  abbrev own : Path → List Tag → Name → List Attribute → Spot
  own path tags n a = record { path = path; tags = record { name = n; attributes = a } ∷ tags }

  counted_in : (host : Path) → CountedIn host
  counted_in [] path tags (Element n a nodes) m e h z =
      let is : Element n a nodes ≡ m = same_Some _ _ e in
      let scope : List Tag = record { name = n; attributes = a } ∷ tags in
      let zero_first : 0 + count nodes ≡ count nodes = omega arith in
      let not = not_called (is_called called (own path tags n a)) (own path tags n a) (outermost called path scope 0 nodes) z in
      ap (λ b. cond b (own path tags n a ∷ []) (outermost called path scope 0 (joined nodes (one_element name attributes inner)))) not.0
      ∙ outermost_joined path scope 0 nodes
      ∙ ap (λ r. r ++ outermost_in called (path ++ (0 + count nodes) ∷ []) scope (Element name attributes inner)) not.1
      ∙ ap (λ k. outermost_in called (path ++ k ∷ []) scope (Element name attributes inner)) zero_first
      ∙ ap (λ y. outermost_in called (path ++ count (below y) ∷ []) scope (Element name attributes inner)) is
      ∙ ap (λ p. outermost_in called (p ++ count (below m) ∷ []) scope (Element name attributes inner)) (sym (nil_behind path))
  counted_in [] path tags (Text cs) m e h z = absurd (subst IsElement (sym (same_Some (Text cs) m e)) h)
  counted_in [] path tags (Comment cs) m e h z = absurd (subst IsElement (sym (same_Some (Comment cs) m e)) h)
  counted_in [] path tags (Instruction target content) m e h z = absurd (subst IsElement (sym (same_Some (Instruction target content) m e)) h)
  counted_in (k ∷ host) path tags (Element n a nodes) m e h z =
      let scope : List Tag = record { name = n; attributes = a } ∷ tags in
      let zero_last : k + 0 ≡ k = omega arith in
      let not = not_called (is_called called (own path tags n a)) (own path tags n a) (outermost called path scope 0 nodes) z in
      ap (λ b. cond b (own path tags n a ∷ []) (outermost called path scope 0 (in_nth k (with_last (one_element name attributes inner) host) nodes))) not.0
      ∙ counted_nth host (counted_in host) path scope nodes m k 0 e h not.1
      ∙ ap (λ j. outermost_in called ((path ++ j ∷ host) ++ count (below m) ∷ []) (option_map_or (λ child. tags_down host child scope) (nth k nodes) []) (Element name attributes inner)) zero_last
  counted_in (k ∷ host) path tags (Text cs) m e h z = absurd (none-some _ e)
  counted_in (k ∷ host) path tags (Comment cs) m e h z = absurd (none-some _ e)
  counted_in (k ∷ host) path tags (Instruction target content) m e h z = absurd (none-some _ e)

  pub counted_there : (document : Nodes) (host : Path) (m : Node) → node_at document host ≡ Some m → IsElement m → outermost called [] [] 0 document ≡ []
      → outermost called [] [] 0 (put_last (one_element name attributes inner) host document)
      ≡ outermost_in called (host ++ count (below m) ∷ []) (tags_at document host) (Element name attributes inner)
  counted_there document [] m e h z = absurd (none-some _ e)
  counted_there document (k ∷ host) m e h z =
      let zero_last : k + 0 ≡ k = omega arith in
      counted_nth host (counted_in host) [] [] document m k 0 e h z
      ∙ ap (λ j. outermost_in called ((j ∷ host) ++ count (below m) ∷ []) (tags_at document (k ∷ host)) (Element name attributes inner)) zero_last
