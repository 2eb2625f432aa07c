-- What content adds to the size of a tree.
use Rattle.std.proofs.Common.{◌≡◌, ℕ, zero, suc, ◌+◌, [], ◌∷◌, length, Option, Some, None, refl, sym, ◌∙◌, ap, subst, arith, max}
use Rattle.std.proofs.lemmas.Option.{none-some}
use Rattle.std.specs.Prelude.{option_and_then}
use Rattle.document_model.specs.Tree.{Node, Nodes, Path, Element, Text, Comment, Instruction, no_nodes, ◌⨾◌, nth, below, descend, IsElement, joined, in_nth, with_last}
use Rattle.document_model.specs.Sizes.{node_height, height, node_count, count_all}
use Rattle.insertions.specs.Sizes.{joins, SizesAdd}
use Rattle.insertions.proofs.Heights.{joined_height}

-- text that joins

joined_count : (a b : Nodes) → count_all (joined a b) + joins a b ≡ count_all a + count_all b
joined_count no_nodes b = omega arith
joined_count (Element name attributes inner ⨾ a) b = let n = joined_count a b in omega arith
joined_count (Comment cs ⨾ a) b = let n = joined_count a b in omega arith
joined_count (Instruction target content ⨾ a) b = let n = joined_count a b in omega arith
joined_count (Text cs ⨾ next ⨾ a) b = let n = joined_count (next ⨾ a) b in omega arith
joined_count (Text cs ⨾ no_nodes) no_nodes = omega arith
joined_count (Text cs ⨾ no_nodes) (Text ds ⨾ b) = omega arith
joined_count (Text cs ⨾ no_nodes) (Element name attributes inner ⨾ b) = omega arith
joined_count (Text cs ⨾ no_nodes) (Comment ds ⨾ b) = omega arith
joined_count (Text cs ⨾ no_nodes) (Instruction target content ⨾ b) = omega arith

-- one of nodes is changed

nth_height : (k : ℕ) (f : Node → Node) (nodes : Nodes) (child : Node) (x : ℕ) → nth k nodes ≡ Some child → node_height (f child) ≡ max (node_height child) x → height (in_nth k f nodes) ≡ max (height nodes) x
nth_height k f no_nodes child x e h = absurd (none-some child e)
nth_height zero f (node ⨾ nodes) child x e h =
    (let same : node ≡ child = cc in
    let g : node_height (f node) ≡ max (node_height node) x = subst (λ n. node_height (f n) ≡ max (node_height n) x) (sym same) h in
    first (node_height (f node)) (node_height node) (height nodes) x g)
  where
    first : (a b c x : ℕ) → a ≡ max b x → max a c ≡ max (max b c) x
    first a b c x e = omega arith
nth_height (suc k) f (node ⨾ nodes) child x e h = ap (max (node_height node)) (nth_height k f nodes child x e h) ∙ again (node_height node) (height nodes) x
  where
    again : (a b x : ℕ) → max a (max b x) ≡ max (max a b) x
    again a b x = omega arith

nth_count : (k : ℕ) (f : Node → Node) (nodes : Nodes) (child : Node) (x y : ℕ) → nth k nodes ≡ Some child → node_count (f child) + x ≡ node_count child + y → count_all (in_nth k f nodes) + x ≡ count_all nodes + y
nth_count k f no_nodes child x y e h = absurd (none-some child e)
nth_count zero f (node ⨾ nodes) child x y e h =
    (let same : node ≡ child = cc in
    let g : node_count (f node) + x ≡ node_count node + y = subst (λ n. node_count (f n) + x ≡ node_count n + y) (sym same) h in omega arith)
nth_count (suc k) f (node ⨾ nodes) child x y e h = let n = nth_count k f nodes child x y e h in omega arith

child_of : (path : Path) (o : Option Node) (m : Node) → option_and_then (descend path) o ≡ Some m → (child : Node) × (o ≡ Some child) × (descend path child ≡ Some m)
child_of path None m e = absurd (none-some m e)
child_of path (Some child) m e = (child, refl, e)

abbrev Grows : Nodes → Path → Node → Node → Type 0
Grows added path node m = (node_height (with_last added path node) ≡ max (node_height node) (suc (length path) + height added))
    × (node_count (with_last added path node) + joins (below m) added ≡ node_count node + count_all added)

grows : (added : Nodes) (path : Path) (node m : Node) → descend path node ≡ Some m → IsElement m → Grows added path node m
grows added [] (Element name attributes inner) m e h =
    (let same : Element name attributes inner ≡ m = cc in
    subst (Grows added [] (Element name attributes inner)) same (
      top (height (joined inner added)) (height inner) (height added) (joined_height inner added),
      (let n = joined_count inner added in omega arith),
    ))
  where
    top : (a b c : ℕ) → a ≡ max b c → suc a ≡ max (suc b) (1 + c)
    top a b c e = omega arith
grows added [] (Text cs) m e h = absurd (subst IsElement (let same : m ≡ Text cs = cc in same) h)
grows added [] (Comment cs) m e h = absurd (subst IsElement (let same : m ≡ Comment cs = cc in same) h)
grows added [] (Instruction target content) m e h = absurd (subst IsElement (let same : m ≡ Instruction target content = cc in same) h)
grows added (k ∷ path) (Element name attributes inner) m e h =
    let child = child_of path (nth k inner) m e in
    let g = grows added path child.0 m child.2 h in
    let n = nth_count k (with_last added path) inner child.0 (joins (below m) added) (count_all added) child.1 g.1 in (
      top (height (in_nth k (with_last added path) inner)) (height inner) (suc (length path) + height added)
          (nth_height k (with_last added path) inner child.0 (suc (length path) + height added) child.1 g.0) ∙ ap (max (suc (height inner))) (more (length path) (height added)),
      sum (count_all (in_nth k (with_last added path) inner)) (count_all inner) (joins (below m) added) (count_all added) (length attributes) n,
    )
  where
    top : (a b x : ℕ) → a ≡ max b x → suc a ≡ max (suc b) (suc x)
    top a b x e = omega arith

    more : (l h : ℕ) → suc (suc l + h) ≡ suc (suc l) + h
    more l h = omega arith

    sum : (a b x y l : ℕ) → a + x ≡ b + y → 1 + l + a + x ≡ 1 + l + b + y
    sum a b x y l e = omega arith
grows added (k ∷ path) (Text cs) m e h = absurd (none-some m e)
grows added (k ∷ path) (Comment cs) m e h = absurd (none-some m e)
grows added (k ∷ path) (Instruction target content) m e h = absurd (none-some m e)

pub sizes : SizesAdd
sizes document added [] node e h = absurd (none-some node e)
sizes document added (k ∷ path) node e h =
    let child = child_of path (nth k document) node e in
    let g = grows added path child.0 node child.2 h in (
      nth_height k (with_last added path) document child.0 (suc (length path) + height added) child.1 g.0,
      nth_count k (with_last added path) document child.0 (joins (below node) added) (count_all added) child.1 g.1,
    )
