-- Each node of the tree has a place.
use Rattle.std.proofs.Common.{◌≡◌, ℕ, zero, suc, pred, [], ◌∷◌, ◌++◌, Option, Some, None, refl, sym, ◌∙◌, ap, subst, ◌⊎◌, inl, inr}
use Rattle.std.proofs.lemmas.Option.{none-some, same_Some}
use Rattle.std.specs.Prelude.{option_and_then}
use Rattle.std.specs.Option.{option_map_or}
use Rattle.document_model.specs.Tree.{Node, Nodes, Path, Element, Text, Comment, Instruction, no_nodes, ◌⨾◌, nth, below, descend, node_at, joined, in_nodes_of, in_last, grown, last_of, last_path, count}
use Rattle.document_model.proofs.Grown.{Spine}
use Rattle.doc_spans.proofs.Spine.{inside}

abbrev Is : Nodes → Path → Type 0
Is nodes path = (node : Node) × (node_at nodes path ≡ Some node)

-- a node that holds none
abbrev pub IsBare : Node → Type 0
IsBare node = below node ≡ no_nodes

no_child : (path : Path) (node m : Node) (k : ℕ) → below node ≡ no_nodes → descend (k ∷ path) node ≡ Some m → ⊥
no_child path node m k e h = none-some m (sym (ap (λ ns. option_and_then (descend path) (nth k ns)) e) ∙ h)

-- A path behind nodes is one of theirs, or that of a new last node.

abbrev New : Nodes → Nodes → ℕ → Path → Type 0
New nodes later k path = (k ≡ count nodes) × (path ≡ []) × (count later ≡ suc (count nodes))

one_behind : (node : Node) (nodes later : Nodes) (k : ℕ) (path : Path) → Is nodes (k ∷ path) ⊎ New nodes later k path
    → Is (node ⨾ nodes) (suc k ∷ path) ⊎ New (node ⨾ nodes) (node ⨾ later) (suc k) path
one_behind node nodes later k path (inl h) = inl h
one_behind node nodes later k path (inr h) = inr (ap suc h.0, h.1, ap suc h.2)

in_joined : (nodes : Nodes) (x : Node) (k : ℕ) (path : Path) (m : Node) → IsBare x → node_at (joined nodes (x ⨾ no_nodes)) (k ∷ path) ≡ Some m
    → Is nodes (k ∷ path) ⊎ New nodes (joined nodes (x ⨾ no_nodes)) k path
in_joined no_nodes x zero [] m bare e = inr (refl, refl, refl)
in_joined no_nodes x zero (j ∷ path) m bare e = absurd (no_child path x m j bare e)
in_joined no_nodes x (suc k) path m bare e = absurd (none-some m e)
in_joined (Element name attributes inner ⨾ nodes) x zero path m bare e = inl (m, e)
in_joined (Element name attributes inner ⨾ nodes) x (suc k) path m bare e = one_behind (Element name attributes inner) nodes (joined nodes (x ⨾ no_nodes)) k path (in_joined nodes x k path m bare e)
in_joined (Comment cs ⨾ nodes) x zero path m bare e = inl (m, e)
in_joined (Comment cs ⨾ nodes) x (suc k) path m bare e = one_behind (Comment cs) nodes (joined nodes (x ⨾ no_nodes)) k path (in_joined nodes x k path m bare e)
in_joined (Instruction target content ⨾ nodes) x zero path m bare e = inl (m, e)
in_joined (Instruction target content ⨾ nodes) x (suc k) path m bare e =
    one_behind (Instruction target content) nodes (joined nodes (x ⨾ no_nodes)) k path (in_joined nodes x k path m bare e)
in_joined (Text cs ⨾ next ⨾ nodes) x zero path m bare e = inl (m, e)
in_joined (Text cs ⨾ next ⨾ nodes) x (suc k) path m bare e =
    one_behind (Text cs) (next ⨾ nodes) (joined (next ⨾ nodes) (x ⨾ no_nodes)) k path (in_joined (next ⨾ nodes) x k path m bare e)
in_joined (Text cs ⨾ no_nodes) (Text ds) zero [] m bare e = inl (Text cs, refl)
in_joined (Text cs ⨾ no_nodes) (Text ds) zero (j ∷ path) m bare e = absurd (no_child path (Text (cs ++ ds)) m j refl e)
in_joined (Text cs ⨾ no_nodes) (Text ds) (suc k) path m bare e = absurd (none-some m e)
in_joined (Text cs ⨾ no_nodes) (Element name attributes inner) zero path m bare e = inl (m, e)
in_joined (Text cs ⨾ no_nodes) (Element name attributes inner) (suc k) path m bare e =
    one_behind (Text cs) no_nodes (Element name attributes inner ⨾ no_nodes) k path (in_joined no_nodes (Element name attributes inner) k path m bare e)
in_joined (Text cs ⨾ no_nodes) (Comment ds) zero path m bare e = inl (m, e)
in_joined (Text cs ⨾ no_nodes) (Comment ds) (suc k) path m bare e = one_behind (Text cs) no_nodes (Comment ds ⨾ no_nodes) k path (in_joined no_nodes (Comment ds) k path m bare e)
in_joined (Text cs ⨾ no_nodes) (Instruction target content) zero path m bare e = inl (m, e)
in_joined (Text cs ⨾ no_nodes) (Instruction target content) (suc k) path m bare e =
    one_behind (Text cs) no_nodes (Instruction target content ⨾ no_nodes) k path (in_joined no_nodes (Instruction target content) k path m bare e)

-- The node that is last, or another.
at_last : (f : Node → Node) (nodes : Nodes) (k : ℕ) (m : Node) → nth k (in_last f nodes) ≡ Some m
    → (nth k nodes ≡ Some m) ⊎ ((last : Node) × (k ≡ pred (count nodes)) × (last_of nodes ≡ Some last) × (nth k nodes ≡ Some last) × (f last ≡ m))
at_last f no_nodes k m e = absurd (none-some m e)
at_last f (node ⨾ no_nodes) zero m e = inr (node, refl, refl, refl, same_Some (f node) m e)
at_last f (node ⨾ no_nodes) (suc k) m e = absurd (none-some m e)
at_last f (node ⨾ next ⨾ nodes) zero m e = inl e
at_last f (node ⨾ next ⨾ nodes) (suc k) m e = elim (at_last f (next ⨾ nodes) k m e) [
  | inl h ↦ inl h
  | inr h ↦ inr (h.0, ap suc h.1, h.2, h.3, h.4)
]

nth_bind : (path : Path) (o : Option Node) (m : Node) → option_and_then (descend path) o ≡ Some m → (node : Node) × (o ≡ Some node) × (descend path node ≡ Some m)
nth_bind path None m e = absurd (none-some m e)
nth_bind path (Some node) m e = (node, refl, e)

abbrev NewAt : ℕ → Node → Nodes → Path → Type 0
NewAt d x nodes path = (path ≡ last_path d nodes ++ count (inside d nodes) ∷ []) × (count (joined (inside d nodes) (x ⨾ no_nodes)) ≡ suc (count (inside d nodes)))

pub in_grown : (d : ℕ) (x : Node) (nodes : Nodes) (path : Path) (m : Node) → IsBare x → Spine d nodes → node_at (grown d (x ⨾ no_nodes) nodes) path ≡ Some m
    → Is nodes path ⊎ NewAt d x nodes path
in_grown d x nodes [] m bare s e = absurd (none-some m e)
in_grown zero x nodes (k ∷ path) m bare s e = elim (in_joined nodes x k path m bare e) [ inl h ↦ inl h | inr h ↦ inr ((λ i. (h.0 i ∷ h.1 i)), h.2) ]
in_grown (suc d) x nodes (k ∷ path) m bare s e =
    let found = nth_bind path (nth k (in_last (in_nodes_of (grown d (x ⨾ no_nodes))) nodes)) m e in
    elim (at_last (in_nodes_of (grown d (x ⨾ no_nodes))) nodes k found.0 found.1) [
      | inl h ↦ inl (m, ap (option_and_then (descend path)) h ∙ found.2)
      | inr h ↦ below_last path h.0 (in_grown d x (below h.0)) h.1 h.2 h.3 (ap (λ n. descend path n) h.4 ∙ found.2)
    ]
  where
    below_last : (path : Path) (last : Node)
        → ((p : Path) (m : Node) → IsBare x → Spine d (below last) → node_at (grown d (x ⨾ no_nodes) (below last)) p ≡ Some m → Is (below last) p ⊎ NewAt d x (below last) p)
        → k ≡ pred (count nodes) → last_of nodes ≡ Some last → nth k nodes ≡ Some last
        → descend path (in_nodes_of (grown d (x ⨾ no_nodes)) last) ≡ Some m → Is nodes (k ∷ path) ⊎ NewAt (suc d) x nodes (k ∷ path)
    below_last [] last deeper at is here g = inl (last, ap (option_and_then (descend [])) here)
    below_last (j ∷ path) (Text cs) deeper at is here g = absurd (no_child path (Text cs) m j refl g)
    below_last (j ∷ path) (Comment cs) deeper at is here g = absurd (no_child path (Comment cs) m j refl g)
    below_last (j ∷ path) (Instruction target content) deeper at is here g = absurd (no_child path (Instruction target content) m j refl g)
    below_last (j ∷ path) (Element name attributes inner) deeper at is here g =
        let spine : Spine d inner = let P : Node → Type 0 = λ n. Spine d (below n) in subst P (same_Some s.0 (Element name attributes inner) (sym s.1 ∙ is)) s.3 in
        let inside_is : inside (suc d) nodes ≡ inside d inner = ap (λ o. option_map_or (λ node. inside d (below node)) o no_nodes) is in
        let path_is : last_path (suc d) nodes ≡ pred (count nodes) ∷ last_path d inner = ap (λ o. pred (count nodes) ∷ option_map_or (λ node. last_path d (below node)) o []) is in
        elim (deeper (j ∷ path) m bare spine g) [
          | inl h ↦ inl (h.0, ap (option_and_then (descend (j ∷ path))) here ∙ h.1)
          | inr h ↦ inr (
            (λ i. (at i ∷ h.0 i)) ∙ (λ i. (sym path_is i ++ count (sym inside_is i) ∷ [])),
            ap (λ ns. count (joined ns (x ⨾ no_nodes))) inside_is ∙ h.1 ∙ ap (λ ns. suc (count ns)) (sym inside_is),
          )
        ]
