-- The characters of a text node where a tree grows: they stay, or the new ones stand behind them.
use Rattle.std.proofs.Common.{◌≡◌, ℕ, zero, suc, pred, true, false, ◌&&◌, List, [], ◌∷◌, ◌++◌, Option, Some, None, refl, sym, ◌∙◌, ap, inl, inr}
use Rattle.std.proofs.lemmas.Option.{none-some, same_Some}
use Rattle.std.proofs.lemmas.Bool.Decides.{eqb_tells}
use Rattle.std.specs.Prelude.{option_map, option_and_then}
use Rattle.std.specs.Option.{option_map_or}
use Rattle.document_model.specs.Tree.{Node, Nodes, Path, Element, Text, Comment, Instruction, no_nodes, ◌⨾◌, nth, below, descend, node_at, IsElement, joined, in_nodes_of, in_last, grown, last_of, last_path, count}
use Rattle.document_model.specs.NodeSets.{is_within}
use Rattle.document_model.proofs.Grown.{Spine, spine_stays}
use Rattle.document_model.proofs.Put.{last_nth}
use Rattle.doc_spans.proofs.Spine.{inside, path_grown, inside_grown, at_inside, same_either_way}
use Rattle.doc_spans.proofs.Steps.{is_text}

abbrev Reached : Path → Option Node → List ℕ → Type 0
Reached path found cs = option_and_then (descend path) found ≡ Some (Text cs)

no_text_below : (path : Path) (node : Node) (k : ℕ) (cs : List ℕ) → below node ≡ no_nodes → descend (k ∷ path) node ≡ Some (Text cs) → ⊥
no_text_below path node k cs e h = none-some (Text cs) (sym (ap (λ ns. option_and_then (descend path) (nth k ns)) e) ∙ h)

-- A text stays where a node is added that isn't a text behind it.

joined_keeps : (nodes : Nodes) (x : Node) (k : ℕ) (path : Path) (cs : List ℕ) → (k ≡ pred (count nodes) → path ≡ [] → is_text x ≡ false)
    → Reached path (nth k nodes) cs → Reached path (nth k (joined nodes (x ⨾ no_nodes))) cs
joined_keeps no_nodes x k path cs h e = absurd (none-some (Text cs) e)
joined_keeps (Element name attributes inner ⨾ nodes) x zero path cs h e = e
joined_keeps (Element name attributes inner ⨾ no_nodes) x (suc k) path cs h e = absurd (none-some (Text cs) e)
joined_keeps (Element name attributes inner ⨾ next ⨾ nodes) x (suc k) path cs h e = joined_keeps (next ⨾ nodes) x k path cs (λ f. h (ap suc f)) e
joined_keeps (Comment ds ⨾ nodes) x zero path cs h e = e
joined_keeps (Comment ds ⨾ no_nodes) x (suc k) path cs h e = absurd (none-some (Text cs) e)
joined_keeps (Comment ds ⨾ next ⨾ nodes) x (suc k) path cs h e = joined_keeps (next ⨾ nodes) x k path cs (λ f. h (ap suc f)) e
joined_keeps (Instruction target content ⨾ nodes) x zero path cs h e = e
joined_keeps (Instruction target content ⨾ no_nodes) x (suc k) path cs h e = absurd (none-some (Text cs) e)
joined_keeps (Instruction target content ⨾ next ⨾ nodes) x (suc k) path cs h e = joined_keeps (next ⨾ nodes) x k path cs (λ f. h (ap suc f)) e
joined_keeps (Text ds ⨾ next ⨾ nodes) x zero path cs h e = e
joined_keeps (Text ds ⨾ next ⨾ nodes) x (suc k) path cs h e = joined_keeps (next ⨾ nodes) x k path cs (λ f. h (ap suc f)) e
joined_keeps (Text ds ⨾ no_nodes) x (suc k) path cs h e = absurd (none-some (Text cs) e)
joined_keeps (Text ds ⨾ no_nodes) (Element name attributes inner) zero path cs h e = e
joined_keeps (Text ds ⨾ no_nodes) (Comment bs) zero path cs h e = e
joined_keeps (Text ds ⨾ no_nodes) (Instruction target content) zero path cs h e = e
joined_keeps (Text ds ⨾ no_nodes) (Text bs) zero [] cs h e = (let f : true ≡ false = h refl refl in (cc))
joined_keeps (Text ds ⨾ no_nodes) (Text bs) zero (j ∷ path) cs h e = absurd (no_text_below path (Text ds) j cs refl e)

-- one node further
abbrev bump : Path → Path
bump [] = []
bump (k ∷ path) = suc k ∷ path

abbrev Keeps : ℕ → Node → Nodes → Type 0
Keeps d x nodes = (path : Path) (cs : List ℕ) → (path ≡ last_path (suc d) nodes → is_text x ≡ false) → node_at nodes path ≡ Some (Text cs)
    → node_at (grown d (x ⨾ no_nodes) nodes) path ≡ Some (Text cs)

in_last_keeps : (d : ℕ) (x : Node) → ((inner : Nodes) → Keeps d x inner) → (nodes : Nodes) (k : ℕ) (path : Path) (cs : List ℕ)
    → (k ∷ path ≡ last_path (suc (suc d)) nodes → is_text x ≡ false) → Reached path (nth k nodes) cs
    → Reached path (nth k (in_last (in_nodes_of (grown d (x ⨾ no_nodes))) nodes)) cs
in_last_keeps d x deeper no_nodes k path cs h e = absurd (none-some (Text cs) e)
in_last_keeps d x deeper (Element name attributes inner ⨾ no_nodes) zero [] cs h e =
    (let f : Element name attributes inner ≡ Text cs = same_Some (Element name attributes inner) (Text cs) e in (cc))
in_last_keeps d x deeper (Element name attributes inner ⨾ no_nodes) zero (j ∷ path) cs h e = deeper inner (j ∷ path) cs (λ f. h (ap (λ p. zero ∷ p) f)) e
in_last_keeps d x deeper (Text ds ⨾ no_nodes) zero path cs h e = e
in_last_keeps d x deeper (Comment ds ⨾ no_nodes) zero path cs h e = e
in_last_keeps d x deeper (Instruction target content ⨾ no_nodes) zero path cs h e = e
in_last_keeps d x deeper (node ⨾ no_nodes) (suc k) path cs h e = absurd (none-some (Text cs) e)
in_last_keeps d x deeper (node ⨾ next ⨾ nodes) zero path cs h e = e
in_last_keeps d x deeper (node ⨾ next ⨾ nodes) (suc k) path cs h e = in_last_keeps d x deeper (next ⨾ nodes) k path cs (λ f. h (ap bump f)) e

pub keeps_text : (d : ℕ) (x : Node) (nodes : Nodes) → Keeps d x nodes
keeps_text d x nodes [] cs h e = absurd (none-some (Text cs) e)
keeps_text zero x nodes (k ∷ path) cs h e = joined_keeps nodes x k path cs (λ f g. h (λ i. (f i ∷ (g ∙ sym (same_either_way [] (last_of nodes))) i))) e
keeps_text (suc d) x nodes (k ∷ path) cs h e = in_last_keeps d x (λ inner. keeps_text d x inner) nodes k path cs h e

-- A text that is last takes the characters of a text that is added.

abbrev chars_of : Node → List ℕ
chars_of (Text cs) = cs
chars_of (Element name attributes inner) = []
chars_of (Comment cs) = []
chars_of (Instruction target content) = []

nth_grows : (nodes : Nodes) (cs ds : List ℕ) → nth (pred (count nodes)) nodes ≡ Some (Text cs) → nth (pred (count nodes)) (joined nodes (Text ds ⨾ no_nodes)) ≡ Some (Text (cs ++ ds))
nth_grows no_nodes cs ds e = absurd (none-some (Text cs) e)
nth_grows (Text bs ⨾ no_nodes) cs ds e = ap (option_map (λ n. Text (chars_of n ++ ds))) e
nth_grows (Element name attributes inner ⨾ no_nodes) cs ds e = (let f : Element name attributes inner ≡ Text cs = same_Some (Element name attributes inner) (Text cs) e in (cc))
nth_grows (Comment bs ⨾ no_nodes) cs ds e = (let f : Comment bs ≡ Text cs = same_Some (Comment bs) (Text cs) e in (cc))
nth_grows (Instruction target content ⨾ no_nodes) cs ds e = (let f : Instruction target content ≡ Text cs = same_Some (Instruction target content) (Text cs) e in (cc))
nth_grows (Text bs ⨾ next ⨾ nodes) cs ds e = nth_grows (next ⨾ nodes) cs ds e
nth_grows (Element name attributes inner ⨾ next ⨾ nodes) cs ds e = nth_grows (next ⨾ nodes) cs ds e
nth_grows (Comment bs ⨾ next ⨾ nodes) cs ds e = nth_grows (next ⨾ nodes) cs ds e
nth_grows (Instruction target content ⨾ next ⨾ nodes) cs ds e = nth_grows (next ⨾ nodes) cs ds e

-- the node that is last in the open element
abbrev pub last_inside : ℕ → Nodes → Option Node
last_inside d nodes = nth (pred (count (inside d nodes))) (inside d nodes)

pub found_self : (o : Option Node) → option_and_then (descend []) o ≡ o
found_self None = refl
found_self (Some node) = refl

pub at_last_inside : (d : ℕ) (nodes : Nodes) → Spine d nodes → node_at nodes (last_path d nodes ++ pred (count (inside d nodes)) ∷ []) ≡ last_inside d nodes
at_last_inside d nodes s = at_inside d nodes (pred (count (inside d nodes))) [] s ∙ found_self (last_inside d nodes)

pub grows_text : (d : ℕ) (nodes : Nodes) (cs ds : List ℕ) → Spine d nodes → node_at nodes (last_path d nodes ++ pred (count (inside d nodes)) ∷ []) ≡ Some (Text cs)
    → node_at (grown d (Text ds ⨾ no_nodes) nodes) (last_path d nodes ++ pred (count (inside d nodes)) ∷ []) ≡ Some (Text (cs ++ ds))
grows_text d nodes cs ds s e =
    let x = Text ds ⨾ no_nodes in
    let k = pred (count (inside d nodes)) in
    ap (λ p. node_at (grown d x nodes) (p ++ k ∷ [])) (sym (path_grown d x nodes s))
    ∙ at_inside d (grown d x nodes) k [] (spine_stays d x nodes s)
    ∙ ap (λ ns. option_and_then (descend []) (nth k ns)) (inside_grown d x nodes s)
    ∙ found_self (nth k (joined (inside d nodes) x))
    ∙ nth_grows (inside d nodes) cs ds (sym (at_last_inside d nodes s) ∙ e)

-- No text stands on the way to the open element.

pub beside_open : (d : ℕ) (nodes : Nodes) (path : Path) (cs : List ℕ) → Spine d nodes → node_at nodes path ≡ Some (Text cs) → is_within path (last_path d nodes) ≡ false
beside_open d nodes [] cs s e = absurd (none-some (Text cs) e)
beside_open zero nodes (k ∷ path) cs s e = refl
beside_open (suc d) nodes (k ∷ path) cs s e = elim (eqb_tells k (pred (count nodes))) [
  | inr t ↦ ap (λ b. b && is_within path (option_map_or (λ node. last_path d (below node)) (last_of nodes) [])) t.0
  | inl t ↦
      ap (λ b. b && is_within path (option_map_or (λ node. last_path d (below node)) (last_of nodes) [])) t.0
      ∙ ap (λ o. is_within path (option_map_or (λ node. last_path d (below node)) o [])) s.1
      ∙ below_last path s.0 s.2 s.3 (beside_open d (below s.0)) (sym (ap (λ o. option_and_then (descend path) o) (ap (λ n. nth n nodes) t.1 ∙ last_nth nodes s.0 s.1)) ∙ e)
]
  where
    below_last : (path : Path) (last : Node) → IsElement last → Spine d (below last)
        → ((p : Path) (cs : List ℕ) → Spine d (below last) → node_at (below last) p ≡ Some (Text cs) → is_within p (last_path d (below last)) ≡ false)
        → descend path last ≡ Some (Text cs) → is_within path (last_path d (below last)) ≡ false
    below_last [] (Element name attributes inner) is s deeper g = (let f : Element name attributes inner ≡ Text cs = same_Some (Element name attributes inner) (Text cs) g in (cc))
    below_last [] (Text ds) is s deeper g = absurd is
    below_last [] (Comment ds) is s deeper g = absurd is
    below_last [] (Instruction target content) is s deeper g = absurd is
    below_last (j ∷ path) (Element name attributes inner) is s deeper g = deeper (j ∷ path) cs s g
    below_last (j ∷ path) (Text ds) is s deeper g = absurd is
    below_last (j ∷ path) (Comment ds) is s deeper g = absurd is
    below_last (j ∷ path) (Instruction target content) is s deeper g = absurd is
