-- Content that is put into an element while later items stand behind it.
use Rattle.std.proofs.Common.{◌≡◌, ℕ, zero, suc, pred, ◌+◌, List, [], ◌∷◌, ◌++◌, Option, Some, refl, sym, ◌∙◌, ap, subst, subst₂, inl, inr, ◌⊎◌, arith}
use Rattle.std.proofs.lemmas.Option.{none-some, same_Some}
use Rattle.std.specs.Prelude.{option_map, option_and_then}
use Rattle.std.specs.Option.{option_map_or}
use Rattle.document_model.specs.Names.{Name}
use Rattle.document_model.specs.Items.{Attribute, Item, start_tag, empty_tag, end_tag}
use Rattle.document_model.specs.Tree.{Node, Nodes, Path, Element, Text, Comment, Instruction, no_nodes, ◌⨾◌, nth, below, descend, IsElement, joined, in_nodes_of, in_nth, with_last, put_last, in_last, grown, depth, added_at, tree_after, content_after, last_of, last_path, count}
use Rattle.document_model.specs.Insertion.{PutsLast, OpensTag}
use Rattle.document_model.proofs.Kept.{joined_nth}
use Rattle.document_model.proofs.Grown.{Full, Spine, last_full, text_joined, joined_full, joined_full_behind, in_last_next, grown_none, depth_inside, tree_inside, spine_after, added_start, added_end}

nth_is_last : (f : Node → Node) (nodes : Nodes) → in_nth (pred (count nodes)) f nodes ≡ in_last f nodes
nth_is_last f no_nodes = refl
nth_is_last f (node ⨾ no_nodes) = refl
nth_is_last f (node ⨾ next ⨾ nodes) = ap (λ r. node ⨾ r) (nth_is_last f (next ⨾ nodes))

in_last_at : (f g : Node → Node) (nodes : Nodes) (node : Node) → last_of nodes ≡ Some node → ((n : Node) → Some n ≡ Some node → f n ≡ g n) → in_last f nodes ≡ in_last g nodes
in_last_at f g no_nodes node e h = refl
in_last_at f g (n ⨾ no_nodes) node e h = ap (λ m. m ⨾ no_nodes) (h n e)
in_last_at f g (n ⨾ next ⨾ nodes) node e h = ap (λ r. n ⨾ r) (in_last_at f g (next ⨾ nodes) node e h)

abbrev path_below : ℕ → Option Node → Path
path_below d o = option_map_or (λ node. last_path d (below node)) o []

-- The element that is open at a depth is the one that the path of the last node there names.
grown_at : (d : ℕ) (added : Nodes)
    → ((node : Node) → Spine d (below node) → in_nodes_of (grown d added) node ≡ with_last added (last_path d (below node)) node)
    → (nodes : Nodes) → Spine (suc d) nodes → grown (suc d) added nodes ≡ put_last added (last_path (suc d) nodes) nodes
grown_at d added same nodes s =
    in_last_at (in_nodes_of (grown d added)) (with_last added (last_path d (below s.0))) nodes s.0 s.1
    (λ n e. let P : Node → Type 0 = λ m. in_nodes_of (grown d added) m ≡ with_last added (last_path d (below s.0)) m in
    subst P (sym (same_Some n s.0 e)) (same s.0 s.3))
    ∙ ap (λ path. in_last (with_last added path) nodes) (sym (ap (path_below d) s.1))
    ∙ sym (nth_is_last (with_last added (path_below d (last_of nodes))) nodes)

node_grown : (d : ℕ) (added : Nodes) (node : Node) → Spine d (below node) → in_nodes_of (grown d added) node ≡ with_last added (last_path d (below node)) node
node_grown zero added (Element name attributes inner) s = refl
node_grown zero added (Text cs) s = refl
node_grown zero added (Comment cs) s = refl
node_grown zero added (Instruction target content) s = refl
node_grown (suc d) added (Element name attributes inner) s = ap (Element name attributes) (grown_at d added (node_grown d added) inner s)
node_grown (suc d) added (Text cs) s = refl
node_grown (suc d) added (Comment cs) s = refl
node_grown (suc d) added (Instruction target content) s = refl

pub put_is_grown : (d : ℕ) (added nodes : Nodes) → Spine (suc d) nodes → grown (suc d) added nodes ≡ put_last added (last_path (suc d) nodes) nodes
put_is_grown d added nodes s = grown_at d added (node_grown d added) nodes s

-- A place that is not where the nodes grow at a depth.

abbrev pub Before : ℕ → Nodes → Type 0
Before k no_nodes = ⊥
Before zero (node ⨾ no_nodes) = ⊥
Before zero (node ⨾ next ⨾ nodes) = Unit {0}
Before (suc k) (node ⨾ nodes) = Before k nodes

abbrev pub IsLast : ℕ → Nodes → Type 0
IsLast k no_nodes = ⊥
IsLast zero (node ⨾ no_nodes) = Unit {0}
IsLast zero (node ⨾ next ⨾ nodes) = ⊥
IsLast (suc k) (node ⨾ nodes) = IsLast k nodes

abbrev pub OffBelow : ℕ → ℕ → Nodes → (ℕ → Type 0) → Type 0
OffBelow zero k nodes below_last = Unit {0}
OffBelow (suc d) k nodes below_last = Before k nodes ⊎ (IsLast k nodes × below_last d)

abbrev pub Off : Path → ℕ → Nodes → Type 0
Off [] d nodes = ⊥
Off (k ∷ path) d nodes = (node : Node) × (nth k nodes ≡ Some node) × IsElement node × OffBelow d k nodes (λ e. Off path e (below node))

-- changes at two places

full_in_nth : (f : Node → Node) (k : ℕ) (nodes : Nodes) → Before k nodes → Full (in_nth k f nodes)
full_in_nth f k no_nodes h = absurd h
full_in_nth f zero (node ⨾ nodes) h = tt
full_in_nth f (suc k) (node ⨾ nodes) h = tt

change_before : (f g : Node → Node) (k : ℕ) (nodes : Nodes) → Before k nodes → in_last g (in_nth k f nodes) ≡ in_nth k f (in_last g nodes)
change_before f g k no_nodes h = absurd h
change_before f g zero (node ⨾ no_nodes) h = absurd h
change_before f g zero (node ⨾ next ⨾ nodes) h = refl
change_before f g (suc k) (node ⨾ no_nodes) h = absurd h
change_before f g (suc k) (node ⨾ next ⨾ nodes) h =
    in_last_next g node (in_nth k f (next ⨾ nodes)) (full_in_nth f k (next ⨾ nodes) h) ∙ ap (λ r. node ⨾ r) (change_before f g k (next ⨾ nodes) h)

change_last : (f g : Node → Node) (k : ℕ) (nodes : Nodes) (node : Node) → IsLast k nodes → nth k nodes ≡ Some node
    → g (f node) ≡ f (g node) → in_last g (in_nth k f nodes) ≡ in_nth k f (in_last g nodes)
change_last f g k no_nodes node h e same = absurd h
change_last f g zero (n ⨾ no_nodes) node h e same =
    let P : Node → Type 0 = λ m. g (f m) ≡ f (g m) in ap (λ m. m ⨾ no_nodes) (subst P (sym (same_Some n node e)) same)
change_last f g zero (n ⨾ next ⨾ nodes) node h e same = absurd h
change_last f g (suc k) (n ⨾ no_nodes) node h e same = absurd h
change_last f g (suc k) (n ⨾ next ⨾ nodes) node h e same =
    in_last_next g n (in_nth k f (next ⨾ nodes)) (nth_full k (next ⨾ nodes) tt) ∙ ap (λ r. n ⨾ r) (change_last f g k (next ⨾ nodes) node h e same)
  where
    nth_full : (k : ℕ) (nodes : Nodes) → Full nodes → Full (in_nth k f nodes)
    nth_full k no_nodes h = absurd h
    nth_full zero (m ⨾ rest) h = tt
    nth_full (suc k) (m ⨾ rest) h = tt

-- an element stays one
with_last_element : (added : Nodes) (path : Path) (name : Name) (attributes : List Attribute) (inner rest x : Nodes)
    → joined (with_last added path (Element name attributes inner) ⨾ rest) x ≡ with_last added path (Element name attributes inner) ⨾ joined rest x
with_last_element added [] name attributes inner rest x = refl
with_last_element added (k ∷ path) name attributes inner rest x = refl

join_changed : (added : Nodes) (path : Path) (k : ℕ) (nodes x : Nodes) (node : Node) → nth k nodes ≡ Some node → IsElement node
    → joined (in_nth k (with_last added path) nodes) x ≡ in_nth k (with_last added path) (joined nodes x)
join_changed added path k no_nodes x node e h = absurd (none-some _ e)
join_changed added path zero (Element name attributes inner ⨾ nodes) x node e h = with_last_element added path name attributes inner nodes x
join_changed added path zero (Text cs ⨾ nodes) x node e h = let P : Node → Type 0 = IsElement in absurd (subst P (sym (same_Some (Text cs) node e)) h)
join_changed added path zero (Comment cs ⨾ nodes) x node e h = let P : Node → Type 0 = IsElement in absurd (subst P (sym (same_Some (Comment cs) node e)) h)
join_changed added path zero (Instruction target content ⨾ nodes) x node e h =
    let P : Node → Type 0 = IsElement in absurd (subst P (sym (same_Some (Instruction target content) node e)) h)
join_changed added path (suc k) (Element name attributes inner ⨾ nodes) x node e h = ap (λ r. Element name attributes inner ⨾ r) (join_changed added path k nodes x node e h)
join_changed added path (suc k) (Comment cs ⨾ nodes) x node e h = ap (λ r. Comment cs ⨾ r) (join_changed added path k nodes x node e h)
join_changed added path (suc k) (Instruction target content ⨾ nodes) x node e h = ap (λ r. Instruction target content ⨾ r) (join_changed added path k nodes x node e h)
join_changed added path (suc k) (Text cs ⨾ no_nodes) x node e h = absurd (none-some _ e)
join_changed added path (suc k) (Text cs ⨾ next ⨾ nodes) x node e h =
    text_joined cs (in_nth k (with_last added path) (next ⨾ nodes)) x (nth_full k)
    ∙ ap (λ r. Text cs ⨾ r) (join_changed added path k (next ⨾ nodes) x node e h)
  where
    nth_full : (k : ℕ) → Full (in_nth k (with_last added path) (next ⨾ nodes))
    nth_full zero = tt
    nth_full (suc k) = tt

-- Nodes grow at a place, and content is put in at another: in either order.
pub grown_put : (d : ℕ) (x added : Nodes) (path : Path) (nodes : Nodes) → Off path d nodes
    → grown d x (put_last added path nodes) ≡ put_last added path (grown d x nodes)
grown_put d x added [] nodes o = absurd o
grown_put zero x added (k ∷ path) nodes o = join_changed added path k nodes x o.0 o.1 o.2
grown_put (suc d) x added (k ∷ path) nodes o = elim o.3 [
  | inl before ↦ change_before (with_last added path) (in_nodes_of (grown d x)) k nodes before
  | inr last ↦ change_last (with_last added path) (in_nodes_of (grown d x)) k nodes o.0 last.0 o.1 (inner_same path o.0 (grown_put d x added path) last.1)
]
  where
    inner_same : (path : Path) (node : Node) → ((nodes : Nodes) → Off path d nodes → grown d x (put_last added path nodes) ≡ put_last added path (grown d x nodes))
        → Off path d (below node) → in_nodes_of (grown d x) (with_last added path node) ≡ with_last added path (in_nodes_of (grown d x) node)
    inner_same [] node same off = absurd off
    inner_same (j ∷ path) (Element name attributes inner) same off = ap (Element name attributes) (same inner off)
    inner_same (j ∷ path) (Text cs) same off = refl
    inner_same (j ∷ path) (Comment cs) same off = refl
    inner_same (j ∷ path) (Instruction target content) same off = refl

-- A place stays off where the nodes grow.

pub off_less : (d : ℕ) (path : Path) (nodes : Nodes) → Off path (suc d) nodes → Off path d nodes
off_less d [] nodes o = o
off_less zero (k ∷ path) nodes o = (o.0, o.1, o.2, tt)
off_less (suc d) (k ∷ path) nodes o = (o.0, o.1, o.2, elim o.3 [ inl before ↦ inl before | inr last ↦ inr (last.0, off_less d path (below o.0) last.1) ])

pub off_pred : (d : ℕ) (path : Path) (nodes : Nodes) → Off path d nodes → Off path (pred d) nodes
off_pred zero path nodes o = o
off_pred (suc d) path nodes o = off_less d path nodes o

nth_joined : (k : ℕ) (nodes added : Nodes) (node : Node) → nth k nodes ≡ Some node → IsElement node → nth k (joined nodes added) ≡ Some node
nth_joined k nodes added node e h = joined_nth [] k nodes added (node, ap (option_and_then (descend [])) e, h) ∙ e

nth_in_last : (g : Node → Node) (k : ℕ) (nodes : Nodes) → Before k nodes → nth k (in_last g nodes) ≡ nth k nodes
nth_in_last g k no_nodes h = absurd h
nth_in_last g zero (node ⨾ no_nodes) h = absurd h
nth_in_last g zero (node ⨾ next ⨾ nodes) h = refl
nth_in_last g (suc k) (node ⨾ no_nodes) h = absurd h
nth_in_last g (suc k) (node ⨾ next ⨾ nodes) h = nth_in_last g k (next ⨾ nodes) h

before_in_last : (g : Node → Node) (k : ℕ) (nodes : Nodes) → Before k nodes → Before k (in_last g nodes)
before_in_last g k no_nodes h = absurd h
before_in_last g zero (node ⨾ no_nodes) h = absurd h
before_in_last g zero (node ⨾ next ⨾ no_nodes) h = tt
before_in_last g zero (node ⨾ next ⨾ third ⨾ nodes) h = tt
before_in_last g (suc k) (node ⨾ no_nodes) h = absurd h
before_in_last g (suc k) (node ⨾ next ⨾ nodes) h = before_in_last g k (next ⨾ nodes) h

last_nth_changed : (g : Node → Node) (k : ℕ) (nodes : Nodes) (node : Node) → IsLast k nodes → nth k nodes ≡ Some node → nth k (in_last g nodes) ≡ Some (g node)
last_nth_changed g k no_nodes node h e = absurd h
last_nth_changed g zero (n ⨾ no_nodes) node h e = ap (option_map g) e
last_nth_changed g zero (n ⨾ next ⨾ nodes) node h e = absurd h
last_nth_changed g (suc k) (n ⨾ no_nodes) node h e = absurd h
last_nth_changed g (suc k) (n ⨾ next ⨾ nodes) node h e = last_nth_changed g k (next ⨾ nodes) node h e

last_stays : (g : Node → Node) (k : ℕ) (nodes : Nodes) → IsLast k nodes → IsLast k (in_last g nodes)
last_stays g k no_nodes h = absurd h
last_stays g zero (n ⨾ no_nodes) h = tt
last_stays g zero (n ⨾ next ⨾ nodes) h = absurd h
last_stays g (suc k) (n ⨾ no_nodes) h = absurd h
last_stays g (suc k) (n ⨾ next ⨾ nodes) h = last_stays g k (next ⨾ nodes) h

before_joined : (k : ℕ) (nodes : Nodes) (name : Name) (attributes : List Attribute) (node : Node) → nth k nodes ≡ Some node
    → Before k (joined nodes (Element name attributes no_nodes ⨾ no_nodes))
before_joined k no_nodes name attributes node e = absurd (none-some _ e)
before_joined zero (n ⨾ nodes) name attributes node e = behind n nodes
  where
    behind_first : (m : Node) (rest : Nodes) → Full rest → Before 0 (m ⨾ rest)
    behind_first m no_nodes h = absurd h
    behind_first m (n ⨾ rest) h = tt

    behind : (m : Node) (rest : Nodes) → Before 0 (joined (m ⨾ rest) (Element name attributes no_nodes ⨾ no_nodes))
    behind (Text cs) no_nodes = tt
    behind (Text cs) (next ⨾ rest) = behind_first (Text cs) (joined (next ⨾ rest) (Element name attributes no_nodes ⨾ no_nodes)) (joined_full (next ⨾ rest) (Element name attributes no_nodes ⨾ no_nodes) tt)
    behind (Element n a inner) rest = behind_first (Element n a inner) (joined rest (Element name attributes no_nodes ⨾ no_nodes)) (joined_full_behind rest (Element name attributes no_nodes ⨾ no_nodes) tt)
    behind (Comment cs) rest = behind_first (Comment cs) (joined rest (Element name attributes no_nodes ⨾ no_nodes)) (joined_full_behind rest (Element name attributes no_nodes ⨾ no_nodes) tt)
    behind (Instruction target content) rest = behind_first (Instruction target content) (joined rest (Element name attributes no_nodes ⨾ no_nodes)) (joined_full_behind rest (Element name attributes no_nodes ⨾ no_nodes) tt)
before_joined (suc k) (Text cs ⨾ no_nodes) name attributes node e = absurd (none-some _ e)
before_joined (suc k) (Text cs ⨾ next ⨾ nodes) name attributes node e = before_joined k (next ⨾ nodes) name attributes node e
before_joined (suc k) (Element n a inner ⨾ nodes) name attributes node e = before_joined k nodes name attributes node e
before_joined (suc k) (Comment cs ⨾ nodes) name attributes node e = before_joined k nodes name attributes node e
before_joined (suc k) (Instruction target content ⨾ nodes) name attributes node e = before_joined k nodes name attributes node e

-- below the last node, which is an element
off_in_last : (d e k : ℕ) (path : Path) (f : Nodes → Nodes) (nodes : Nodes) → ((inner : Nodes) → Off path d inner → Off path e (f inner))
    → Off (k ∷ path) (suc d) nodes → Off (k ∷ path) (suc e) (in_last (in_nodes_of f) nodes)
off_in_last d e k path f nodes h o = go o.0 o.1 o.2 o.3
  where
    go : (node : Node) → nth k nodes ≡ Some node → IsElement node → OffBelow (suc d) k nodes (λ i. Off path i (below node)) → Off (k ∷ path) (suc e) (in_last (in_nodes_of f) nodes)
    go (Text cs) n is b = absurd is
    go (Comment cs) n is b = absurd is
    go (Instruction target content) n is b = absurd is
    go (Element name attributes inner) n is b = elim b [
      | inl before ↦ (Element name attributes inner, nth_in_last (in_nodes_of f) k nodes before ∙ n, tt, inl (before_in_last (in_nodes_of f) k nodes before))
      | inr last ↦ (Element name attributes (f inner), last_nth_changed (in_nodes_of f) k nodes _ last.0 n, tt, inr (last_stays (in_nodes_of f) k nodes last.0, h inner last.1))
    ]

pub off_stays : (d : ℕ) (path : Path) (x nodes : Nodes) → Off path d nodes → Off path d (grown d x nodes)
off_stays d [] x nodes o = absurd o
off_stays zero (k ∷ path) x nodes o = (o.0, nth_joined k nodes x o.0 o.1 o.2, o.2, tt)
off_stays (suc d) (k ∷ path) x nodes o = off_in_last d d k path (grown d x) nodes (λ inner. off_stays d path x inner) o

pub off_opens : (d : ℕ) (path : Path) (name : Name) (attributes : List Attribute) (nodes : Nodes) → Off path d nodes
    → Off path (suc d) (grown d (Element name attributes no_nodes ⨾ no_nodes) nodes)
off_opens d [] name attributes nodes o = absurd o
off_opens zero (k ∷ path) name attributes nodes o =
    (o.0, nth_joined k nodes (Element name attributes no_nodes ⨾ no_nodes) o.0 o.1 o.2, o.2, inl (before_joined k nodes name attributes o.0 o.1))
off_opens (suc d) (k ∷ path) name attributes nodes o =
    off_in_last d (suc d) k path (grown d (Element name attributes no_nodes ⨾ no_nodes)) nodes (λ inner. off_opens d path name attributes inner) o

pub off_after : (item : Item) (before : List Item) (path : Path) → Off path (depth before) (tree_after before) → Off path (depth (item ∷ before)) (tree_after (item ∷ before))
off_after (start_tag name attributes) before path o =
    let P : Nodes → Type 0 = λ x. Off path (suc (depth before)) (grown (depth before) x (tree_after before)) in
    subst P (sym (added_start (depth before) name attributes)) (off_opens (depth before) path name attributes (tree_after before) o)
off_after (end_tag name) before path o =
    let P : Nodes → Type 0 = λ nodes. Off path (pred (depth before)) nodes in
    subst P (sym (ap (λ x. grown (depth before) x (tree_after before)) (added_end (depth before) name) ∙ grown_none (depth before) (tree_after before)))
    (off_pred (depth before) path (tree_after before) o)
off_after item before path o = off_stays (depth before) path _ (tree_after before) o

-- the element that closes is behind the place where the nodes grow then

pub last_nth : (nodes : Nodes) (node : Node) → last_of nodes ≡ Some node → nth (pred (count nodes)) nodes ≡ Some node
last_nth no_nodes node e = absurd (none-some _ e)
last_nth (n ⨾ no_nodes) node e = e
last_nth (n ⨾ next ⨾ nodes) node e = last_nth (next ⨾ nodes) node e

pub is_last : (nodes : Nodes) → Full nodes → IsLast (pred (count nodes)) nodes
is_last no_nodes h = absurd h
is_last (n ⨾ no_nodes) h = tt
is_last (n ⨾ next ⨾ nodes) h = is_last (next ⨾ nodes) tt

pub off_closed : (d : ℕ) (nodes : Nodes) → Spine (suc d) nodes → Off (last_path (suc d) nodes) d nodes
off_closed zero nodes s = (s.0, last_nth nodes s.0 s.1, s.2, tt)
off_closed (suc d) nodes s =
    let P : Path → Type 0 = λ path. Off path d (below s.0) in (
      s.0,
      last_nth nodes s.0 s.1,
      s.2,
      inr (is_last nodes (last_full nodes s.0 s.1), subst P (sym (ap (path_below (suc d)) s.1)) (off_closed d (below s.0) s.3)),
    )

-- later items see the same depth
depth_behind : (behind a b : List Item) → depth a ≡ depth b → depth (behind ++ a) ≡ depth (behind ++ b)
depth_behind [] a b e = e
depth_behind (start_tag name attributes ∷ behind) a b e = ap suc (depth_behind behind a b e)
depth_behind (end_tag name ∷ behind) a b e = ap pred (depth_behind behind a b e)
depth_behind (item ∷ behind) a b e = depth_behind behind a b e

later : (behind a b : List Item) (added : Nodes) (path : Path) → depth a ≡ depth b → tree_after a ≡ put_last added path (tree_after b) → Off path (depth b) (tree_after b)
    → (tree_after (behind ++ a) ≡ put_last added path (tree_after (behind ++ b))) × Off path (depth (behind ++ b)) (tree_after (behind ++ b))
later [] a b added path e t o = (t, o)
later (item ∷ behind) a b added path e t o =
    let before = later behind a b added path e t o in
    let n = depth_behind behind a b e in (
      ap (λ d. grown d (added_at d item) (tree_after (behind ++ a))) n
          ∙ ap (grown (depth (behind ++ b)) (added_at (depth (behind ++ b)) item)) before.0
          ∙ grown_put (depth (behind ++ b)) (added_at (depth (behind ++ b)) item) added path (tree_after (behind ++ b)) before.1,
      off_after item (behind ++ b) path before.1,
    )

pub closing : (name : Name) (items : List Item) → tree_after (end_tag name ∷ items) ≡ tree_after items
closing name items = ap (λ x. grown (depth items) x (tree_after items)) (added_end (depth items) name) ∙ grown_none (depth items) (tree_after items)

pub puts_last : PutsLast
puts_last front new behind name d deep sound inside whole =
    let P0 : ℕ → Type 0 = λ k. Spine k (tree_after front) in
    let spine : Spine (suc d) (tree_after front) = subst P0 deep (spine_after front sound) in
    let n : depth (new ++ front) ≡ depth front = depth_inside new front inside ∙ (let m : depth front + depth new ≡ depth front = omega (arith, whole) in m) in
    let path = last_path (suc d) (tree_after front) in
    let off : Off path d (tree_after front) = off_closed d (tree_after front) spine in
    let here : tree_after (new ++ front) ≡ put_last (content_after new) path (tree_after front) =
    tree_inside new front d deep inside ∙ put_is_grown d (content_after new) (tree_after front) spine in
    let a : tree_after (end_tag name ∷ (new ++ front)) ≡ put_last (content_after new) path (tree_after (end_tag name ∷ front)) =
    closing name (new ++ front) ∙ here ∙ ap (put_last (content_after new) path) (sym (closing name front)) in
    let P : ℕ → Nodes → Type 0 = λ k nodes. Off path k nodes in
    let o : Off path (depth (end_tag name ∷ front)) (tree_after (end_tag name ∷ front)) =
    subst₂ P (sym (ap pred deep)) (sym (closing name front)) off in
    (later behind (end_tag name ∷ (new ++ front)) (end_tag name ∷ front) (content_after new) path (ap pred n) a o).0

-- items with the same depth and the same tree may stand in each other's place
same_later : (behind a b : List Item) → depth a ≡ depth b → tree_after a ≡ tree_after b → tree_after (behind ++ a) ≡ tree_after (behind ++ b)
same_later [] a b e t = t
same_later (item ∷ behind) a b e t =
    ap (λ d. grown d (added_at d item) (tree_after (behind ++ a))) (depth_behind behind a b e)
    ∙ ap (grown (depth (behind ++ b)) (added_at (depth (behind ++ b)) item)) (same_later behind a b e t)

added_empty : (d : ℕ) (name : Name) (attributes : List Attribute) → added_at d (empty_tag name attributes) ≡ Element name attributes no_nodes ⨾ no_nodes
added_empty zero name attributes = refl
added_empty (suc d) name attributes = refl

pub opens_tag : OpensTag
opens_tag front behind name other attributes =
    same_later behind (empty_tag name attributes ∷ front) (end_tag other ∷ start_tag name attributes ∷ front) refl
    (ap (λ x. grown (depth front) x (tree_after front)) (added_empty (depth front) name attributes ∙ sym (added_start (depth front) name attributes))
    ∙ sym (closing other (start_tag name attributes ∷ front)))
