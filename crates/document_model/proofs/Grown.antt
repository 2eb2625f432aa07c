-- The tree of items, with items put in inside an element.
use Rattle.std.proofs.Common.{◌≡◌, ℕ, zero, suc, pred, ◌+◌, ◌<◌, List, [], ◌∷◌, ◌++◌, Some, refl, sym, ◌∙◌, ap, subst, arith, append_assoc, zero-add}
use Rattle.std.proofs.lemmas.Option.{none-some}
use Rattle.std.specs.Prelude.{option_map}
use Rattle.document_model.specs.Names.{Name}
use Rattle.document_model.specs.Items.{Attribute, Item, declaration, start_tag, empty_tag, end_tag, character, reference, cdata, comment, instruction}
use Rattle.document_model.specs.Insertion.{StandInside}
use Rattle.document_model.specs.Tree.{Node, Nodes, Element, Text, Comment, Instruction, no_nodes, ◌⨾◌, below, IsElement, joined, in_nodes_of, in_last, grown, depth, added_by, added_at, tree_after, content_after, last_of}

abbrev pub Full : Nodes → Type 0
Full no_nodes = ⊥
Full (node ⨾ nodes) = Unit {0}

pub text_joined : (cs : List ℕ) (a b : Nodes) → Full a → joined (Text cs ⨾ a) b ≡ Text cs ⨾ joined a b
text_joined cs no_nodes b h = absurd h
text_joined cs (node ⨾ a) b h = refl

pub joined_full : (a b : Nodes) → Full a → Full (joined a b)
joined_full no_nodes b h = absurd h
joined_full (Element name attributes inner ⨾ a) b h = tt
joined_full (Comment cs ⨾ a) b h = tt
joined_full (Instruction target content ⨾ a) b h = tt
joined_full (Text cs ⨾ node ⨾ a) b h = tt
joined_full (Text cs ⨾ no_nodes) no_nodes h = tt
joined_full (Text cs ⨾ no_nodes) (Text ds ⨾ b) h = tt
joined_full (Text cs ⨾ no_nodes) (Element name attributes inner ⨾ b) h = tt
joined_full (Text cs ⨾ no_nodes) (Comment ds ⨾ b) h = tt
joined_full (Text cs ⨾ no_nodes) (Instruction target content ⨾ b) h = tt

pub joined_full_behind : (a b : Nodes) → Full b → Full (joined a b)
joined_full_behind no_nodes b h = h
joined_full_behind (node ⨾ a) b h = joined_full (node ⨾ a) b tt

pub joined_none : (a : Nodes) → joined a no_nodes ≡ a
joined_none no_nodes = refl
joined_none (Element name attributes inner ⨾ a) = ap (λ r. Element name attributes inner ⨾ r) (joined_none a)
joined_none (Comment cs ⨾ a) = ap (λ r. Comment cs ⨾ r) (joined_none a)
joined_none (Instruction target content ⨾ a) = ap (λ r. Instruction target content ⨾ r) (joined_none a)
joined_none (Text cs ⨾ no_nodes) = refl
joined_none (Text cs ⨾ node ⨾ a) = ap (λ r. Text cs ⨾ r) (joined_none (node ⨾ a))

pub joined_assoc : (a b c : Nodes) → joined (joined a b) c ≡ joined a (joined b c)
joined_assoc no_nodes b c = refl
joined_assoc (Element name attributes inner ⨾ a) b c = ap (λ r. Element name attributes inner ⨾ r) (joined_assoc a b c)
joined_assoc (Comment cs ⨾ a) b c = ap (λ r. Comment cs ⨾ r) (joined_assoc a b c)
joined_assoc (Instruction target content ⨾ a) b c = ap (λ r. Instruction target content ⨾ r) (joined_assoc a b c)
joined_assoc (Text cs ⨾ node ⨾ a) b c =
    text_joined cs (joined (node ⨾ a) b) c (joined_full (node ⨾ a) b tt) ∙ ap (λ r. Text cs ⨾ r) (joined_assoc (node ⨾ a) b c)
joined_assoc (Text cs ⨾ no_nodes) no_nodes c = refl
joined_assoc (Text cs ⨾ no_nodes) (Element name attributes inner ⨾ b) c = refl
joined_assoc (Text cs ⨾ no_nodes) (Comment ds ⨾ b) c = refl
joined_assoc (Text cs ⨾ no_nodes) (Instruction target content ⨾ b) c = refl
joined_assoc (Text cs ⨾ no_nodes) (Text ds ⨾ node ⨾ b) c = refl
joined_assoc (Text cs ⨾ no_nodes) (Text ds ⨾ no_nodes) no_nodes = refl
joined_assoc (Text cs ⨾ no_nodes) (Text ds ⨾ no_nodes) (Text es ⨾ c) = ap (λ r. Text r ⨾ c) (append_assoc cs ds es)
joined_assoc (Text cs ⨾ no_nodes) (Text ds ⨾ no_nodes) (Element name attributes inner ⨾ c) = refl
joined_assoc (Text cs ⨾ no_nodes) (Text ds ⨾ no_nodes) (Comment es ⨾ c) = refl
joined_assoc (Text cs ⨾ no_nodes) (Text ds ⨾ no_nodes) (Instruction target content ⨾ c) = refl

-- The last node.

pub in_last_next : (change : Node → Node) (node : Node) (nodes : Nodes) → Full nodes → in_last change (node ⨾ nodes) ≡ node ⨾ in_last change nodes
in_last_next change node no_nodes h = absurd h
in_last_next change node (next ⨾ nodes) h = refl

pub in_last_same : (f g : Node → Node) → ((node : Node) → f node ≡ g node) → (nodes : Nodes) → in_last f nodes ≡ in_last g nodes
in_last_same f g h no_nodes = refl
in_last_same f g h (node ⨾ no_nodes) = ap (λ n. n ⨾ no_nodes) (h node)
in_last_same f g h (node ⨾ next ⨾ nodes) = ap (λ r. node ⨾ r) (in_last_same f g h (next ⨾ nodes))

pub in_last_full : (f : Node → Node) (nodes : Nodes) → Full nodes → Full (in_last f nodes)
in_last_full f no_nodes h = absurd h
in_last_full f (node ⨾ no_nodes) h = tt
in_last_full f (node ⨾ next ⨾ nodes) h = tt

pub in_last_twice : (f g : Node → Node) (nodes : Nodes) → in_last f (in_last g nodes) ≡ in_last (λ node. f (g node)) nodes
in_last_twice f g no_nodes = refl
in_last_twice f g (node ⨾ no_nodes) = refl
in_last_twice f g (node ⨾ next ⨾ nodes) =
    in_last_next f node (in_last g (next ⨾ nodes)) (in_last_full g (next ⨾ nodes) tt) ∙ ap (λ r. node ⨾ r) (in_last_twice f g (next ⨾ nodes))

pub in_nodes_twice : (f g : Nodes → Nodes) (node : Node) → in_nodes_of f (in_nodes_of g node) ≡ in_nodes_of (λ nodes. f (g nodes)) node
in_nodes_twice f g (Element name attributes nodes) = refl
in_nodes_twice f g (Text cs) = refl
in_nodes_twice f g (Comment cs) = refl
in_nodes_twice f g (Instruction target content) = refl

pub in_nodes_same : (f g : Nodes → Nodes) → ((nodes : Nodes) → f nodes ≡ g nodes) → (node : Node) → in_nodes_of f node ≡ in_nodes_of g node
in_nodes_same f g h (Element name attributes nodes) = ap (Element name attributes) (h nodes)
in_nodes_same f g h (Text cs) = refl
in_nodes_same f g h (Comment cs) = refl
in_nodes_same f g h (Instruction target content) = refl

pub in_last_joined : (f : Nodes → Nodes) (a b : Nodes) → Full b → in_last (in_nodes_of f) (joined a b) ≡ joined a (in_last (in_nodes_of f) b)
in_last_joined f a no_nodes h = absurd h
in_last_joined f no_nodes (node ⨾ b) h = refl
in_last_joined f (Element name attributes inner ⨾ a) (node ⨾ b) h =
    in_last_next (in_nodes_of f) (Element name attributes inner) (joined a (node ⨾ b)) (joined_full_behind a (node ⨾ b) h)
    ∙ ap (λ r. Element name attributes inner ⨾ r) (in_last_joined f a (node ⨾ b) h)
in_last_joined f (Comment cs ⨾ a) (node ⨾ b) h =
    in_last_next (in_nodes_of f) (Comment cs) (joined a (node ⨾ b)) (joined_full_behind a (node ⨾ b) h)
    ∙ ap (λ r. Comment cs ⨾ r) (in_last_joined f a (node ⨾ b) h)
in_last_joined f (Instruction target content ⨾ a) (node ⨾ b) h =
    in_last_next (in_nodes_of f) (Instruction target content) (joined a (node ⨾ b)) (joined_full_behind a (node ⨾ b) h)
    ∙ ap (λ r. Instruction target content ⨾ r) (in_last_joined f a (node ⨾ b) h)
in_last_joined f (Text cs ⨾ next ⨾ a) (node ⨾ b) h =
    in_last_next (in_nodes_of f) (Text cs) (joined (next ⨾ a) (node ⨾ b)) (joined_full (next ⨾ a) (node ⨾ b) tt)
    ∙ ap (λ r. Text cs ⨾ r) (in_last_joined f (next ⨾ a) (node ⨾ b) h)
in_last_joined f (Text cs ⨾ no_nodes) (Text ds ⨾ no_nodes) h = refl
in_last_joined f (Text cs ⨾ no_nodes) (Text ds ⨾ next ⨾ b) h = refl
in_last_joined f (Text cs ⨾ no_nodes) (Element name attributes inner ⨾ no_nodes) h = refl
in_last_joined f (Text cs ⨾ no_nodes) (Element name attributes inner ⨾ next ⨾ b) h = refl
in_last_joined f (Text cs ⨾ no_nodes) (Comment ds ⨾ no_nodes) h = refl
in_last_joined f (Text cs ⨾ no_nodes) (Comment ds ⨾ next ⨾ b) h = refl
in_last_joined f (Text cs ⨾ no_nodes) (Instruction target content ⨾ no_nodes) h = refl
in_last_joined f (Text cs ⨾ no_nodes) (Instruction target content ⨾ next ⨾ b) h = refl

-- The open elements are the last nodes, one below another.

abbrev pub Spine : ℕ → Nodes → Type 0
Spine zero nodes = Unit {0}
Spine (suc d) nodes = (node : Node) × (last_of nodes ≡ Some node) × IsElement node × Spine d (below node)

pub last_full : (nodes : Nodes) (node : Node) → last_of nodes ≡ Some node → Full nodes
last_full no_nodes node e = absurd (none-some _ e)
last_full (first ⨾ nodes) node e = tt

-- what is put in twice at one place and below it
pub grown_twice : (d e : ℕ) (x added nodes : Nodes) → Spine e added → grown (d + e) x (grown d added nodes) ≡ grown d (grown e x added) nodes
grown_twice zero zero x added nodes s = joined_assoc nodes added x
grown_twice zero (suc e) x added nodes s =
    rw zero-add (in_last_joined (grown e x) nodes added (last_full added s.0 s.1))
grown_twice (suc d) e x added nodes s =
    let n : suc d + e ≡ suc (d + e) = omega arith in
    rw n (in_last_twice (in_nodes_of (grown (d + e) x)) (in_nodes_of (grown d added)) nodes
    ∙ in_last_same _ _ (λ node. in_nodes_twice (grown (d + e) x) (grown d added) node
    ∙ in_nodes_same _ _ (λ inner. grown_twice d e x added inner s) node) nodes)

pub grown_none : (d : ℕ) (nodes : Nodes) → grown d no_nodes nodes ≡ nodes
grown_none zero nodes = joined_none nodes
grown_none (suc d) nodes = in_last_same _ (λ node. node) (λ node. in_nodes_same _ (λ inner. inner) (λ inner. grown_none d inner) node ∙ in_nodes_id node) nodes ∙ in_last_id nodes
  where
    in_nodes_id : (node : Node) → in_nodes_of (λ inner. inner) node ≡ node
    in_nodes_id (Element name attributes nodes) = refl
    in_nodes_id (Text cs) = refl
    in_nodes_id (Comment cs) = refl
    in_nodes_id (Instruction target content) = refl

    in_last_id : (nodes : Nodes) → in_last (λ node. node) nodes ≡ nodes
    in_last_id no_nodes = refl
    in_last_id (node ⨾ no_nodes) = refl
    in_last_id (node ⨾ next ⨾ nodes) = ap (λ r. node ⨾ r) (in_last_id (next ⨾ nodes))

pub last_next : (node : Node) (rest : Nodes) → Full rest → last_of (node ⨾ rest) ≡ last_of rest
last_next node no_nodes h = absurd h
last_next node (n ⨾ rest) h = refl

pub last_in_last : (f : Node → Node) (nodes : Nodes) → last_of (in_last f nodes) ≡ option_map f (last_of nodes)
last_in_last f no_nodes = refl
last_in_last f (node ⨾ no_nodes) = refl
last_in_last f (node ⨾ next ⨾ nodes) =
    last_next node (in_last f (next ⨾ nodes)) (in_last_full f (next ⨾ nodes) tt) ∙ last_in_last f (next ⨾ nodes)

-- the same for the last of joined nodes, where an element is put in
pub last_joined : (nodes : Nodes) (name : Name) (attributes : List Attribute)
    → last_of (joined nodes (Element name attributes no_nodes ⨾ no_nodes)) ≡ Some (Element name attributes no_nodes)
last_joined no_nodes name attributes = refl
last_joined (Text cs ⨾ no_nodes) name attributes = refl
last_joined (Text cs ⨾ next ⨾ nodes) name attributes =
    last_next (Text cs) (joined (next ⨾ nodes) (Element name attributes no_nodes ⨾ no_nodes)) (joined_full (next ⨾ nodes) (Element name attributes no_nodes ⨾ no_nodes) tt)
    ∙ last_joined (next ⨾ nodes) name attributes
last_joined (Element n a inner ⨾ nodes) name attributes =
    last_next (Element n a inner) (joined nodes (Element name attributes no_nodes ⨾ no_nodes)) (joined_full_behind nodes (Element name attributes no_nodes ⨾ no_nodes) tt)
    ∙ last_joined nodes name attributes
last_joined (Comment cs ⨾ nodes) name attributes =
    last_next (Comment cs) (joined nodes (Element name attributes no_nodes ⨾ no_nodes)) (joined_full_behind nodes (Element name attributes no_nodes ⨾ no_nodes) tt)
    ∙ last_joined nodes name attributes
last_joined (Instruction target content ⨾ nodes) name attributes =
    last_next (Instruction target content) (joined nodes (Element name attributes no_nodes ⨾ no_nodes)) (joined_full_behind nodes (Element name attributes no_nodes ⨾ no_nodes) tt)
    ∙ last_joined nodes name attributes

pub spine_less : (d : ℕ) (nodes : Nodes) → Spine (suc d) nodes → Spine d nodes
spine_less zero nodes s = tt
spine_less (suc d) nodes s = (s.0, s.1, s.2, spine_less d (below s.0) s.3)

-- below the last node, which is an element
in_last_spine : (d e : ℕ) (f : Nodes → Nodes) → ((inner : Nodes) → Spine d inner → Spine e (f inner)) → (nodes : Nodes) → Spine (suc d) nodes → Spine (suc e) (in_last (in_nodes_of f) nodes)
in_last_spine d e f h nodes s = go s.0 s.1 s.2 s.3
  where
    go : (node : Node) → last_of nodes ≡ Some node → IsElement node → Spine d (below node) → Spine (suc e) (in_last (in_nodes_of f) nodes)
    go (Element name attributes inner) l is inside =
        (Element name attributes (f inner), last_in_last (in_nodes_of f) nodes ∙ ap (option_map (in_nodes_of f)) l, tt, h inner inside)
    go (Text cs) l is inside = absurd is
    go (Comment cs) l is inside = absurd is
    go (Instruction target content) l is inside = absurd is

pub spine_stays : (d : ℕ) (x nodes : Nodes) → Spine d nodes → Spine d (grown d x nodes)
spine_stays zero x nodes s = tt
spine_stays (suc d) x nodes s = in_last_spine d d (grown d x) (λ inner. spine_stays d x inner) nodes s

pub spine_opens : (d : ℕ) (name : Name) (attributes : List Attribute) (nodes : Nodes) → Spine d nodes
    → Spine (suc d) (grown d (Element name attributes no_nodes ⨾ no_nodes) nodes)
spine_opens zero name attributes nodes s = (Element name attributes no_nodes, last_joined nodes name attributes, tt, tt)
spine_opens (suc d) name attributes nodes s =
    in_last_spine d (suc d) (grown d (Element name attributes no_nodes ⨾ no_nodes)) (λ inner. spine_opens d name attributes inner) nodes s

those_before : (item : Item) (items : List Item) → StandInside (item ∷ items) → StandInside items
those_before (end_tag name) items h = h.1
those_before declaration items h = h
those_before (start_tag name attributes) items h = h
those_before (empty_tag name attributes) items h = h
those_before (character c) items h = h
those_before (reference c) items h = h
those_before (cdata cs) items h = h
those_before (comment cs) items h = h
those_before (instruction target content) items h = h

one_less : (a b c : ℕ) → a ≡ b + c → 0 < c → pred a ≡ b + pred c
one_less a b c e h = omega arith

one_more : (a b c : ℕ) → a ≡ b + c → suc a ≡ b + suc c
one_more a b c e = omega arith

pub depth_inside : (new front : List Item) → StandInside new → depth (new ++ front) ≡ depth front + depth new
depth_inside [] front h = omega arith
depth_inside (end_tag name ∷ new) front h = one_less _ _ _ (depth_inside new front h.1) h.0
depth_inside (start_tag name attributes ∷ new) front h = one_more _ _ _ (depth_inside new front h)
depth_inside (item ∷ new) front h = depth_inside new front h

pub spine_pred : (d : ℕ) (nodes : Nodes) → Spine d nodes → Spine (pred d) nodes
spine_pred zero nodes s = s
spine_pred (suc d) nodes s = spine_less d nodes s

spine_inside : (new : List Item) → StandInside new → Spine (depth new) (content_after new)
spine_inside [] h = tt
spine_inside (end_tag name ∷ new) h =
    let P : Nodes → Type 0 = λ nodes. Spine (pred (depth new)) nodes in
    subst P (sym (grown_none (depth new) (content_after new))) (spine_pred (depth new) (content_after new) (spine_inside new h.1))
spine_inside (start_tag name attributes ∷ new) h = spine_opens (depth new) name attributes (content_after new) (spine_inside new h)
spine_inside (item ∷ new) h = spine_stays (depth new) _ (content_after new) (spine_inside new h)

-- Items inside the innermost deep element put their content in there, last.
pub tree_inside : (new front : List Item) (d : ℕ) → depth front ≡ suc d → StandInside new
    → tree_after (new ++ front) ≡ grown (suc d) (content_after new) (tree_after front)
tree_inside [] front d deep h = sym (grown_none (suc d) (tree_after front))
tree_inside (item ∷ new) front d deep h =
    let inside = those_before item new h in
    let e = depth_inside new front inside in
    let n : depth (new ++ front) ≡ suc (d + depth new) = omega (arith, e, deep) in
    let m : suc d + depth new ≡ suc (d + depth new) = omega arith in
    let twice = grown_twice (suc d) (depth new) (added_by item) (content_after new) (tree_after front) (spine_inside new inside) in
    rw n (ap (grown (suc (d + depth new)) (added_by item)) (tree_inside new front d deep inside) ∙ rw m at twice)

-- and the tree of items from the front has its open elements as last nodes

pub added_start : (d : ℕ) (name : Name) (attributes : List Attribute) → added_at d (start_tag name attributes) ≡ Element name attributes no_nodes ⨾ no_nodes
added_start zero name attributes = refl
added_start (suc d) name attributes = refl

pub added_end : (d : ℕ) (name : Name) → added_at d (end_tag name) ≡ no_nodes
added_end zero name = refl
added_end (suc d) name = refl

pub spine_after : (front : List Item) → StandInside front → Spine (depth front) (tree_after front)
spine_after [] h = tt
spine_after (end_tag name ∷ front) h =
    let P : Nodes → Type 0 = λ nodes. Spine (pred (depth front)) nodes in
    subst P (sym (ap (λ x. grown (depth front) x (tree_after front)) (added_end (depth front) name) ∙ grown_none (depth front) (tree_after front)))
    (spine_pred (depth front) (tree_after front) (spine_after front h.1))
spine_after (start_tag name attributes ∷ front) h =
    let P : Nodes → Type 0 = λ x. Spine (suc (depth front)) (grown (depth front) x (tree_after front)) in
    subst P (sym (added_start (depth front) name attributes)) (spine_opens (depth front) name attributes (tree_after front) (spine_after front h))
spine_after (item ∷ front) h = spine_stays (depth front) _ (tree_after front) (spine_after front h)
