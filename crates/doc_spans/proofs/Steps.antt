-- What one more item does to the open element, its children and the paths.
use Rattle.std.proofs.Common.{◌≡◌, ℕ, zero, suc, pred, ◌<◌, Bool, true, false, not, cond, ◌&&◌, ◌||◌, List, [], ◌∷◌, ◌++◌, Some, refl, ◌∙◌, ap, subst, arith, nat_eq}
use Rattle.std.proofs.Math.Dec.{eqb-suc-zero}
use Rattle.std.specs.Option.{option_map_or}
use Rattle.document_model.specs.Names.{Name}
use Rattle.document_model.specs.Items.{Attribute, Item, declaration, start_tag, empty_tag, end_tag, character, reference, cdata, comment, instruction}
use Rattle.document_model.specs.Tree.{Node, Nodes, Path, Element, Text, Comment, Instruction, no_nodes, ◌⨾◌, below, IsElement, joined, grown, depth, added_by, added_at, tree_after, last_of, last_path, count}
use Rattle.document_model.specs.Documents.{is_in_text}
use Rattle.document_model.specs.Places.{path_of, begins_node}
use Rattle.document_model.specs.Insertion.{StandInside}
use Rattle.document_model.proofs.Grown.{Full, Spine, joined_full, joined_full_behind, last_next, last_joined, joined_none, added_start, spine_after, spine_stays}
use Rattle.document_model.proofs.Put.{closing}
use Rattle.doc_spans.specs.Marks.{Follow, open_path}
use Rattle.doc_spans.proofs.Spine.{inside, inside_last, inside_grown, inside_deeper, path_grown, path_of_last}

-- how many children the open element has
abbrev pub children : List Item → Nodes
children before = inside (depth before) (tree_after before)

abbrev pub child_count : List Item → ℕ
child_count before = count (children before)

abbrev pub is_text : Node → Bool
is_text (Text cs) = true
is_text (Element name attributes nodes) = false
is_text (Comment cs) = false
is_text (Instruction target content) = false

abbrev pub ends_in_text : Nodes → Bool
ends_in_text nodes = option_map_or is_text (last_of nodes) false

pub stand : (before : List Item) → Follow before → StandInside before
stand [] h = tt
stand (end_tag name ∷ before) h = (h.0, stand before h.1)
stand (declaration ∷ before) h = stand before h.1
stand (start_tag name attributes ∷ before) h = stand before h.1
stand (empty_tag name attributes ∷ before) h = stand before h.1
stand (character c ∷ before) h = stand before h.1
stand (reference c ∷ before) h = stand before h.1
stand (cdata cs ∷ before) h = stand before h.1
stand (comment cs ∷ before) h = stand before h.1
stand (instruction target content ∷ before) h = stand before h.1

pub spine : (before : List Item) → Follow before → Spine (depth before) (tree_after before)
spine before h = spine_after before (stand before h)

-- One node behind others.

ends_behind : (node : Node) (rest : Nodes) → Full rest → ends_in_text (node ⨾ rest) ≡ ends_in_text rest
ends_behind node rest h = ap (λ o. option_map_or is_text o false) (last_next node rest h)

ends_joined : (nodes : Nodes) (node : Node) → ends_in_text (joined nodes (node ⨾ no_nodes)) ≡ is_text node
ends_joined no_nodes node = refl
ends_joined (Element name attributes inner ⨾ nodes) node =
    ends_behind (Element name attributes inner) _ (joined_full_behind nodes (node ⨾ no_nodes) tt) ∙ ends_joined nodes node
ends_joined (Comment cs ⨾ nodes) node = ends_behind (Comment cs) _ (joined_full_behind nodes (node ⨾ no_nodes) tt) ∙ ends_joined nodes node
ends_joined (Instruction target content ⨾ nodes) node =
    ends_behind (Instruction target content) _ (joined_full_behind nodes (node ⨾ no_nodes) tt) ∙ ends_joined nodes node
ends_joined (Text cs ⨾ next ⨾ nodes) node = ends_behind (Text cs) _ (joined_full (next ⨾ nodes) (node ⨾ no_nodes) tt) ∙ ends_joined (next ⨾ nodes) node
ends_joined (Text cs ⨾ no_nodes) (Element name attributes inner) = refl
ends_joined (Text cs ⨾ no_nodes) (Text ds) = refl
ends_joined (Text cs ⨾ no_nodes) (Comment ds) = refl
ends_joined (Text cs ⨾ no_nodes) (Instruction target content) = refl

pub count_apart : (nodes : Nodes) (node : Node) → (ends_in_text nodes && is_text node) ≡ false → count (joined nodes (node ⨾ no_nodes)) ≡ suc (count nodes)
count_apart no_nodes node e = refl
count_apart (Element name attributes inner ⨾ no_nodes) node e = refl
count_apart (Element name attributes inner ⨾ next ⨾ nodes) node e = ap suc (count_apart (next ⨾ nodes) node e)
count_apart (Comment cs ⨾ no_nodes) node e = refl
count_apart (Comment cs ⨾ next ⨾ nodes) node e = ap suc (count_apart (next ⨾ nodes) node e)
count_apart (Instruction target content ⨾ no_nodes) node e = refl
count_apart (Instruction target content ⨾ next ⨾ nodes) node e = ap suc (count_apart (next ⨾ nodes) node e)
count_apart (Text cs ⨾ next ⨾ nodes) node e = ap suc (count_apart (next ⨾ nodes) node e)
count_apart (Text cs ⨾ no_nodes) (Element name attributes inner) e = refl
count_apart (Text cs ⨾ no_nodes) (Text ds) e = cc
count_apart (Text cs ⨾ no_nodes) (Comment ds) e = refl
count_apart (Text cs ⨾ no_nodes) (Instruction target content) e = refl

count_together : (nodes : Nodes) (ds : List ℕ) → ends_in_text nodes ≡ true → (count (joined nodes (Text ds ⨾ no_nodes)) ≡ count nodes) × (0 < count nodes)
count_together no_nodes ds e = cc
count_together (Element name attributes inner ⨾ no_nodes) ds e = cc
count_together (Element name attributes inner ⨾ next ⨾ nodes) ds e = (ap suc (count_together (next ⨾ nodes) ds e).0, omega arith)
count_together (Comment cs ⨾ no_nodes) ds e = cc
count_together (Comment cs ⨾ next ⨾ nodes) ds e = (ap suc (count_together (next ⨾ nodes) ds e).0, omega arith)
count_together (Instruction target content ⨾ no_nodes) ds e = cc
count_together (Instruction target content ⨾ next ⨾ nodes) ds e = (ap suc (count_together (next ⨾ nodes) ds e).0, omega arith)
count_together (Text cs ⨾ next ⨾ nodes) ds e = (ap suc (count_together (next ⨾ nodes) ds e).0, omega arith)
count_together (Text cs ⨾ no_nodes) ds e = (refl, omega arith)

-- Whether a text is last among the children.

pub last_below : (d : ℕ) (nodes : Nodes) → Spine (suc d) nodes → (node : Node) × (last_of (inside d nodes) ≡ Some node) × IsElement node
last_below zero nodes s = (s.0, s.1, s.2)
last_below (suc d) nodes s =
    let found = last_below d (below s.0) s.3 in
    (found.0, ap (λ o. last_of (option_map_or (λ node. inside d (below node)) o no_nodes)) s.1 ∙ found.1, found.2)

no_text : (node : Node) → IsElement node → is_text node ≡ false
no_text (Element name attributes inner) is = refl
no_text (Text cs) is = absurd is
no_text (Comment cs) is = absurd is
no_text (Instruction target content) is = absurd is

ends_below : (d : ℕ) (nodes : Nodes) → Spine (suc d) nodes → ends_in_text (inside d nodes) ≡ false
ends_below d nodes s = let found = last_below d nodes s in ap (λ o. option_map_or is_text o false) found.1 ∙ no_text found.0 found.2

opened : (d : ℕ) (name : Name) (attributes : List Attribute) (nodes : Nodes) → Spine d nodes
    → inside (suc d) (grown d (Element name attributes no_nodes ⨾ no_nodes) nodes) ≡ no_nodes
opened d name attributes nodes s =
    inside_deeper d (grown d (Element name attributes no_nodes ⨾ no_nodes) nodes)
    ∙ ap inside_last (inside_grown d (Element name attributes no_nodes ⨾ no_nodes) nodes s)
    ∙ ap (λ o. option_map_or below o no_nodes) (last_joined (inside d nodes) name attributes)

-- the children of a started element
pub none_yet : (name : Name) (attributes : List Attribute) (before : List Item) → Follow before → children (start_tag name attributes ∷ before) ≡ no_nodes
none_yet name attributes before h =
    ap (λ x. inside (suc (depth before)) (grown (depth before) x (tree_after before))) (added_start (depth before) name attributes)
    ∙ opened (depth before) name attributes (tree_after before) (spine before h)

-- the children, where an item of one node that is no tag leaves the depth
pub more : (before : List Item) (x : Nodes) → Follow before → inside (depth before) (grown (depth before) x (tree_after before)) ≡ joined (children before) x
more before x h = inside_grown (depth before) x (tree_after before) (spine before h)

pub deep : (d : ℕ) (item : Item) → 0 < d → added_at d item ≡ added_by item
deep zero item h = absurd (omega arith)
deep (suc d) item h = refl

ends_after : (before : List Item) (item : Item) (node : Node) → Follow before → added_at (depth before) item ≡ node ⨾ no_nodes
    → ends_in_text (inside (depth before) (tree_after (item ∷ before))) ≡ is_text node
ends_after before item node h e =
    ap ends_in_text (more before (added_at (depth before) item) h ∙ ap (joined (children before)) e) ∙ ends_joined (children before) node

pub stays_in_text : (before : List Item) (item : Item) → Follow before → added_at (depth before) item ≡ no_nodes
    → inside (depth before) (tree_after (item ∷ before)) ≡ children before
stays_in_text before item h e = more before (added_at (depth before) item) h ∙ ap (joined (children before)) e ∙ joined_none (children before)

pub added_whole : (d : ℕ) (name : Name) (attributes : List Attribute) → added_at d (empty_tag name attributes) ≡ Element name attributes no_nodes ⨾ no_nodes
added_whole zero name attributes = refl
added_whole (suc d) name attributes = refl

pub added_comment : (d : ℕ) (cs : List ℕ) → added_at d (comment cs) ≡ Comment cs ⨾ no_nodes
added_comment zero cs = refl
added_comment (suc d) cs = refl

pub added_instruction : (d : ℕ) (target content : List ℕ) → added_at d (instruction target content) ≡ Instruction target content ⨾ no_nodes
added_instruction zero target content = refl
added_instruction (suc d) target content = refl

closed : (d : ℕ) (before : List Item) → depth before ≡ d → 0 < d → Follow before → ends_in_text (inside (pred d) (tree_after before)) ≡ false
closed zero before e deeper h = absurd (omega arith)
closed (suc d) before e deeper h =
    let P : ℕ → Type 0 = λ k. Spine k (tree_after before) in ends_below d (tree_after before) (subst P e (spine before h))

pub text_is_last : (before : List Item) → Follow before → 0 < depth before → ends_in_text (children before) ≡ is_in_text before
text_is_last [] h inner = absurd (omega arith)
text_is_last (declaration ∷ before) h inner = absurd (omega arith)
text_is_last (start_tag name attributes ∷ before) h inner = ap ends_in_text (none_yet name attributes before h.1)
text_is_last (empty_tag name attributes ∷ before) h inner = ends_after before _ _ h.1 (added_whole (depth before) name attributes)
text_is_last (end_tag name ∷ before) h inner =
    ap (λ t. ends_in_text (inside (pred (depth before)) t)) (closing name before) ∙ closed (depth before) before refl h.0 h.1
text_is_last (character c ∷ before) h inner = ends_after before _ _ h.1 (deep (depth before) (character c) inner)
text_is_last (reference c ∷ before) h inner = ends_after before _ _ h.1 (deep (depth before) (reference c) inner)
text_is_last (cdata [] ∷ before) h inner =
    ap ends_in_text (stays_in_text before (cdata []) h.1 (deep (depth before) (cdata []) inner)) ∙ text_is_last before h.1 inner
text_is_last (cdata (c ∷ cs) ∷ before) h inner = ends_after before _ _ h.1 (deep (depth before) (cdata (c ∷ cs)) inner)
text_is_last (comment cs ∷ before) h inner = ends_after before _ _ h.1 (added_comment (depth before) cs)
text_is_last (instruction target content ∷ before) h inner = ends_after before _ _ h.1 (added_instruction (depth before) target content)

-- Paths.

abbrev pub Behind : List Item → Nodes → Path
Behind before x = last_path (suc (depth before)) (grown (depth before) x (tree_after before))

pub behind : (before : List Item) (x : Nodes) → Follow before → Behind before x ≡ open_path before ++ pred (count (joined (children before) x)) ∷ []
behind before x h =
    path_of_last (depth before) (grown (depth before) x (tree_after before)) (spine_stays (depth before) x (tree_after before) (spine before h))
    ∙ ap (λ p. p ++ pred (count (inside (depth before) (grown (depth before) x (tree_after before)))) ∷ []) (path_grown (depth before) x (tree_after before) (spine before h))
    ∙ ap (λ n. open_path before ++ pred (count n) ∷ []) (more before x h)

behind_new : (before : List Item) (x : Nodes) (node : Node) → Follow before → x ≡ node ⨾ no_nodes → (ends_in_text (children before) && is_text node) ≡ false
    → Behind before x ≡ open_path before ++ child_count before ∷ []
behind_new before x node h e apart =
    behind before x h ∙ ap (λ n. open_path before ++ pred n ∷ []) (ap (λ y. count (joined (children before) y)) e ∙ count_apart (children before) node apart)

pub never : (b : Bool) → (b && false) ≡ false
never true = refl
never false = refl

-- the parts of a test on a text
pub begins_text : (before : List Item) → not (nat_eq (depth before) 0 || is_in_text before) ≡ true → (0 < depth before) × (is_in_text before ≡ false)
begins_text before e = both (depth before) (is_in_text before) e
  where
    both : (n : ℕ) (b : Bool) → not (nat_eq n 0 || b) ≡ true → (0 < n) × (b ≡ false)
    both zero b e = cc
    both (suc n) false e = (omega arith, refl)
    both (suc n) true e = absurd (let f : not (nat_eq (suc n) 0 || true) ≡ false = ap (λ x. not (x || true)) (eqb-suc-zero n) in (cc))

new_text : (before : List Item) (c : ℕ) (cs : List ℕ) (item : Item) → Follow before → not (nat_eq (depth before) 0 || is_in_text before) ≡ true
    → added_by item ≡ Text (c ∷ cs) ⨾ no_nodes → Behind before (added_at (depth before) item) ≡ open_path before ++ child_count before ∷ []
new_text before c cs item h e a =
    let t = begins_text before e in
    behind_new before _ (Text (c ∷ cs)) h (deep (depth before) item t.0 ∙ a)
    (ap (λ b. b && true) (text_is_last before h t.0 ∙ t.1))

-- a node that an item begins stands behind the children of the open element
pub path_begun : (before : List Item) (item : Item) → Follow before → begins_node before item ≡ true → path_of before item ≡ open_path before ++ child_count before ∷ []
path_begun before declaration h e = cc
path_begun before (start_tag name attributes) h e = behind_new before _ _ h (added_start (depth before) name attributes) (never _)
path_begun before (empty_tag name attributes) h e = behind_new before _ _ h (added_whole (depth before) name attributes) (never _)
path_begun before (end_tag name) h e = cc
path_begun before (character c) h e =
    let t = begins_text before e in
    ap (λ n. last_path n (tree_after (character c ∷ before))) (shallow (depth before) t.0) ∙ new_text before c [] (character c) h e refl
  where
    shallow : (d : ℕ) → 0 < d → cond (nat_eq d 0) 0 (suc d) ≡ suc d
    shallow zero i = absurd (omega arith)
    shallow (suc d) i = ap (λ b. cond b 0 (suc (suc d))) (eqb-suc-zero d)
path_begun before (reference c) h e = new_text before c [] (reference c) h e refl
path_begun before (cdata []) h e = cc
path_begun before (cdata (c ∷ cs)) h e = new_text before c cs (cdata (c ∷ cs)) h e refl
path_begun before (comment cs) h e = behind_new before _ _ h (added_comment (depth before) cs) (never _)
path_begun before (instruction target content) h e = behind_new before _ _ h (added_instruction (depth before) target content) (never _)

-- an item that goes on with a text is part of the last child
pub path_of_text : (before : List Item) (ds : List ℕ) (x : Nodes) → Follow before → x ≡ Text ds ⨾ no_nodes → 0 < depth before → is_in_text before ≡ true
    → (Behind before x ≡ open_path before ++ pred (child_count before) ∷ []) × (0 < child_count before) × (count (joined (children before) x) ≡ child_count before)
path_of_text before ds x h e inner goes_on =
    let together = count_together (children before) ds (text_is_last before h inner ∙ goes_on) in
    let same : count (joined (children before) x) ≡ child_count before = ap (λ y. count (joined (children before) y)) e ∙ together.0 in
    (behind before x h ∙ ap (λ n. open_path before ++ pred n ∷ []) same, together.1, same)
