-- What the host holds once content is put last into it.
use Rattle.std.proofs.Common.{◌≡◌, ℕ, zero, suc, List, [], ◌∷◌, ◌++◌, Option, Some, None, refl, sym, ◌∙◌, ap}
use Rattle.std.proofs.lemmas.Option.{none-some, same_Some}
use Rattle.std.specs.Prelude.{option_and_then, option_map}
use Rattle.document_model.specs.Tree.{Node, Nodes, Path, Element, Text, Comment, Instruction, no_nodes, ◌⨾◌, nth, below, descend, joined, in_nth, with_last, IsElement, IsElementAt, put_last}
use Rattle.document_model.specs.Scopes.{Tag}
use Rattle.signature_model.specs.Spots.{Spot, emptied_all, held_in, held_at, elements_from, elements_in}
use Rattle.signature_model.specs.Keeping.{IsSpot}

pub nth_there : (k : ℕ) (change : Node → Node) (nodes : Nodes) → nth k (in_nth k change nodes) ≡ option_map change (nth k nodes)
nth_there k change no_nodes = none_there k
  where
    none_there : (k : ℕ) → nth k no_nodes ≡ None
    none_there k = refl
nth_there zero change (node ⨾ nodes) = refl
nth_there (suc k) change (node ⨾ nodes) = nth_there k change nodes

abbrev Holds : Nodes → Node → Option Node → Type 0
Holds added m o = held_in o ≡ emptied_all (joined (below m) added)

put_there : (added : Nodes) (node : Node) → IsElement node → held_in (Some (with_last added [] node)) ≡ emptied_all (joined (below node) added)
put_there added (Element name attributes nodes) i = refl
put_there added (Text cs) i = absurd i
put_there added (Comment cs) i = absurd i
put_there added (Instruction target content) i = absurd i

on_child : (added : Nodes) (path : Path) (m : Node) (o : Option Node)
    → ((node : Node) → descend path node ≡ Some m → Holds added m (descend path (with_last added path node)))
    → option_and_then (descend path) o ≡ Some m → Holds added m (option_and_then (descend path) (option_map (with_last added path) o))
on_child added path m None there e = absurd (none-some _ e)
on_child added path m (Some node) there e = there node e

below_there : (added : Nodes) (path : Path) (m : Node) → IsElement m → (node : Node) → descend path node ≡ Some m
    → Holds added m (descend path (with_last added path node))
below_there added [] m i node e =
    let same : node ≡ m = same_Some node m e in
    ap (λ n. held_in (Some (with_last added [] n))) same ∙ put_there added m i
below_there added (k ∷ path) m i (Element name attributes nodes) e =
    ap (λ o. held_in (option_and_then (descend path) o)) (nth_there k (with_last added path) nodes)
    ∙ on_child added path m (nth k nodes) (below_there added path m i) e
below_there added (k ∷ path) m i (Text cs) e = absurd (none-some _ e)
below_there added (k ∷ path) m i (Comment cs) e = absurd (none-some _ e)
below_there added (k ∷ path) m i (Instruction target content) e = absurd (none-some _ e)

pub held_at_host : (document added : Nodes) (path : Path) (e : IsElementAt document path)
    → held_at (put_last added path document) path ≡ emptied_all (joined (below e.0) added)
held_at_host document added [] e = absurd (none-some _ e.1)
held_at_host document added (k ∷ path) e =
    ap (λ o. held_in (option_and_then (descend path) o)) (nth_there k (with_last added path) document)
    ∙ on_child added path e.0 (nth k document) (below_there added path e.0 e.2) e.1

-- the elements of joined nodes begin with those of the first
abbrev Begins : List Spot → List Spot → Type 0
Begins front whole = (more : List Spot) × (whole ≡ front ++ more)

joined_elements : (path : Path) (tags : List Tag) (a b : Nodes) (i : ℕ)
    → Begins (elements_from path tags i (emptied_all a)) (elements_from path tags i (emptied_all (joined a b)))
joined_elements path tags no_nodes b i = (elements_from path tags i (emptied_all b), refl)
joined_elements path tags (Element name attributes inner ⨾ a) b i =
    let behind = joined_elements path tags a b (suc i) in
    (behind.0, ap (λ spots. record { path = path ++ i ∷ []; tags = record { name = name; attributes = attributes } ∷ tags } ∷ spots) behind.1)
joined_elements path tags (Comment cs ⨾ a) b i = joined_elements path tags a b (suc i)
joined_elements path tags (Instruction target content ⨾ a) b i = joined_elements path tags a b (suc i)
joined_elements path tags (Text cs ⨾ next ⨾ a) b i = joined_elements path tags (next ⨾ a) b (suc i)
joined_elements path tags (Text cs ⨾ no_nodes) no_nodes i = ([], refl)
joined_elements path tags (Text cs ⨾ no_nodes) (Text ds ⨾ b) i = (elements_from path tags (suc i) (emptied_all b), refl)
joined_elements path tags (Text cs ⨾ no_nodes) (Element name attributes inner ⨾ b) i = (elements_from path tags (suc i) (emptied_all (Element name attributes inner ⨾ b)), refl)
joined_elements path tags (Text cs ⨾ no_nodes) (Comment ds ⨾ b) i = (elements_from path tags (suc i) (emptied_all (Comment ds ⨾ b)), refl)
joined_elements path tags (Text cs ⨾ no_nodes) (Instruction target content ⨾ b) i = (elements_from path tags (suc i) (emptied_all (Instruction target content ⨾ b)), refl)

-- the elements that the host holds begin with those that it held
pub elements_at_host : (document added : Nodes) (host : Spot) → IsSpot document host
    → Begins (elements_in document host) (elements_in (put_last added host.path document) host)
elements_at_host document added host s =
    let nodes : Nodes = below s.element.0 in
    let grown = joined_elements host.path host.tags nodes added 0 in
    let old : elements_in document host ≡ elements_from host.path host.tags 0 (emptied_all nodes) = ap (λ o. elements_from host.path host.tags 0 (held_in o)) s.element.1 in
    let new : elements_in (put_last added host.path document) host ≡ elements_from host.path host.tags 0 (emptied_all (joined nodes added)) =
    ap (elements_from host.path host.tags 0) (held_at_host document added host.path s.element) in
    (grown.0, new ∙ grown.1 ∙ ap (λ spots. spots ++ grown.0) (sym old))
