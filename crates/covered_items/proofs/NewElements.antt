-- What is put last into an element, as it stands in the new document.
use Rattle.std.proofs.Common.{◌≡◌, ℕ, suc, ◌+◌, List, [], ◌∷◌, ◌++◌, Option, Some, None, arith, refl, sym, ◌∙◌, ap, subst}
use Rattle.std.proofs.lemmas.Option.{none-some, same_Some}
use Rattle.std.specs.Prelude.{option_and_then, option_map}
use Rattle.document_model.specs.Names.{Name}
use Rattle.document_model.specs.Items.{Attribute}
use Rattle.document_model.specs.Tree.{Node, Nodes, Path, Element, Text, Comment, Instruction, no_nodes, ◌⨾◌, nth, below, descend, joined, with_last, IsElement, put_last, node_at, count}
use Rattle.document_model.specs.Scopes.{Tag}
use Rattle.signature_model.specs.Spots.{Spot, emptied_all, held_in, held_at, elements_from, elements_in}
use Rattle.signature_model.specs.Keeping.{IsSpot}
use Rattle.signature_model.proofs.AtHost.{nth_there, held_at_host}
use Rattle.signature_model.proofs.Standing.{child_stands}

-- The element itself.

abbrev Becomes : Nodes → Node → Option Node → Type 0
Becomes added m o = o ≡ Some (with_last added [] m)

on_child : (added : Nodes) (path : Path) (m : Node) (o : Option Node)
    → ((node : Node) → descend path node ≡ Some m → Becomes added m (descend path (with_last added path node)))
    → option_and_then (descend path) o ≡ Some m → Becomes added m (option_and_then (descend path) (option_map (with_last added path) o))
on_child added path m None there e = absurd (none-some _ e)
on_child added path m (Some node) there e = there node e

below_there : (added : Nodes) (path : Path) (m : Node) → (node : Node) → descend path node ≡ Some m → Becomes added m (descend path (with_last added path node))
below_there added [] m node e = ap (λ n. Some (with_last added [] n)) (same_Some node m e)
below_there added (k ∷ path) m (Element name attributes nodes) e =
    ap (option_and_then (descend path)) (nth_there k (with_last added path) nodes)
    ∙ on_child added path m (nth k nodes) (below_there added path m) e
below_there added (k ∷ path) m (Text cs) e = absurd (none-some _ e)
below_there added (k ∷ path) m (Comment cs) e = absurd (none-some _ e)
below_there added (k ∷ path) m (Instruction target content) e = absurd (none-some _ e)

-- the element with what is put last into it
pub node_at_host : (document added : Nodes) (path : Path) (m : Node) → node_at document path ≡ Some m
    → node_at (put_last added path document) path ≡ Some (with_last added [] m)
node_at_host document added [] m e = absurd (none-some _ e)
node_at_host document added (k ∷ path) m e =
    ap (option_and_then (descend path)) (nth_there k (with_last added path) document)
    ∙ on_child added path m (nth k document) (below_there added path m) e

-- One element that is put in.

abbrev pub one_element : Name → List Attribute → Nodes → Nodes
one_element name attributes inner = Element name attributes inner ⨾ no_nodes

abbrev pub spot_below : Path → List Tag → ℕ → Name → List Attribute → Spot
spot_below path tags k name attributes = record { path = path ++ k ∷ []; tags = record { name = name; attributes = attributes } ∷ tags }

-- the number of the element that is put in
abbrev pub new_number : Node → ℕ
new_number m = count (below m)

abbrev pub new_spot : Spot → Node → Name → List Attribute → Spot
new_spot host m name attributes = spot_below host.path host.tags (new_number m) name attributes

-- what stands in an element: the element, what it holds, and where
pub record Stands (document : Nodes) (spot : Spot) (node : Node) : Type 0 where
  pub at : node_at document spot.path ≡ Some node

pub held_stands : (document : Nodes) (spot : Spot) (node : Node) → Stands document spot node → held_at document spot.path ≡ emptied_all (below node)
held_stands document spot node s = ap held_in s.at

pub elements_stand : (document : Nodes) (spot : Spot) (node : Node) → Stands document spot node
    → elements_in document spot ≡ elements_from spot.path spot.tags 0 (emptied_all (below node))
elements_stand document spot node s = ap (elements_from spot.path spot.tags 0) (held_stands document spot node s)

-- a child of what stands
pub child_there : (document : Nodes) (spot : Spot) (node : Node) → Stands document spot node → (k : ℕ) (name : Name) (attributes : List Attribute) (inner : Nodes)
    → nth k (below node) ≡ Some (Element name attributes inner) → Stands document (spot_below spot.path spot.tags k name attributes) (Element name attributes inner)
child_there document spot node s k name attributes inner e =
    record { at = (child_stands document spot.path k node (Element name attributes inner) s.at e).0 }

-- Elements, with no text between them.
abbrev pub AreElements : Nodes → Type 0
AreElements no_nodes = Unit {0}
AreElements (Element name attributes inner ⨾ nodes) = AreElements nodes
AreElements (Text cs ⨾ nodes) = ⊥
AreElements (Comment cs ⨾ nodes) = ⊥
AreElements (Instruction target content ⨾ nodes) = ⊥

-- the spots of elements that stand at a path from the k-th on
abbrev pub spots_from : Path → List Tag → ℕ → Nodes → List Spot
spots_from path tags k nodes = elements_from path tags k (emptied_all nodes)

joined_many : (path : Path) (tags : List Tag) (content : Nodes) → AreElements content → (nodes : Nodes) (i : ℕ)
    → spots_from path tags i (joined nodes content) ≡ spots_from path tags i nodes ++ spots_from path tags (i + count nodes) content
joined_many path tags content a no_nodes i =
    let n : i ≡ i + 0 = omega arith in ap (λ k. spots_from path tags k content) n
joined_many path tags content a (Element m b n ⨾ nodes) i =
    let e : suc i + count nodes ≡ i + suc (count nodes) = omega arith in
    ap (λ spots. spot_below path tags i m b ∷ spots) (joined_many path tags content a nodes (suc i)
    ∙ ap (λ k. spots_from path tags (suc i) nodes ++ spots_from path tags k content) e)
joined_many path tags content a (Comment cs ⨾ nodes) i =
    let e : suc i + count nodes ≡ i + suc (count nodes) = omega arith in
    joined_many path tags content a nodes (suc i) ∙ ap (λ k. spots_from path tags (suc i) nodes ++ spots_from path tags k content) e
joined_many path tags content a (Instruction target c ⨾ nodes) i =
    let e : suc i + count nodes ≡ i + suc (count nodes) = omega arith in
    joined_many path tags content a nodes (suc i) ∙ ap (λ k. spots_from path tags (suc i) nodes ++ spots_from path tags k content) e
joined_many path tags content a (Text cs ⨾ next ⨾ nodes) i =
    let e : suc i + count (next ⨾ nodes) ≡ i + suc (count (next ⨾ nodes)) = omega arith in
    joined_many path tags content a (next ⨾ nodes) (suc i) ∙ ap (λ k. spots_from path tags (suc i) (next ⨾ nodes) ++ spots_from path tags k content) e
joined_many path tags no_nodes a (Text cs ⨾ no_nodes) i = refl
joined_many path tags (Element n b c ⨾ content) a (Text cs ⨾ no_nodes) i =
    let e : suc i ≡ i + 1 = omega arith in ap (λ k. spots_from path tags k (Element n b c ⨾ content)) e
joined_many path tags (Text es ⨾ content) a (Text cs ⨾ no_nodes) i = absurd a
joined_many path tags (Comment es ⨾ content) a (Text cs ⨾ no_nodes) i = absurd a
joined_many path tags (Instruction target c ⨾ content) a (Text cs ⨾ no_nodes) i = absurd a

nth_further : (node : Node) (nodes : Nodes) (n k : ℕ) (o : Option Node) → nth (n + k) nodes ≡ o → nth (suc n + k) (node ⨾ nodes) ≡ o
nth_further node nodes n k o e = let m : suc n + k ≡ suc (n + k) = omega arith in ap (λ j. nth j (node ⨾ nodes)) m ∙ e

nth_behind : (content : Nodes) → AreElements content → (nodes : Nodes) (k : ℕ) → nth (count nodes + k) (joined nodes content) ≡ nth k content
nth_behind content a no_nodes k = let m : 0 + k ≡ k = omega arith in ap (λ j. nth j content) m
nth_behind content a (Element m b n ⨾ nodes) k = nth_further (Element m b n) (joined nodes content) (count nodes) k _ (nth_behind content a nodes k)
nth_behind content a (Comment cs ⨾ nodes) k = nth_further (Comment cs) (joined nodes content) (count nodes) k _ (nth_behind content a nodes k)
nth_behind content a (Instruction target c ⨾ nodes) k = nth_further (Instruction target c) (joined nodes content) (count nodes) k _ (nth_behind content a nodes k)
nth_behind content a (Text cs ⨾ next ⨾ nodes) k = nth_further (Text cs) (joined (next ⨾ nodes) content) (count (next ⨾ nodes)) k _ (nth_behind content a (next ⨾ nodes) k)
nth_behind no_nodes a (Text cs ⨾ no_nodes) k = nth_further (Text cs) no_nodes 0 k _ (let m : 0 + k ≡ k = omega arith in ap (λ j. nth j no_nodes) m)
nth_behind (Element n b c ⨾ content) a (Text cs ⨾ no_nodes) k =
    nth_further (Text cs) (Element n b c ⨾ content) 0 k _ (let m : 0 + k ≡ k = omega arith in ap (λ j. nth j (Element n b c ⨾ content)) m)
nth_behind (Text es ⨾ content) a (Text cs ⨾ no_nodes) k = absurd a
nth_behind (Comment es ⨾ content) a (Text cs ⨾ no_nodes) k = absurd a
nth_behind (Instruction target c ⨾ content) a (Text cs ⨾ no_nodes) k = absurd a

below_with_last : (added : Nodes) (m : Node) → IsElement m → below (with_last added [] m) ≡ joined (below m) added
below_with_last added (Element name attributes nodes) i = refl
below_with_last added (Text cs) i = absurd i
below_with_last added (Comment cs) i = absurd i
below_with_last added (Instruction target content) i = absurd i

-- Each element of the content stands at its place.
abbrev pub StandAll : Nodes → Path → List Tag → ℕ → Nodes → Type 0
StandAll new path tags number content = (k : ℕ) (name : Name) (attributes : List Attribute) (inner : Nodes) → nth k content ≡ Some (Element name attributes inner)
    → Stands new (spot_below path tags (number + k) name attributes) (Element name attributes inner)

-- in an element that holds just the content
pub stand_within : (new : Nodes) (holder : Spot) (name : Name) (attributes : List Attribute) (content : Nodes) → Stands new holder (Element name attributes content)
    → StandAll new holder.path holder.tags 0 content
stand_within new holder name attributes content s k n a i e =
    let m : k ≡ 0 + k = omega arith in
    subst (λ (j : ℕ). Stands new (spot_below holder.path holder.tags j n a) (Element n a i)) m (child_there new holder (Element name attributes content) s k n a i e)

-- last in the host
pub many_elements : (document : Nodes) (place : Spot) (s : IsSpot document place) (content : Nodes) → AreElements content
    → elements_in (put_last content place.path document) place ≡ elements_in document place ++ spots_from place.path place.tags (count (below s.element.0)) content
many_elements document place s content a =
    let m : Node = s.element.0 in
    let n : 0 + count (below m) ≡ count (below m) = omega arith in
    ap (elements_from place.path place.tags 0) (held_at_host document content place.path s.element)
    ∙ joined_many place.path place.tags content a (below m) 0
    ∙ ap (λ k. spots_from place.path place.tags 0 (below m) ++ spots_from place.path place.tags k content) n
    ∙ ap (λ spots. spots ++ spots_from place.path place.tags (count (below m)) content) (sym (ap (λ o. elements_from place.path place.tags 0 (held_in o)) s.element.1))

pub stand_last : (document : Nodes) (place : Spot) (s : IsSpot document place) (content : Nodes) → AreElements content
    → StandAll (put_last content place.path document) place.path place.tags (count (below s.element.0)) content
stand_last document place s content a k name attributes inner e =
    let m : Node = s.element.0 in
    child_there (put_last content place.path document) place (with_last content [] m) (record { at = node_at_host document content place.path m s.element.1 })
    (count (below m) + k) name attributes inner
    (ap (nth (count (below m) + k)) (below_with_last content m s.element.2) ∙ nth_behind content a (below m) k ∙ e)

-- One element: it stands at its number,
pub stand_first : (new : Nodes) (path : Path) (tags : List Tag) (number : ℕ) (name : Name) (attributes : List Attribute) (inner : Nodes)
    → StandAll new path tags number (one_element name attributes inner) → Stands new (spot_below path tags number name attributes) (Element name attributes inner)
stand_first new path tags number name attributes inner s =
    let n : number + 0 ≡ number = omega arith in
    subst (λ (k : ℕ). Stands new (spot_below path tags k name attributes) (Element name attributes inner)) n (s 0 name attributes inner refl)

-- in the host behind what it held,
pub elements_with_one : (document : Nodes) (host : Spot) (s : IsSpot document host) (name : Name) (attributes : List Attribute) (inner : Nodes)
    → elements_in (put_last (one_element name attributes inner) host.path document) host
    ≡ elements_in document host ++ new_spot host s.element.0 name attributes ∷ []
elements_with_one document host s name attributes inner = many_elements document host s (one_element name attributes inner) tt

-- with what it holds.
pub new_stands : (document : Nodes) (host : Spot) (s : IsSpot document host) (name : Name) (attributes : List Attribute) (inner : Nodes)
    → Stands (put_last (one_element name attributes inner) host.path document) (new_spot host s.element.0 name attributes) (Element name attributes inner)
new_stands document host s name attributes inner =
    stand_first (put_last (one_element name attributes inner) host.path document) host.path host.tags (count (below s.element.0)) name attributes inner
    (stand_last document host s (one_element name attributes inner) tt)
