-- Elements of a document where they stand, and those that they hold.
use Rattle.std.proofs.Common.{◌≡◌, ℕ, suc, ◌+◌, List, [], ◌∷◌, ◌++◌, Option, Some, None, refl, sym, ◌∙◌, ap, subst, arith}
use Rattle.std.proofs.lemmas.Option.{none-some, same_Some}
use Rattle.std.specs.Prelude.{option_and_then}
use Rattle.std.specs.Option.{option_map_or}
use Rattle.document_model.specs.Tree.{Node, Nodes, Path, Element, Text, Comment, Instruction, no_nodes, ◌⨾◌, nth, below, descend, node_at, IsElement, IsElementAt}
use Rattle.document_model.specs.Scopes.{Tag, with_tag_of, elements_down, elements_around, tags_down, tags_at}
use Rattle.signature_model.specs.Keeping.{IsSpot}
use Rattle.signature_model.specs.Spots.{Spot, emptied_all, held_in, elements_from, elements_in}

-- a fact for each of a list
abbrev pub Each : {A : Type 0} → (A → Type 0) → List A → Type 0
Each P [] = Unit {0}
Each P (x ∷ xs) = P x × Each P xs

-- One step further down a path.

and_then_some : {A : Type 0} (o : Option A) → option_and_then (λ x. Some x) o ≡ o
and_then_some None = refl
and_then_some (Some x) = refl

abbrev child : ℕ → Node → Option Node
child k node = nth k (below node)

descend_none : (path : Path) (k : ℕ) → option_and_then (descend (path ++ k ∷ [])) None ≡ option_and_then (child k) (option_and_then (descend path) None)
descend_none path k = refl

descend_more : (path : Path) (k : ℕ) (node : Node) → descend (path ++ k ∷ []) node ≡ option_and_then (child k) (descend path node)
descend_more [] k node = and_then_some (child k node)
descend_more (j ∷ path) k node = on_option (λ n. descend_more path k n) (child j node)
  where
    on_option : ((n : Node) → descend (path ++ k ∷ []) n ≡ option_and_then (child k) (descend path n)) → (o : Option Node) → option_and_then (descend (path ++ k ∷ [])) o ≡ option_and_then (child k) (option_and_then (descend path) o)
    on_option more None = refl
    on_option more (Some n) = more n

node_more : (document : Nodes) (j : ℕ) (path : Path) (k : ℕ) → node_at document (j ∷ path ++ k ∷ []) ≡ option_and_then (child k) (node_at document (j ∷ path))
node_more document j path k = on_option (nth j document)
  where
    on_option : (o : Option Node) → option_and_then (descend (path ++ k ∷ [])) o ≡ option_and_then (child k) (option_and_then (descend path) o)
    on_option None = refl
    on_option (Some n) = descend_more path k n

around_more : (path : Path) (k : ℕ) (node m c : Node) (outer : List Tag) → descend path node ≡ Some m → child k m ≡ Some c
    → elements_down (path ++ k ∷ []) node outer ≡ with_tag_of m (elements_down path node outer)
around_more [] k node m c outer e f =
    let same : m ≡ node = sym (same_Some node m e) in
    ap (λ o. option_map_or (λ n. with_tag_of node outer) o outer) (ap (child k) (sym same) ∙ f) ∙ ap (λ n. with_tag_of n outer) (sym same)
around_more (j ∷ path) k node m c outer e f = on_option (λ n e'. around_more path k n m c (with_tag_of node outer) e' f) (child j node) e
  where
    on_option : ((n : Node) → descend path n ≡ Some m → elements_down (path ++ k ∷ []) n (with_tag_of node outer) ≡ with_tag_of m (elements_down path n (with_tag_of node outer)))
        → (o : Option Node) → option_and_then (descend path) o ≡ Some m
        → option_map_or (λ n. elements_down (path ++ k ∷ []) n (with_tag_of node outer)) o outer
        ≡ with_tag_of m (option_map_or (λ n. elements_down path n (with_tag_of node outer)) o outer)
    on_option more None e' = absurd (none-some _ e')
    on_option more (Some n) e' = more n e'

elements_more : (document : Nodes) (j : ℕ) (path : Path) (k : ℕ) (m c : Node) → node_at document (j ∷ path) ≡ Some m → child k m ≡ Some c
    → elements_around document (j ∷ path ++ k ∷ []) ≡ with_tag_of m (elements_around document (j ∷ path))
elements_more document j path k m c e f = on_option (nth j document) e
  where
    on_option : (o : Option Node) → option_and_then (descend path) o ≡ Some m
        → option_map_or (λ n. elements_down (path ++ k ∷ []) n []) o [] ≡ with_tag_of m (option_map_or (λ n. elements_down path n []) o [])
    on_option None e' = absurd (none-some _ e')
    on_option (Some n) e' = around_more path k n m c [] e' f

-- the tags of a node that is there
tags_below : (path : Path) (node m : Node) (outer : List Tag) → descend path node ≡ Some m → tags_down path node outer ≡ with_tag_of m (elements_down path node outer)
tags_below [] node m outer e = ap (λ n. with_tag_of n outer) (same_Some node m e)
tags_below (k ∷ path) node m outer e = on_option (λ c e'. tags_below path c m (with_tag_of node outer) e') (child k node) e
  where
    on_option : ((c : Node) → descend path c ≡ Some m → tags_down path c (with_tag_of node outer) ≡ with_tag_of m (elements_down path c (with_tag_of node outer)))
        → (o : Option Node) → option_and_then (descend path) o ≡ Some m
        → option_map_or (λ c. tags_down path c (with_tag_of node outer)) o [] ≡ with_tag_of m (option_map_or (λ c. elements_down path c (with_tag_of node outer)) o outer)
    on_option more None e' = absurd (none-some _ e')
    on_option more (Some c) e' = more c e'

pub tags_of : (document : Nodes) (path : Path) (m : Node) → node_at document path ≡ Some m → tags_at document path ≡ with_tag_of m (elements_around document path)
tags_of document [] m e = absurd (none-some _ e)
tags_of document (j ∷ path) m e = on_option (nth j document) e
  where
    on_option : (o : Option Node) → option_and_then (descend path) o ≡ Some m
        → option_map_or (λ c. tags_down path c []) o [] ≡ with_tag_of m (option_map_or (λ c. elements_down path c []) o [])
    on_option None e' = absurd (none-some _ e')
    on_option (Some c) e' = tags_below path c m [] e'

-- a child of an element
pub child_stands : (document : Nodes) (path : Path) (k : ℕ) (m c : Node) → node_at document path ≡ Some m → child k m ≡ Some c
    → (node_at document (path ++ k ∷ []) ≡ Some c) × (tags_at document (path ++ k ∷ []) ≡ with_tag_of c (tags_at document path))
child_stands document [] k m c e f = absurd (none-some _ e)
child_stands document (j ∷ path) k m c e f =
    let at : node_at document (j ∷ path ++ k ∷ []) ≡ Some c = node_more document j path k ∙ ap (option_and_then (child k)) e ∙ f in (
      at,
      tags_of document (j ∷ path ++ k ∷ []) c at
          ∙ ap (with_tag_of c) (elements_more document j path k m c e f ∙ sym (tags_of document (j ∷ path) m e)),
    )

-- an element that another one holds
pub record IsChild (document : Nodes) (holder spot : Spot) : Type 0 where
  pub stands : IsSpot document spot
  pub number : (k : ℕ) × (spot.path ≡ holder.path ++ k ∷ [])

number_from : ℕ → ℕ → ℕ
number_from i k = i + k

children_from : (document : Nodes) (holder : Spot) (m : Node) → node_at document holder.path ≡ Some m → holder.tags ≡ tags_at document holder.path
    → (i : ℕ) (nodes : Nodes) → ((k : ℕ) → nth (i + k) (below m) ≡ nth k nodes)
    → Each (IsChild document holder) (elements_from holder.path holder.tags i (emptied_all nodes))
children_from document holder m e t i no_nodes h = tt
children_from document holder m e t i (Element name attributes inner ⨾ nodes) h =
    let n : i + 0 ≡ i = omega arith in
    let c = child_stands document holder.path i m (Element name attributes inner) e (ap (λ k. nth k (below m)) (sym n) ∙ h 0) in (
      record {
        stands = record {
          tags = ap (λ tags. record { name = name; attributes = attributes } ∷ tags) t ∙ sym c.1;
          element = is_element_at document (holder.path ++ i ∷ []) (Element name attributes inner) c.0 tt;
        };
        number = (i, refl);
      },
      children_from document holder m e t (suc i) nodes (λ k. ap (λ j. nth j (below m)) (shift i k) ∙ h (suc k)),
    )
  where
    shift : (i k : ℕ) → suc i + k ≡ i + suc k
    shift i k = omega arith

    is_element_at : (document : Nodes) (path : Path) (node : Node) → node_at document path ≡ Some node → IsElement node → IsElementAt document path
    is_element_at document path node e' i' = (node, e', i')
children_from document holder m e t i (Text cs ⨾ nodes) h =
    children_from document holder m e t (suc i) nodes (λ k. ap (λ j. nth j (below m)) (shift i k) ∙ h (suc k))
  where
    shift : (i k : ℕ) → suc i + k ≡ i + suc k
    shift i k = omega arith
children_from document holder m e t i (Comment cs ⨾ nodes) h =
    children_from document holder m e t (suc i) nodes (λ k. ap (λ j. nth j (below m)) (shift i k) ∙ h (suc k))
  where
    shift : (i k : ℕ) → suc i + k ≡ i + suc k
    shift i k = omega arith
children_from document holder m e t i (Instruction target content ⨾ nodes) h =
    children_from document holder m e t (suc i) nodes (λ k. ap (λ j. nth j (below m)) (shift i k) ∙ h (suc k))
  where
    shift : (i k : ℕ) → suc i + k ≡ i + suc k
    shift i k = omega arith

-- the elements that an element of the document holds
pub children_stand : (document : Nodes) (holder : Spot) → IsSpot document holder → Each (IsChild document holder) (elements_in document holder)
children_stand document holder s =
    let nothing_before : (k : ℕ) → nth (0 + k) (below s.element.0) ≡ nth k (below s.element.0) = λ k. ap (λ j. nth j (below s.element.0)) (zero_first k) in
    let P : Nodes → Type 0 = λ nodes. Each (IsChild document holder) (elements_from holder.path holder.tags 0 nodes) in
    subst P (sym (ap held_in s.element.1)) (children_from document holder s.element.0 s.element.1 s.tags 0 (below s.element.0) nothing_before)
  where
    zero_first : (k : ℕ) → 0 + k ≡ k
    zero_first k = omega arith
