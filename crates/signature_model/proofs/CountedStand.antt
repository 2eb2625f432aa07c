-- The counted signatures are elements of the document, named Signature.
use Rattle.std.proofs.Common.{◌≡◌, ℕ, suc, ◌+◌, List, [], ◌∷◌, ◌++◌, Some, refl, sym, ◌∙◌, ap, subst, arith, codes}
use Rattle.std.specs.Prelude.{option_and_then}
use Rattle.std.specs.Option.{option_map_or}
use Rattle.document_model.specs.Tree.{Node, Nodes, Path, Element, Text, Comment, Instruction, no_nodes, ◌⨾◌, nth, below, node_at}
use Rattle.document_model.specs.Scopes.{Tag, with_tag_of, tags_at}
use Rattle.document_model.proofs.Joins.{by_test}
use Rattle.signature_model.specs.Vocabulary.{ds}
use Rattle.signature_model.specs.Spots.{Spot, is_called, outermost, outermost_in}
use Rattle.signature_model.specs.Parts.{counted}
use Rattle.signature_model.specs.Keeping.{IsSignature}
use Rattle.signature_model.proofs.Standing.{Each, child_stands}
use Rattle.signature_model.proofs.Lists.{each_append}

-- a node stands at a path, in the scope of elements
abbrev StandsAt : Nodes → Path → List Tag → Node → Type 0
StandsAt document path outer node = (node_at document path ≡ Some node) × (tags_at document path ≡ with_tag_of node outer)

-- nodes are those at a path from the k-th on
abbrev StandFrom : Nodes → Path → List Tag → ℕ → Nodes → Type 0
StandFrom document path outer k nodes = (i : ℕ) (c : Node) → nth i nodes ≡ Some c → StandsAt document (path ++ (k + i) ∷ []) outer c

front_stands : (document : Nodes) (path : Path) (outer : List Tag) (k : ℕ) (node : Node) (nodes : Nodes)
    → StandFrom document path outer k (node ⨾ nodes) → StandsAt document (path ++ k ∷ []) outer node
front_stands document path outer k node nodes h =
    let n : k + 0 ≡ k = omega arith in
    subst (λ j. StandsAt document (path ++ j ∷ []) outer node) n (h 0 node refl)

rest_stands : (document : Nodes) (path : Path) (outer : List Tag) (k : ℕ) (node : Node) (nodes : Nodes)
    → StandFrom document path outer k (node ⨾ nodes) → StandFrom document path outer (suc k) nodes
rest_stands document path outer k node nodes h i c e =
    let n : k + suc i ≡ suc k + i = omega arith in
    subst (λ j. StandsAt document (path ++ j ∷ []) outer c) n (h (suc i) c e)

-- what an element holds stands below it
held_stand : (document : Nodes) (path : Path) (node : Node) (outer : List Tag) → StandsAt document path outer node
    → StandFrom document path (with_tag_of node outer) 0 (below node)
held_stand document path node outer h i c e =
    let n : i ≡ 0 + i = omega arith in
    let s = child_stands document path i node c h.0 e in
    subst (λ j. StandsAt document (path ++ j ∷ []) (with_tag_of node outer) c) n (s.0, s.1 ∙ ap (with_tag_of c) h.1)

mutual
  all_stand : (document : Nodes) (path : Path) (outer : List Tag) (k : ℕ) (nodes : Nodes) → StandFrom document path outer k nodes
      → Each (IsSignature document) (outermost (ds (codes "Signature")) path outer k nodes)
  all_stand document path outer k no_nodes h = tt
  all_stand document path outer k (node ⨾ nodes) h =
      each_append (IsSignature document) (outermost_in (ds (codes "Signature")) (path ++ k ∷ []) outer node)
      (outermost (ds (codes "Signature")) path outer (suc k) nodes)
      (within_stand document (path ++ k ∷ []) outer node (front_stands document path outer k node nodes h))
      (all_stand document path outer (suc k) nodes (rest_stands document path outer k node nodes h))

  within_stand : (document : Nodes) (path : Path) (outer : List Tag) (node : Node) → StandsAt document path outer node
      → Each (IsSignature document) (outermost_in (ds (codes "Signature")) path outer node)
  within_stand document path outer (Element name attributes nodes) h =
      let tags : List Tag = record { name = name; attributes = attributes } ∷ outer in
      let spot : Spot = record { path = path; tags = tags } in
      by_test (Each (IsSignature document)) (is_called (ds (codes "Signature")) spot) (spot ∷ []) (outermost (ds (codes "Signature")) path tags 0 nodes)
      (λ e. (record { stands = record { tags = sym h.1; element = (Element name attributes nodes, h.0, tt) }; named = e }, tt))
      (λ e. all_stand document path tags 0 nodes (held_stand document path (Element name attributes nodes) outer h))
  within_stand document path outer (Text cs) h = tt
  within_stand document path outer (Comment cs) h = tt
  within_stand document path outer (Instruction target content) h = tt

-- the nodes of the document itself
document_stands : (document : Nodes) → StandFrom document [] [] 0 document
document_stands document i c e =
    let n : i ≡ 0 + i = omega arith in
    subst (λ j. StandsAt document (j ∷ []) [] c) n (at_top document i c e)
  where
    at_top : (document : Nodes) (i : ℕ) (c : Node) → nth i document ≡ Some c → StandsAt document (i ∷ []) [] c
    at_top document i c e = (ap (λ o. option_and_then (λ n. Some n) o) e, ap (λ o. option_map_or (λ n. with_tag_of n []) o []) e)

pub counted_stand : (document : Nodes) → Each (IsSignature document) (counted document)
counted_stand document = all_stand document [] [] 0 document (document_stands document)
