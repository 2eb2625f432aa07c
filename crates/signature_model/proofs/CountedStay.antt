-- The counted signatures stay where content is put into one of them.
use Rattle.std.proofs.Common.{◌≡◌, ℕ, zero, suc, Bool, true, false, cond, List, [], ◌∷◌, ◌++◌, Option, Some, None, refl, sym, ◌∙◌, ap, subst, inl, inr, ◌⊎◌, codes}
use Rattle.std.proofs.lemmas.Option.{none-some, same_Some}
use Rattle.std.specs.Prelude.{option_and_then}
use Rattle.std.specs.Option.{option_map_or}
use Rattle.document_model.specs.Names.{Expanded, same_expanded}
use Rattle.document_model.specs.Tree.{Node, Nodes, Path, Element, Text, Comment, Instruction, no_nodes, ◌⨾◌, nth, below, descend, node_at, in_nth, with_last, put_last}
use Rattle.document_model.specs.Scopes.{Tag, with_tag_of, elements_down, elements_around}
use Rattle.signature_model.specs.Vocabulary.{ds}
use Rattle.signature_model.specs.Spots.{Spot, name_in, outermost, outermost_in}
use Rattle.signature_model.specs.Parts.{counted}
use Rattle.signature_model.proofs.Standing.{tags_of}
use Rattle.signature_model.specs.Keeping.{IsSignature}

-- an element with the name stands above the place that a path leads to from a node
abbrev Inside : Expanded → List Tag → Path → Node → Type 0
Inside name outer [] node = ⊥
Inside name outer (k ∷ host) node = (same_expanded name (name_in (with_tag_of node outer)) ≡ true)
    ⊎ ((c : Node) × (nth k (below node) ≡ Some c) × Inside name (with_tag_of node outer) host c)

when_true : {A : Type 0} (b : Bool) (x y z : A) → b ≡ true → cond b x y ≡ cond b x z
when_true true x y z e = refl
when_true false x y z e = absurd (subst (λ b. cond b ⊥ (Unit {0})) e tt)

nodes_same : (name : Expanded) (change : Node → Node) (outer : List Tag) (c : Node)
    → ((path : Path) → outermost_in name path outer (change c) ≡ outermost_in name path outer c)
    → (path : Path) (k i : ℕ) (nodes : Nodes) → nth k nodes ≡ Some c → outermost name path outer i (in_nth k change nodes) ≡ outermost name path outer i nodes
nodes_same name change outer c same path k i no_nodes e = refl
nodes_same name change outer c same path zero i (node ⨾ nodes) e =
    let P : Node → Type 0 = λ n. outermost_in name (path ++ i ∷ []) outer (change n) ≡ outermost_in name (path ++ i ∷ []) outer n in
    ap (λ spots. spots ++ outermost name path outer (suc i) nodes) (subst P (sym (same_Some node c e)) (same (path ++ i ∷ [])))
nodes_same name change outer c same path (suc k) i (node ⨾ nodes) e =
    ap (λ spots. outermost_in name (path ++ i ∷ []) outer node ++ spots) (nodes_same name change outer c same path k (suc i) nodes e)

node_same : (name : Expanded) (added : Nodes) (host : Path) (outer : List Tag) (node : Node) → Inside name outer host node
    → (path : Path) → outermost_in name path outer (with_last added host node) ≡ outermost_in name path outer node
node_same name added [] outer node i path = absurd i
node_same name added (k ∷ host) outer (Element written attributes nodes) i path = elim i [
  | inl e ↦ when_true (same_expanded name (name_in (record { name = written; attributes = attributes } ∷ outer))) _ _ _ e
  | inr c ↦ ap (λ spots. cond (same_expanded name (name_in (record { name = written; attributes = attributes } ∷ outer)))
      (record { path = path; tags = record { name = written; attributes = attributes } ∷ outer } ∷ []) spots)
      (nodes_same name (with_last added host) (record { name = written; attributes = attributes } ∷ outer) c.0
      (node_same name added host (record { name = written; attributes = attributes } ∷ outer) c.0 c.2) path k 0 nodes c.1)
]
node_same name added (k ∷ host) outer (Text cs) i path = refl
node_same name added (k ∷ host) outer (Comment cs) i path = refl
node_same name added (k ∷ host) outer (Instruction target content) i path = refl

-- below an element with the name a place is inside
inside_down : (name : Expanded) (path : Path) (i : ℕ) (rest : Path) (node m : Node) (outer : List Tag) → descend path node ≡ Some m
    → same_expanded name (name_in (with_tag_of m (elements_down path node outer))) ≡ true → Inside name outer (path ++ i ∷ rest) node
inside_down name [] i rest node m outer e n =
    let P : Node → Type 0 = λ x. same_expanded name (name_in (with_tag_of x outer)) ≡ true in inl (subst P (sym (same_Some node m e)) n)
inside_down name (k ∷ path) i rest node m outer e n = on_option (λ c e' n'. inside_down name path i rest c m (with_tag_of node outer) e' n') (nth k (below node)) refl e n
  where
    on_option : ((c : Node) → descend path c ≡ Some m → same_expanded name (name_in (with_tag_of m (elements_down path c (with_tag_of node outer)))) ≡ true
        → Inside name (with_tag_of node outer) (path ++ i ∷ rest) c)
        → (o : Option Node) → nth k (below node) ≡ o → option_and_then (descend path) o ≡ Some m
        → same_expanded name (name_in (with_tag_of m (option_map_or (λ c. elements_down path c (with_tag_of node outer)) o outer))) ≡ true
        → Inside name outer (k ∷ (path ++ i ∷ rest)) node
    on_option more None at e' n' = absurd (none-some _ e')
    on_option more (Some c) at e' n' = inr (c, at, more c e' n')

whole_same : (name : Expanded) (document added : Nodes) (path : Path) (i : ℕ) (rest : Path) (m : Node) → node_at document path ≡ Some m
    → same_expanded name (name_in (with_tag_of m (elements_around document path))) ≡ true
    → outermost name [] [] 0 (put_last added (path ++ i ∷ rest) document) ≡ outermost name [] [] 0 document
whole_same name document added [] i rest m e n = absurd (none-some _ e)
whole_same name document added (k ∷ path) i rest m e n = on_option (nth k document) refl e n
  where
    on_option : (o : Option Node) → nth k document ≡ o → option_and_then (descend path) o ≡ Some m
        → same_expanded name (name_in (with_tag_of m (option_map_or (λ c. elements_down path c []) o []))) ≡ true
        → outermost name [] [] 0 (in_nth k (with_last added (path ++ i ∷ rest)) document) ≡ outermost name [] [] 0 document
    on_option None at e' n' = absurd (none-some _ e')
    on_option (Some c) at e' n' =
        nodes_same name (with_last added (path ++ i ∷ rest)) [] c
        (node_same name added (path ++ i ∷ rest) [] c (inside_down name path i rest c m [] e' n')) [] k 0 document at

pub counted_stay : (document added : Nodes) (signature : Spot) (i : ℕ) (rest : Path) → IsSignature document signature
    → counted (put_last added (signature.path ++ i ∷ rest) document) ≡ counted document
counted_stay document added signature i rest s =
    let m : Node = s.stands.element.0 in
    let tags : signature.tags ≡ with_tag_of m (elements_around document signature.path) =
    s.stands.tags ∙ tags_of document signature.path m s.stands.element.1 in
    whole_same (ds (codes "Signature")) document added signature.path i rest m s.stands.element.1
    (ap (λ t. same_expanded (ds (codes "Signature")) (name_in t)) (sym tags) ∙ s.named)
