-- Whether a node is another or below it, told on the way from it to the document.
use Rattle.std.proofs.Common.{◌≡◌, ℕ, ◌<◌, Bool, true, false, ◌&&◌, [], ◌∷◌, length, is_some, refl, sym, ◌∙◌, ap, arith, nat_eq}
use Rattle.std.specs.Str.{bytes_eq}
use Rattle.document_model.specs.Tree.{Path, node_at}
use Rattle.document_model.specs.NodeSets.{is_within}
use Rattle.doc_spans.specs.declared.documents.Doc.{Doc}
use Rattle.doc_spans.specs.declared.documents.NodeId.{NodeId}
use Rattle.doc_spans.specs.Seen.{Has, path_in, document_in}
use Rattle.doc_spans.specs.Shown.{outer_path}
use Rattle.doc_spans.proofs.Calls.{node_there}
use Rattle.doc_spans.proofs.Marks.{eq_self}

within_itself : (path : Path) → is_within path path ≡ true
within_itself [] = refl
within_itself (k ∷ path) = ap (λ b. b && is_within path path) (eq_self k) ∙ within_itself path

pub within_same : (top path : Path) → top ≡ path → is_within top path ≡ true
within_same top path e = ap (is_within top) (sym e) ∙ within_itself top

-- below another path is what is below it or at it, one step outward
pub within_outer : (top path : Path) → bytes_eq top path ≡ false → is_within top path ≡ is_within top (outer_path path)
within_outer [] [] e = cc
within_outer [] (k ∷ path) e = refl
within_outer (k ∷ top) [] e = refl
within_outer (k ∷ []) (j ∷ []) e = e
within_outer (k ∷ m ∷ top) (j ∷ []) e = never (nat_eq k j)
  where
    never : (b : Bool) → (b && false) ≡ false
    never true = refl
    never false = refl
within_outer (k ∷ top) (j ∷ i ∷ path) e = further (nat_eq k j) e (within_outer top (i ∷ path))
  where
    further : (b : Bool) → (b && bytes_eq top (i ∷ path)) ≡ false → (bytes_eq top (i ∷ path) ≡ false → is_within top (i ∷ path) ≡ is_within top (outer_path (i ∷ path)))
        → (b && is_within top (i ∷ path)) ≡ (b && is_within top (outer_path (i ∷ path)))
    further true e h = h e
    further false e h = refl

shorter : (k : ℕ) (path : Path) → length (outer_path (k ∷ path)) < length (k ∷ path)
shorter k [] = omega arith
shorter k (j ∷ path) = let h = shorter j path in omega (arith, h)

-- A node has a path that isn't that of the document.

pub node_path : (doc : Doc) (node : NodeId) → Has doc node → path_in doc node ≡ [] → ⊥
node_path doc node h e = (let f : is_some (node_at (document_in doc) []) ≡ true = ap (λ p. is_some (node_at (document_in doc) p)) (sym e) ∙ node_there doc node h in (cc))

outer_shorter : (path : Path) → (path ≡ [] → ⊥) → length (outer_path path) < length path
outer_shorter [] h = absurd (h refl)
outer_shorter (k ∷ path) h = shorter k path

-- the element around a node is nearer to the document
pub parent_nearer : (doc : Doc) (node parent : NodeId) → Has doc node → path_in doc parent ≡ outer_path (path_in doc node) → length (path_in doc parent) < length (path_in doc node)
parent_nearer doc node parent h e = let less = outer_shorter (path_in doc node) (node_path doc node h) in let n = ap length e in omega (arith, less, n)

-- nothing but the document is around a node at the top
pub within_none : (top path : Path) → (top ≡ [] → ⊥) → bytes_eq top path ≡ false → outer_path path ≡ [] → is_within top path ≡ false
within_none top path h e out = within_outer top path e ∙ ap (is_within top) out ∙ none top h
  where
    none : (top : Path) → (top ≡ [] → ⊥) → is_within top [] ≡ false
    none [] h = absurd (h refl)
    none (k ∷ top) h = refl
