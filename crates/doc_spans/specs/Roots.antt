-- What the search of the document element has passed.
use Rattle.std.specs.Prelude.{◌≡◌, ℕ, ◌<◌, [], ◌∷◌, Some, option_map}
use Rattle.document_model.specs.Tree.{Nodes, Path, nth}
use Rattle.doc_spans.specs.declared.rows.Kind.TheVariants.{Element}
use Rattle.doc_spans.specs.Shown.{kind_of}

-- none of the first i nodes is an element
abbrev pub NoElementBefore : ℕ → Nodes → Type 0
NoElementBefore i nodes = (k : ℕ) → k < i → option_map kind_of (nth k nodes) ≡ Some Element → ⊥

-- the path is that of one of the nodes that the document holds, and none before it is an element
abbrev pub IsFirstElement : Path → Nodes → Type 0
IsFirstElement path document = (i : ℕ) × (path ≡ i ∷ []) × NoElementBefore i document
