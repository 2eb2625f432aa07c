-- What rows show: the path and the place of each node.
use Rattle.std.specs.Prelude.{◌≡◌, ℕ, suc, cond, ◌<◌, ◌≤◌, ◌⊎◌, ◌==◌, List, [], ◌∷◌, ◌++◌, length, map, drop, Some, slice_get}
use Rattle.std.specs.Option.{option_map_or}
use Rattle.document_model.specs.Tree.{Path}
use Rattle.document_model.specs.Places.{Place}
use Rattle.document_model.specs.NodeSets.{is_within}
use Rattle.doc_spans.specs.declared.rows.Row.{Row}
use Rattle.doc_spans.specs.declared.rows.Kind.{Kind}

-- no number
abbrev pub none : ℕ
none = 4294967295

-- how many of these parents are p
abbrev pub siblings : ℕ → List ℕ → ℕ
siblings p [] = 0
siblings p (q ∷ parents) = cond (q == p) (suc (siblings p parents)) (siblings p parents)

-- the path of a number, and the empty path of no number
abbrev pub under : List Path → ℕ → Path
under paths p = option_map_or (λ path. path) (slice_get paths p) []

-- paths of nodes with these parents, behind others with their parents: a node stands behind those that have its parent
abbrev pub paths_from : List Path → List ℕ → List ℕ → List Path
paths_from paths seen [] = paths
paths_from paths seen (p ∷ parents) = paths_from (paths ++ (under paths p ++ siblings p seen ∷ []) ∷ []) (seen ++ p ∷ []) parents

abbrev pub paths_of : List ℕ → List Path
paths_of parents = paths_from [] [] parents

abbrev pub parents_of : List Row → List ℕ
parents_of rows = map (λ row. row.parent) rows

abbrev pub place_of_row : Path → Row → Place
place_of_row path row = record { path = path; start = row.start; first_end = row.first_end; end = row.end }

abbrev pub placed : List Row → List Path → List Place
placed [] paths = []
placed (row ∷ rows) [] = []
placed (row ∷ rows) (path ∷ paths) = place_of_row path row ∷ placed rows paths

abbrev pub places_of_rows : List Row → List Place
places_of_rows rows = placed rows (paths_of (parents_of rows))

abbrev pub kinds_of_rows : List Row → List Kind
kinds_of_rows rows = map (λ row. row.kind) rows

-- a place while rows are built: an element that is open, by the path of the innermost, ends here
abbrev pub seen_at : Path → ℕ → Place → Place
seen_at outer at place = cond (is_within place.path outer) (record place { end = at }) place

-- The rows behind one, by their parents: the number of the first that has a parent, where the list begins with number k.
abbrev pub next_from : ℕ → ℕ → List ℕ → ℕ
next_from p k [] = none
next_from p k (q ∷ parents) = cond (q == p) k (next_from p (suc k) parents)

-- What holds of the rows of a tree.

-- a parent has a smaller number, or there is none
abbrev pub AreBefore : List ℕ → Type 0
AreBefore parents = (k p : ℕ) → slice_get parents k ≡ Some p → (p < k) ⊎ (p ≡ none)

-- the next of a row is the first behind it that has its parent
abbrev pub AreLinked : List Row → Type 0
AreLinked rows = (k : ℕ) (row : Row) → slice_get rows k ≡ Some row → row.next ≡ next_from row.parent (suc k) (drop (suc k) (parents_of rows))

-- the first child of a row stands right behind it
abbrev pub FirstIsNext : List ℕ → Type 0
FirstIsNext parents = (k n : ℕ) → slice_get parents k ≡ Some n → n < length parents → slice_get parents (suc n) ≡ Some n

abbrev pub Each : {X : Type 0} → (X → Type 0) → List X → Type 0
Each P [] = Unit {0}
Each P (x ∷ xs) = P x × Each P xs

abbrev pub Distinct : {X : Type 0} → List X → Type 0
Distinct [] = Unit {0}
Distinct {X} (x ∷ xs) = Each (λ y. y ≡ x → ⊥) xs × Distinct xs

pub record IsTree (rows : List Row) : Type 0 where
  pub few : length rows ≤ 16777216
  pub before : AreBefore (parents_of rows)
  pub distinct : Distinct (paths_of (parents_of rows))
  pub linked : AreLinked rows
  pub first : FirstIsNext (parents_of rows)
