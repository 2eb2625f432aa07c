-- How rows grow by one item.
use Rattle.std.specs.Prelude.{ℕ, zero, suc, Bool, true, false, cond, ◌==◌, List, [], ◌∷◌, ◌++◌, length}
use Rattle.doc_spans.specs.declared.rows.Row.{Row}
use Rattle.doc_spans.specs.declared.rows.Kind.{Kind}
use Rattle.doc_spans.specs.declared.rows.Shape.{Shape}
use Rattle.doc_spans.specs.declared.rows.Shape.TheVariants.{Nothing, Start, Whole, End, Characters, EmptySection}
use Rattle.doc_spans.specs.declared.rows.Kind.TheVariants.{Element, Text}
use Rattle.doc_spans.specs.declared.building.Builder.{Builder}
use Rattle.doc_spans.specs.View.{none}

-- the rows, the open element, the last child in it, whether a text goes on, and how many bytes were read
pub record State : Type 0 where
  pub rows : List Row
  pub current : ℕ
  pub previous : ℕ
  pub in_text : Bool
  pub at : ℕ

abbrev pub state_of : Builder → State
state_of b = record { rows = b.rows.items; current = b.current; previous = b.previous; in_text = b.in_text; at = b.at }

abbrev pub with_next : ℕ → ℕ → List Row → List Row
with_next k n [] = []
with_next zero n (row ∷ rows) = record row { next = n } ∷ rows
with_next (suc k) n (row ∷ rows) = row ∷ with_next k n rows

abbrev pub with_end : ℕ → ℕ → List Row → List Row
with_end k n [] = []
with_end zero n (row ∷ rows) = record row { end = n } ∷ rows
with_end (suc k) n (row ∷ rows) = row ∷ with_end k n rows

abbrev pub parent_of : ℕ → List Row → ℕ
parent_of k [] = none
parent_of zero (row ∷ rows) = row.parent
parent_of (suc k) (row ∷ rows) = parent_of k rows

-- before the first item
abbrev pub new : State
new = record { rows = []; current = none; previous = none; in_text = false; at = 0 }

-- a node that begins
abbrev pub begun : Kind → ℕ → State → State
begun kind end s = record {
  rows = with_next s.previous (length s.rows) s.rows ++ record { parent = s.current; next = none; start = s.at; first_end = end; end = end; kind = kind } ∷ [];
  current = s.current;
  previous = length s.rows;
  in_text = s.in_text;
  at = end;
}

-- a text that goes on
abbrev pub gone_on : ℕ → State → State
gone_on end s = record s { rows = with_end s.previous end s.rows; at = end }

abbrev pub step : Shape → ℕ → State → State
step Nothing end s = record s { at = end }
step Start end s = let opened = begun Element end s in record opened { current = opened.previous; previous = none; in_text = false }
step (Whole kind) end s = record (begun kind end s) { in_text = false }
step End end s = record {
  rows = with_end s.current end s.rows;
  current = parent_of s.current s.rows;
  previous = s.current;
  in_text = false;
  at = end;
}
step Characters end s =
    cond s.in_text (gone_on end s) (cond (s.current == none) (record s { at = end }) (record (begun Text end s) { in_text = true }))
step EmptySection end s = cond s.in_text (gone_on end s) (record s { at = end })
