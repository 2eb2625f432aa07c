-- What a decoder knows of the characters that were pushed into it.
use Rattle.std.specs.Prelude.{◌≡◌, ℕ, Bool, false, not, ◌&&◌, if◌then◌else◌, List, [], ◌∷◌, ◌++◌, refl}
use Rattle.document_model.specs.Characters.{is_white}
use Rattle.base64_texts.specs.declared.stages.Stage.{Stage}
use Rattle.base64_texts.specs.declared.stages.Stage.TheVariants.{Start}
use Rattle.base64_texts.specs.Stages.{after, is_open}

-- the characters in front of the first fault, without white space, how far they have come, and whether memory was wanting for one
pub record Reading : Type 0 where
  pub stage : Stage
  pub front : List ℕ
  pub spent : Bool

abbrev pub nothing_read : Reading
nothing_read = record { stage = Start; front = []; spent = false }

-- behind a character that leads to a stage
abbrev pub moved : Reading → Stage → ℕ → Reading
moved reading next c = record { stage = next; front = if is_open next then reading.front ++ c ∷ [] else reading.front; spent = reading.spent }

-- behind one more character, and behind several
abbrev pub read : Reading → ℕ → Reading
read reading c = if is_white c then reading else moved reading (after reading.stage c) c

abbrev pub read_on : Reading → List ℕ → Reading
read_on reading [] = reading
read_on reading (c ∷ cs) = read_on (read reading c) cs

-- what is known of a whole text
abbrev pub reading : List ℕ → Reading
reading text = read_on nothing_read text

-- several texts are read as one
pub read_on-append : (reading : Reading) (a b : List ℕ) → read_on reading (a ++ b) ≡ read_on (read_on reading a) b
read_on-append reading [] b = refl
read_on-append reading (c ∷ a) b = read_on-append (read reading c) a b

-- whether a fault has been seen
abbrev pub has_fault : Reading → Bool
has_fault reading = not (is_open reading.stage) && not reading.spent
