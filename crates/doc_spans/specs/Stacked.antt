-- Things that were put one after another, seen with the last one first.
use Rattle.std.specs.Prelude.{List, [], ◌∷◌}

abbrev pub stacked : {A B : Type 0} → (A → B) → List B → List A → List B
stacked f below [] = below
stacked f below (x ∷ xs) = stacked f (f x ∷ below) xs
