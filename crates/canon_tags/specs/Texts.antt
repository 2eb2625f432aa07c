-- Texts in the code, by their characters.
use Rattle.std.specs.Prelude.{ℕ, List, map}
use Rattle.std.specs.Borrow.{Bor}
use Rattle.std.specs.Str.{chars}

abbrev pub texts_in : List (Bor (List ℕ)) → List (List ℕ)
texts_in texts = map (λ text. chars text.now) texts
