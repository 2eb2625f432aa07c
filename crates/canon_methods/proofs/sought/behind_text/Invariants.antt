use Rattle.std.proofs.Common.{◌≡◌, ℕ, List, ◌++◌, length}
use denote.Text.{Utf8}
use denote.Shadow.{shadow}
use Rattle.std.specs.Str.{chars}
use Rattle.canon_methods.specs.Words.{parts}
use Rattle.canon_methods.specs.Sought.{holds}
use Rattle.canon_methods.proofs.sought.behind_text.Given as goal

-- what is known at the place, and what is left of the text, tell the same as at the beginning
abbrev pub invariant-characters : goal.invariant-characters
invariant-characters l =
    shadow (Utf8 l.rest)
    × ((cs : List ℕ) → holds (parts l.by_commas) (chars l.word) l.now (chars l.rest ++ cs) ≡ holds (parts l.by_commas) (chars l.word) l.fn.sought (chars l.text ++ cs))

abbrev pub decreases-characters : goal.decreases-characters
decreases-characters l = length l.rest
