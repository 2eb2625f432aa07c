-- Patterns that some words can fit: each part has words of its forms, and its least is at most its most.
use Rattle.std.specs.Prelude.{◌≡◌, ◌≤◌, ◌<◌, ◌+◌, ◌^◌, ℕ, List, [], ◌∷◌, true}
use Rattle.word_patterns.specs.Grammar.{Part, is_of_one}

pub record IsGood (part : Part) : Type 0 where
  pub example : List ℕ
  pub is_example : is_of_one part.forms example ≡ true
  pub ordered : part.least ≤ part.most

abbrev pub AreGood : List Part → Type 0
AreGood [] = Unit {0}
AreGood (part ∷ parts) = IsGood part × AreGood parts

abbrev pub AllGood : List (List Part) → Type 0
AllGood [] = Unit {0}
AllGood (pattern ∷ patterns) = AreGood pattern × AllGood patterns

-- how many words a pattern takes at the most
abbrev pub room : List Part → ℕ
room [] = 0
room (part ∷ parts) = part.most + room parts

-- no pattern takes so many words that their number doesn't fit
abbrev pub AreFew : ℕ → List (List Part) → Type 0
AreFew number [] = Unit {0}
AreFew number (pattern ∷ patterns) = (number + room pattern < 2 ^ 32) × AreFew number patterns
