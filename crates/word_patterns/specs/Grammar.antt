-- Grammars of command lines: the words of a command are a pattern of parts, of which some may be absent or stand several times.
use Rattle.std.specs.Prelude.{◌≡◌, ◌⊎◌, ℕ, ◌+◌, ◌-◌, ◌≤◌, List, [], ◌∷◌, ◌++◌, length, take, drop, Bool, true, false, ◌&&◌, ◌==◌, nat_lt, nat_eq, Option, None, Some, if◌then◌else◌}
use Rattle.std.specs.Borrow.{Bor}
use Rattle.std.specs.List.{starts_with}
use Rattle.std.specs.Str.{bytes_eq}

-- a form of words: one text, or a key with some text behind it
pub data WordForm : Type 0 where
  Plain : (text : List ℕ) → WordForm
  Keyed : (key : List ℕ) (is_text : List ℕ → Bool) → WordForm

abbrev pub is_of_form : WordForm → List ℕ → Bool
is_of_form (Plain text) word = bytes_eq word text
is_of_form (Keyed key is_text) word = starts_with nat_eq word key && is_text (drop (length key) word)

-- whether a word is of one of the forms
abbrev pub is_of_one : List WordForm → List ℕ → Bool
is_of_one [] word = false
is_of_one (form ∷ forms) word = if is_of_form form word then true else is_of_one forms word

-- a part of a pattern: words of some forms, one after another, at least and at most so many
pub record Part : Type 0 where
  pub forms : List WordForm
  pub least : ℕ
  pub most : ℕ

-- one word of a form
abbrev pub once : WordForm → Part
once form = record { forms = form ∷ []; least = 1; most = 1 }

abbrev pub AreOfOne : List WordForm → List (List ℕ) → Type 0
AreOfOne forms [] = Unit {0}
AreOfOne forms (word ∷ words) = (is_of_one forms word ≡ true) × AreOfOne forms words

-- the words of a part
pub record IsPart (part : Part) (words : List (List ℕ)) : Type 0 where
  pub enough : part.least ≤ length words
  pub few : length words ≤ part.most
  pub each : AreOfOne part.forms words

-- words of a part, and behind them others
pub record Splits (part : Part) (AreOthers : List (List ℕ) → Type 0) (words : List (List ℕ)) : Type 0 where
  pub own : List (List ℕ)
  pub others : List (List ℕ)
  pub whole : words ≡ own ++ others
  pub is_part : IsPart part own
  pub are_others : AreOthers others

-- the words are those of the parts of a pattern, one part after another
abbrev pub Fits : List Part → List (List ℕ) → Type 0
Fits [] words = words ≡ []
Fits (part ∷ parts) words = Splits part (Fits parts) words

-- the words fit one of the patterns
abbrev pub FitsOne : List (List Part) → List (List ℕ) → Type 0
FitsOne [] words = ⊥
FitsOne (pattern ∷ patterns) words = Fits pattern words ⊎ FitsOne patterns words

-- words that fit one of the patterns begin with these
pub record Begins (patterns : List (List Part)) (words : List (List ℕ)) : Type 0 where
  pub more : List (List ℕ)
  pub fits : FitsOne patterns (words ++ more)

-- The faulty word, by its number from 1: words that fit begin with all words before it, and none that fit begin with it as well. Where words
-- that fit begin with all the words, and the words themselves don't fit, it is the one that is missing behind them.
pub record IsFaultyWord (patterns : List (List Part)) (words : List (List ℕ)) (number : ℕ) : Type 0 where
  pub counted : 1 ≤ number
  pub begun : Begins patterns (take (number - 1) words)
  pub faulty : ((number ≤ length words) × (Begins patterns (take number words) → ⊥)) ⊎ ((number ≡ length words + 1) × (FitsOne patterns words → ⊥))

-- the text behind a key, in the first word that begins with it
abbrev pub text_behind : List ℕ → List (List ℕ) → List ℕ
text_behind key [] = []
text_behind key (word ∷ words) = if starts_with nat_eq word key then drop (length key) word else text_behind key words

-- and the texts behind a key, in each word that begins with it
abbrev pub texts_behind : List ℕ → List (List ℕ) → List (List ℕ)
texts_behind key [] = []
texts_behind key (word ∷ words) =
    if starts_with nat_eq word key then drop (length key) word ∷ texts_behind key words else texts_behind key words

-- a text that is lent
abbrev pub text_now : Bor (List ℕ) → List ℕ
text_now text = text.now

-- The faulty word, found word by word: each leaves of a pattern what may stand behind it.

-- a part, once one of its words is taken away
abbrev pub lowered : Part → Part
lowered part = record { forms = part.forms; least = part.least - 1; most = part.most - 1 }

abbrev pub only_if : {A : Type 0} → Bool → List A → List A
only_if true xs = xs
only_if false xs = []

-- what may stand behind a word that begins a pattern, in each way in which it may begin it
abbrev pub behind : List ℕ → List Part → List (List Part)
behind word [] = []
behind word (part ∷ parts) =
    only_if (nat_lt 0 part.most && is_of_one part.forms word) ((lowered part ∷ parts) ∷ [])
    ++ only_if (part.least == 0) (behind word parts)

abbrev pub behind_one : List ℕ → List (List Part) → List (List Part)
behind_one word [] = []
behind_one word (pattern ∷ patterns) = behind word pattern ++ behind_one word patterns

-- whether no word need follow
abbrev pub may_end : List Part → Bool
may_end [] = true
may_end (part ∷ parts) = (part.least == 0) && may_end parts

abbrev pub one_may_end : List (List Part) → Bool
one_may_end [] = false
one_may_end (pattern ∷ patterns) = if may_end pattern then true else one_may_end patterns

-- whether there is none
abbrev pub is_none : {A : Type 0} → List A → Bool
is_none [] = true
is_none (x ∷ xs) = false

-- the faulty word, if there is one, of words that are numbered from here on
abbrev pub faulty_from : ℕ → List (List Part) → List (List ℕ) → Option ℕ
faulty_from number patterns [] = if one_may_end patterns then None else Some number
faulty_from number patterns (word ∷ words) =
    if is_none (behind_one word patterns) then Some number else faulty_from (number + 1) (behind_one word patterns) words
