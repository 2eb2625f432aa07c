-- Prefixes that commas join, from the first on.
use Rattle.std.proofs.Common.{◌≡◌, ℕ, Bool, true, false, not, ◌==◌, List, [], ◌∷◌, length, refl, sym, ◌∙◌, ap}
use Rattle.std.specs.List.{list_all}
use Rattle.std.specs.Str.{chars}
use Rattle.std.proofs.lemmas.Str.{chars-nil}
use Rattle.document_model.specs.Characters.{span}
use Rattle.document_model.specs.Methods.{cut_at, first_longer}
use Rattle.word_patterns.specs.TextForms.{is_comma, is_prefix_word, are_prefixes}

abbrev pub is_no_comma : ℕ → Bool
is_no_comma c = not (c == 0x2C)

-- the piece in front, and those behind the comma
abbrev pieces_by : List ℕ × List ℕ → List (List ℕ)
pieces_by (front, []) = front ∷ []
pieces_by (front, c ∷ behind) = front ∷ cut_at is_comma behind

longer_first : (c : ℕ) (parts : List ℕ × List ℕ) → first_longer c (pieces_by parts) ≡ pieces_by (c ∷ parts.0, parts.1)
longer_first c (front, []) = refl
longer_first c (front, d ∷ behind) = refl

pieces_here : (c : ℕ) (cs : List ℕ) (t : Bool) → (c == 0x2C) ≡ t → cut_at is_comma cs ≡ pieces_by (span is_no_comma cs) → cut_at is_comma (c ∷ cs) ≡ pieces_by (span is_no_comma (c ∷ cs))
pieces_here c cs true e later = rw e refl
pieces_here c cs false e later = rw e (ap (first_longer c) later ∙ longer_first c (span is_no_comma cs))

pieces_are : (cs : List ℕ) → cut_at is_comma cs ≡ pieces_by (span is_no_comma cs)
pieces_are [] = refl
pieces_are (c ∷ cs) = pieces_here c cs (c == 0x2C) refl (pieces_are cs)

pieces_at : (cs front behind : List ℕ) → span is_no_comma cs ≡ (front, behind) → cut_at is_comma cs ≡ pieces_by (front, behind)
pieces_at cs front behind e = pieces_are cs ∙ ap pieces_by e

all_at : (cs front behind : List ℕ) → span is_no_comma cs ≡ (front, behind) → list_all is_prefix_word (cut_at is_comma cs) ≡ list_all is_prefix_word (pieces_by (front, behind))
all_at cs front behind e = ap (list_all is_prefix_word) (pieces_at cs front behind e)

stray_in : (front behind : List ℕ) → is_prefix_word front ≡ false → list_all is_prefix_word (pieces_by (front, behind)) ≡ false
stray_in front [] e = rw e refl
stray_in front (c ∷ behind) e = rw e refl

-- the first piece is no prefix
pub stray : (text front behind : List ℕ) → span is_no_comma (chars text) ≡ (front, behind) → is_prefix_word front ≡ false → false ≡ are_prefixes text
stray text front behind e none = sym (all_at (chars text) front behind e ∙ stray_in front behind none)

-- it is one, and the last
pub last_one : (text front behind : List ℕ) → span is_no_comma (chars text) ≡ (front, chars behind) → is_prefix_word front ≡ true → length behind ≡ 0 → true ≡ are_prefixes text
last_one text front [] e one none = sym (all_at (chars text) front (chars []) e ∙ (rw (chars-nil, one) refl))
last_one text front (b ∷ behind) e one none = cc

-- it is one, and others follow
pub goes_on : (text front behind further : List ℕ) (c : ℕ) → span is_no_comma (chars text) ≡ (front, behind) → is_prefix_word front ≡ true → behind ≡ c ∷ chars further → are_prefixes text ≡ are_prefixes further
goes_on text front behind further c e one more = all_at (chars text) front behind e ∙ (rw (more, one) refl)
