-- The search, word by word.
use Rattle.std.proofs.Common.{◌≡◌, ℕ, ◌+◌, ◌<◌, ◌^◌, List, [], ◌∷◌, ◌++◌, map, length, drop, get_or, Bool, true, false, ◌&&◌, ◌==◌, nat_lt, refl, sym, ◌∙◌, ap, subst, arith}
use Rattle.std.specs.Prelude.{Option, Some, None, Result, Ok, Err, IfOk, MatchOption}
use Rattle.std.proofs.lemmas.Bool.{ltb-true}
use Rattle.std.proofs.lemmas.List.{drop_more}
use Rattle.word_patterns.specs.Grammar.{Part, FitsOne, IsFaultyWord, lowered, only_if, behind, behind_one, is_none, is_of_one, faulty_from}
use Rattle.word_patterns.specs.Good.{AllGood, AreFew, room}
use Rattle.word_patterns.proofs.GrammarLemmas.{fitting_words, faulty_word, and_left}

-- No pattern takes too many words.

few_append : (number : ℕ) (some others : List (List Part)) → AreFew number some → AreFew number others → AreFew number (some ++ others)
few_append number [] others few more = more
few_append number (pattern ∷ some) others few more = (few.0, few_append number some others few.1 more)

few_only : (c : Bool) (number : ℕ) (patterns : List (List Part)) → (c ≡ true → AreFew number patterns) → AreFew number (only_if c patterns)
few_only true number patterns few = few refl
few_only false number patterns few = tt

few_taken : (number : ℕ) (part : Part) (parts : List Part) (of_form : Bool) → number + room (part ∷ parts) < 2 ^ 32 → (nat_lt 0 part.most && of_form) ≡ true → AreFew (number + 1) ((lowered part ∷ parts) ∷ [])
few_taken number part parts of_form few e =
    let some : 0 < part.most = ltb-true 0 part.most (and_left (nat_lt 0 part.most) of_form e) in
    (omega arith, tt)

few_behind : (number : ℕ) (word : List ℕ) (parts : List Part) → number + room parts < 2 ^ 32 → AreFew (number + 1) (behind word parts)
few_behind number word [] few = tt
few_behind number word (part ∷ parts) few =
    let fewer : number + room parts < 2 ^ 32 = omega arith in
    few_append (number + 1) (only_if (nat_lt 0 part.most && is_of_one part.forms word) ((lowered part ∷ parts) ∷ [])) (only_if (part.least == 0) (behind word parts))
    (few_only (nat_lt 0 part.most && is_of_one part.forms word) (number + 1) ((lowered part ∷ parts) ∷ []) (few_taken number part parts (is_of_one part.forms word) few))
    (few_only (part.least == 0) (number + 1) (behind word parts) (λ e. few_behind number word parts fewer))

pub few_behind_one : (number : ℕ) (word : List ℕ) (patterns : List (List Part)) → AreFew number patterns → AreFew (number + 1) (behind_one word patterns)
few_behind_one number word [] few = tt
few_behind_one number word (pattern ∷ patterns) few = few_append (number + 1) (behind word pattern) (behind_one word patterns) (few_behind number word pattern few.0) (few_behind_one number word patterns few.1)

some_fits : (number : ℕ) (patterns : List (List Part)) → AreFew number patterns → is_none patterns ≡ false → number < 2 ^ 32
some_fits number [] few some = cc
some_fits number (pattern ∷ patterns) few some = let first : number + room pattern < 2 ^ 32 = few.0 in omega arith

-- the number of the next word fits
pub next_fits : (number : ℕ) (word : List ℕ) (patterns next : List (List Part)) → AreFew number patterns → next ≡ behind_one word patterns → is_none next ≡ false → number + 1 < 2 ^ 32
next_fits number word patterns next few e some = some_fits (number + 1) next (subst (AreFew (number + 1)) (sym e) (few_behind_one number word patterns few)) some

goes_on_by : (number : ℕ) (word : List ℕ) (words : List (List ℕ)) (patterns : List (List Part)) (b : Bool) → is_none (behind_one word patterns) ≡ b → b ≡ false → faulty_from number patterns (word ∷ words) ≡ faulty_from (number + 1) (behind_one word patterns) words
goes_on_by number word words patterns true e some = cc
goes_on_by number word words patterns false e some = rw e refl

stops_by : (number : ℕ) (word : List ℕ) (words : List (List ℕ)) (patterns : List (List Part)) → is_none (behind_one word patterns) ≡ true → faulty_from number patterns (word ∷ words) ≡ Some number
stops_by number word words patterns e = rw e refl

first_word : {A : Type 0} (text : A → List ℕ) (words : List A) (i : ℕ) (d : A) (word : List ℕ) → i < length words → text (get_or words i d) ≡ word → map text (drop i words) ≡ word ∷ map text (drop (i + 1) words)
first_word text words i d word lt is = ap (map text) (drop_more words i d lt) ∙ ap (λ w. w ∷ map text (drop (i + 1) words)) is

-- a step of the loop over the words
pub steps : {A : Type 0} (text : A → List ℕ) (words : List A) (i : ℕ) (d : A) (word : List ℕ) (number : ℕ) (whole : Option ℕ) (patterns next : List (List Part)) → i < length words → text (get_or words i d) ≡ word → next ≡ behind_one word patterns → is_none next ≡ false
    → (whole ≡ faulty_from number patterns (map text (drop i words))) × AreFew number patterns
    → (whole ≡ faulty_from (number + 1) next (map text (drop (i + 1) words))) × AreFew (number + 1) next
steps text words i d word number whole patterns next lt is e some kept =
    let on : faulty_from number patterns (word ∷ map text (drop (i + 1) words)) ≡ faulty_from (number + 1) next (map text (drop (i + 1) words)) =
    goes_on_by number word (map text (drop (i + 1) words)) patterns (is_none next) (ap is_none (sym e)) some ∙ ap (λ ps. faulty_from (number + 1) ps (map text (drop (i + 1) words))) (sym e) in
    (kept.0 ∙ ap (faulty_from number patterns) (first_word text words i d word lt is) ∙ on, subst (AreFew (number + 1)) (sym e) (few_behind_one number word patterns kept.1))

-- the loop stops at a word
pub stops : {A : Type 0} (text : A → List ℕ) (words : List A) (i : ℕ) (d : A) (word : List ℕ) (number : ℕ) (whole : Option ℕ) (patterns next : List (List Part)) → i < length words → text (get_or words i d) ≡ word → next ≡ behind_one word patterns → is_none next ≡ true
    → whole ≡ faulty_from number patterns (map text (drop i words)) → whole ≡ Some number
stops text words i d word number whole patterns next lt is e none kept =
    kept ∙ ap (faulty_from number patterns) (first_word text words i d word lt is) ∙ stops_by number word (map text (drop (i + 1) words)) patterns (ap is_none (sym e) ∙ none)

-- what the search finds
pub found : {E : Type 0} (patterns : List (List Part)) (words : List (List ℕ)) (r : Result (Option ℕ) E) → is_none patterns ≡ false → AllGood patterns → IfOk r (λ number. faulty_from 1 patterns words ≡ number)
    → IfOk r (λ number. MatchOption number (FitsOne patterns words) (λ at. IsFaultyWord patterns words at))
found patterns words (Err e) some good searched = tt
found patterns words (Ok None) some good searched = fitting_words 1 patterns words searched
found patterns words (Ok (Some at)) some good searched = faulty_word patterns words at some good searched
