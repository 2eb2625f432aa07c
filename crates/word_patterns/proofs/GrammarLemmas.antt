-- The faulty word of a grammar: the search word by word finds it.
use Rattle.std.proofs.Common.{◌≡◌, ◌⊎◌, inl, inr, ℕ, zero, suc, ◌+◌, ◌-◌, ◌≤◌, ◌<◌, List, [], ◌∷◌, ◌++◌, length, take, drop, Bool, true, false, ◌&&◌, ◌==◌, nat_lt, refl, sym, ap, subst, arith, if◌then◌else◌}
use Rattle.std.specs.Prelude.{Option, Some, None}
use Rattle.std.proofs.lemmas.Bool.{ltb-true, lt-ltb, eqb-true}
use Rattle.std.proofs.lemmas.List.{take-append-drop}
use Rattle.word_patterns.specs.Good.{IsGood, AreGood, AllGood}
use Rattle.word_patterns.specs.Grammar.{WordForm, is_of_one, Part, AreOfOne, IsPart, Fits, FitsOne, Begins, lowered, only_if, behind, behind_one, may_end, one_may_end, is_none, faulty_from, IsFaultyWord}

pub and_left : (a b : Bool) → (a && b) ≡ true → a ≡ true
and_left true b e = refl
and_left false b e = e

pub and_right : (a b : Bool) → (a && b) ≡ true → b ≡ true
and_right true b e = e
and_right false b e = cc

-- Patterns in a row.

fits_left : (some others : List (List Part)) (words : List (List ℕ)) → FitsOne some words → FitsOne (some ++ others) words
fits_left [] others words fits = absurd fits
fits_left (pattern ∷ some) others words (inl fits) = inl fits
fits_left (pattern ∷ some) others words (inr later) = inr (fits_left some others words later)

fits_right : (some others : List (List Part)) (words : List (List ℕ)) → FitsOne others words → FitsOne (some ++ others) words
fits_right [] others words fits = fits
fits_right (pattern ∷ some) others words fits = inr (fits_right some others words fits)

fits_either : (some others : List (List Part)) (words : List (List ℕ)) → FitsOne (some ++ others) words → FitsOne some words ⊎ FitsOne others words
fits_either [] others words fits = inr fits
fits_either (pattern ∷ some) others words (inl fits) = inl (inl fits)
fits_either (pattern ∷ some) others words (inr later) = elim (fits_either some others words later) [ inl left ↦ inl (inr left) | inr right ↦ inr right ]

only_in : (c : Bool) (patterns : List (List Part)) (words : List (List ℕ)) → FitsOne (only_if c patterns) words → (c ≡ true) × FitsOne patterns words
only_in true patterns words fits = (refl, fits)
only_in false patterns words fits = absurd fits

only_of : (c : Bool) (patterns : List (List Part)) (words : List (List ℕ)) → c ≡ true → FitsOne patterns words → FitsOne (only_if c patterns) words
only_of true patterns words e fits = fits
only_of false patterns words e fits = cc

nothing_fits : (patterns : List (List Part)) (words : List (List ℕ)) → is_none patterns ≡ true → FitsOne patterns words → ⊥
nothing_fits [] words none fits = fits
nothing_fits (pattern ∷ patterns) words none fits = cc

-- A word in front.

taken : (part : Part) (parts : List Part) (word : List ℕ) (words : List (List ℕ)) → (nat_lt 0 part.most && is_of_one part.forms word) ≡ true → Fits (lowered part ∷ parts) words → Fits (part ∷ parts) (word ∷ words)
taken part parts word words e fits =
    let some : 0 < part.most = ltb-true 0 part.most (and_left (nat_lt 0 part.most) (is_of_one part.forms word) e) in
    let enough : part.least - 1 ≤ length fits.own = fits.is_part.enough in
    let few : length fits.own ≤ part.most - 1 = fits.is_part.few in record {
      own = word ∷ fits.own;
      others = fits.others;
      whole = ap (λ ws. word ∷ ws) fits.whole;
      is_part = record {
        enough = omega arith;
        few = omega arith;
        each = (and_right (nat_lt 0 part.most) (is_of_one part.forms word) e, fits.is_part.each);
      };
      are_others = fits.are_others;
    }

zero_by : (n : ℕ) → (n == 0) ≡ true → n ≡ 0
zero_by n e = eqb-true n 0 e

skipped : (part : Part) (parts : List Part) (words : List (List ℕ)) → (part.least == 0) ≡ true → Fits parts words → Fits (part ∷ parts) words
skipped part parts words e fits = let least : part.least ≡ 0 = zero_by part.least e in record {
  own = [];
  others = words;
  whole = refl;
  is_part = record {
    enough = omega arith;
    few = omega arith;
    each = tt;
  };
  are_others = fits;
}

behind_fits : (word : List ℕ) (parts : List Part) (words : List (List ℕ)) → FitsOne (behind word parts) words → Fits parts (word ∷ words)
behind_fits word [] words fits = absurd fits
behind_fits word (part ∷ parts) words fits =
    elim (fits_either (only_if (nat_lt 0 part.most && is_of_one part.forms word) ((lowered part ∷ parts) ∷ [])) (only_if (part.least == 0) (behind word parts)) words fits) [
      | inl now ↦ let kept = only_in (nat_lt 0 part.most && is_of_one part.forms word) ((lowered part ∷ parts) ∷ []) words now in
          elim (kept.1) [ inl first ↦ taken part parts word words kept.0 first | inr none ↦ absurd none ]
      | inr later ↦ let kept = only_in (part.least == 0) (behind word parts) words later in
          skipped part parts (word ∷ words) kept.0 (behind_fits word parts words kept.1)
    ]

behind_one_fits : (word : List ℕ) (patterns : List (List Part)) (words : List (List ℕ)) → FitsOne (behind_one word patterns) words → FitsOne patterns (word ∷ words)
behind_one_fits word [] words fits = fits
behind_one_fits word (pattern ∷ patterns) words fits = elim (fits_either (behind word pattern) (behind_one word patterns) words fits) [
  | inl first ↦ inl (behind_fits word pattern words first)
  | inr later ↦ inr (behind_one_fits word patterns words later)
]

by_own : (part : Part) (parts : List Part) (word : List ℕ) (words own others : List (List ℕ)) → (word ∷ words ≡ own ++ others) → IsPart part own → Fits parts others → (Fits parts (word ∷ words) → FitsOne (behind word parts) words) → FitsOne (behind word (part ∷ parts)) words
by_own part parts word words [] others whole is_part fits later =
    let enough : part.least ≤ 0 = is_part.enough in
    let least : part.least ≡ 0 = omega arith in
    fits_right (only_if (nat_lt 0 part.most && is_of_one part.forms word) ((lowered part ∷ parts) ∷ [])) (only_if (part.least == 0) (behind word parts)) words
    (only_of (part.least == 0) (behind word parts) words (rw least refl) (later (subst (Fits parts) (sym whole) fits)))
by_own part parts word words (first ∷ own) others whole is_part fits later =
    let same : word ≡ first = cc in
    let rest : words ≡ own ++ others = cc in
    let enough : part.least ≤ suc (length own) = is_part.enough in
    let few : suc (length own) ≤ part.most = is_part.few in
    let some : nat_lt 0 part.most ≡ true = lt-ltb 0 part.most (omega arith) in
    let form : is_of_one part.forms word ≡ true = rw same is_part.each.0 in
    fits_left (only_if (nat_lt 0 part.most && is_of_one part.forms word) ((lowered part ∷ parts) ∷ [])) (only_if (part.least == 0) (behind word parts)) words
    (only_of (nat_lt 0 part.most && is_of_one part.forms word) ((lowered part ∷ parts) ∷ []) words (rw (some, form) refl) (inl (record {
      own = own;
      others = others;
      whole = rest;
      is_part = record {
        enough = omega arith;
        few = omega arith;
        each = is_part.each.1;
      };
      are_others = fits;
    })))

fits_behind : (word : List ℕ) (parts : List Part) (words : List (List ℕ)) → Fits parts (word ∷ words) → FitsOne (behind word parts) words
fits_behind word [] words fits = cc
fits_behind word (part ∷ parts) words fits = by_own part parts word words fits.own fits.others fits.whole fits.is_part fits.are_others (fits_behind word parts words)

fits_behind_one : (word : List ℕ) (patterns : List (List Part)) (words : List (List ℕ)) → FitsOne patterns (word ∷ words) → FitsOne (behind_one word patterns) words
fits_behind_one word [] words fits = fits
fits_behind_one word (pattern ∷ patterns) words (inl fits) = fits_left (behind word pattern) (behind_one word patterns) words (fits_behind word pattern words fits)
fits_behind_one word (pattern ∷ patterns) words (inr later) = fits_right (behind word pattern) (behind_one word patterns) words (fits_behind_one word patterns words later)

-- No word more.

may_end_fits : (parts : List Part) → may_end parts ≡ true → Fits parts []
may_end_fits [] e = refl
may_end_fits (part ∷ parts) e = skipped part parts [] (and_left (part.least == 0) (may_end parts) e) (may_end_fits parts (and_right (part.least == 0) (may_end parts) e))

end_by_own : (part : Part) (parts : List Part) (own others : List (List ℕ)) → [] ≡ own ++ others → IsPart part own → Fits parts others → (Fits parts [] → may_end parts ≡ true) → may_end (part ∷ parts) ≡ true
end_by_own part parts [] others whole is_part fits later =
    let enough : part.least ≤ 0 = is_part.enough in
    let least : part.least ≡ 0 = omega arith in
    rw (least, later (subst (Fits parts) (sym whole) fits)) refl
end_by_own part parts (first ∷ own) others whole is_part fits later = cc

fits_may_end : (parts : List Part) → Fits parts [] → may_end parts ≡ true
fits_may_end [] fits = refl
fits_may_end (part ∷ parts) fits = end_by_own part parts fits.own fits.others fits.whole fits.is_part fits.are_others (fits_may_end parts)

if_true : (b x : Bool) → x ≡ true → (if b then true else x) ≡ true
if_true true x e = refl
if_true false x e = e

if_either : (b x : Bool) → (if b then true else x) ≡ true → (b ≡ true) ⊎ (x ≡ true)
if_either true x e = inl refl
if_either false x e = inr e

one_may_end_fits : (patterns : List (List Part)) → one_may_end patterns ≡ true → FitsOne patterns []
one_may_end_fits [] e = cc
one_may_end_fits (pattern ∷ patterns) e = elim (if_either (may_end pattern) (one_may_end patterns) e) [
  | inl first ↦ inl (may_end_fits pattern first)
  | inr later ↦ inr (one_may_end_fits patterns later)
]

fits_one_may_end : (patterns : List (List Part)) → FitsOne patterns [] → one_may_end patterns ≡ true
fits_one_may_end [] fits = absurd fits
fits_one_may_end (pattern ∷ patterns) (inl fits) = rw (fits_may_end pattern fits) refl
fits_one_may_end (pattern ∷ patterns) (inr later) = if_true (may_end pattern) (one_may_end patterns) (fits_one_may_end patterns later)

-- Patterns that words can fit.

good_append : (some others : List (List Part)) → AllGood some → AllGood others → AllGood (some ++ others)
good_append [] others good more = more
good_append (pattern ∷ some) others good more = (good.0, good_append some others good.1 more)

good_only : (c : Bool) (patterns : List (List Part)) → AllGood patterns → AllGood (only_if c patterns)
good_only true patterns good = good
good_only false patterns good = tt

good_lowered : (part : Part) → IsGood part → IsGood (lowered part)
good_lowered part good = let ordered : part.least ≤ part.most = good.ordered in record { example = good.example; is_example = good.is_example; ordered = omega arith }

good_behind : (word : List ℕ) (parts : List Part) → AreGood parts → AllGood (behind word parts)
good_behind word [] good = tt
good_behind word (part ∷ parts) good =
    good_append (only_if (nat_lt 0 part.most && is_of_one part.forms word) ((lowered part ∷ parts) ∷ [])) (only_if (part.least == 0) (behind word parts))
    (good_only (nat_lt 0 part.most && is_of_one part.forms word) ((lowered part ∷ parts) ∷ []) ((good_lowered part good.0, good.1), tt))
    (good_only (part.least == 0) (behind word parts) (good_behind word parts good.1))

good_behind_one : (word : List ℕ) (patterns : List (List Part)) → AllGood patterns → AllGood (behind_one word patterns)
good_behind_one word [] good = tt
good_behind_one word (pattern ∷ patterns) good = good_append (behind word pattern) (behind_one word patterns) (good_behind word pattern good.0) (good_behind_one word patterns good.1)

copies : ℕ → List ℕ → List (List ℕ)
copies zero word = []
copies (suc n) word = word ∷ copies n word

length-copies : (n : ℕ) (word : List ℕ) → length (copies n word) ≡ n
unfolding copies
length-copies zero word = refl
length-copies (suc n) word = let rest = length-copies n word in ap suc rest

copies_are : (forms : List WordForm) (n : ℕ) (word : List ℕ) → is_of_one forms word ≡ true → AreOfOne forms (copies n word)
unfolding copies
copies_are forms zero word e = tt
copies_are forms (suc n) word e = (e, copies_are forms n word e)

pub record SomeFit (parts : List Part) : Type 0 where
  pub words : List (List ℕ)
  pub fits : Fits parts words

some_fit : (parts : List Part) → AreGood parts → SomeFit parts
some_fit [] good = record { words = []; fits = refl }
some_fit (part ∷ parts) good =
    let rest = some_fit parts good.1 in
    let size = length-copies part.least good.0.example in
    let ordered : part.least ≤ part.most = good.0.ordered in record {
      words = copies part.least good.0.example ++ rest.words;
      fits = record {
        own = copies part.least good.0.example;
        others = rest.words;
        whole = refl;
        is_part = record {
          enough = omega (arith, size);
          few = omega (arith, size);
          each = copies_are part.forms part.least good.0.example good.0.is_example;
        };
        are_others = rest.fits;
      };
    }

begins_with_none : (patterns : List (List Part)) → is_none patterns ≡ false → AllGood patterns → Begins patterns []
begins_with_none [] some good = cc
begins_with_none (pattern ∷ patterns) some good = let fit = some_fit pattern good.0 in record { more = fit.words; fits = inl fit.fits }

-- The search.

found_end : (b : Bool) (number : ℕ) → (if b then None else Some number) ≡ None → b ≡ true
found_end true number e = refl
found_end false number e = cc

missing_end : (b : Bool) (number at : ℕ) → (if b then None else Some number) ≡ Some at → (at ≡ number) × (b ≡ false)
missing_end true number at e = cc
missing_end false number at e = let same : number ≡ at = cc in (sym same, refl)

went_on : (b : Bool) (number : ℕ) (later : Option ℕ) → (if b then Some number else later) ≡ None → later ≡ None
went_on true number later e = cc
went_on false number later e = e

pub fitting_words : (number : ℕ) (patterns : List (List Part)) (words : List (List ℕ)) → faulty_from number patterns words ≡ None → FitsOne patterns words
fitting_words number patterns [] e = one_may_end_fits patterns (found_end (one_may_end patterns) number e)
fitting_words number patterns (word ∷ words) e =
    behind_one_fits word patterns words (fitting_words (number + 1) (behind_one word patterns) words
    (went_on (is_none (behind_one word patterns)) number (faulty_from (number + 1) (behind_one word patterns) words) e))

-- the faulty word of words that are numbered from `number` on
record IsFaultyFrom (number : ℕ) (patterns : List (List Part)) (words : List (List ℕ)) (at : ℕ) : Type 0 where
  before : ℕ
  counted : at ≡ number + before
  begun : Begins patterns (take before words)
  faulty : ((suc before ≤ length words) × (Begins patterns (take (suc before) words) → ⊥)) ⊎ ((before ≡ length words) × (FitsOne patterns words → ⊥))

ends_early : (number at : ℕ) (patterns : List (List Part)) → (at ≡ number) × (one_may_end patterns ≡ false) → Begins patterns [] → IsFaultyFrom number patterns [] at
ends_early number at patterns e begun = record {
  before = 0;
  counted = omega (arith, e.0);
  begun = begun;
  faulty = inr (refl, λ fits. let ends : one_may_end patterns ≡ true = fits_one_may_end patterns fits in let no : one_may_end patterns ≡ false = e.1 in cc);
}

stray : (number at : ℕ) (patterns : List (List Part)) (word : List ℕ) (words : List (List ℕ)) → at ≡ number → is_none (behind_one word patterns) ≡ true → Begins patterns [] → IsFaultyFrom number patterns (word ∷ words) at
stray number at patterns word words e none begun = record {
  before = 0;
  counted = omega (arith, e);
  begun = begun;
  faulty = inl (omega arith, λ begins. nothing_fits (behind_one word patterns) begins.more none (fits_behind_one word patterns begins.more begins.fits));
}

goes_on : (number at : ℕ) (patterns : List (List Part)) (word : List ℕ) (words : List (List ℕ)) → IsFaultyFrom (number + 1) (behind_one word patterns) words at → IsFaultyFrom number patterns (word ∷ words) at
goes_on number at patterns word words found = let counted : at ≡ number + 1 + found.before = found.counted in record {
  before = suc found.before;
  counted = omega arith;
  begun = record { more = found.begun.more; fits = behind_one_fits word patterns (take found.before words ++ found.begun.more) found.begun.fits };
  faulty = elim (found.faulty) [
    | inl stray ↦ let within : suc found.before ≤ length words = stray.0 in
        inl (omega arith, λ begins. stray.1 (record { more = begins.more; fits = fits_behind_one word patterns (take (suc found.before) words ++ begins.more) begins.fits }))
    | inr early ↦ inr (ap suc early.0, λ fits. early.1 (fits_behind_one word patterns words fits))
  ];
}

stops_or_goes_on : (b : Bool) (number at : ℕ) (patterns : List (List Part)) (word : List ℕ) (words : List (List ℕ)) (later : Option ℕ) → is_none (behind_one word patterns) ≡ b → (if b then Some number else later) ≡ Some at → Begins patterns [] → (is_none (behind_one word patterns) ≡ false → later ≡ Some at → IsFaultyFrom (number + 1) (behind_one word patterns) words at) → IsFaultyFrom number patterns (word ∷ words) at
stops_or_goes_on true number at patterns word words later none e begun go = let same : number ≡ at = cc in stray number at patterns word words (sym same) none begun
stops_or_goes_on false number at patterns word words later none e begun go = goes_on number at patterns word words (go none e)

faulty_found : (number : ℕ) (patterns : List (List Part)) (words : List (List ℕ)) (at : ℕ) → is_none patterns ≡ false → AllGood patterns → faulty_from number patterns words ≡ Some at → IsFaultyFrom number patterns words at
faulty_found number patterns [] at some good e = ends_early number at patterns (missing_end (one_may_end patterns) number at e) (begins_with_none patterns some good)
faulty_found number patterns (word ∷ words) at some good e =
    stops_or_goes_on (is_none (behind_one word patterns)) number at patterns word words (faulty_from (number + 1) (behind_one word patterns) words) refl e (begins_with_none patterns some good)
    (λ more later. faulty_found (number + 1) (behind_one word patterns) words at more (good_behind_one word patterns good) later)

numbered : (patterns : List (List Part)) (words : List (List ℕ)) (at : ℕ) → (found : IsFaultyFrom 1 patterns words at) → IsFaultyWord patterns words (suc found.before)
numbered patterns words at found = record {
  counted = omega arith;
  begun = let before : suc found.before - 1 ≡ found.before = omega arith in rw before found.begun;
  faulty = elim (found.faulty) [ inl stray ↦ inl stray | inr early ↦ let size : found.before ≡ length words = early.0 in inr (omega arith, early.1) ];
}

-- the search from the first word on finds the faulty word
pub faulty_word : (patterns : List (List Part)) (words : List (List ℕ)) (at : ℕ) → is_none patterns ≡ false → AllGood patterns → faulty_from 1 patterns words ≡ Some at → IsFaultyWord patterns words at
faulty_word patterns words at some good e =
    let found = faulty_found 1 patterns words at some good e in
    let counted : at ≡ 1 + found.before = found.counted in
    let same : suc found.before ≡ at = omega arith in
    subst (IsFaultyWord patterns words) same (numbered patterns words at found)

-- words with a faulty word don't fit
pub faulty_don't_fit : (patterns : List (List Part)) (words : List (List ℕ)) (number : ℕ) → IsFaultyWord patterns words number → FitsOne patterns words → ⊥
faulty_don't_fit patterns words number found fits = elim (found.faulty) [
  | inl stray ↦ stray.1 (record { more = drop number words; fits = rw (take-append-drop number words) fits })
  | inr early ↦ early.1 fits
]
