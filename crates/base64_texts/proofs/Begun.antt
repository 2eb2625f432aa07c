-- A strict text begins with a text exactly where no character is refused.
use Rattle.std.proofs.Common.{◌≡◌, ℕ, suc, ◌+◌, ◌%◌, Bool, true, false, cond, List, [], ◌∷◌, ◌++◌, length, codes, Some, None, nat_eq, refl, sym, ◌∙◌, ap, subst, arith, length-append}
use Rattle.std.proofs.lemmas.Bool.{false≢true}
use Rattle.std.specs.Prelude.{◌&&◌, ◌||◌, ◌==◌, if◌then◌else◌}
use Rattle.std.specs.Option.{option_map_or}
use Rattle.signature_model.specs.Base64.{is_strict, begins_strict, longest, fault_in}
use Rattle.document_model.proofs.Joins.{by_test}
use Rattle.base64_texts.specs.declared.stages.Stage.{Stage}
use Rattle.base64_texts.specs.declared.stages.Stage.TheVariants.{Start, One, Two, Three, Padding, End, Refused}
use Rattle.base64_texts.specs.Symbols.{value_of, is_padding}
use Rattle.base64_texts.specs.Stages.{after, after_symbol, after_other, after_all, is_open, is_whole}
use Rattle.base64_texts.proofs.Whole.{refused_stays, is_strict_whole}

pub after_all-append : (s : Stage) (a b : List ℕ) → after_all s (a ++ b) ≡ after_all (after_all s a) b
after_all-append s [] b = refl
after_all-append s (c ∷ a) b = after_all-append (after s c) a b

pub not_open : {R : Type 0} → (cs : List ℕ) → is_open (after_all Refused cs) ≡ true → R
not_open cs h = absurd (false≢true (ap is_open (sym (refused_stays cs)) ∙ h))

-- The place in a group of four.

abbrev pub over : Stage → ℕ
over Start = 0
over One = 1
over (Two may_end) = 2
over (Three may_end) = 3
over Padding = 3
over End = 0
over Refused = 0

abbrev GoesOn : Stage → Stage → Type 0
GoesOn s t = is_open t ≡ true → over t ≡ (over s + 1) % 4

stops : (s : Stage) → GoesOn s Refused
stops s h = absurd (false≢true h)

symbol_goes : (s : Stage) (v : ℕ) → GoesOn s (after_symbol s v)
symbol_goes Start v = λ h. refl
symbol_goes One v = λ h. refl
symbol_goes (Two may_end) v = λ h. refl
symbol_goes (Three may_end) v = λ h. refl
symbol_goes Padding v = stops Padding
symbol_goes End v = stops End
symbol_goes Refused v = stops Refused

other_goes : (s : Stage) (c : ℕ) → GoesOn s (after_other s c)
other_goes Start c = stops Start
other_goes One c = stops One
other_goes (Two may_end) c = by_test (GoesOn (Two may_end)) (is_padding c && may_end) Padding Refused (λ e h. refl) (λ e. stops (Two may_end))
other_goes (Three may_end) c = by_test (GoesOn (Three may_end)) (is_padding c && may_end) End Refused (λ e h. refl) (λ e. stops (Three may_end))
other_goes Padding c = by_test (GoesOn Padding) (is_padding c) End Refused (λ e h. refl) (λ e. stops Padding)
other_goes End c = stops End
other_goes Refused c = stops Refused

goes : (s : Stage) (c : ℕ) → GoesOn s (after s c)
goes s c = elim (value_of c) as (λ o. GoesOn s (option_map_or (after_symbol s) o (after_other s c))) [ None ↦ other_goes s c | Some v ↦ symbol_goes s v ]

pub open_first : (s : Stage) (cs : List ℕ) → is_open (after_all s cs) ≡ true → is_open s ≡ true
open_first Start cs h = refl
open_first One cs h = refl
open_first (Two may_end) cs h = refl
open_first (Three may_end) cs h = refl
open_first Padding cs h = refl
open_first End cs h = refl
open_first Refused cs h = not_open cs h

pub over_all : (s : Stage) (cs : List ℕ) → is_open (after_all s cs) ≡ true → over (after_all s cs) ≡ (over s + length cs) % 4
over_all Start [] h = refl
over_all One [] h = refl
over_all (Two may_end) [] h = refl
over_all (Three may_end) [] h = refl
over_all Padding [] h = refl
over_all End [] h = refl
over_all Refused [] h = refl
over_all s (c ∷ cs) h =
    let step : over (after s c) ≡ (over s + 1) % 4 = goes s c (open_first (after s c) cs h) in
    let rest : over (after_all (after s c) cs) ≡ (over (after s c) + length cs) % 4 = over_all (after s c) cs h in
    rest ∙ ap (λ n. (n + length cs) % 4) step ∙ omega arith

-- Whether some strict text goes on from a stage, by the length of what was read.

abbrev goes_on : ℕ → Stage → Bool
goes_on n s =
    if n == 0 then is_whole s
    else (if n == 1 then is_whole (after_all s (codes "A=="))
    else (if n == 2 then is_whole (after_all s (codes "AA")) || is_whole (after_all s (codes "=="))
    else is_whole (after_all s (codes "A")) || is_whole (after_all s (codes "="))))

same_way : (b : Bool) (x : Bool) → x ≡ false → cond b false x ≡ false
same_way true x e = refl
same_way false x e = e

refused_ends : (n : ℕ) → goes_on n Refused ≡ false
unfolding value_of
refused_ends n = same_way (nat_eq n 0) _ (same_way (nat_eq n 1) _ (same_way (nat_eq n 2) false refl))

open_goes : (s : Stage) (n : ℕ) → (is_open s ≡ true → over s ≡ n) → goes_on n s ≡ is_open s
unfolding value_of
open_goes Start n h = subst (λ (k : ℕ). goes_on k Start ≡ true) (h refl) refl
open_goes One n h = subst (λ (k : ℕ). goes_on k One ≡ true) (h refl) refl
open_goes (Two may_end) n h = subst (λ (k : ℕ). goes_on k (Two may_end) ≡ true) (h refl) refl
open_goes (Three may_end) n h = subst (λ (k : ℕ). goes_on k (Three may_end) ≡ true) (h refl) refl
open_goes Padding n h = subst (λ (k : ℕ). goes_on k Padding ≡ true) (h refl) refl
open_goes End n h = subst (λ (k : ℕ). goes_on k End ≡ true) (h refl) refl
open_goes Refused n h = refused_ends n

strict_on : (text more : List ℕ) → is_strict (text ++ more) ≡ is_whole (after_all (after_all Start text) more)
strict_on text more = is_strict_whole (text ++ more) ∙ ap is_whole (after_all-append Start text more)

two_ways : (text a b : List ℕ) → (is_strict (text ++ a) || is_strict (text ++ b)) ≡ (is_whole (after_all (after_all Start text) a) || is_whole (after_all (after_all Start text) b))
two_ways text a b = ap (λ x. x || is_strict (text ++ b)) (strict_on text a) ∙ ap (λ x. is_whole (after_all (after_all Start text) a) || x) (strict_on text b)

begins_by_stage : (text : List ℕ) → begins_strict text ≡ goes_on (length text % 4) (after_all Start text)
begins_by_stage text =
    ap (λ b. cond (nat_eq (length text % 4) 0) b (cond (nat_eq (length text % 4) 1) (is_strict (text ++ codes "A=="))
    (cond (nat_eq (length text % 4) 2) (is_strict (text ++ codes "AA") || is_strict (text ++ codes "==")) (is_strict (text ++ codes "A") || is_strict (text ++ codes "="))))) (is_strict_whole text)
    ∙ ap (λ b. cond (nat_eq (length text % 4) 0) (is_whole (after_all Start text)) (cond (nat_eq (length text % 4) 1) b
    (cond (nat_eq (length text % 4) 2) (is_strict (text ++ codes "AA") || is_strict (text ++ codes "==")) (is_strict (text ++ codes "A") || is_strict (text ++ codes "="))))) (strict_on text (codes "A=="))
    ∙ ap (λ b. cond (nat_eq (length text % 4) 0) (is_whole (after_all Start text)) (cond (nat_eq (length text % 4) 1) (is_whole (after_all (after_all Start text) (codes "A==")))
    (cond (nat_eq (length text % 4) 2) b (is_strict (text ++ codes "A") || is_strict (text ++ codes "="))))) (two_ways text (codes "AA") (codes "=="))
    ∙ ap (λ b. cond (nat_eq (length text % 4) 0) (is_whole (after_all Start text)) (cond (nat_eq (length text % 4) 1) (is_whole (after_all (after_all Start text) (codes "A==")))
    (cond (nat_eq (length text % 4) 2) (is_whole (after_all (after_all Start text) (codes "AA")) || is_whole (after_all (after_all Start text) (codes "=="))) b))) (two_ways text (codes "A") (codes "="))

pub begins_open : (text : List ℕ) → begins_strict text ≡ is_open (after_all Start text)
begins_open text = begins_by_stage text ∙ open_goes (after_all Start text) (length text % 4) (λ h. over_all Start text h ∙ omega arith)

-- The longest prefix.

-- how many characters are read before one is refused
abbrev pub taken : Stage → List ℕ → ℕ
taken s [] = 0
taken s (c ∷ cs) = if is_open (after s c) then suc (taken (after s c) cs) else 0

begins_last : (front : List ℕ) (c : ℕ) → begins_strict (front ++ c ∷ []) ≡ is_open (after (after_all Start front) c)
begins_last front c = begins_open (front ++ c ∷ []) ∙ ap is_open (after_all-append Start front (c ∷ []))

by_both : (b : Bool) (x n k : ℕ) → x ≡ n + suc k → cond b x n ≡ n + cond b (suc k) 0
by_both true x n k e = e
by_both false x n k e = omega arith

longest_taken : (front rest : List ℕ) → longest front rest ≡ length front + taken (after_all Start front) rest
longest_taken front [] = omega arith
longest_taken front (c ∷ cs) =
    let s : Stage = after_all Start front in
    let more : longest (front ++ c ∷ []) cs ≡ length front + suc (taken (after s c) cs) =
    longest_taken (front ++ c ∷ []) cs ∙ ap (λ t. length (front ++ c ∷ []) + taken t cs) (after_all-append Start front (c ∷ [])) ∙ rw length-append (omega arith) in
    ap (λ b. cond b (longest (front ++ c ∷ []) cs) (length front)) (begins_last front c)
    ∙ by_both (is_open (after s c)) (longest (front ++ c ∷ []) cs) (length front) (taken (after s c) cs) more

pub fault_taken : (text : List ℕ) → fault_in text ≡ taken Start text
fault_taken text = longest_taken [] text ∙ omega arith
