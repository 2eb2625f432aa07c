-- Lists of times that are lowered.
use Rattle.std.proofs.Common.{◌≡◌, ℕ, ◌<◌, List, [], ◌∷◌, length, All, set, ℤ, pos, ◌≤ℤ◌, arith, refl, ap, ◌∙◌, ⊎_elim, length-set, get_or-set_same, get_or-set_other}
use Rattle.std.proofs.lemmas.Int.{ints}
use Rattle.std.proofs.lemmas.Bool.{cases_eq}
use Rattle.std.proofs.lemmas.List.{set-get_or}
use Rattle.std.proofs.lemmas.List.Elements.{All-head, All-tail, All-cons, All-nil}
use Rattle.std.specs.Int.{int_min}
use Rattle.acceptance.specs.Walks.{time}
use Rattle.acceptance.specs.Rounds.{lowered}

pub ≤ℤ_same : (a : ℤ) → a ≤ℤ a
≤ℤ_same a = omega (arith, ints)

pub ≤ℤ_over : (a b c : ℤ) → a ≤ℤ b → b ≤ℤ c → a ≤ℤ c
≤ℤ_over a b c h k = omega (arith, ints)

pub int_min-left : (a b : ℤ) → int_min a b ≤ℤ a
int_min-left a b = grind (arith, ints)

pub int_min-right : (a b : ℤ) → int_min a b ≤ℤ b
int_min-right a b = grind (arith, ints)

pub int_min-above : (a b c : ℤ) → c ≤ℤ a → c ≤ℤ b → c ≤ℤ int_min a b
int_min-above a b c h k = grind (arith, ints)

pub int_min-is : (a b : ℤ) → a ≤ℤ b → int_min a b ≡ a
int_min-is a b h = grind (arith, ints)

pub length-lowered : (bound : ℤ) (covers : List ℕ) (times : List ℤ) → length (lowered bound covers times) ≡ length times
unfolding lowered
length-lowered bound [] times = refl
length-lowered bound (y ∷ covers) times =
    length-lowered bound covers (set times y (int_min (time times y) bound)) ∙ simp length-set

pub time-set_same : (times : List ℤ) (y : ℕ) (v : ℤ) (x : ℕ) → y < length times → x ≡ y → time (set times y v) x ≡ v
time-set_same times y v x lt e = rw e (get_or-set_same times y v (pos 0) lt)

pub time-set_no_later : (times : List ℤ) (y : ℕ) (v : ℤ) → y < length times → v ≤ℤ time times y → (x : ℕ) → time (set times y v) x ≤ℤ time times x
time-set_no_later times y v lt le x =
    ⊎_elim
    (λ e. rw (time-set_same times y v x lt e) (rw e le))
    (λ ne. rw (get_or-set_other times y x v (pos 0) ne) (≤ℤ_same (time times x)))
    (cases_eq x y)

pub time-set_above : (times : List ℤ) (y : ℕ) (v : ℤ) (x : ℕ) (low : ℤ) → y < length times → low ≤ℤ time times x → (x ≡ y → low ≤ℤ v) → low ≤ℤ time (set times y v) x
time-set_above times y v x low lt le at =
    ⊎_elim
    (λ e. rw (time-set_same times y v x lt e) (at e))
    (λ ne. rw (get_or-set_other times y x v (pos 0) ne) le)
    (cases_eq x y)

-- the covered objects are within the list
abbrev pub Within : List ℕ → List ℤ → Type 0
Within covers times = All (λ y. y < length times) covers

pub Within-set : (y : ℕ) (v : ℤ) (covers : List ℕ) (times : List ℤ) → Within covers times → Within covers (set times y v)
Within-set y v covers times inside k d lt = let h = inside k d lt in rw length-set h

pub lowered_no_later : (bound : ℤ) (covers : List ℕ) (times : List ℤ) → Within covers times → (x : ℕ) → time (lowered bound covers times) x ≤ℤ time times x
unfolding lowered
lowered_no_later bound [] times inside x = ≤ℤ_same (time times x)
lowered_no_later bound (y ∷ covers) times inside x =
    let v = int_min (time times y) bound in
    let lt : y < length times = All-head (λ z. z < length times) y covers inside in
    let rest : Within covers times = All-tail (λ z. z < length times) y covers inside in
    ≤ℤ_over _ _ _
    (lowered_no_later bound covers (set times y v) (Within-set y v covers times rest) x)
    (time-set_no_later times y v lt (int_min-left (time times y) bound) x)

pub lowered_above : (bound : ℤ) (covers : List ℕ) (times : List ℤ) → Within covers times → (low : ℕ → ℤ) →
    All (λ y. low y ≤ℤ bound) covers → ((z : ℕ) → z < length times → low z ≤ℤ time times z) → (x : ℕ) → x < length times → low x ≤ℤ time (lowered bound covers times) x
unfolding lowered
lowered_above bound [] times inside low le above x in_range = above x in_range
lowered_above bound (y ∷ covers) times inside low le above x in_range =
    let v = int_min (time times y) bound in
    let lt : y < length times = All-head (λ z. z < length times) y covers inside in
    let rest : Within covers times = All-tail (λ z. z < length times) y covers inside in
    let first : low y ≤ℤ bound = All-head (λ z. low z ≤ℤ bound) y covers le in
    let same : length (set times y v) ≡ length times = length-set times y v in
    lowered_above bound covers (set times y v) (Within-set y v covers times rest) low (All-tail (λ z. low z ≤ℤ bound) y covers le)
    (λ z ok. let within : z < length times = omega arith in time-set_above times y v z (low z) lt (above z within) (λ e. rw e (int_min-above _ _ _ (above y lt) first)))
    x (omega arith)

pub lowered_covers : (bound : ℤ) (covers : List ℕ) (times : List ℤ) → Within covers times → All (λ y. time (lowered bound covers times) y ≤ℤ bound) covers
unfolding lowered
lowered_covers bound [] times inside = All-nil (λ y. time times y ≤ℤ bound)
lowered_covers bound (y ∷ covers) times inside =
    let v = int_min (time times y) bound in
    let lt : y < length times = All-head (λ z. z < length times) y covers inside in
    let rest : Within covers times = All-tail (λ z. z < length times) y covers inside in
    let inner : Within covers (set times y v) = Within-set y v covers times rest in
    All-cons (λ z. time (lowered bound covers (set times y v)) z ≤ℤ bound) y covers
    (≤ℤ_over _ _ _ (lowered_no_later bound covers (set times y v) inner y) (rw (time-set_same times y v y lt refl) (int_min-right (time times y) bound)))
    (lowered_covers bound covers (set times y v) inner)

pub lowered_same : (bound : ℤ) (covers : List ℕ) (times : List ℤ) → All (λ y. time times y ≤ℤ bound) covers → lowered bound covers times ≡ times
unfolding lowered
lowered_same bound [] times met = refl
lowered_same bound (y ∷ covers) times met =
    let first : time times y ≤ℤ bound = All-head (λ z. time times z ≤ℤ bound) y covers met in
    let same : set times y (int_min (time times y) bound) ≡ times = rw (int_min-is _ _ first) (set-get_or times y (pos 0)) in
    ap (lowered bound covers) same ∙ lowered_same bound covers times (All-tail (λ z. time times z ≤ℤ bound) y covers met)
