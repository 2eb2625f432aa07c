-- What decodes has known characters alone.
use Rattle.std.proofs.Common.{◌≡◌, ℕ, zero, suc, ◌+◌, ◌-◌, ◌*◌, ◌<◌, Bool, false, List, [], ◌∷◌, length, drop, inl, inr, Ok, Err, Some, None, Option, nat_lt, refl, ◌∙◌, ap, subst, arith}
use Rattle.std.proofs.lemmas.Bool.{cases_Bool, cases_lt, cases_eq, eqb-true, eqb-false}
use Rattle.std.proofs.lemmas.List.{get_or-drop, length-drop}
use Rattle.std.specs.Prelude.{slice_index, ◌==◌}
use Rattle.std.specs.List.{AllByRecursion}
use Rattle.base64.specs.declared.decode.DecodeError.{DecodeError}
use Rattle.base64.specs.Decode.{or_else, symbol_error, group_error, groups_error, groups_before_last, lone_error, suffix_error, scan_last, scan_steps, scan_error, push_leftover, decode_outcome, no_leftover}
use Rattle.base64.specs.GeneralPurpose.{decode_of}
use Rattle.base64.specs.Engines.{standard}
use Rattle.base64_texts.proofs.Tables.{values, Known}

or_else_none : (x y : Option DecodeError) → or_else x y ≡ None → (x ≡ None) × (y ≡ None)
or_else_none None y h = (refl, h)
or_else_none (Some e) y h = cc

symbol_known : (s : List ℕ) (i : ℕ) → symbol_error values s i ≡ None → Known (slice_index s i)
symbol_known s i h = elim (cases_Bool (slice_index values (slice_index s i) == 255)) [
  | inl b ↦ cc (rw b at h)
  | inr b ↦ inr (λ e. eqb-false _ 255 b e)
]

groups_known : (s : List ℕ) (q : ℕ) → groups_error values s q ≡ None → (i : ℕ) → i < 4 * q → Known (slice_index s i)
unfolding groups_error
groups_known s zero h i lt = absurd (omega (arith, lt))
groups_known s (suc q) h i lt =
    let at : ℕ = 4 * q in
    let parts = or_else_none (groups_error values s q) (group_error values s at) h in
    let p0 = or_else_none (symbol_error values s at) _ parts.1 in
    let p1 = or_else_none (symbol_error values s (at + 1)) _ p0.1 in
    let p2 = or_else_none (symbol_error values s (at + 2)) (symbol_error values s (at + 3)) p1.1 in
    elim (cases_lt i at) [
      | inl low ↦ groups_known s q parts.0 i low
      | inr high ↦ elim (cases_eq i at) [
        | inl e ↦ symbol_known s i (rw e p0.0)
        | inr n0 ↦ elim (cases_eq i (at + 1)) [
          | inl e ↦ symbol_known s i (rw e p1.0)
          | inr n1 ↦ elim (cases_eq i (at + 2)) [
            | inl e ↦ symbol_known s i (rw e p2.0)
            | inr n2 ↦ (let e : i ≡ at + 3 = omega arith in symbol_known s i (rw e p2.1))
          ]
        ]
      ]
    ]

push_known : (at i b : ℕ) (st next : _) → push_leftover values 61 at st i b ≡ Ok next → Known b
push_known at i b st next h = elim (cases_Bool (b == 61)) [
  | inl p ↦ inl (eqb-true b 61 p)
  | inr p ↦ elim (cases_Bool (nat_lt 0 st.padding_count)) [
    | inl a ↦ cc (rw (p, a) at h)
    | inr a ↦ elim (cases_Bool (slice_index values b == 255)) [
      | inl v ↦ cc (rw (p, a, v) at h)
      | inr v ↦ inr (λ e. eqb-false _ 255 v e)
    ]
  ]
]

went_on : (at i : ℕ) (bs : List ℕ) (r fin : _) → scan_steps values 61 at r i bs ≡ Ok fin → (next : _) × ((r ≡ Ok next) × (scan_steps values 61 at (Ok next) i bs ≡ Ok fin))
unfolding scan_steps
went_on at i bs (Ok st) fin h = (st, (refl, h))
went_on at i bs (Err e) fin h = cc

scan_known : (at i : ℕ) (bs : List ℕ) (st fin : _) → scan_steps values 61 at (Ok st) i bs ≡ Ok fin → AllByRecursion Known bs
unfolding scan_steps
scan_known at i [] st fin h = tt
scan_known at i (b ∷ bs) st fin h =
    let on = went_on at (i + 1) bs (push_leftover values 61 at st i b) fin h in
    (push_known at i b st on.0 on.1.0, scan_known at (i + 1) bs on.0 fin on.1.1)

scan_passed : (empty : Bool) (at : ℕ) (r : _) → scan_error empty at false standard.config.decode_padding_mode r ≡ None → (st : _) × (r ≡ Ok st)
scan_passed empty at (Ok st) h = (st, refl)
scan_passed empty at (Err e) h = cc

passed : (x : Option DecodeError) (d b : List ℕ) → decode_outcome x d ≡ Ok b → x ≡ None
passed None d b h = refl
passed (Some e) d b h = cc

at_place : (P : ℕ → Type 0) (xs : List ℕ) → AllByRecursion P xs → (i : ℕ) → i < length xs → P (slice_index xs i)
at_place P [] h i lt = absurd (omega (arith, lt))
at_place P (x ∷ xs) h zero lt = h.0
at_place P (x ∷ xs) h (suc i) lt = at_place P xs h.1 i (omega (arith, lt))

from_places : (P : ℕ → Type 0) (xs : List ℕ) → ((i : ℕ) → i < length xs → P (slice_index xs i)) → AllByRecursion P xs
from_places P [] h = tt
from_places P (x ∷ xs) h = (h 0 (omega arith), from_places P xs (λ i lt. h (suc i) (omega arith)))

pub decoded_known : (s b : List ℕ) → decode_of standard s ≡ Ok b → AllByRecursion Known s
decoded_known s b h =
    let at : ℕ = 4 * groups_before_last (length s) in
    let none = or_else_none (lone_error values 61 s) _ (passed _ _ b h) in
    let parts = or_else_none (groups_error values s (groups_before_last (length s))) (suffix_error values 61 false standard.config.decode_padding_mode at s) none.1 in
    let last = scan_passed _ at (scan_last values 61 at s) parts.1 in
    let behind : AllByRecursion Known (drop at s) = scan_known at 0 (drop at s) no_leftover last.0 last.1 in
    from_places Known s (λ i lt. elim (cases_lt i at) [
      | inl low ↦ groups_known s (groups_before_last (length s)) parts.0 i low
      | inr high ↦
          let k : Known (slice_index (drop at s) (i - at)) = at_place Known (drop at s) behind (i - at) (rw length-drop (omega arith)) in
          let e : at + (i - at) ≡ i = omega arith in
          subst Known (get_or-drop at s (i - at) 0 ∙ ap (λ n. slice_index s n) e) k
    ])
