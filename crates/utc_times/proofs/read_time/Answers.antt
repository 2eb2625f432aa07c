use Rattle.std.proofs.Common.{◌≡◌, sym, ◌∙◌, ap, refl, ℕ, List, Bool, true, false, ◌&&◌, IsTrue, IsSome, IfSome, Option, Some, None, ◌↔◌, if◌then◌else◌, ℤ}
use Rattle.utc_times.specs.TimeText.{are_two, number_two, year_in, has_shape, is_real, seconds_of, time_of}
use Rattle.utc_times.proofs.read_time.Goals as goal

both : (a b : Bool) → IsTrue (a && b) → IsTrue a × IsTrue b
both true b h = (refl, h)
both false b h = cc

shape_parts : (t : List ℕ) → IsTrue (has_shape t)
    → IsTrue (are_two t 0) × IsTrue (are_two t 2) × IsTrue (are_two t 5) × IsTrue (are_two t 8) × IsTrue (are_two t 11)
    × IsTrue (are_two t 14) × IsTrue (are_two t 17)
shape_parts t h =
    let s17 = both _ _ (both _ _ h).0 in
    let s14 = both _ _ (both _ _ s17.0).0 in
    let s11 = both _ _ (both _ _ s14.0).0 in
    let s8 = both _ _ (both _ _ s11.0).0 in
    let s5 = both _ _ (both _ _ s8.0).0 in
    let s2 = both _ _ (both _ _ s5.0).0 in
    let s0 = both _ _ s2.0 in
    (s0.1, s2.1, s5.1, s8.1, s11.1, s14.1, s17.1)

by_found : (r : Option ℤ) (b : Bool) (v : ℤ) → IsSome r ↔ IsTrue b → IfSome r (λ s. s ≡ v)
    → r ≡ (if b then Some v else None)
by_found None true v f h = let e = f.1 refl in cc
by_found None false v f h = refl
by_found (Some s) true v f h = ap Some h
by_found (Some s) false v f h = let e = f.0 refl in cc

shape-true : (t : List ℕ) (b : Bool) → b ≡ has_shape t → b ≡ true → IsTrue (has_shape t)
shape-true t b e h = sym e ∙ h

time_of-shape : (t : List ℕ) → IsTrue (has_shape t) → time_of t
    ≡ (if is_real (year_in t) (number_two t 5) (number_two t 8) (number_two t 11) (number_two t 14) (number_two t 17)
    then Some (seconds_of (year_in t) (number_two t 5) (number_two t 8) (number_two t 11) (number_two t 14) (number_two t 17))
    else None)
time_of-shape t h = rw h refl

pub number_two-requires-2-clause-digits : goal.number_two-requires-2-clause-digits
number_two-requires-2-clause-digits c = (shape_parts c.args.text.now (sym c.has_shape.ensures ∙ c.if-not-has_shape.false)).1

pub number_two-requires-3-clause-digits : goal.number_two-requires-3-clause-digits
number_two-requires-3-clause-digits c = (shape_parts c.args.text.now (sym c.has_shape.ensures ∙ c.if-not-has_shape.false)).2

pub number_two-requires-4-clause-digits : goal.number_two-requires-4-clause-digits
number_two-requires-4-clause-digits c = (shape_parts c.args.text.now (sym c.has_shape.ensures ∙ c.if-not-has_shape.false)).3

pub number_two-requires-5-clause-digits : goal.number_two-requires-5-clause-digits
number_two-requires-5-clause-digits c = (shape_parts c.args.text.now (sym c.has_shape.ensures ∙ c.if-not-has_shape.false)).4

pub number_two-requires-6-clause-digits : goal.number_two-requires-6-clause-digits
number_two-requires-6-clause-digits c = (shape_parts c.args.text.now (sym c.has_shape.ensures ∙ c.if-not-has_shape.false)).5

pub number_two-requires-7-clause-digits : goal.number_two-requires-7-clause-digits
number_two-requires-7-clause-digits c = (shape_parts c.args.text.now (sym c.has_shape.ensures ∙ c.if-not-has_shape.false)).6

pub returns : goal.returns
returns c =
    let shape = sym c.has_shape.ensures ∙ c.if-not-has_shape.false in
    let e = by_found _ _ _ c.seconds.ensures.found c.seconds.ensures.value in
    rw (time_of-shape c.args.text.now shape, ← c.number_two-3.ensures.value, ← c.number_two-4.ensures.value, ← c.number_two-5.ensures.value, ← c.number_two-6.ensures.value, ← c.number_two-7.ensures.value, ← c.number_two.ensures.value, ← c.number_two-2.ensures.value, ← c.from.ensures, ← c.from-2.ensures) e
