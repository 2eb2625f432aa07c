use Rattle.std.proofs.Common.{◌≡◌, ap, refl, Bool, true, false, Option, Some, None, ℤ, IsSome, IsTrue, ◌↔◌, IfSome}
use Rattle.std.specs.Prelude.{if◌then◌else◌}
use Rattle.der_values.specs.Times.{Moment, is_real, seconds_to, real_seconds, moment_at}
use Rattle.der_values.proofs.times.seconds_at.Goals as goal

by_found : (r : Option ℤ) (b : Bool) (v : ℤ) → IsSome r ↔ IsTrue b → IfSome r (λ s. s ≡ v) → r ≡ (if b then Some v else None)
by_found None true v f e = let k = f.1 refl in absurd cc
by_found None false v f e = refl
by_found (Some s) true v f e = ap Some e
by_found (Some s) false v f e = let k = f.0 refl in absurd cc

by_real : (r : Option ℤ) (m : Moment) → IsSome r ↔ IsTrue (is_real m) → IfSome r (λ s. s ≡ seconds_to m) → r ≡ real_seconds m
unfolding real_seconds
by_real r m f e = by_found r (is_real m) (seconds_to m) f e

pub returns-clause-value : goal.returns-clause-value
unfolding moment_at
returns-clause-value c =
    let real = by_real c.civil_seconds.result _ c.civil_seconds.ensures.found c.civil_seconds.ensures.value in
    rw (← c.in_ok-month.ensures.value, ← c.in_ok-day.ensures.value, ← c.in_ok-hour.ensures.value, ← c.in_ok-minute.ensures.value, ← c.in_ok-second.ensures.value) real
