use Rattle.std.proofs.Common.{◌≡◌, ◌≤◌, ◌<◌, ℤ, length, sym, ◌∙◌, ap, arith, to_z, of_z, to_z-of_z, w64}
use Rattle.std.specs.Option.{option_or}
use Rattle.std.specs.Prelude.{option_and_then}
use Rattle.qualifying_props.specs.Shown.{ShownProperty}
use Rattle.stamp_checks.proofs.Looking.{first_some, none_here, passed_all, passed_here, passed_on, some_here, there_is}
use Rattle.stamp_checks.proofs.Told.{later_of, times_told}
use Rattle.stamp_checks.specs.Times.{after_moment}
use Rattle.stamp_checks.proofs.times.later_time.Goals as goal

pub returns-then-is_some : goal.returns-then-is_some
returns-then-is_some c = λ doc h.
    let properties = c.args.parts.now.properties in
    let time = to_z w64 (of_z w64 c.args.time) in
    let within : c.loop-number.number < length properties = omega (arith, c.properties-number-end.ensures, c.loop-number-test.true) in
    let at = there_is properties c.loop-number.number within in
    let is : later_of time at.0 ≡ c.later_at-found.result =
    sym (c.later_at-found.ensures ∙ ap (λ o. option_and_then (after_moment time) (option_and_then (λ (property : ShownProperty). property.token) o)) at.1) in
    sym (passed_here (first_some (later_of time)) properties c.loop-number.number at.0 c.later_at-found.result at.1
    (λ ys. ap (λ o. option_or o (first_some (later_of time) ys)) is ∙ some_here c.later_at-found.result _ (sym c.is_some.ensures ∙ c.if-is_some.true)) c.loop-number.invariant)
    ∙ ap (λ (z : ℤ). first_some (later_of z) properties) (to_z-of_z c.ranges.time) ∙ times_told doc c.args.parts.now c.args.time h

pub loop-number-preserved : goal.loop-number-preserved
loop-number-preserved c =
    let properties = c.args.parts.now.properties in
    let time = to_z w64 (of_z w64 c.args.time) in
    let within : c.loop-number.number < length properties = omega (arith, c.properties-number-end.ensures, c.loop-number-test.true) in
    let at = there_is properties c.loop-number.number within in
    let is : later_of time at.0 ≡ c.later_at-found.result =
    sym (c.later_at-found.ensures ∙ ap (λ o. option_and_then (after_moment time) (option_and_then (λ (property : ShownProperty). property.token) o)) at.1) in
    passed_on (first_some (later_of time)) properties c.loop-number.number at.0 at.1
    (λ ys. ap (λ o. option_or o (first_some (later_of time) ys)) is ∙ none_here c.later_at-found.result _ (sym c.is_some.ensures ∙ c.if-is_some.false)) c.loop-number.invariant

pub returns : goal.returns
returns c = λ doc h.
    let properties = c.args.parts.now.properties in
    let time = to_z w64 (of_z w64 c.args.time) in
    let past : length properties ≤ c.loop-number.number = omega (arith, c.properties-number-end.ensures, c.loop-number-test.false) in
    sym (passed_all (first_some (later_of time)) properties c.loop-number.number past c.loop-number.invariant)
    ∙ ap (λ (z : ℤ). first_some (later_of z) properties) (to_z-of_z c.ranges.time) ∙ times_told doc c.args.parts.now c.args.time h
