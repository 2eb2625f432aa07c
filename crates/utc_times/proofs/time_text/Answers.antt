use Rattle.std.proofs.Common.{◌≡◌, sym, ◌∙◌, ap, ℕ, ◌<◌, ◌^◌, ◌/◌, ℤ, pos, ◌+ℤ◌, ◌-ℤ◌, unsigned_abs, arith, FitsSigned, w16, w64}
use Rattle.std.proofs.lemmas.Int.{to_z-of_z, to_z_pos}
use Rattle.jiff_core.proofs.SignedLemmas.{signed_arith}
use Rattle.utc_times.specs.TimeText.{time_of}
use Rattle.utc_times.proofs.YearLemmas.{time_of-parts, not_negative}
use Rattle.utc_times.proofs.time_text.Goals as goal

pub returns : goal.returns
returns c =
    let d = c.date_of-date.result in
    let sum : ℤ = c.args.seconds +ℤ pos 62_167_219_200 in
    let count : ℕ = unsigned_abs sum in
    let is : sum ≡ pos count = not_negative sum (omega (arith, signed_arith, c.requires)) in
    let low : count / 86_400 < 2 ^ 63 = omega (arith, signed_arith, is, c.requires) in
    let fit_seconds : FitsSigned w64 c.args.seconds = c.ranges.seconds in
    let fit_sum : FitsSigned w64 (c.args.seconds +ℤ pos 62_167_219_200) = omega (arith, signed_arith, c.requires) in
    let fit_year : FitsSigned w16 d.year = omega (arith, signed_arith, d.year_in) in
    let fit_day : FitsSigned w64 (pos (count / 86_400) -ℤ pos 719_528) = omega (arith, signed_arith, is, c.requires) in
    let e = simp to_z-of_z at c.digits.ensures in
    let f = simp (to_z-of_z, to_z_pos w64 (count / 86_400) low) at c.date_of-date.ensures.day in
    ap time_of e ∙ time_of-parts d c.args.seconds count (sym is) f c.date_of-date.ensures.year
