use Rattle.std.proofs.Common.{pos, neg_ℤ, ◌≤ℤ◌, w64}
use Rattle.std.proofs.lemmas.Int.{to_z-of_z}
use Rattle.jiff_core.specs.Date.{epoch_day}
use Rattle.utc_times.proofs.YearLemmas.{year_from_day}
use Rattle.utc_times.proofs.date_of.Goals as goal

pub returns-clause-year : goal.returns-clause-year
returns-clause-year c =
    let low : neg_ℤ (pos 719_528) ≤ℤ epoch_day c.in-Ok.date = rw (c.in-Ok.ensures.value, to_z-of_z w64 c.args.day c.ranges.day) c.requires.0 in
    year_from_day c.in-Ok.date low
