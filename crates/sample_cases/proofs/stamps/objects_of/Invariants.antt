use Rattle.std.proofs.Common.{◌≡◌, ℕ, ◌<◌, take, map, length, slice_index_or}
use Rattle.existence_times.specs.Kept.{number_of}
use Rattle.sample_cases.proofs.stamps.objects_of.Given as goal

abbrev pub invariant-loop-number : goal.invariant-loop-number
invariant-loop-number l =
    (map number_of l.objects.items ≡ take l.number-index l.numbers)
    × ((k : ℕ) → k < l.number-index → slice_index_or l.numbers k 0 < length l.pool)
