use Rattle.std.proofs.Common.{◌≡◌, map}
use Rattle.existence_times.specs.Kept.{number_of}
use Rattle.signature_objects.specs.Objects.{numbers_below}
use Rattle.signature_cases.proofs.stamps.objects_below.Given as goal

abbrev pub invariant-loop-number : goal.invariant-loop-number
invariant-loop-number l = map number_of l.ids.items ≡ numbers_below l.number
