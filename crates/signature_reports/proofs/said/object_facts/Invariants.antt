use Rattle.std.proofs.Common.{◌≡◌, ◌++◌, drop, map}
use Rattle.cert_paths.specs.Pool.{part_numbers}
use Rattle.signature_reports.specs.Said.{object_said}
use Rattle.signature_reports.proofs.said.object_facts.Given as goal

-- with those that are left, it is the whole
abbrev pub invariant-loop-number : goal.invariant-loop-number
invariant-loop-number l = l.facts.items ++ map (object_said l.pool l.times) (drop l.number (part_numbers l.pool)) ≡ map (object_said l.pool l.times) (part_numbers l.pool)
