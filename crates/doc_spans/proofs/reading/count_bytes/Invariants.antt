use Rattle.std.proofs.Common.{◌≡◌, ◌-◌, ◌^◌, ◌<◌, ◌≤◌}
use Rattle.xa_io.specs.Causes.{counted}
use Rattle.doc_spans.proofs.reading.count_bytes.Given as goal

abbrev pub invariant-loop-byte : goal.invariant-loop-byte
invariant-loop-byte g l = (counted l.steps 0 ≡ counted l.initial.steps l._byte) × (0 < l._byte → l.steps ≤ 2 ^ 64 - 1)
