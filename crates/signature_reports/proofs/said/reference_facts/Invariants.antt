use Rattle.std.proofs.Common.{◌≡◌, ◌++◌, drop}
use Rattle.signature_reports.proofs.References.{said_from}
use Rattle.signature_reports.proofs.said.reference_facts.Given as goal

-- with those that are left, it is the whole
abbrev pub invariant-loop-number : goal.invariant-loop-number
invariant-loop-number l = l.facts.items ++ said_from l.times l.number (drop l.number l.rows) (drop l.number l.answers) ≡ said_from l.times 0 l.rows l.answers
