use Rattle.std.proofs.Common.{◌≡◌, ◌++◌, drop, map}
use Rattle.report_texts.specs.Facts.{token_shown}
use Rattle.signature_reports.specs.Said.{tokens_said}
use Rattle.signature_reports.proofs.tokens.token_facts.Given as goal

-- with those that are left, it is the whole
abbrev pub invariant-loop-number : goal.invariant-loop-number
invariant-loop-number l = map token_shown l.facts.items ++ tokens_said l.times (drop l.number l.words) (drop l.number l.answers) ≡ tokens_said l.times l.words l.answers
