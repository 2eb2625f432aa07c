use Rattle.std.proofs.Common.{◌≡◌, ◌+◌, ◌++◌, drop, map}
use Rattle.report_texts.specs.Facts.{token_shown}
use Rattle.report_texts.specs.Texts.{each_from, token_line}
use Rattle.report_texts.proofs.lines.put_tokens.Given as goal

-- with those that are left, it is the whole
abbrev pub invariant-loop-number : goal.invariant-loop-number
invariant-loop-number l = l.out ++ each_from (λ k fact. token_line k (token_shown fact)) (l.number + 1) (drop l.number l.facts)
    ≡ l.initial.out ++ each_from token_line 1 (map token_shown l.facts)
