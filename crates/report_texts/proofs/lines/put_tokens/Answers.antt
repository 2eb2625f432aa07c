use Rattle.std.proofs.Common.{◌++◌, ap, sym}
use Rattle.time_texts.specs.Clock.{IsOfYears}
use Rattle.report_texts.specs.Facts.{token_shown}
use Rattle.report_texts.specs.Texts.{token_line}
use Rattle.report_texts.proofs.WrittenLines.{lines_shown, shown_at}
use Rattle.report_texts.proofs.lines.put_tokens.Goals as goal

pub loop-number-init : goal.loop-number-init
loop-number-init c = ap (λ x. c.args.out.now ++ x) (sym (lines_shown token_line token_shown 1 c.args.facts.now))

pub put_token-requires : goal.put_token-requires
put_token-requires c = shown_at (λ fact. IsOfYears fact.gen_time × IsOfYears fact.time) c.args.facts.now c.loop-number.number _ c.loop-number-test.true c.requires
