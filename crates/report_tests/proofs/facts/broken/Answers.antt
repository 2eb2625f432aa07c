use Rattle.std.proofs.Common.{rules}
use Rattle.report_tests.proofs.facts.broken.Goals as goal

pub returns : goal.returns
returns c = record {
  moment = search rules;
  references = c.in_ok-references.ensures;
  certificate = search rules;
  value = search rules;
  tokens = c.in_ok-tokens.ensures;
  objects = search rules;
}
