use Rattle.std.proofs.Common.{sym, arith}
use Rattle.xml_items.specs.Runs.{is_common}
use Rattle.xml_items.proofs.CommonTexts.{next_more, from_between}
use Rattle.xml_items.proofs.runs.are_common.Goals as goal

pub rest-preserved : goal.rest-preserved
rest-preserved c = (omega (arith, c.rest-test.true), next_more is_common c.args.bytes.now c.rest.at c.rest.invariant.1 (sym c.if-not-is_common.ensures))

pub returns : goal.returns
returns c e = from_between is_common c.args.bytes.now (λ k low high. c.rest.invariant.1 k low (omega (arith, high, c.rest-test.false)))
