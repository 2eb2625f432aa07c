use Rattle.der_values.specs.Meaning.{meaning}
use Rattle.der_values.proofs.FitsLaws.{exact}
use Rattle.der_values.proofs.layout.check.Goals as goal

pub returns-clause-exact : goal.returns-clause-exact
returns-clause-exact c = exact (meaning c.args.layout.now) c.args.bytes.now c.judge_object.result c.judge_object.ensures.value
