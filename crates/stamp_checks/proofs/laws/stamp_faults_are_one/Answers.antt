use Rattle.stamp_checks.proofs.OneFault.{stamp_faults_are_one}
use Rattle.stamp_checks.proofs.laws.stamp_faults_are_one.Goals as goal

pub returns : goal.returns
returns c = stamp_faults_are_one
