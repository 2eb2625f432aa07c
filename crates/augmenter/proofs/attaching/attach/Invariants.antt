use Rattle.policy_rules.specs.View.{rules}
use Rattle.reference_chains.specs.HandedIn.{handed_in}
use Rattle.augmenter.proofs.Steps.{Attached}
use Rattle.augmenter.proofs.attaching.attach.Given as goal

abbrev pub invariant-loop-number : goal.invariant-loop-number
invariant-loop-number l = Attached (rules l.policy) (handed_in l.externals) l.at l.items l.bytes l.live.bytes l.number
