use Rattle.existence_times.proofs.CaseLaws.{kept_grown}
use Rattle.existence_times.proofs.CaseSteps.{part_keeps}
use Rattle.existence_times.proofs.case.Case.add_part.Goals as goal

pub invariant_of-self-2 : goal.invariant_of-self-2
invariant_of-self-2 c = kept_grown c.self.inside.pool c.add.new.self c.self.inside.references c.self.inside.tokens.items c.self.inside.stamps.items c.in-Ok.ensures.kept c.self.invariant

pub returns-clause-kept : goal.returns-clause-kept
returns-clause-kept c =
    part_keeps c.self.inside.pool c.add.new.self c.self.inside.references c.self.inside.tokens.items c.self.inside.stamps.items c.args.self.now c.self.view_is c.in-Ok.ensures.kept
