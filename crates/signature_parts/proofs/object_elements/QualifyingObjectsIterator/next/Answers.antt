use Rattle.std.proofs.Common.{◌∙◌}
use Rattle.signature_parts.proofs.object_elements.QualifyingObjectsIterator.next.Goals as goal

pub invariant_of-self : goal.invariant_of-self
invariant_of-self c = record { same = c.next.ensures.steps.0 ∙ c.objects.invariant.0 }
