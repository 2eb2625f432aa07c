use Rattle.signature_elements.specs.Standing.{spot_of}
use Rattle.signature_model.specs.Chains.{not_handed_in}
use Rattle.reference_chains.specs.declared.references.Reference.{Reference}
use Rattle.reference_chains.specs.HandedIn.{handed_in}
use Rattle.references.proofs.Judging.{Judging}
use Rattle.references.proofs.handing.refuse_wanting.Given as goal

abbrev pub invariant-loop-number : goal.invariant-loop-number
invariant-loop-number l = Judging (not_handed_in (handed_in l.externals)) (λ (r : Reference). spot_of l.doc r.node) l.all l.number
