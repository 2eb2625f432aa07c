use Rattle.std.proofs.Common.{◌-◌, drop, length, map}
use Rattle.der_values.specs.Elements.{elements}
use Rattle.signature_evidence.specs.Material.{material_of, object_of}
use Rattle.case_objects.proofs.Added.{Adds}
use Rattle.signature_cases.proofs.Parting.{Left}
use Rattle.signature_cases.proofs.material.add_material.Given as goal

abbrev pub invariant-loop-at : goal.invariant-loop-at
invariant-loop-at l = Left l.bytes l.at × Adds (map object_of (elements (drop l.at l.bytes))) (material_of l.bytes) l.fn.case l.case

abbrev pub decreases-loop-at : goal.decreases-loop-at
decreases-loop-at l = length l.bytes - l.at
