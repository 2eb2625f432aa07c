use Rattle.std.proofs.Common.{◌≡◌, [], take}
use Rattle.std.specs.Prelude.{flat_map}
use Rattle.signature_objects.specs.Objects.{with_objects}
use Rattle.case_steps.specs.Built.{ShowsObjects}
use Rattle.case_objects.specs.Walks.{front_objects, property_objects}
use Rattle.case_objects.proofs.walking.objects_case.Given as goal

abbrev pub invariant-loop-property : goal.invariant-loop-property
invariant-loop-property l =
    ShowsObjects (with_objects (with_objects [] (front_objects l.parts)) (flat_map property_objects (take l.property l.parts.properties))) l.case
    × (l.case.stamps ≡ [])
