use Rattle.std.proofs.Common.{◌≤◌, List, [], length, take, subst, ◌∙◌, arith}
use Rattle.std.specs.Prelude.{flat_map}
use Rattle.signature_objects.specs.Objects.{Object, with_objects}
use Rattle.signature_objects.proofs.Numbered.{property_more}
use Rattle.case_steps.specs.Built.{ShowsObjects}
use Rattle.case_objects.specs.Walks.{front_objects, property_objects}
use Rattle.case_objects.proofs.Walked.{walked_all, walked_on}
use Rattle.case_objects.proofs.walking.objects_case.Goals as goal

pub loop-property-preserved : goal.loop-property-preserved
loop-property-preserved c =
    let found = c.args.parts.now.properties in
    let number = c.loop-property.property in
    let here = property_more found number (omega (arith, c.loop-property-test.true, c.properties-property-end.ensures)) in
    let front : List Object = with_objects [] (front_objects c.args.parts.now) in (
      subst (λ (all : List Object). ShowsObjects all c.add_property.new.case) (walked_on front found number here.0 here.1)
          (c.in_ok-add_property.ensures.objects here.0 here.1 (with_objects front (flat_map property_objects (take number found))) c.loop-property.invariant.0),
      c.in_ok-add_property.ensures.stamps ∙ c.loop-property.invariant.1,
    )

pub returns-clause-objects : goal.returns-clause-objects
returns-clause-objects c = λ doc is.
    let found = c.args.parts.now.properties in
    let past : length found ≤ c.loop-property.property = omega (arith, c.loop-property-test.false, c.properties-property-end.ensures) in
    subst (λ (all : List Object). ShowsObjects all c.loop-property.case) (walked_all doc c.args.parts.now is c.loop-property.property past) c.loop-property.invariant.0
