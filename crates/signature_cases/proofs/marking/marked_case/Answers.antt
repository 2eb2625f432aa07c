use Rattle.std.proofs.Common.{◌≡◌, ◌≤◌, ◌+◌, ℕ, List, [], length, subst, sym, ap, ◌∙◌, arith}
use Rattle.std.proofs.lemmas.List.{length-map}
use Rattle.acceptance.specs.Certificates.{Part}
use Rattle.signature_objects.specs.Objects.{Object, with_objects}
use Rattle.signature_objects.proofs.Numbered.{property_more}
use Rattle.signature_evidence.specs.Pools.{part_of}
use Rattle.case_steps.specs.Built.{ShowsObjects}
use Rattle.case_objects.specs.Walks.{front_objects}
use Rattle.case_objects.proofs.Walked.{walked_all, walked_on}
use Rattle.signature_cases.proofs.Marks.{MarksTo, marks_end, marks_on, read_to}
use Rattle.signature_cases.proofs.marking.marked_case.Goals as goal

pub loop-property-preserved : goal.loop-property-preserved
loop-property-preserved c =
    let parts = c.args.parts.now in
    let number = c.loop-property.property in
    let here = property_more parts.properties number (omega (arith, c.loop-property-test.true, c.properties-property-end.ensures)) in
    let s = c.loop-property.invariant.0 in
    let many : c.objects.result ≡ length (read_to parts number) =
    c.objects.ensures ∙ ap (λ (pool : List Part). length pool) (c.pool.ensures ∙ s.pool) ∙ length-map (read_to parts number) part_of in (
      subst (λ (all : List Object). ShowsObjects all c.add_property.new.case) (walked_on (with_objects [] (front_objects parts)) parts.properties number here.0 here.1)
          (c.in_ok-add_property.ensures.objects here.0 here.1 (read_to parts number) s),
      c.in_ok-add_property.ensures.stamps ∙ c.loop-property.invariant.1,
      subst (λ (marks : List ℕ). MarksTo parts (number + 1) marks) (sym {A = List ℕ} c.in-Ok.ensures.items)
          (marks_on parts number c.objects.result c.loop-property.marks.items many c.loop-property.invariant.2),
    )

pub returns-clause-shows : goal.returns-clause-shows
returns-clause-shows c = λ doc is.
    let parts = c.args.parts.now in
    let past : length parts.properties ≤ c.loop-property.property = omega (arith, c.loop-property-test.false, c.properties-property-end.ensures) in (
      subst (λ (all : List Object). ShowsObjects all c.loop-property.case) (walked_all doc parts is c.loop-property.property past) c.loop-property.invariant.0,
      marks_end doc parts is c.loop-property.property c.loop-property.marks.items past c.loop-property.invariant.2,
    )
