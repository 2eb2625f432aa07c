use Rattle.std.proofs.Common.{◌+◌, ◌≤◌, ℕ, List, ◌∷◌, drop, length, map, sym, ap, subst, ◌∙◌, arith}
use Rattle.std.proofs.lemmas.List.{drop_all}
use Rattle.der_values.specs.Elements.{elements}
use Rattle.der_values.proofs.Steps.{elements_nil}
use Rattle.signature_objects.specs.Objects.{Object}
use Rattle.signature_evidence.specs.Material.{material_of, object_of}
use Rattle.case_steps.specs.Putting as putting
use Rattle.case_objects.proofs.Added.{Adds, adds_ends, adds_on, adds_starts}
use Rattle.signature_cases.proofs.Parting.{Left, adds_next, left_starts, next, not_bad, part_whole, read_same}
use Rattle.signature_cases.proofs.material.add_material.Goals as goal

pub loop-at-init : goal.loop-at-init
loop-at-init c = (left_starts c.args.bytes.now c.requires, adds_starts (material_of c.args.bytes.now) c.args.case.now)

pub unreachable-requires : goal.unreachable-requires
unreachable-requires c =
    let bytes = c.args.bytes.now in
    let at = c.loop-at.at in
    not_bad bytes at _ (next bytes at c.loop-at-test.true c.loop-at.invariant.0) c.in-Err.ensures.value

pub add-requires : goal.add-requires
add-requires c = record { whole = part_whole c.in-Ok.part c.in-Ok.ensures.value.2 c.in-Ok.ensures.object }

pub loop-at-preserved : goal.loop-at-preserved
loop-at-preserved c =
    let bytes = c.args.bytes.now in
    let at = c.loop-at.at in
    let part = c.in-Ok.part in
    let here = next bytes at c.loop-at-test.true c.loop-at.invariant.0 in
    let same = read_same bytes at here part c.in-Ok.ensures.value.1 in (
      subst (λ (k : ℕ). Left bytes (at + k)) (ap length same ∙ sym c.size_of-at.ensures) here.rest,
      adds_on (putting.object_of part) (map object_of (elements (drop (at + c.size_of-at.result) bytes))) (material_of bytes) c.args.case.now c.loop-at.case c.add.new.case
          c.in_ok-add.ensures.objects c.in_ok-add.ensures.stamps
          (subst (λ (left : List Object). Adds left (material_of bytes) c.args.case.now c.loop-at.case)
          (adds_next bytes at here part c.in-Ok.ensures.value.2 same
          ∙ ap (λ (k : ℕ). putting.object_of part ∷ map object_of (elements (drop (at + k) bytes))) (sym c.size_of-at.ensures))
          c.loop-at.invariant.1),
    )

pub returns-clause-objects : goal.returns-clause-objects
returns-clause-objects c objects s =
    let bytes = c.args.bytes.now in
    let past : length bytes ≤ c.loop-at.at = omega (arith, c.loop-at-test.false) in
    adds_ends (map object_of (elements (drop c.loop-at.at bytes))) (material_of bytes) c.args.case.now c.loop-at.case
    (ap (map object_of) (ap elements (drop_all c.loop-at.at bytes past) ∙ elements_nil)) c.loop-at.invariant.1 objects s
