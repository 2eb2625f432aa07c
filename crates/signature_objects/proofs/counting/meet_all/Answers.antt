use Rattle.std.proofs.Common.{sym, ap, ◌∙◌, [], drop, ◌+◌, List, ℕ, arith}
use Rattle.std.specs.Prelude.{flat_map}
use Rattle.signature_objects.specs.Met.{bytes_in, with_all}
use Rattle.signature_objects.proofs.Counted.{with_all-append}
use Rattle.signature_objects.proofs.Numbered.{property_more}
use Rattle.signature_objects.proofs.counting.meet_all.Goals as goal

pub loop-property-init : goal.loop-property-init
loop-property-init c = λ start. (
  with_all [] c.args.parts.now.key_certs,
  c.in_ok-meet_key_certs.ensures [] start,
  sym (with_all-append [] c.args.parts.now.key_certs (flat_map bytes_in c.args.parts.now.properties)),
)

pub loop-property-preserved : goal.loop-property-preserved
loop-property-preserved c = λ start.
    let so_far = c.loop-property.invariant start in
    let more = property_more c.args.parts.now.properties c.loop-property.property (omega (arith, c.loop-property-test.true, c.properties-property-end.ensures)) in
    let rest : List (List ℕ) = flat_map bytes_in (drop (c.loop-property.property + 1) c.args.parts.now.properties) in (
      with_all so_far.0 (bytes_in more.0),
      c.in_ok-meet_property.ensures more.0 more.1 so_far.0 so_far.1,
      sym (with_all-append so_far.0 (bytes_in more.0) rest) ∙ ap (with_all so_far.0) (sym more.2) ∙ so_far.2,
    )
