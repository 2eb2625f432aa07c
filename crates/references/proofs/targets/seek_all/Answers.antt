use Rattle.std.proofs.Common.{◌≡◌, ◌+◌, ◌-◌, ◌≤◌, Some, length, refl, sym, ap, arith, ◌∙◌}
use Rattle.std.proofs.lemmas.Option.{get_or_from_slice_get, slice_get_within}
use Rattle.std.specs.Prelude.{slice_get}
use Rattle.doc_spans.specs.declared.documents.NodeId.{NodeId}
use Rattle.signature_elements.specs.Standing.{spot_of, IsThere}
use Rattle.references.specs.declared.targets.Sought.{Sought}
use Rattle.references.specs.Found.{IsSought}
use Rattle.references.proofs.Building.{building_on, building_ends, as_many}
use Rattle.references.proofs.Numbered.{all_get}
use Rattle.references.proofs.targets.seek_all.Goals as goal

pub loop-number-preserved : goal.loop-number-preserved
loop-number-preserved c =
    let doc = c.args.doc in
    let nodes = c.args.parts.now.references in
    let number = c.loop-number.number in
    let node = c.reference_node-node.result in
    let same : number + 1 - 1 ≡ number = omega arith in
    let at : slice_get nodes number ≡ Some node = ap (slice_get nodes) (sym same) ∙ c.reference_node-node.ensures in
    let sought : Sought = record { node = node; place = c.in_ok-place.place } in
    let sound : IsSought doc sought = record {
      there = all_get (IsThere doc) nodes number node c.requires.references.there at;
      found_is = c.in_ok-place.ensures.found;
      has_place = c.in_ok-place.ensures.has;
    } in
    building_on (IsSought doc) (λ (n : NodeId). spot_of doc n) (λ (s : Sought). spot_of doc s.node) nodes number c.loop-number.all.items _ node sought
    (slice_get_within nodes number node at) (sym (get_or_from_slice_get nodes number node node at)) c.in-Ok-push.ensures.items refl sound c.loop-number.invariant

pub returns : goal.returns
returns c =
    let doc = c.args.doc in
    let nodes = c.args.parts.now.references in
    let number = c.loop-number.number in
    let past : length nodes ≤ number = omega (arith, c.in-Ok.ensures, c.references.ensures) in
    let same = building_ends (IsSought doc) (λ (n : NodeId). spot_of doc n) (λ (s : Sought). spot_of doc s.node) nodes number c.loop-number.all.items past c.loop-number.invariant in
    let many = as_many (λ (n : NodeId). spot_of doc n) (λ (s : Sought). spot_of doc s.node) nodes c.loop-number.all.items same in
    record {
      same = same ∙ c.requires.references.are;
      each = c.loop-number.invariant.each;
      few = omega (arith, many, c.in-Ok.ensures, c.references.ensures);
    }
