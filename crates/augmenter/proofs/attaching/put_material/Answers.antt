use Rattle.std.proofs.Common.{map, ◌∙◌, subst}
use Rattle.der_values.specs.Distinct.{octets}
use Rattle.item_contents.specs.Kept.{spot_in}
use Rattle.item_contents.specs.Materials.{IsMaterialFault, certificates_in, lists_in}
use Rattle.item_contents.proofs.MaterialElements.{material_is_elements}
use Rattle.item_contents.proofs.OneMaterial.{material_is_one}
use Rattle.signature_model.specs.Fragments.{Data}
use Rattle.augmenter.specs.Judging.{IsPut}
use Rattle.augmenter.proofs.attaching.put_material.Goals as goal

pub unreachable-requires : goal.unreachable-requires
unreachable-requires c =
    let bytes = c.args.octets.now in
    (material_is_one bytes).2 (certificates_in bytes) (lists_in bytes) c.in-Err-NotWhole.field-0-0 c.requires.split
    (subst (IsMaterialFault bytes) c.in-Err-NotWhole.field-0-is c.in-Err-NotWhole.ensures.err)

pub returns-in-Ok : goal.returns-in-Ok
returns-in-Ok c =
    let bytes = c.args.octets.now in
    let live = c.args.live.now in
    let same = material_is_elements bytes (map octets c.in-Ok.material.certificates.items) (map octets c.in-Ok.material.lists.items) c.in-Ok.ensures.ok in
    subst (λ item. IsPut (spot_in live.bytes live.tree c.args.parts.now.signature) item live.bytes c.put.new.live.bytes c.put.result) (c.item.ensures ∙ (λ i. Data (same.0 i) (same.1 i))) c.put.ensures
