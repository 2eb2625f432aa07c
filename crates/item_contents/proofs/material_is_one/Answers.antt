use Rattle.item_contents.proofs.OneMaterial.{material_is_one}
use Rattle.item_contents.proofs.material_is_one.Goals as goal

pub returns : goal.returns
returns c = material_is_one
