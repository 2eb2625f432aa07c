use Rattle.item_contents.proofs.MaterialElements.{material_is_elements}
use Rattle.item_contents.proofs.material_is_elements.Goals as goal

pub returns : goal.returns
returns c = material_is_elements
