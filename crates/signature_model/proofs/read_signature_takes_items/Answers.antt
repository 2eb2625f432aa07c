use Rattle.signature_model.proofs.ReadTakes.{read_takes_item}
use Rattle.signature_model.proofs.read_signature_takes_items.Goals as goal

pub returns : goal.returns
returns c = read_takes_item
