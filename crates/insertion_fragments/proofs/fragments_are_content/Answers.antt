use Rattle.insertion_fragments.proofs.WrittenNodes.{are_content}
use Rattle.insertion_fragments.proofs.fragments_are_content.Goals as goal

pub returns : goal.returns
returns c = are_content
