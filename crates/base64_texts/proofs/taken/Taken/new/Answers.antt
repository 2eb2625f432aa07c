use Rattle.std.proofs.Common.{[], ◌∙◌}
use Rattle.std.proofs.lemmas.List.{append-nil}
use Rattle.base64_texts.specs.Spelling.{spelled}
use Rattle.base64_texts.proofs.Whole.{spelled-nil}
use Rattle.base64_texts.proofs.taken.Taken.new.Goals as goal

pub returns : goal.returns
returns c = rw c.new.ensures (append-nil (spelled []) ∙ spelled-nil)
