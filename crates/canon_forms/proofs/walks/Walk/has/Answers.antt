use Rattle.std.proofs.Common.{◌∙◌}
use Rattle.canon_forms.proofs.Walked.{has_is_holds}
use Rattle.canon_forms.proofs.walks.Walk.has.Goals as goal

pub returns : goal.returns
returns c = c.has.ensures ∙ has_is_holds c.args.self.now c.args.node c.requires
