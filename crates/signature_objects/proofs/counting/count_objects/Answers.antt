use Rattle.std.proofs.Common.{◌∙◌}
use Rattle.signature_objects.proofs.Counted.{counted}
use Rattle.signature_objects.proofs.Gathered.{none_met}
use Rattle.signature_objects.proofs.counting.count_objects.Goals as goal

pub returns : goal.returns
returns c = λ doc is.
    let met = c.in_ok-meet_all.ensures (none_met c.new-met.result c.new-met.ensures.empty) in
    c.len.ensures.len ∙ met.many ∙ counted doc c.args.parts.now is
