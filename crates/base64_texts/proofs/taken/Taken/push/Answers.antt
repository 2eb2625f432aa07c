use Rattle.std.proofs.Common.{ℕ, List, ◌++◌, ◌∷◌, [], ap, ◌∙◌}
use Rattle.base64_texts.specs.declared.stages.Stage.TheVariants.{Start}
use Rattle.base64_texts.specs.Stages.{after_all, is_open}
use Rattle.base64_texts.proofs.Groups.{full_block}
use Rattle.base64_texts.proofs.taken.Taken.push.Goals as goal

pub make_room-requires-clause-whole : goal.make_room-requires-clause-whole
make_room-requires-clause-whole c = λ full.
    let inside = c.self.inside in
    full_block inside.octets inside.block inside.filled c.args.octet c.self.invariant.bytes c.self.invariant.groups c.self.told full
    (ap (λ (x : List ℕ). is_open (after_all Start (x ++ c.args.octet ∷ []))) c.self.view_is ∙ c.requires)
