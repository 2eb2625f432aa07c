use Rattle.std.proofs.Common.{ℕ, List, take, ap, sym, ◌∙◌}
use Rattle.signature_model.specs.Base64.{strict}
use Rattle.base64_texts.specs.declared.stages.Stage.TheVariants.{Start}
use Rattle.base64_texts.specs.Stages.{after_all, is_whole}
use Rattle.base64_texts.proofs.Groups.{whole_block, strict_blocks}
use Rattle.base64_texts.proofs.taken.Taken.finish.Goals as goal

pub append_decoded-requires-clause-whole : goal.append_decoded-requires-clause-whole
append_decoded-requires-clause-whole c =
    let inside = c.self.inside in
    whole_block inside.octets (take inside.filled inside.block) c.self.invariant.bytes c.self.invariant.groups (ap (λ (x : List ℕ). is_whole (after_all Start x)) c.self.view_is ∙ c.requires)

pub returns : goal.returns
returns c =
    let inside = c.self.inside in
    ap strict (sym c.self.view_is) ∙ strict_blocks inside.octets (take inside.filled inside.block) c.append_decoded.new.octets c.self.invariant.bytes c.self.invariant.groups c.in_ok-append_decoded.ensures.ok
