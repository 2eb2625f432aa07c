use Rattle.std.proofs.Common.{◌++◌, ◌∙◌, sym, ap}
use Rattle.signature_model.specs.Fragments.{written_octets}
use Rattle.signature_drafts.specs.Standing.{properties_standing}
use Rattle.signature_drafts.specs.declared.standing.Standing.TheVariants.{Alone}
use Rattle.signature_drafts.proofs.AloneTexts.{alone_octets}
use Rattle.signature_drafts.proofs.properties.properties_text.Goals as goal

pub returns : goal.returns
returns c = λ digest same.
    c.in_ok-put_properties.ensures ∙ ap (λ x. x ++ written_octets (properties_standing Alone c.as_slice.result.now c.args.draft.now)) c.new-octets.ensures ∙ ap (λ x. written_octets (properties_standing Alone x c.args.draft.now)) (c.as_slice.ensures.value ∙ sym same) ∙ sym (alone_octets digest c.args.draft.now)
