use Rattle.std.proofs.Common.{ap, sym, ◌∙◌}
use Rattle.signature_model.specs.Base64.{strict}
use Rattle.base64_texts.specs.Readings.{Reading}
use Rattle.base64_texts.proofs.Pushed.{no_octets, all_read}
use Rattle.base64_texts.proofs.decoder.Decoder.finish.Goals as goal

pub returns-then-not-is_whole-clause-decodes : goal.returns-then-not-is_whole-clause-decodes
returns-then-not-is_whole-clause-decodes c = λ text is.
    let found : Reading = record { stage = c.self.inside.stage; front = c.self.inside.taken; spent = c.self.inside.spent } in
    let none = no_octets found text (c.self.view_is ∙ is) (sym c.is_whole.ensures ∙ c.if-not-is_whole.true) in
    (none.0, c.len.ensures ∙ none.1)

pub returns-in-Ok-clause-decodes : goal.returns-in-Ok-clause-decodes
returns-in-Ok-clause-decodes c = λ text is.
    let found : Reading = record { stage = c.self.inside.stage; front = c.self.inside.taken; spent = c.self.inside.spent } in
    ap strict (sym (all_read found text (c.self.view_is ∙ is) (sym c.is_whole.ensures ∙ c.if-not-is_whole.false))) ∙ c.in-Ok.ensures
