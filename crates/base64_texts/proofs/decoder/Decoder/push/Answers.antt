use Rattle.std.proofs.Common.{List, ℕ, ◌∙◌, ap}
use Rattle.std.proofs.lemmas.Result.{on_ok_weaker}
use Rattle.base64_texts.specs.Readings.{read_on}
use Rattle.base64_texts.proofs.Pushed.{read_chars}
use Rattle.base64_texts.proofs.decoder.Decoder.push.Goals as goal

pub returns-clause-ok : goal.returns-clause-ok
returns-clause-ok c =
    on_ok_weaker c.push_octets.result
    (λ d. d ∙ ap (λ (x : List ℕ). read_on c.args.self.now x) c.as_bytes.ensures.value ∙ read_chars c.args.self.now c.args.text.now c.utf8.text) c.push_octets.ensures.ok
