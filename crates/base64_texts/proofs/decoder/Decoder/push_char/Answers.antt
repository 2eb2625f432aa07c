use Rattle.std.proofs.Common.{ℕ, ◌≡◌, ◌∙◌, ap, inl, inr}
use Rattle.std.proofs.lemmas.Bool.{cases_lt}
use Rattle.std.proofs.lemmas.Result.{on_ok_weaker}
use Rattle.base64_texts.specs.Readings.{read}
use Rattle.base64_texts.proofs.Pushed.{read_other}
use Rattle.base64_texts.proofs.decoder.Decoder.push_char.Goals as goal

pub returns-clause-ok : goal.returns-clause-ok
returns-clause-ok c =
    let same : read c.args.self.now c.octet_for.result ≡ read c.args.self.now c.args.c = elim (cases_lt c.args.c 128) [
      | inl low ↦ ap (λ (x : ℕ). read c.args.self.now x) (c.octet_for.ensures.ascii low)
      | inr high ↦ read_other c.args.self.now c.octet_for.result c.args.c (c.octet_for.ensures.other high) high
    ] in
    on_ok_weaker c.push_octet.result (λ d. d ∙ same) c.push_octet.ensures.ok
