use Rattle.std.proofs.Common.{ℕ, ◌∙◌, ap, inl, inr}
use Rattle.std.proofs.lemmas.Bool.{cases_lt}
use Rattle.base64_texts.specs.Scans.{scan}
use Rattle.base64_texts.proofs.Pushed.{scan_other}
use Rattle.base64_texts.proofs.scanner.Scanner.push_char.Goals as goal

pub returns : goal.returns
returns c = c.after.ensures ∙ elim (cases_lt c.args.c 128) [
  | inl low ↦ ap (λ (x : ℕ). scan c.args.self.now x) (c.octet_for.ensures.ascii low)
  | inr high ↦ scan_other c.args.self.now c.octet_for.result c.args.c (c.octet_for.ensures.other high) high
]
