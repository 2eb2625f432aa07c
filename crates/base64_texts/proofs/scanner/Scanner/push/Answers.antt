use Rattle.std.proofs.Common.{List, ℕ, ◌∙◌, ap}
use Rattle.base64_texts.specs.Scans.{scan_on}
use Rattle.base64_texts.proofs.Pushed.{scan_chars}
use Rattle.base64_texts.proofs.scanner.Scanner.push.Goals as goal

pub returns : goal.returns
returns c = c.push_octets.ensures ∙ ap (λ (x : List ℕ). scan_on c.args.self.now x) c.as_bytes.ensures.value ∙ scan_chars c.args.self.now c.args.text.now c.utf8.text
