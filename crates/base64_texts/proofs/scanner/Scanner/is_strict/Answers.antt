use Rattle.std.proofs.Common.{◌∙◌}
use Rattle.base64_texts.proofs.Pushed.{scan_strict}
use Rattle.base64_texts.proofs.scanner.Scanner.is_strict.Goals as goal

pub returns : goal.returns
returns c text is = c.is_whole.ensures ∙ scan_strict c.args.self.now text is
