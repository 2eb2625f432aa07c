use Rattle.std.proofs.Common.{◌∙◌, sym}
use Rattle.base64_texts.proofs.Pushed.{scan_fault}
use Rattle.base64_texts.proofs.scanner.Scanner.fault.Goals as goal

pub returns : goal.returns
returns c text is = scan_fault c.args.self.now text is (sym (c.is_strict.ensures text is) ∙ c.if-is_strict.false)
