use Rattle.std.proofs.Common.{◌∙◌, sym, map}
use Rattle.std.specs.Char.{to_ascii_lowercase}
use Rattle.xml_items.proofs.AsciiTexts.{lowered_same, iff_same}
use Rattle.xml_items.proofs.texts.is_lowered.Goals as goal

pub returns : goal.returns
returns c =
    let test = c.eq_ignore_ascii_case.ensures.test in
    iff_same c.eq_ignore_ascii_case.result (map to_ascii_lowercase c.args.text.now) c.args.other.now
    (λ h. test.0 h ∙ c.requires.lowered) (λ e. test.1 (e ∙ sym c.requires.lowered))
    ∙ sym (lowered_same c.args.other.now c.args.text.now c.requires.ascii c.utf8.text)
