use Rattle.std.proofs.Common.{◌∙◌, sym, ap}
use Rattle.std.specs.Str.{chars}
use Rattle.std.proofs.lemmas.Str.{chars-nil}
use Rattle.document_model.specs.Names.{Name}
use Rattle.xml_items.proofs.AsciiTexts.{chars_empty}
use Rattle.xml_items.proofs.NameTexts.{name_alone}
use Rattle.xml_items.proofs.names.name_parts.Goals as goal

pub returns-in-None-clause-prefix : goal.returns-in-None-clause-prefix
returns-in-None-clause-prefix c =
    ap (λ (n : Name). n.prefix) (name_alone (chars c.args.name.now) (chars c.front.result.0.now) (chars c.front.result.1.now) c.front.ensures.split (chars_empty c.front.result.1.now c.in-None.ensures.chars) c.requires)
    ∙ sym chars-nil

pub returns-in-None-clause-local : goal.returns-in-None-clause-local
returns-in-None-clause-local c =
    ap (λ (n : Name). n.local) (name_alone (chars c.args.name.now) (chars c.front.result.0.now) (chars c.front.result.1.now) c.front.ensures.split (chars_empty c.front.result.1.now c.in-None.ensures.chars) c.requires)
