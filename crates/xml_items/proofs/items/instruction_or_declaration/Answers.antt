use Rattle.std.proofs.Common.{◌++◌, ◌∙◌, sym, ap, codes, option_and_then}
use Rattle.std.specs.Str.{chars}
use Rattle.document_model.specs.Characters.{between}
use Rattle.document_model.specs.Items.{instruction_of}
use Rattle.xml_items.proofs.Stands.{front_stands, last_stands}
use Rattle.xml_items.proofs.Declared.{xml_declared, or_second}
use Rattle.xml_items.proofs.items.instruction_or_declaration.Goals as goal

pub returns-then-is_xml_declaration-clause-item : goal.returns-then-is_xml_declaration-clause-item
returns-then-is_xml_declaration-clause-item c = xml_declared (between (codes "<?xml") (codes "?>") (chars c.args.text.now)) _ (sym c.if-is_xml_declaration.ensures)

pub returns-in-Some-instruction-clause-item : goal.returns-in-Some-instruction-clause-item
returns-in-Some-instruction-clause-item c =
    or_second _ _ (sym c.if-is_xml_declaration.ensures) ∙ ap (option_and_then instruction_of) c.in-Some.ensures.inside ∙ c.in-Some-instruction.ensures.item

pub returns-in-Some-instruction-clause-placed : goal.returns-in-Some-instruction-clause-placed
returns-in-Some-instruction-clause-placed c =
    let parts = c.in-Some-instruction.ensures.placed in (
      front_stands (codes "<?") (codes "?>") c.in-Some.inside.now c.args.text.now c.in-Some.ensures.placed c.in-Some-instruction.target.now (parts.0 ++ c.in-Some-instruction.content.now) parts.1,
      last_stands (codes "<?") (codes "?>") c.in-Some.inside.now c.args.text.now c.in-Some.ensures.placed c.in-Some-instruction.target.now parts.0 c.in-Some-instruction.content.now parts.1,
    )
