use Rattle.std.proofs.Common.{refl, codes}
use Rattle.signature_model.specs.Holding.{without_attribute}
use Rattle.signature_parts.proofs.Adding.{adds_first, adds_by}
use Rattle.signature_elements.proofs.AsciiNames.{word}
use Rattle.outer_lines.proofs.method.method_line.Goals as goal

pub returns : goal.returns
returns c =
    adds_first c.args.doc _ _ _ c.none-places.ensures
    (adds_by without_attribute c.args.doc _ _ _ _ _ _ (word (codes "Algorithm") refl) c.signature_method.ensures c.add_without_attribute.ensures)
