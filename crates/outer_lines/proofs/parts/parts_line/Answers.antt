use Rattle.doc_spans.specs.Seen.{document_in}
use Rattle.signature_model.specs.Holding.{misfits}
use Rattle.signature_parts.proofs.Adding.{adds_more, adds_first, adds_by, part_of}
use Rattle.outer_lines.proofs.parts.parts_line.Goals as goal

pub returns : goal.returns
returns c =
    let doc = c.args.doc in
    let misplaced = adds_by (misfits (document_in doc)) doc _ _ _ _ _ _ c.children.ensures (part_of doc c.args.signature c.requires) c.add_misfits.ensures in
    adds_first doc _ _ _ c.none-places.ensures (adds_more doc _ _ _ _ _ c.add_with_stray_text.ensures misplaced)
