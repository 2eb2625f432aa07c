use Rattle.std.proofs.Common.{IfOk, subst}
use Rattle.doc_spans.specs.Seen.{document_in}
use Rattle.doc_spans.specs.declared.documents.NodeId.{NodeId}
use Rattle.signature_model.specs.Shape.{data_object_line}
use Rattle.signature_elements.specs.Standing.{spot_of}
use Rattle.signature_parts.specs.Places.{IsFirst}
use Rattle.inner_lines.proofs.data_object.data_object_line.Goals as goal

pub returns : goal.returns
returns c =
    let P : NodeId → Type 0 = λ node. IfOk c.line_of.result (IsFirst c.args.doc (data_object_line (document_in c.args.doc) (spot_of c.args.doc node))) in
    subst P c.in_ok-objects.ensures.signature c.line_of.ensures
