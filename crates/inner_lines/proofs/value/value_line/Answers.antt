use Rattle.std.proofs.Common.{ap}
use Rattle.doc_spans.specs.Seen.{document_in}
use Rattle.signature_model.specs.Holding.{without_octets}
use Rattle.signature_parts.proofs.AnyOrder.{alike_as}
use Rattle.signature_parts.proofs.FromNone.{first_of_all}
use Rattle.inner_lines.proofs.value.value_line.Goals as goal

pub returns : goal.returns
returns c = first_of_all c.args.doc _ _ _ _ c.none-place.ensures (alike_as _ _ (ap (without_octets (document_in c.args.doc)) c.value.ensures.spot)) c.add_without_octets.ensures
