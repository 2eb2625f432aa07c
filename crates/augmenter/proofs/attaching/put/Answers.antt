use Rattle.std.proofs.Common.{sym, ◌∙◌, ap}
use Rattle.document_model.specs.Documents.{document_of}
use Rattle.doc_spans.specs.Seen.{bytes_in}
use Rattle.item_contents.specs.Kept.{spot_in}
use Rattle.qualifying_props.specs.Whole.{is_whole}
use Rattle.signature_model.specs.Readable.{answer}
use Rattle.augmenter.specs.Items.{size_test}
use Rattle.augmenter.specs.Preparing.{is_too_large}
use Rattle.augmenter.proofs.OneItem.{counted_large, either_true, neither, not_large, too_large}
use Rattle.augmenter.proofs.Preparation.{small_is_not_large}
use Rattle.augmenter.proofs.attaching.put.Goals as goal

pub has_too_many-requires : goal.has_too_many-requires
has_too_many-requires c = (
  spot_in c.args.live.now.bytes c.args.live.now.tree c.args.parts.now.signature,
  ap (λ b. answer is_whole (document_of b)) c.doc.ensures.bytes ∙ c.in-Ok.ensures.read.is_read.read,
)

pub returns-in-Ok-true : goal.returns-in-Ok-true
returns-in-Ok-true c =
    let bytes = c.args.live.now.bytes in
    let signature = spot_in bytes c.args.live.now.tree c.args.parts.now.signature in
    let new = c.put_item.new.live.bytes in
    let many = counted_large (bytes_in c.doc.result) new signature c.in-Ok-true.field-0 _ c.doc.ensures.bytes
    (c.in-Ok-true.ensures signature (ap (λ b. answer is_whole (document_of b)) c.doc.ensures.bytes ∙ c.in-Ok.ensures.read.is_read.read)) c.in-Ok-true.field-0-test in
    sym (ap (λ b. size_test b signature) (sym c.in-Ok.ensures.bytes) ∙ too_large new signature (either_true (is_too_large new) _ many))

pub returns-in-Ok-false : goal.returns-in-Ok-false
returns-in-Ok-false c =
    let bytes = c.args.live.now.bytes in
    let signature = spot_in bytes c.args.live.now.tree c.args.parts.now.signature in
    let new = c.put_item.new.live.bytes in
    let many = counted_large (bytes_in c.doc.result) new signature c.in-Ok-false.field-0 _ c.doc.ensures.bytes
    (c.in-Ok-false.ensures signature (ap (λ b. answer is_whole (document_of b)) c.doc.ensures.bytes ∙ c.in-Ok.ensures.read.is_read.read)) c.in-Ok-false.field-0-test in (
      c.in-Ok.ensures.bytes,
      c.in-Ok.ensures.small.0,
      c.in-Ok.ensures.small.1,
      not_large new signature (neither (is_too_large new) _ (small_is_not_large new c.in-Ok.ensures.small.0 c.in-Ok.ensures.small.1) many),
    )
