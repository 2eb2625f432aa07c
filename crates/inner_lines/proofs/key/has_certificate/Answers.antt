use Rattle.std.proofs.Common.{refl, sym, ◌∙◌, codes}
use Rattle.doc_spans.specs.Seen.{document_in}
use Rattle.signature_model.specs.Spots.{called}
use Rattle.signature_model.specs.Vocabulary.{ds}
use Rattle.signature_elements.specs.Standing.{spot_of}
use Rattle.signature_elements.proofs.Laws.{next_spot}
use Rattle.signature_parts.specs.ListsLeft.{named_doc, named_left}
use Rattle.signature_parts.proofs.Named.{ds_name, has_called}
use Rattle.inner_lines.proofs.NoneLeft.{none_in, some_in, nothing_in}
use Rattle.inner_lines.proofs.key.has_certificate.Goals as goal

pub first_called-requires : goal.first_called-requires
first_called-requires c =
    let next = next_spot named_doc named_left c.args.doc c.loop-holder.holder-iterator c.next.new.self c.in-Some.holder c.loop-holder.invariant.2 c.in-Some.ensures.steps in
    next.there.0

pub loop-holder-preserved : goal.loop-holder-preserved
loop-holder-preserved c =
    let next = next_spot named_doc named_left c.args.doc c.loop-holder.holder-iterator c.next.new.self c.in-Some.holder c.loop-holder.invariant.2 c.in-Some.ensures.steps in
    let name = ds (codes "X509Certificate") in
    let found = has_called c.args.doc _ name (spot_of c.args.doc c.in-Some.holder) _ (ds_name _ (codes "X509Certificate") refl c.ds.ensures) c.first_called.ensures.spot in
    (tt, tt, next.doc_is, none_in (called (document_in c.args.doc) name) _ _ _ _ next.spots (sym (c.is_some.ensures ∙ found) ∙ c.if-is_some.false) c.loop-holder.invariant.3)

pub returns-then-is_some : goal.returns-then-is_some
returns-then-is_some c =
    let next = next_spot named_doc named_left c.args.doc c.loop-holder.holder-iterator c.next.new.self c.in-Some.holder c.loop-holder.invariant.2 c.in-Some.ensures.steps in
    let name = ds (codes "X509Certificate") in
    let found = has_called c.args.doc _ name (spot_of c.args.doc c.in-Some.holder) _ (ds_name _ (codes "X509Certificate") refl c.ds.ensures) c.first_called.ensures.spot in
    some_in (called (document_in c.args.doc) name) _ _ _ _ next.spots (sym (c.is_some.ensures ∙ found) ∙ c.if-is_some.true) c.loop-holder.invariant.3

pub returns : goal.returns
returns c = nothing_in (called (document_in c.args.doc) (ds (codes "X509Certificate"))) _ _ c.in-None.ensures.steps.1.0 c.loop-holder.invariant.3
