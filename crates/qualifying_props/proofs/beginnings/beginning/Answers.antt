use Rattle.std.proofs.Common.{◌≡◌, Some, subst, ap, sym, ◌∙◌}
use Rattle.std.specs.Prelude.{Option, IfSome}
use Rattle.document_model.specs.Places.{Place}
use Rattle.doc_spans.proofs.ChildNodes.{get_there}
use Rattle.qualifying_props.proofs.FirstBytes.{begins}
use Rattle.qualifying_props.proofs.beginnings.beginning.Goals as goal

pub returns : goal.returns
returns c =
    let shown = c.args.doc.tree.now in
    let place = get_there shown.places c.args.node.0 c.requires in
    let P : Option Place → Type 0 = λ o. IfSome o (λ p. (c.span.result.start ≡ p.start) × (c.span.result.end ≡ p.end)) in
    let stands = subst P place.1 c.span.ensures in
    begins c.args.doc.bytes.now shown c.args.node.0 place.0 c.args.doc.whole place.1 ∙ ap Some (sym stands.0)
