use Rattle.std.proofs.Common.{◌≡◌, ◌+◌, ◌-◌, sym, ◌∙◌, arith}
use Rattle.doc_spans.specs.Seen.{document_in}
use Rattle.signature_elements.specs.Standing.{spot_of}
use Rattle.references.specs.RefsOf.{references_in}
use Rattle.references.proofs.Covers.{covering_found, covering_on}
use Rattle.references.proofs.Numbered.{spot_numbered}
use Rattle.references.proofs.covering.self_cover.Goals as goal

pub returns-then-covers_place : goal.returns-then-covers_place
returns-then-covers_place c =
    let doc = c.args.doc in
    let signature = c.args.parts.now.signature in
    let number = c.loop-number.number in
    let same : number + 1 - 1 ≡ number = omega arith in
    sym (covering_found (document_in doc) (spot_of doc signature) (references_in doc signature) number (spot_of doc c.reference.result.node)
    (spot_numbered doc c.args.refs.now signature number (number + 1 - 1) c.reference.result c.requires.refs.are c.requires.refs.signature same c.reference.ensures)
    (sym c.covers_place.ensures ∙ c.if-covers_place.true) c.loop-number.invariant)

pub loop-number-preserved : goal.loop-number-preserved
loop-number-preserved c =
    let doc = c.args.doc in
    let signature = c.args.parts.now.signature in
    let number = c.loop-number.number in
    let same : number + 1 - 1 ≡ number = omega arith in
    covering_on (document_in doc) (spot_of doc signature) (references_in doc signature) number (spot_of doc c.reference.result.node)
    (spot_numbered doc c.args.refs.now signature number (number + 1 - 1) c.reference.result c.requires.refs.are c.requires.refs.signature same c.reference.ensures)
    (sym c.covers_place.ensures ∙ c.if-covers_place.false) c.loop-number.invariant
