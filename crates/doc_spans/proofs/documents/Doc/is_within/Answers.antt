use Rattle.std.proofs.Common.{sym, ◌∙◌, ap}
use Rattle.std.specs.Cmp.Lexicographic.{same_text}
use Rattle.document_model.specs.NodeSets.{is_within}
use Rattle.doc_spans.specs.Seen.{path_in}
use Rattle.doc_spans.proofs.Within.{within_same, within_outer, within_none, node_path, parent_nearer}
use Rattle.doc_spans.proofs.documents.Doc.is_within.Goals as goal

pub returns-then-is_same : goal.returns-then-is_same
returns-then-is_same c =
    let top = path_in c.args.self c.args.top in
    let at = path_in c.args.self c.outward.at in
    sym (c.outward.invariant.1 ∙ within_same top at (same_text top at c.if-is_same.ensures))

pub outward-smaller : goal.outward-smaller
outward-smaller c = parent_nearer c.args.self c.outward.at c.in-Some.parent c.outward.invariant.0 c.in-Some.ensures.some.1

pub outward-preserved : goal.outward-preserved
outward-preserved c =
    let top = path_in c.args.self c.args.top in (
      c.in-Some.ensures.some.0,
      c.outward.invariant.1 ∙ within_outer top (path_in c.args.self c.outward.at) (sym c.if-is_same.ensures) ∙ ap (is_within top) (sym c.in-Some.ensures.some.1),
    )

pub returns-in-None : goal.returns-in-None
returns-in-None c =
    let top = path_in c.args.self c.args.top in
    sym (c.outward.invariant.1
    ∙ within_none top (path_in c.args.self c.outward.at) (node_path c.args.self c.args.top c.requires.top) (sym c.if-is_same.ensures) c.in-None.ensures.none)
