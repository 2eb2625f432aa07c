use Rattle.doc_spans.specs.Seen.{path_in}
use Rattle.doc_spans.proofs.Elements.{child_of}
use Rattle.xml_tests.proofs.sets.below.Goals as goal

pub returns : goal.returns
returns c =
    let path = path_in c.args.doc c.root.result in
    let first = child_of c.args.doc path 0 _ _ c.in_ok-first.first c.in_ok-first.ensures.steps c.children-children.ensures in
    let second = child_of c.args.doc path 1 _ _ c.in_ok-second.second c.in_ok-second.ensures.steps first.later in
    let third = child_of c.args.doc path 2 _ _ c.in_ok-third.third c.in_ok-third.ensures.steps second.later in
    (first.within, second.within, third.within)
