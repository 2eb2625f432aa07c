use Rattle.std.proofs.Common.{[], sym, ◌∙◌}
use Rattle.doc_spans.specs.Seen.{document_in}
use Rattle.signature_elements.specs.Standing.{spot_of}
use Rattle.signature_objects.specs.Held.{objects}
use Rattle.signature_cases.proofs.building.build.Goals as goal

pub returns : goal.returns
returns c =
    let doc = c.args.doc in
    let before = c.in_ok-marked.ensures.shows doc c.requires.parts in
    let shows = c.in_ok-add_material.ensures.objects (objects (document_in doc) (spot_of doc c.args.parts.now.signature) []) before.0 in (
      sym (c.is_small.ensures doc c.args.more.now c.requires.parts shows) ∙ c.if-not-is_small.false,
      c.in_ok-built.ensures c.args.more.now shows,
    )
