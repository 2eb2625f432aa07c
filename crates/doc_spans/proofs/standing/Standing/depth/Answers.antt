use Rattle.std.proofs.Common.{arith}
use Rattle.doc_spans.proofs.Tags.{tags_length}
use Rattle.doc_spans.proofs.standing.Standing.depth.Goals as goal

pub returns : goal.returns
returns c = omega (arith, tags_length c.args.self.now.open.tags.items)
