use Rattle.std.proofs.Common.{◌∙◌, ap, string_bytes}
use Rattle.std.proofs.lemmas.Str.{chars-append}
use Rattle.std.specs.Str.{chars}
use Rattle.doc_spans.proofs.NodeTexts.{from_seen}
use Rattle.node_index.proofs.texts.push_run.Goals as goal

pub returns-in-Ok : goal.returns-in-Ok
returns-in-Ok c = from_seen _ _ c.args.text.now.ok (λ u. ap chars c.in-Ok.ensures.bytes ∙ chars-append (string_bytes c.args.text.now) c.args.run.now u)
