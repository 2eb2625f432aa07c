use Rattle.std.proofs.Common.{ap, ◌∙◌}
use Rattle.std.proofs.lemmas.Str.{chars-append}
use Rattle.std.specs.Str.{chars}
use Rattle.doc_spans.proofs.NodeTexts.{from_seen}
use Rattle.qualifying_props.proofs.method_names.push_run.Goals as goal

pub returns-in-Ok : goal.returns-in-Ok
returns-in-Ok c = from_seen _ _ c.args.text.now.ok (λ u. ap chars c.in-Ok.ensures.bytes ∙ chars-append c.args.text.now.bytes.items c.args.run.now u)
