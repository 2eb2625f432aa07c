use Rattle.std.proofs.Common.{[], sym, ◌∙◌, ap, string_bytes}
use Rattle.std.proofs.Math.Utf8.{encode}
use Rattle.std.proofs.lemmas.List.{append-nil}
use Rattle.std.proofs.lemmas.Str.{IsUtf8-encode}
use Rattle.std.specs.Str.{chars}
use Rattle.doc_spans.proofs.NodeTexts.{from_seen}
use Rattle.xml_items.proofs.Fronts.{chars_with_last}
use Rattle.node_index.proofs.texts.push_char.Goals as goal

pub returns-in-Ok : goal.returns-in-Ok
returns-in-Ok c =
    from_seen _ _ c.args.text.now.ok (λ u. ap chars c.in-Ok.ensures.bytes
    ∙ chars_with_last (string_bytes c.args.text.now) (encode c.args.c) [] c.args.c u (IsUtf8-encode c.args.c c.ranges.c.0) (sym (append-nil (encode c.args.c))))
