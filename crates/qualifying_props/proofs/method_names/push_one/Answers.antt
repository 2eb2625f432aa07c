use lib.Utf8.{scalars}
use Rattle.std.proofs.Common.{◌≡◌, ◌&&◌, true, ◌∷◌, ◌++◌, [], sym, ap, ◌∙◌}
use Rattle.std.proofs.lemmas.List.{append-nil}
use Rattle.std.proofs.lemmas.Str.{chars-append, chars-encodes}
use Rattle.std.specs.Str.{chars}
use Rattle.std.specs.Prelude.{encode_utf8}
use Rattle.doc_spans.proofs.NodeTexts.{from_seen}
use Rattle.qualifying_props.proofs.method_names.push_one.Goals as goal

pub returns-in-Ok : goal.returns-in-Ok
returns-in-Ok c =
    let one = c.args.c ∷ [] in
    let scalar : scalars one ≡ true = ap (λ b. b && true) c.ranges.c.0 in
    from_seen _ _ c.args.text.now.ok (λ u. ap chars c.in-Ok.ensures.bytes ∙ chars-append c.args.text.now.bytes.items (encode_utf8 c.args.c) u
    ∙ ap (λ cs. chars c.args.text.now.bytes.items ++ cs) (sym (ap chars (append-nil (encode_utf8 c.args.c))) ∙ chars-encodes one scalar))
