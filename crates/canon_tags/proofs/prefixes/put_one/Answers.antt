use Rattle.std.proofs.Common.{◌∙◌, ap, ◌++◌}
use Rattle.std.specs.Prelude.{encode_utf8_all}
use Rattle.std.specs.Str.{chars}
use Rattle.document_model.specs.Canonical.{declaration_text, declared_as}
use Rattle.canon_tags.proofs.prefixes.put_one.Goals as goal

pub returns : goal.returns
returns c =
    c.in_ok-put_declaration.ensures ∙ ap (λ v. c.args.out.now ++ encode_utf8_all (declaration_text (declared_as (chars c.args.prefix.now) v))) c.space_of.ensures.value
