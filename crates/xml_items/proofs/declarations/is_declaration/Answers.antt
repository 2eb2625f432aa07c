use Rattle.std.proofs.Common.{◌∙◌, ◌&&◌, sym, ap}
use Rattle.std.specs.Str.{chars}
use Rattle.document_model.specs.Items.{is_encoded}
use Rattle.xml_items.specs.Pairs.{pair_in, passes_pairs}
use Rattle.xml_items.proofs.AsciiTexts.{empty_chars}
use Rattle.xml_items.proofs.Declared.{version_first, no_version}
use Rattle.xml_items.proofs.declarations.is_declaration.Goals as goal

pub returns-then-is_empty : goal.returns-then-is_empty
returns-then-is_empty c = sym
    (no_version (chars c.args.text.now) (chars c.without_space_behind-trimmed.result.now) c.without_space_behind-trimmed.ensures.front
    (empty_chars c.without_space_behind-trimmed.result.now c.without_space_behind-trimmed.utf8 ∙ sym c.is_empty.ensures ∙ c.if-is_empty.true))

pub returns-then-tells_version : goal.returns-then-tells_version
returns-then-tells_version c =
    c.is_encoded.ensures ∙ ap (λ b. b && passes_pairs is_encoded 2 (chars c.in-Some.rest.now)) c.if-tells_version.ensures
    ∙ version_first (chars c.args.text.now) (chars c.in-Some.rest.now) (pair_in c.in-Some.pair) (chars c.without_space_behind-trimmed.result.now) c.without_space_behind-trimmed.ensures.front
    (empty_chars c.without_space_behind-trimmed.result.now c.without_space_behind-trimmed.utf8 ∙ sym c.is_empty.ensures ∙ c.if-is_empty.false) c.in-Some.ensures.pair
