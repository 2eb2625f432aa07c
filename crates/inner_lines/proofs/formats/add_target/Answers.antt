use Rattle.std.proofs.Common.{refl, None, codes, string_bytes}
use Rattle.signature_elements.specs.Standing.{spot_of}
use Rattle.inner_lines.proofs.FormatLists.{format_added, format_passed}
use Rattle.signature_elements.proofs.AsciiNames.{attribute_as}
use Rattle.inner_lines.proofs.formats.add_target.Goals as goal

pub returns-in_ok-add : goal.returns-in_ok-add
returns-in_ok-add c =
    format_added c.args.doc c.args.format (string_bytes c.in_ok-gathered.field-0) _ c.args.index.now c.add.new.self c.requires.format c.requires.there c.in_ok-gathered.field-0.ok c.in_ok-gathered.ensures
    (attribute_as (spot_of c.args.doc c.args.format) (codes "ObjectReference") _ refl c.in-Some.ensures) c.in_ok-add.ensures.ok

pub returns-in_default : goal.returns-in_default
returns-in_default c =
    format_passed c.args.doc c.args.format c.args.index.now c.requires.there (attribute_as (spot_of c.args.doc c.args.format) (codes "ObjectReference") None refl c.in_default.ensures)
