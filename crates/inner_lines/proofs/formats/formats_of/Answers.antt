use Rattle.std.proofs.Common.{refl, ◌∙◌, ap, codes}
use Rattle.std.specs.Str.{chars}
use Rattle.doc_spans.specs.Pieces.{characters_left}
use Rattle.signature_elements.specs.Standing.{spot_of}
use Rattle.inner_lines.specs.DataObjects.{seen_in}
use Rattle.inner_lines.proofs.FormatLists.{formats_by_id, no_formats}
use Rattle.signature_elements.proofs.AsciiNames.{attribute_as}
use Rattle.inner_lines.proofs.formats.formats_of.Goals as goal

pub returns-in_ok-uri-in-Some-clause-seen : goal.returns-in_ok-uri-in-Some-clause-seen
returns-in_ok-uri-in-Some-clause-seen c = λ all of.
    let reference = spot_of c.args.doc c.args.reference in
    let id = attribute_as reference (codes "Id") _ refl c.in-Some.ensures in
    ap (seen_in c.args.doc) c.find.ensures
    ∙ formats_by_id c.args.doc reference (characters_left c.in-Some.id) c.as_str.result.now all c.args.formats.now c.as_str.utf8 (ap chars c.as_str.ensures.value ∙ c.in_ok-uri-in-Some.ensures) id of

pub returns-in-None : goal.returns-in-None
returns-in-None c = record {
  seen = λ all of. no_formats (spot_of c.args.doc c.args.reference) all (attribute_as (spot_of c.args.doc c.args.reference) (codes "Id") _ refl c.in-None.ensures);
  there = λ all of. tt;
}
