use Rattle.std.proofs.Common.{None, refl, codes, ap, ◌∙◌}
use Rattle.std.specs.Prelude.{option_and_then}
use Rattle.signature_model.specs.Vocabulary.{digest_named}
use Rattle.signature_elements.specs.Standing.{spot_of}
use Rattle.signature_elements.proofs.AsciiNames.{attribute_as}
use Rattle.signature_elements.proofs.digest_methods.digest_kind.Goals as goal

pub returns-in-Some : goal.returns-in-Some
returns-in-Some c =
    c.digest_named.ensures ∙ ap (option_and_then digest_named) (attribute_as (spot_of c.args.doc c.args.method) (codes "Algorithm") _ refl c.in-Some.ensures)

pub returns-in-None : goal.returns-in-None
returns-in-None c = ap (option_and_then digest_named) (attribute_as (spot_of c.args.doc c.args.method) (codes "Algorithm") None refl c.in-None.ensures)
