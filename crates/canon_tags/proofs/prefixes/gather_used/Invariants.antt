use Rattle.std.proofs.Common.{◌≡◌, [], length, map}
use Rattle.xml_items.specs.Attributes.{attribute_in}
use Rattle.doc_spans.specs.Looked.{declared}
use Rattle.canon_methods.specs.Rules.{prefixes_in}
use Rattle.canon_tags.specs.Scoped.{gathered, is_rendered_anew, with_used}
use Rattle.canon_tags.specs.Texts.{texts_in}
use Rattle.canon_tags.proofs.prefixes.gather_used.Given as goal

-- what all give is what those that are left give
abbrev pub invariant-attributes : goal.invariant-attributes
invariant-attributes l =
    gathered (is_rendered_anew (prefixes_in l.prefixes) (declared l.standing.scope) (declared l.standing.written) (declared l.standing.rendered)) (with_used (map attribute_in l.rest) []) (texts_in l.found.items)
    ≡ gathered (is_rendered_anew (prefixes_in l.prefixes) (declared l.standing.scope) (declared l.standing.written) (declared l.standing.rendered)) (with_used (map attribute_in l.fn.attributes) []) (texts_in l.initial.found.items)

abbrev pub decreases-attributes : goal.decreases-attributes
decreases-attributes l = length l.rest
