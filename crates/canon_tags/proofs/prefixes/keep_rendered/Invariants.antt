use Rattle.std.proofs.Common.{◌≡◌, ◌++◌, map, vec_len}
use Rattle.document_model.specs.Canonical.{declared_as}
use Rattle.doc_spans.specs.Declarations.{nearest_first}
use Rattle.doc_spans.specs.Looked.{declared}
use Rattle.doc_spans.specs.Scoped.{space_in}
use Rattle.canon_tags.specs.Texts.{texts_in}
use Rattle.canon_tags.proofs.prefixes.keep_rendered.Given as goal

-- those that are left come before those that are kept
abbrev pub invariant-prefixes : goal.invariant-prefixes
invariant-prefixes l =
    map (λ prefix. declared_as prefix (space_in prefix (declared l.scope))) (texts_in l.found.items) ++ nearest_first l.rendered.items
    ≡ map (λ prefix. declared_as prefix (space_in prefix (declared l.scope))) (texts_in l.initial.found.items) ++ nearest_first l.initial.rendered.items

abbrev pub decreases-prefixes : goal.decreases-prefixes
decreases-prefixes l = vec_len l.found
