use Rattle.std.proofs.Common.{◌≡◌, ◌++◌, drop, map}
use Rattle.std.specs.Prelude.{encode_utf8_all, flat_map}
use Rattle.document_model.specs.Canonical.{declaration_text, declared_as}
use Rattle.doc_spans.specs.Looked.{declared}
use Rattle.doc_spans.specs.Scoped.{space_in}
use Rattle.canon_tags.specs.Texts.{texts_in}
use Rattle.canon_tags.proofs.prefixes.put_declarations.Given as goal

-- what is written, and then what is left
abbrev pub invariant-prefixes : goal.invariant-prefixes
invariant-prefixes l =
    l.out ++ encode_utf8_all (flat_map declaration_text (map (λ prefix. declared_as prefix (space_in prefix (declared l.scope))) (texts_in (drop l.prefix-index l.found))))
    ≡ l.initial.out ++ encode_utf8_all (flat_map declaration_text (map (λ prefix. declared_as prefix (space_in prefix (declared l.scope))) (texts_in l.found)))
