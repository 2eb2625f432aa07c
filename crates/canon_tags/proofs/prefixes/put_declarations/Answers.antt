use Rattle.std.proofs.Common.{map, refl}
use Rattle.std.specs.Prelude.{flat_map}
use Rattle.std.specs.Str.{chars}
use Rattle.document_model.specs.Canonical.{declaration_text, declared_as}
use Rattle.doc_spans.specs.Looked.{declared}
use Rattle.doc_spans.specs.Scoped.{space_in}
use Rattle.canon_tags.specs.Texts.{texts_in}
use Rattle.canon_tags.proofs.WrittenTexts.{each_put}
use Rattle.canon_tags.proofs.prefixes.put_declarations.Goals as goal

pub prefixes-preserved : goal.prefixes-preserved
prefixes-preserved c =
    each_put (λ ts. flat_map declaration_text (map (λ prefix. declared_as prefix (space_in prefix (declared c.args.scope))) (texts_in ts)))
    (λ t. declaration_text (declared_as (chars t.now) (space_in (chars t.now) (declared c.args.scope)))) (λ x xs. refl)
    c.args.found.now c.prefixes.prefix-index _ c.prefixes-test.true c.prefixes.out c.put_one.new.out _ c.in_ok-put_one.ensures c.prefixes.invariant
