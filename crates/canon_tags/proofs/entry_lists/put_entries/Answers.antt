use Rattle.std.proofs.Common.{refl, ◌∙◌, ap, ◌++◌}
use Rattle.std.specs.Prelude.{encode_utf8_all}
use Rattle.document_model.specs.Names.{spelled}
use Rattle.document_model.specs.Canonical.{attribute_text}
use Rattle.canon_tags.specs.Entries.{entry_in, entries_in, entries_text}
use Rattle.canon_tags.proofs.WrittenTexts.{each_put}
use Rattle.canon_tags.proofs.entry_lists.put_entries.Goals as goal

pub entries-preserved : goal.entries-preserved
entries-preserved c =
    each_put (λ es. entries_text (entries_in es)) (λ e. attribute_text (spelled (entry_in e).attribute.name) (entry_in e).attribute.value) (λ x xs. refl)
    c.args.entries.now c.entries.entry-index c.entry-item.result c.entries-test.true c.entries.out c.put_attribute.new.out _
    (c.in_ok-put_attribute.ensures ∙ ap (λ e. c.entries.out ++ encode_utf8_all (attribute_text (spelled (entry_in e).attribute.name) (entry_in e).attribute.value)) c.entry-item.is) c.entries.invariant
