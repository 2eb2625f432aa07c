use Rattle.std.proofs.Common.{◌++◌, ◌∙◌, sym, ap, map}
use Rattle.std.specs.Prelude.{flat_map, encode_utf8_all}
use Rattle.std.specs.Str.{chars}
use Rattle.document_model.specs.Names.{spelled}
use Rattle.document_model.specs.Canonical.{declaration_text, declared_as}
use Rattle.xml_items.specs.Found.{name_in}
use Rattle.canon_tags.specs.Around.{found_in}
use Rattle.doc_spans.specs.Declarations.{nearest_first}
use Rattle.canon_tags.specs.Entries.{entries_in, entries_text}
use Rattle.doc_spans.specs.Scoped.{space_in}
use Rattle.canon_tags.specs.Texts.{texts_in}
use Rattle.canon_tags.proofs.WrittenTexts.{name_text, tag_put}
use Rattle.canon_tags.proofs.around.Around.put_tag.Goals as goal

pub returns : goal.returns
returns c =
    let self = c.args.self.now in
    tag_put c.args.out.now c.push_all.new.self c.push_all-2.new.self c.put_declarations.new.out c.put_entries.new.out c.push_all-3.new.self c.as_bytes.result.now
    (spelled (name_in (chars c.args.tag.name.now))) (flat_map declaration_text (found_in self)) (entries_text (entries_in self.entries.items))
    c.in_ok-push_all.ensures.ok c.in_ok-push_all-2.ensures.ok
    (c.as_bytes.ensures.value ∙ sym (name_text c.args.tag.name.now c.args.tag.named (rw c.as_bytes.ensures.value at c.as_bytes.ensures.utf8)))
    (c.in_ok-put_declarations.ensures
    ∙ (λ i. c.push_all-2.new.self ++ encode_utf8_all (flat_map declaration_text (map (λ prefix. declared_as prefix (space_in prefix (nearest_first (c.as_slice.ensures.value i)))) (texts_in (c.as_slice-2.ensures.value i))))))
    (c.in_ok-put_entries.ensures ∙ ap (λ es. c.put_declarations.new.out ++ encode_utf8_all (entries_text (entries_in es))) c.as_slice-3.ensures.value)
    c.in_ok-push_all-3.ensures.ok
