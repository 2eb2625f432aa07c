use Rattle.std.proofs.Common.{◌≤◌, ◌≡◌, ◌∙◌, ap, take, length, ◌++◌, ◌∷◌, [], arith}
use Rattle.std.proofs.lemmas.List.{take-append-le}
use Rattle.std.specs.Str.{chars}
use Rattle.document_model.specs.Canonical.{is_xml, has_local}
use Rattle.xml_items.specs.Attributes.{attribute_in, attributes_left}
use Rattle.canon_tags.specs.Entries.{entry_in, entries_in, named, attributes_of_entries}
use Rattle.doc_spans.specs.Looked.{declared}
use Rattle.canon_tags.proofs.Sorting.{map_join}
use Rattle.canon_tags.proofs.InheritedEntries.{taken, both_hold}
use Rattle.canon_tags.proofs.attributes.inherit_from.Goals as goal

pub attributes-preserved-in_ok-push-in-Some : goal.attributes-preserved-in_ok-push-in-Some
attributes-preserved-in_ok-push-in-Some c =
    let scope = declared c.args.scope in
    let old = c.args.entries.now.items in
    let a = attribute_in c.in-Some.a in
    let within : c.len-count.result ≤ length c.attributes.entries.items = omega (arith, c.attributes.invariant.0) in
    let front : take c.len-count.result c.deref.result.now ≡ old = ap (take c.len-count.result) c.deref.ensures.value ∙ c.attributes.invariant.1 in (
      omega (arith, c.attributes.invariant.0, c.in_ok-push-in-Some.ensures.len),
      ap (take c.len-count.result) c.in_ok-push-in-Some.ensures.items ∙ take-append-le c.len-count.result c.attributes.entries.items (c.entry_of.result ∷ []) within ∙ c.attributes.invariant.1,
      taken (named scope) _ (attributes_left c.attributes.rest) (attributes_left c.in-Some.behind) a (entries_in c.attributes.entries.items) (entries_in c.push.new.self.items) _
          c.in-Some.ensures.first
          (both_hold (is_xml a) (has_local (chars c.in-Some.a.local.now) (attributes_of_entries (entries_in old))) c.is.result c.has_local.result c.is.ensures c.if-is.true
          (c.has_local.ensures ∙ ap (λ xs. has_local (chars c.in-Some.a.local.now) (attributes_of_entries (entries_in xs))) front) c.if-not-has_local.true)
          (ap entries_in c.in_ok-push-in-Some.ensures.items ∙ map_join entry_in c.attributes.entries.items (c.entry_of.result ∷ []) ∙ ap (λ e. entries_in c.attributes.entries.items ++ e ∷ []) c.entry_of.ensures)
          c.attributes.invariant.2,
    )
