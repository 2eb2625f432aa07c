-- What stands around a node, in the code, and how an element is left again.
use Rattle.std.specs.Prelude.{◌≡◌, ◌-◌, List, [], drop, length, map, if◌then◌else◌}
use Rattle.document_model.specs.Items.{Attribute}
use Rattle.document_model.specs.Canonical.{declared_as}
use Rattle.document_model.specs.Canonical as canonical
use Rattle.doc_spans.specs.Declarations.{nearest_first}
use Rattle.doc_spans.specs.Scoped.{space_in}
use Rattle.doc_spans.specs.Scopes.{tags_around}
use Rattle.canon_tags.specs.Texts.{texts_in}
use Rattle.canon_tags.specs.declared.around.Around.{Around}
use Rattle.canon_tags.specs.declared.around.Outside.{Outside}

abbrev pub around_in : Around → canonical.Around
around_in around = record {
  outer = tags_around around.scopes;
  written = if around.below then tags_around around.scopes else [];
  rendered = nearest_first around.rendered.items;
}

-- the declarations that the innermost element is written with
abbrev pub found_in : Around → List Attribute
found_in around = map (λ prefix. declared_as prefix (space_in prefix (nearest_first around.scopes.declarations.items))) (texts_in around.found.items)

-- what stands around the innermost element
abbrev pub left_to : Outside → canonical.Around → canonical.Around
left_to outside around = record {
  outer = drop 1 around.outer;
  written = if outside.below then drop 1 around.outer else [];
  rendered = drop (length around.rendered - outside.rendered) around.rendered;
}

-- inside an element, what was kept as it was opened leads back to what stood around it
abbrev pub LeadsBack : canonical.Around → Outside → canonical.Around → Type 0
LeadsBack now outside before = left_to outside now ≡ before
