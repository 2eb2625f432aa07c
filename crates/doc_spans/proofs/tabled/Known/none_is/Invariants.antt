use Rattle.std.proofs.Common.{◌≡◌, length, map}
use Rattle.document_model.specs.Scopes.{attribute_name, none_is}
use Rattle.xml_items.specs.Attributes.{attribute_in}
use Rattle.doc_spans.specs.ScopesIn.{scope_in, names_in}
use Rattle.doc_spans.proofs.tabled.Known.none_is.Given as goal

-- none of those that were passed has the name
abbrev pub invariant-others : goal.invariant-others
invariant-others l =
    none_is (attribute_name (scope_in l.self.scope) (attribute_in l.a).name) (names_in (scope_in l.self.scope) (map attribute_in l.fn.others))
    ≡ none_is (attribute_name (scope_in l.self.scope) (attribute_in l.a).name) (names_in (scope_in l.self.scope) (map attribute_in l.rest))

abbrev pub decreases-others : goal.decreases-others
decreases-others l = length l.rest
