-- The elements in whose scope a tag's names stand, in the code.
use Rattle.std.specs.Prelude.{ℕ, Bool, true, not, ◌&&◌, if◌then◌else◌, List, [], ◌∷◌, map, codes, Option, Some, None}
use Rattle.document_model.specs.Characters.{◌is◌}
use Rattle.document_model.specs.Names.{Expanded}
use Rattle.document_model.specs.Items.{Attribute}
use Rattle.document_model.specs.Scopes.{Tag, xml_space, xmlns_space, attribute_name, is_sound_declaration, is_declared, none_is}
use Rattle.doc_spans.specs.declared.soundness.Scope.{Scope}
use Rattle.doc_spans.specs.OpenTags.{tag_in}
use Rattle.doc_spans.specs.Scopes.{tags_around}

-- the tag itself, and the elements around it, the innermost first
abbrev pub scope_in : Scope → List Tag
scope_in scope = tag_in scope.tag ∷ tags_around scope.outer.now

-- the expanded names of attributes
abbrev pub names_in : List Tag → List Attribute → List Expanded
names_in tags attributes = map (λ a. attribute_name tags a.name) attributes

-- The two parts of `is_sound`: the name of a tag, and its attributes and declarations, one after another

abbrev pub name_soundly : List Tag → Tag → Bool
name_soundly outer tag = not (tag.name.prefix is codes "xmlns") && is_declared (tag ∷ outer) tag.name

-- of an attribute before others
abbrev pub attribute_soundly : List Tag → Attribute → List Attribute → Bool
attribute_soundly tags a others = is_sound_declaration a && is_declared tags a.name && none_is (attribute_name tags a.name) (names_in tags others)

abbrev pub attributes_soundly : List Tag → List Attribute → Bool
attributes_soundly tags [] = true
attributes_soundly tags (a ∷ attributes) = attribute_soundly tags a attributes && attributes_soundly tags attributes

-- the namespace name of a prefix that no declaration changes
abbrev pub bound_space : List ℕ → Option (List ℕ)
bound_space prefix = if prefix is codes "xml" then Some xml_space else (if prefix is codes "xmlns" then Some xmlns_space else None)
