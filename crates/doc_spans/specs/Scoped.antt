-- Declarations in scope, as a list with the nearest first.
use Rattle.std.specs.Prelude.{ℕ, if◌then◌else◌, List, [], ◌∷◌, Option, Some, None, codes}
use Rattle.std.specs.Option.{option_map_or}
use Rattle.document_model.specs.Characters.{◌is◌}
use Rattle.document_model.specs.Items.{Attribute}
use Rattle.document_model.specs.Scopes.{Tag, xml_space, xmlns_space, declared_prefix}
use Rattle.document_model.specs.Canonical.{declared_as, rendered_value}

-- the declarations of a tag, before those around it
abbrev pub with_declarations : List Attribute → List Attribute → List Attribute
with_declarations [] scope = scope
with_declarations (a ∷ attributes) scope =
    option_map_or (λ prefix. declared_as prefix a.value ∷ with_declarations attributes scope) (declared_prefix a) (with_declarations attributes scope)

-- the declarations in the scope of elements, the innermost first
abbrev pub scope_of : List Tag → List Attribute
scope_of [] = []
scope_of (tag ∷ outer) = with_declarations tag.attributes (scope_of outer)

-- the value of the nearest declaration of a prefix
abbrev pub declared_in : List ℕ → List Attribute → Option (List ℕ)
declared_in prefix [] = None
declared_in prefix (a ∷ scope) = if a.name.local is prefix then Some a.value else declared_in prefix scope

-- the value of a prefix
abbrev pub space_in : List ℕ → List Attribute → List ℕ
space_in prefix scope =
    if prefix is codes "xml" then xml_space
    else (if prefix is codes "xmlns" then xmlns_space else rendered_value prefix scope)
