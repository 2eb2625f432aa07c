-- The prefixes of declarations in scope, and those whose declarations a tag may write.
use Rattle.std.specs.Prelude.{ℕ, Bool, true, not, ◌&&◌, ◌||◌, if◌then◌else◌, List, [], ◌∷◌, map, codes}
use Rattle.std.specs.List.{list_all}
use Rattle.document_model.specs.Characters.{◌is◌, is_empty}
use Rattle.document_model.specs.Items.{Attribute}
use Rattle.document_model.specs.Scopes.{Tag}
use Rattle.doc_spans.specs.Scoped.{space_in}
use Rattle.document_model.specs.Canonical.{Rule, Inclusive, Exclusive, rendered_value, is_among, is_before, with_prefix}

abbrev pub prefixes_of : List Attribute → List (List ℕ)
prefixes_of scope = map (λ a. a.name.local) scope

-- whether it is declared; the default is there for all
abbrev pub is_bound : List ℕ → List Attribute → Bool
is_bound prefix scope = is_among prefix (prefixes_of scope) || is_empty prefix

-- `changes` and `is_unrendered`, by the declarations in scope at a tag and at the nearest written element, and by those that were written
abbrev pub changes_in : List Attribute → List Attribute → List ℕ → Bool
changes_in scope written prefix = not (space_in prefix scope is space_in prefix written)

abbrev pub is_unrendered_in : List Attribute → List Attribute → List ℕ → Bool
is_unrendered_in scope rendered prefix = not (space_in prefix scope is rendered_value prefix rendered)

-- the prefixes of a tag's own names: Exclusive XML Canonicalization 1.0, "Terminology", "Visibly Utilizes"
abbrev pub with_used : List Attribute → List (List ℕ) → List (List ℕ)
with_used [] prefixes = prefixes
with_used (a ∷ attributes) prefixes = if is_empty a.name.prefix then with_used attributes prefixes else a.name.prefix ∷ with_used attributes prefixes

abbrev pub used_by : Tag → List (List ℕ)
used_by tag = tag.name.prefix ∷ with_used tag.attributes []

-- those of a list that pass a test, put among others in order
abbrev pub gathered : (List ℕ → Bool) → List (List ℕ) → List (List ℕ) → List (List ℕ)
gathered test [] prefixes = prefixes
gathered test (prefix ∷ others) prefixes = gathered test others (if test prefix then with_prefix prefix prefixes else prefixes)

-- which of the prefixes that are declared are written whether they are used or not, and which of those that are used
abbrev pub is_declared_anew : Rule → List Attribute → List Attribute → List ℕ → Bool
is_declared_anew Inclusive scope written prefix = changes_in scope written prefix
is_declared_anew (Exclusive prefixes) scope written prefix =
    not (prefix is codes "xml") && is_among prefix prefixes && changes_in scope written prefix

abbrev pub is_rendered_anew : List (List ℕ) → List Attribute → List Attribute → List Attribute → List ℕ → Bool
is_rendered_anew prefixes scope written rendered prefix =
    is_bound prefix scope && not (prefix is codes "xml")
    && (if is_among prefix prefixes then changes_in scope written prefix else is_unrendered_in scope rendered prefix)

-- all that are written, in order: the declarations in scope are those of `own` and then those of `rest`, which the nearest written element
-- has in scope too
abbrev pub gathered_by : Rule → List (List ℕ) → List Attribute → List Attribute → List Attribute → Tag → List (List ℕ)
gathered_by Inclusive own scope written rendered tag = gathered (is_declared_anew Inclusive scope written) own []
gathered_by (Exclusive prefixes) own scope written rendered tag =
    gathered (is_rendered_anew prefixes scope written rendered) (used_by tag) (gathered (is_declared_anew (Exclusive prefixes) scope written) own [])

-- each is before all behind it
abbrev pub is_ordered : List (List ℕ) → Bool
is_ordered [] = true
is_ordered (x ∷ xs) = list_all (is_before x) xs && is_ordered xs
