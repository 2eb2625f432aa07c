-- What an index of the identifiers of a document has.
use Rattle.std.specs.Prelude.{◌≡◌, ℕ, Bool, not, ◌&&◌, List}
use Rattle.std.specs.Str.{chars, IsUtf8}
use Rattle.document_model.specs.Characters.{is_empty}
use Rattle.document_model.specs.Items.{Attribute}
use Rattle.document_model.specs.NodeSets.{target_of}
use Rattle.document_model.specs.Tree.{Path}
use Rattle.doc_spans.specs.declared.documents.Doc.{Doc}
use Rattle.doc_spans.specs.Seen.{document_in}
use Rattle.node_sets.specs.Answers.{answer_in, HasAnswer, has_identifier_name, with_more}
use Rattle.node_sets.specs.declared.identifiers.IdAnswer.{IdAnswer}
use Rattle.node_sets.specs.declared.identifiers.IdAnswer.TheVariants as answers
use Rattle.node_index.specs.declared.identifiers.Identifiers.{Identifiers}
use Rattle.node_index.specs.declared.indices.NodeIndex.{NodeIndex}
use Rattle.node_index.specs.declared.sightings.Sightings.{Sightings}
use Rattle.node_index.specs.declared.sightings.Sightings.TheVariants.{Absent, One, Several}
use Rattle.node_index.specs.Indices.{sighted}

-- whether an attribute is an identifier, whichever its value
abbrev pub may_identify : Attribute → Bool
may_identify a = not (is_empty a.value) && is_empty a.name.prefix && has_identifier_name a

-- which element an identifier names, by the elements that have it
abbrev pub answer_of : Sightings → IdAnswer
answer_of Absent = answers.Absent
answer_of (One node) = answers.One node
answer_of (Several first second) = answers.Many

-- what an identifier names, by an index
abbrev pub named_by : NodeIndex → List ℕ → IdAnswer
named_by index value = answer_of (sighted index value)

-- an index names nodes of the document alone
abbrev pub IsWithin : Doc → NodeIndex → Type 0
IsWithin doc index = (value : List ℕ) → HasAnswer doc (named_by index value)

-- the index now has these elements under each value, behind those that it had
pub record Finds (doc : Doc) (elements : List ℕ → List Path) (old new : NodeIndex) : Type 0 where
  pub each : (value : List ℕ) → IsUtf8 value → answer_in doc (named_by new value) ≡ with_more (elements (chars value)) (answer_in doc (named_by old value))
  pub within : IsWithin doc new

-- they are the identifiers of a document: each text names what it names there
pub record AreOf (doc : Doc) (identifiers : Identifiers) : Type 0 where
  pub each : (value : List ℕ) → IsUtf8 value → answer_in doc (named_by identifiers.index value) ≡ target_of (chars value) (document_in doc)
  pub within : IsWithin doc identifiers.index
