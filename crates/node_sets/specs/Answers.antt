-- What an answer on an identifier means, and how it grows by one element after another.
use Rattle.std.specs.Prelude.{ℕ, Bool, ◌||◌, List, [], ◌∷◌, codes}
use Rattle.std.specs.Option.{option_map_or}
use Rattle.document_model.specs.Characters.{◌is◌}
use Rattle.document_model.specs.Items.{Attribute}
use Rattle.document_model.specs.Tree.{Path}
use Rattle.document_model.specs.NodeSets.{Target, Missing, Single, Double, identified_in}
use Rattle.doc_spans.specs.declared.documents.Doc.{Doc}
use Rattle.doc_spans.specs.declared.documents.NodeId.{NodeId}
use Rattle.doc_spans.specs.Seen.{Has, path_in, node_in}
use Rattle.node_sets.specs.declared.identifiers.IdAnswer.{IdAnswer}
use Rattle.node_sets.specs.declared.identifiers.IdAnswer.TheVariants.{One, Absent, Many}

-- whether an attribute may be an identifier by its local name
abbrev pub has_identifier_name : Attribute → Bool
has_identifier_name a = (a.name.local is codes "Id") || (a.name.local is codes "ID") || (a.name.local is codes "id")

abbrev pub answer_in : Doc → IdAnswer → Target
answer_in doc (One node) = Single (path_in doc node)
answer_in doc Absent = Missing
answer_in doc Many = Double

-- an answer names a node of the document, if any
abbrev pub HasAnswer : Doc → IdAnswer → Type 0
HasAnswer doc (One node) = Has doc node
HasAnswer doc Absent = Unit {0}
HasAnswer doc Many = Unit {0}

-- one more element has the identifier
abbrev pub with_one : Path → Target → Target
with_one path Missing = Single path
with_one path (Single first) = Double
with_one path Double = Double

-- and so many more
abbrev pub with_more : List Path → Target → Target
with_more [] target = target
with_more (path ∷ paths) target = with_more paths (with_one path target)

-- the elements with an identifier among a node and those below it
abbrev pub identified_at : List ℕ → Doc → NodeId → List Path
identified_at value doc node = option_map_or (identified_in value (path_in doc node)) (node_in doc node) []
