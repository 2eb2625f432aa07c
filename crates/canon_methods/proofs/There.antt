-- A node that a document has, as the definitions find it.
use Rattle.std.proofs.Common.{◌≡◌, true, Option, Some, None, is_some, refl, ap}
use Rattle.std.specs.Option.{option_map_or}
use Rattle.document_model.specs.Tree.{Node}
use Rattle.doc_spans.specs.declared.documents.Doc.{Doc}
use Rattle.doc_spans.specs.declared.documents.NodeId.{NodeId}
use Rattle.doc_spans.specs.Seen.{Has, node_in}
use Rattle.doc_spans.proofs.Calls.{node_there}

-- a node of a document, and what is said of it
pub record IsThere (doc : Doc) (node : NodeId) : Type 0 where
  pub found : Node
  pub is : node_in doc node ≡ Some found

pub there : (doc : Doc) (node : NodeId) → Has doc node → IsThere doc node
there doc node h = by_option (node_in doc node) refl (node_there doc node h)
  where
    by_option : (o : Option Node) → node_in doc node ≡ o → is_some o ≡ true → IsThere doc node
    by_option None e f = cc
    by_option (Some found) e f = record { found = found; is = e }

pub of_there : {A : Type 0} (f : Node → A) (default : A) (doc : Doc) (node : NodeId) → (t : IsThere doc node) → option_map_or f (node_in doc node) default ≡ f t.found
of_there f default doc node t = ap (λ o. option_map_or f o default) t.is
