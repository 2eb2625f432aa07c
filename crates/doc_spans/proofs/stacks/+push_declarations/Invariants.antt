use Rattle.doc_spans.proofs.stacks.+push_declarations.Given as goal

abbrev pub decreases-push_declarations : goal.decreases-push_declarations
decreases-push_declarations l = l.attributes.left
