use Rattle.doc_spans.specs.Seen.{document_in, path_in}
use Rattle.augmenter.proofs.Preparation.{first_is_root}
use Rattle.augmenter.proofs.preparing.objection.Goals as goal

pub first_passing-requires-3-clause-root : goal.first_passing-requires-3-clause-root
first_passing-requires-3-clause-root c =
    (c.root.ensures.has, first_is_root (path_in c.args.doc c.root.result) (document_in c.args.doc) c.root.ensures.first c.root.ensures.element)
