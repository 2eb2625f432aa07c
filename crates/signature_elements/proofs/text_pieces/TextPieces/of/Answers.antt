use Rattle.std.proofs.Common.{◌++◌, ◌∙◌, ap}
use Rattle.std.proofs.lemmas.Str.{chars-nil}
use Rattle.doc_spans.specs.Rest.{rest}
use Rattle.signature_elements.proofs.Texted.{texts_of, all_texts}
use Rattle.signature_elements.proofs.text_pieces.TextPieces.of.Goals as goal

pub returns : goal.returns
returns c =
    ap (λ cs. cs ++ texts_of c.args.doc (rest c.children.result)) (c.of.ensures ∙ chars-nil)
    ∙ all_texts c.args.doc c.args.node (rest c.children.result) c.requires c.children.ensures
