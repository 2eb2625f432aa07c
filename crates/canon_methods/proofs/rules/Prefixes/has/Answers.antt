use Rattle.std.proofs.Common.{◌∙◌, sym, ap}
use Rattle.std.specs.Str.{chars}
use Rattle.document_model.specs.Canonical.{is_among}
use Rattle.document_model.specs.Methods.{cut_at}
use Rattle.doc_spans.specs.Pieces.{characters_left}
use Rattle.canon_methods.specs.Words.{parts}
use Rattle.canon_methods.specs.Sought.{holds}
use Rattle.canon_methods.proofs.ListWords.{default_among, prefix_among}
use Rattle.canon_methods.proofs.rules.Prefixes.has.Goals as goal

pub returns-then-is : goal.returns-then-is
returns-then-is c = sym (default_among (chars c.args.prefix.now) (parts c.args.self.now.by_commas) (characters_left c.args.self.now.text) (sym c.is.ensures ∙ c.if-is.true))

pub returns : goal.returns
returns c =
    let test = parts c.args.self.now.by_commas in
    let word = chars c.word_of-word.result.now in
    c.is_found.ensures test word ∙ ap (holds test word c.pieces.sought) (sym c.in-None.ensures.steps.0) ∙ c.pieces.invariant.2
    ∙ ap (λ w. is_among w (cut_at test (characters_left c.args.self.now.text))) c.word_of-word.ensures
    ∙ sym (prefix_among (chars c.args.prefix.now) test (characters_left c.args.self.now.text) (sym c.is.ensures ∙ c.if-is.false))
