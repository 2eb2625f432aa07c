use Rattle.std.proofs.Common.{◌∷◌, [], ◌++◌, map, ap, sym, ◌∙◌, append-nil}
use Rattle.std.proofs.lemmas.List.{map-append}
use Rattle.word_patterns.specs.Grammar.{text_now}
use Rattle.word_patterns.proofs.TextsBehind.{none_behind, one_behind}
use Rattle.word_patterns.proofs.lookup.put_behind.Goals as goal

pub returns-in_default : goal.returns-in_default
returns-in_default c =
    sym (ap (λ more. map text_now c.args.texts.now.items ++ more) (none_behind c.args.key.now c.args.word.now c.in_default.ensures) ∙ append-nil (map text_now c.args.texts.now.items))

pub returns-in-Ok : goal.returns-in-Ok
returns-in-Ok c =
    ap (map text_now) c.in-Ok.ensures.items ∙ map-append text_now c.args.texts.now.items (c.in-Some.text ∷ [])
    ∙ sym (ap (λ more. map text_now c.args.texts.now.items ++ more) (one_behind c.args.key.now c.args.word.now c.in-Some.text.now c.in-Some.ensures.0 c.in-Some.ensures.1))
