use Rattle.std.proofs.Common.{◌∷◌, [], ◌++◌, map, ap, sym, ◌∙◌, append-nil}
use Rattle.std.proofs.lemmas.List.{map-append}
use Rattle.word_patterns.specs.Keyed.{key_now, keyed_now}
use Rattle.word_patterns.proofs.KeyedTexts.{none_keyed, one_keyed}
use Rattle.word_patterns.proofs.keyed.put_keyed.Goals as goal

pub returns-in_default : goal.returns-in_default
returns-in_default g c =
    sym (ap (λ more. map keyed_now c.args.texts.now.items ++ more) (none_keyed (map key_now c.args.keys.now) c.args.word.now c.in_default.ensures) ∙ append-nil (map keyed_now c.args.texts.now.items))

pub returns-in-Ok : goal.returns-in-Ok
returns-in-Ok g c =
    ap (map keyed_now) c.in-Ok.ensures.items ∙ map-append keyed_now c.args.texts.now.items (c.in-Some.item ∷ [])
    ∙ sym (ap (λ more. map keyed_now c.args.texts.now.items ++ more) (one_keyed (map key_now c.args.keys.now) c.args.word.now (keyed_now c.in-Some.item) c.in-Some.ensures))
