use Rattle.std.proofs.Common.{◌≡◌, ◌<◌, ◌+◌, ◌^◌, ◌∙◌, sym, ap, arith, string_bytes}
use Rattle.word_patterns.specs.Grammar.{behind_one}
use Rattle.word_patterns.specs.Patterns.{cursors_in}
use Rattle.word_patterns.proofs.Cursors.{steps, next_fits}
use Rattle.word_patterns.proofs.search.search.Goals as goal

pub overflow_add-number : goal.overflow_add-number
overflow_add-number c =
    let next : cursors_in c.in_ok-next.next.items ≡ behind_one c.as_str.result.now (cursors_in c.loop-word.cursors.items) = c.in_ok-next.ensures ∙ ap (λ xs. behind_one c.as_str.result.now (cursors_in xs)) c.as_slice.ensures.value in
    let fits : c.loop-word.number + 1 < 2 ^ 32 = next_fits c.loop-word.number c.as_str.result.now (cursors_in c.loop-word.cursors.items) (cursors_in c.in_ok-next.next.items) c.loop-word.invariant.1 next (sym c.is_none.ensures ∙ c.if-is_none.false) in
    omega arith

pub loop-word-preserved : goal.loop-word-preserved
loop-word-preserved c =
    let next : cursors_in c.in_ok-next.next.items ≡ behind_one c.as_str.result.now (cursors_in c.loop-word.cursors.items) = c.in_ok-next.ensures ∙ ap (λ xs. behind_one c.as_str.result.now (cursors_in xs)) c.as_slice.ensures.value in
    steps string_bytes c.args.words.now c.loop-word.word-index c.word-item.result c.as_str.result.now c.loop-word.number _ (cursors_in c.loop-word.cursors.items) (cursors_in c.in_ok-next.next.items) c.loop-word-test.true (ap string_bytes (sym c.word-item.is) ∙ sym c.as_str.ensures.value) next (sym c.is_none.ensures ∙ c.if-is_none.false) c.loop-word.invariant
