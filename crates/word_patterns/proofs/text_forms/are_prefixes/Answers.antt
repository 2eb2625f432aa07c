use Rattle.std.proofs.Common.{◌∙◌, sym}
use Rattle.word_patterns.proofs.PrefixTexts.{stray, last_one, goes_on}
use Rattle.word_patterns.proofs.text_forms.are_prefixes.Goals as goal

pub returns-then-not-is_prefix_word : goal.returns-then-not-is_prefix_word
returns-then-not-is_prefix_word c =
    stray c.prefixes.rest.now _ _ c.front.ensures.split (sym c.is_prefix_word.ensures ∙ c.if-not-is_prefix_word.true) ∙ sym c.prefixes.invariant.1

pub prefixes-preserved : goal.prefixes-preserved
prefixes-preserved c = (
  c.in-Some.ensures.utf8,
  c.prefixes.invariant.1
      ∙ goes_on c.prefixes.rest.now _ _ c.in-Some.further.now _ c.front.ensures.split (sym c.is_prefix_word.ensures ∙ c.if-not-is_prefix_word.false) c.in-Some.ensures.chars,
)

pub returns-in-None : goal.returns-in-None
returns-in-None c =
    last_one c.prefixes.rest.now _ c.front.result.1.now c.front.ensures.split (sym c.is_prefix_word.ensures ∙ c.if-not-is_prefix_word.false) c.in-None.ensures.chars ∙ sym c.prefixes.invariant.1
