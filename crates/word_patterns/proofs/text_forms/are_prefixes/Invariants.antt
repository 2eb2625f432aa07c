use Rattle.std.proofs.Common.{◌≡◌, length}
use denote.Text.{Utf8}
use denote.Shadow.{shadow}
use Rattle.word_patterns.specs.TextForms.{are_prefixes}
use Rattle.word_patterns.proofs.text_forms.are_prefixes.Given as goal

-- the words that were passed are prefixes
abbrev pub invariant-prefixes : goal.invariant-prefixes
invariant-prefixes l = shadow (Utf8 l.rest) × (are_prefixes l.text ≡ are_prefixes l.rest)

abbrev pub decreases-prefixes : goal.decreases-prefixes
decreases-prefixes l = length l.rest
