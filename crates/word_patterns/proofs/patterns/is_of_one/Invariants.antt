use Rattle.std.proofs.Common.{◌≡◌, map, length}
use Rattle.word_patterns.specs.Grammar.{is_of_one}
use Rattle.word_patterns.specs.Patterns.{form_in}
use Rattle.word_patterns.proofs.patterns.is_of_one.Given as goal

-- the word is of none of the forms that were passed
abbrev pub invariant-forms : goal.invariant-forms
invariant-forms l = is_of_one (map form_in l.fn.forms) l.word ≡ is_of_one (map form_in l.rest) l.word

abbrev pub decreases-forms : goal.decreases-forms
decreases-forms l = length l.rest
