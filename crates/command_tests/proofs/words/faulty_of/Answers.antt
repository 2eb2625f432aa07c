use Rattle.std.proofs.Common.{refl, arith}
use Rattle.std.specs.Prelude.{codes}
use Rattle.command_tests.proofs.words.faulty_of.Goals as goal

-- some words fit each part
pub faulty_word-requires-clause-good : goal.faulty_word-requires-clause-good
faulty_word-requires-clause-good g = (
  (record { example = codes "file=a"; is_example = refl; ordered = omega arith }, (record { example = codes "end"; is_example = refl; ordered = omega arith }, tt)),
  tt,
)
