-- What Done says.
use Rattle.std.proofs.Common.{ℕ, List}
use Rattle.std.specs.Prelude.{true, false, Option}
use Rattle.xa_io.specs.Shelf.{Files}
use Rattle.whole_files.specs.Wants.{Held, AreHeld}
use Rattle.command_words.specs.Asked.{Asked}
use Rattle.command_words.specs.Files.{wants_of}
use Rattle.xades_cli.specs.Commands.{DoneSays}
use Rattle.xades_cli.specs.Computed.{AnswerSays}
use Rattle.xades_cli.specs.Giving.{IsGiven}
use Rattle.xades_cli.specs.Runs.{IsDone}
use Rattle.xades_cli.specs.declared.answers.Answer.{Answer}
use Rattle.xades_cli.specs.declared.answers.Answer.TheVariants.{Text, Report}
use Rattle.xades_cli.specs.declared.status.Status.TheVariants.{Done}

-- an answer that was given out with Done
pub answer_done : (asked : Asked) (shelf : Files) (files : List Held) (answer : Answer) (before now : Option (List ℕ)) → AreHeld shelf (wants_of asked) files → IsGiven answer Done before now → AnswerSays (DoneSays asked files) answer
    → IsDone asked shelf before now
answer_done asked shelf files (Text text) before now held given says = record {
  files = files;
  bytes = text;
  held = held;
  given = given;
  says = says;
}
answer_done asked shelf files (Report text true) before now held given says = record {
  files = files;
  bytes = text;
  held = held;
  given = given;
  says = says;
}
answer_done asked shelf files (Report text false) before now held given says = absurd given
