-- What words and files come to, before anything is given out.
use Rattle.std.specs.Prelude.{ℕ, List, Result, Ok, Err}
use Rattle.xa_io.specs.Shelf.{Files}
use Rattle.whole_files.specs.Faults.{Counts, HasRisenFor, IsFirstFault, IsWanted}
use Rattle.whole_files.specs.Wants.{Want, Held, AreFor, AreHeld}
use Rattle.word_patterns.specs.Grammar.{IsFaultyWord}
use Rattle.command_words.specs.Asked.{Asked, asked_by}
use Rattle.command_words.specs.Files.{wants_of}
use Rattle.xades_cli.specs.Commands.{ComesTo, DoneSays}
use Rattle.xades_cli.specs.Computed.{AnswerSays}
use Rattle.xades_cli.specs.Outcomes.{Outcome, Gives, Refuses}
use Rattle.command_words.specs.Words.{patterns, IsCommand}
use Rattle.xades_cli.specs.declared.answers.Answer.{Answer}
use Rattle.xades_cli.specs.declared.stop.Refusal.{Refusal}
use Rattle.xades_cli.specs.declared.stop.Stop.{Stop}
use Rattle.xades_cli.specs.declared.stop.Stop.TheVariants.{Words, File, Refusal as Refused, OutOfMemory}

-- some files were read for the command, and what is refused is what it comes to by them
pub record IsRefused (asked : Asked) (refusal : Refusal) : Type 0 where
  pub files : List Held
  pub read : AreFor (wants_of asked) files
  pub outcome : Outcome
  pub comes : ComesTo asked files outcome
  pub refuses : Refuses outcome refusal

-- the words are those of a command, or the faulty one is told; want of memory is free
abbrev pub IsJudged : List (List ℕ) → Result Answer Stop → Type 0
IsJudged words (Ok answer) = IsCommand words
IsJudged words (Err (Words index)) = IsFaultyWord patterns words index
IsJudged words (Err (File name fault)) = IsCommand words
IsJudged words (Err (Refused refusal)) = IsCommand words × IsRefused (asked_by words) refusal
IsJudged words (Err OutOfMemory) = Unit {0}

-- the files of the shelf were read for the command, and what is to be given out is what it comes to by them
pub record IsAnswered (asked : Asked) (shelf : Files) (answer : Answer) : Type 0 where
  pub files : List Held
  pub held : AreHeld shelf (wants_of asked) files
  pub outcome : Outcome
  pub comes : ComesTo asked files outcome
  pub gives : Gives outcome answer
  pub says : AnswerSays (DoneSays asked files) answer

-- and what is refused
pub record IsRefusedBy (asked : Asked) (shelf : Files) (refusal : Refusal) : Type 0 where
  pub files : List Held
  pub held : AreHeld shelf (wants_of asked) files
  pub outcome : Outcome
  pub comes : ComesTo asked files outcome
  pub refuses : Refuses outcome refusal

-- the answer, or why there is none, is right by the files of the shelf
abbrev pub IsJudgedRight : Asked → Files → Result Answer Stop → Type 0
IsJudgedRight asked shelf (Ok answer) = IsAnswered asked shelf answer
IsJudgedRight asked shelf (Err (Words index)) = Unit {0}
IsJudgedRight asked shelf (Err (File name fault)) = IsFirstFault shelf (wants_of asked) name fault
IsJudgedRight asked shelf (Err (Refused refusal)) = IsRefusedBy asked shelf refusal
IsJudgedRight asked shelf (Err OutOfMemory) = Unit {0}

-- a file that wasn't read has its cause in the counts of the shelf
abbrev pub HasStopCause : List Want → Counts → Counts → Result Answer Stop → Type 0
HasStopCause wants before now (Ok answer) = Unit {0}
HasStopCause wants before now (Err (File name fault)) = IsWanted wants name fault × HasRisenFor fault before now
HasStopCause wants before now (Err (Words index)) = Unit {0}
HasStopCause wants before now (Err (Refused refusal)) = Unit {0}
HasStopCause wants before now (Err OutOfMemory) = Unit {0}
