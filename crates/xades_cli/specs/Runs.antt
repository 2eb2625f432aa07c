-- What a run answers: which status comes where, what is given out, and for which files the shelf is asked.
use Rattle.std.specs.Prelude.{◌≡◌, ◌⊎◌, ℕ, ◌≤◌, List, Option, Some}
use Rattle.doc_spans.specs.declared.faults.DocFault.TheVariants as documents
use Rattle.policy_rules.specs.declared.fault.PolicyFault.TheVariants as policies
use Rattle.xa_io.specs.Causes.{Rose}
use Rattle.xa_io.specs.Shelf.{Files}
use Rattle.xa_io.specs.Sink.{appended}
use Rattle.whole_files.specs.Asking.{AsksInOrder}
use Rattle.whole_files.specs.Faults.{Counts, HasGrown, HasRisenFor, IsFirstFault, IsWanted, counts_of}
use Rattle.whole_files.specs.Wants.{Want, Held, AreHeld, names_of}
use Rattle.whole_files.specs.declared.fault.FileFault.{FileFault}
use Rattle.whole_files.specs.declared.fault.FileFault.TheVariants as faults
use Rattle.word_patterns.specs.Grammar.{IsFaultyWord}
use Rattle.command_words.specs.Asked.{Asked, asked_by}
use Rattle.command_words.specs.Files.{wants_of}
use Rattle.xades_cli.specs.Commands.{ComesTo, DoneSays}
use Rattle.xades_cli.specs.Outcomes.{Outcome, Follows}
use Rattle.command_words.specs.Words.{patterns, IsCommand}
use Rattle.xades_cli.specs.declared.status.Status.{Status}
use Rattle.xades_cli.specs.declared.status.Status.TheVariants.{Done, No, BadWords, NoSuchFile, ReadFault, WriteFault, TooLong, BadDocument, BadPolicy, OutOfMemory}

-- which part of a run a status tells of: its words, a file, what the command comes to, or memory
pub data Stage : Type 0 where
  OfWords : (index : ℕ) → Stage
  OfFile : (name : List ℕ) (fault : FileFault) → Stage
  OfOutcome : Stage
  OfMemory : Stage

abbrev pub stage_of : Status → Stage
stage_of (BadWords index) = OfWords index
stage_of (NoSuchFile name) = OfFile name faults.NoSuch
stage_of (ReadFault name) = OfFile name faults.Failed
stage_of (TooLong name got) = OfFile name (faults.TooLong got)
stage_of OutOfMemory = OfMemory
stage_of status = OfOutcome

-- a status of the words tells the faulty one, and any other but want of memory comes of the words of a command
abbrev pub IsByWords : List (List ℕ) → Stage → Type 0
IsByWords words (OfWords index) = IsFaultyWord patterns words index
IsByWords words (OfFile name fault) = IsCommand words
IsByWords words OfOutcome = IsCommand words
IsByWords words OfMemory = Unit {0}

-- the files were read, and the status and what was given follow what the command comes to
pub record IsCarriedOut (asked : Asked) (shelf : Files) (status : Status) (before now : Option (List ℕ)) : Type 0 where
  pub files : List Held
  pub outcome : Outcome
  pub held : AreHeld shelf (wants_of asked) files
  pub comes : ComesTo asked files outcome
  pub follows : Follows outcome status before now

-- the status of a command, and what was given, are right by the files of the shelf; want of memory is free
abbrev pub IsRight : Asked → Files → Status → Option (List ℕ) → Option (List ℕ) → Stage → Type 0
IsRight asked shelf status before now (OfWords index) = ⊥
IsRight asked shelf status before now (OfFile name fault) = IsFirstFault shelf (wants_of asked) name fault
IsRight asked shelf status before now OfOutcome = IsCarriedOut asked shelf status before now
IsRight asked shelf status before now OfMemory = Unit {0}

-- the files were read and bytes were given out, of which the command says more
pub record IsDone (asked : Asked) (shelf : Files) (before now : Option (List ℕ)) : Type 0 where
  pub files : List Held
  pub bytes : List ℕ
  pub held : AreHeld shelf (wants_of asked) files
  pub given : now ≡ appended before bytes
  pub says : DoneSays asked files bytes

-- a status that tells of a file tells of one that the command wants, and has its cause in the counts of the shelf
abbrev pub HasCause : List Want → Counts → Counts → Stage → Type 0
HasCause wants before now (OfFile name fault) = IsWanted wants name fault × HasRisenFor fault before now
HasCause wants before now (OfWords index) = Unit {0}
HasCause wants before now OfOutcome = Unit {0}
HasCause wants before now OfMemory = Unit {0}

-- the status carries no want of memory but as its own
abbrev pub HoldsNoMemory : Status → Type 0
HoldsNoMemory (BadDocument documents.OutOfMemory) = ⊥
HoldsNoMemory (BadPolicy policies.OutOfMemory) = ⊥
HoldsNoMemory status = Unit {0}

-- of a status with which nothing was given out
abbrev pub OnQuiet : Status → Type 0 → Type 0
OnQuiet Done P = Unit {0}
OnQuiet No P = Unit {0}
OnQuiet WriteFault P = Unit {0}
OnQuiet status P = P

-- where all files of a command are held and within their limits, it is carried out whole, or memory is wanted
abbrev pub Completes : Asked → Files → Status → Option (List ℕ) → Option (List ℕ) → Type 0
Completes asked shelf status before now =
    (files : List Held) → AreHeld shelf (wants_of asked) files
    → (status ≡ OutOfMemory) ⊎ (IsCarriedOut asked shelf status before now × (status ≡ WriteFault → ⊥))

-- what a shelf tells
pub record ShelfState : Type 0 where
  pub held : Option Files
  pub counts : Counts
  pub asked : Option (List (List ℕ))

abbrev pub shelf_state : {X : Type 0} → (X → Option Files) → (X → ℕ) → (X → ℕ) → (X → ℕ) → (X → Option (List (List ℕ))) → X → ShelfState
shelf_state held faults misses gave asked shelf = record { held = held shelf; counts = counts_of faults misses gave shelf; asked = asked shelf }

-- what a sink tells
pub record SinkState : Type 0 where
  pub given : Option (List ℕ)
  pub faults : ℕ

abbrev pub sink_state : {X : Type 0} → (X → Option (List ℕ)) → (X → ℕ) → X → SinkState
sink_state given faults sink = record { given = given sink; faults = faults sink }

-- what a run answers on some words, over a shelf, with a sink for what it gives out
pub record IsRun (words : List (List ℕ)) (shelf shelf_now : ShelfState) (out out_now : SinkState) (status : Status) : Type 0 where
  -- BadWords comes exactly where the words are those of no command
  pub by_words : IsByWords words (stage_of status)
  -- where the shelf tells its files, the status and what was given out are right by them
  pub told : (files : Files) → shelf.held ≡ Some files → IsCommand words → IsRight (asked_by words) files status out.given out_now.given (stage_of status)
  -- and Done says what the command promises of its files and of what was given out
  pub done : (files : Files) → shelf.held ≡ Some files → IsCommand words → status ≡ Done → IsDone (asked_by words) files out.given out_now.given
  -- NoSuchFile, ReadFault, TooLong and WriteFault come only where a count rose
  pub cause : HasCause (wants_of (asked_by words)) shelf.counts shelf_now.counts (stage_of status)
  pub write : status ≡ WriteFault → Rose out.faults out_now.faults
  -- where no count of faults rose and the files are held within their limits, the command is carried out, but for want of memory
  pub complete : (files : Files) → shelf.held ≡ Some files → IsCommand words → (Rose shelf.counts.faults shelf_now.counts.faults → ⊥) → (Rose out.faults out_now.faults → ⊥) →
      Completes (asked_by words) files status out.given out_now.given
  pub memory : HoldsNoMemory status
  -- the shelf was asked for the files of the command alone, in their order; it holds what it held, and no count fell
  pub asked : AsksInOrder (names_of (wants_of (asked_by words))) shelf.asked shelf_now.asked
  pub held : shelf_now.held ≡ shelf.held
  pub grown : HasGrown shelf.counts shelf_now.counts
  pub faults_stay : out.faults ≤ out_now.faults
