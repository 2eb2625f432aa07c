-- How a command that stops ends.
use Rattle.command_words.specs.declared.faults.WordsFault.{WordsFault}
use Rattle.command_words.specs.declared.faults.WordsFault.TheVariants as words
use Rattle.whole_files.specs.declared.fault.FileFault.TheVariants as faults
use Rattle.whole_files.specs.declared.fault.Unread.{Unread}
use Rattle.whole_files.specs.declared.fault.Unread.TheVariants as unread
use Rattle.xades_cli.specs.declared.stop.Refusal.{Refusal}
use Rattle.xades_cli.specs.declared.stop.Refusal.TheVariants.{Document, Policy, Data, Item}
use Rattle.xades_cli.specs.declared.stop.Stop.{Stop}
use Rattle.xades_cli.specs.declared.stop.Stop.TheVariants as stops
use Rattle.xades_cli.specs.declared.status.Ended.{Ended}
use Rattle.xades_cli.specs.declared.status.Status.{Status}
use Rattle.xades_cli.specs.declared.status.Status.TheVariants.{BadWords, NoSuchFile, ReadFault, TooLong, BadDocument, BadPolicy, BadData, Refused, OutOfMemory}

-- so do words that ask nothing
abbrev pub stop_by_words : WordsFault → Stop
stop_by_words (words.Unfit index) = stops.Words index
stop_by_words words.OutOfMemory = stops.OutOfMemory

-- a file that wasn't read stops the command
abbrev pub stop_unread : Unread → Stop
stop_unread (unread.File name fault) = stops.File name fault
stop_unread unread.OutOfMemory = stops.OutOfMemory

-- with a status that tells of no place in a document
abbrev pub ended : Status → Ended
ended status = record { status = status; size = 0 }

abbrev pub ended_by_refusal : Refusal → Ended
ended_by_refusal (Document fault size) = record { status = BadDocument fault; size = size }
ended_by_refusal (Policy fault) = ended (BadPolicy fault)
ended_by_refusal (Data name at) = ended (BadData name at)
ended_by_refusal (Item item code) = ended (Refused item code)

abbrev pub ended_by : Stop → Ended
ended_by (stops.Words index) = ended (BadWords index)
ended_by (stops.File name faults.NoSuch) = ended (NoSuchFile name)
ended_by (stops.File name faults.Failed) = ended (ReadFault name)
ended_by (stops.File name (faults.TooLong got)) = ended (TooLong name got)
ended_by (stops.Refusal refusal) = ended_by_refusal refusal
ended_by stops.OutOfMemory = ended OutOfMemory
