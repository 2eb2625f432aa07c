-- Why a document stops a command.
use Rattle.std.specs.Prelude.{◌≡◌, ℕ, List, length}
use Rattle.augmenter.specs.Answers.{IsFaultyDocument}
use Rattle.xades_cli.specs.declared.stop.Refusal.TheVariants.{Document}
use Rattle.xades_cli.specs.declared.stop.Stop.{Stop}
use Rattle.xades_cli.specs.declared.stop.Stop.TheVariants as stops

-- it is told the document's first fault; want of memory is free
abbrev pub IsStopped : List ℕ → Stop → Type 0
IsStopped document (stops.Refusal (Document fault size)) = IsFaultyDocument document fault × (size ≡ length document)
IsStopped document stops.OutOfMemory = Unit {0}
IsStopped document stop = ⊥
