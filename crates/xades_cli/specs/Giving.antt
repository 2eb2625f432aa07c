-- How an answer is given out.
use Rattle.std.specs.Prelude.{◌≡◌, ℕ, true, false, List, Option}
use Rattle.xa_io.specs.Sink.{appended, GaveFirst}
use Rattle.xades_cli.specs.declared.answers.Answer.{Answer}
use Rattle.xades_cli.specs.declared.answers.Answer.TheVariants.{Text, Report}
use Rattle.xades_cli.specs.declared.status.Status.{Status}
use Rattle.xades_cli.specs.declared.status.Status.TheVariants.{Done, No, WriteFault}

-- the text was given whole and the status tells the verdict, or a first part of it was given
abbrev pub IsGiven : Answer → Status → Option (List ℕ) → Option (List ℕ) → Type 0
IsGiven (Text text) Done before now = now ≡ appended before text
IsGiven (Text text) WriteFault before now = GaveFirst text before now
IsGiven (Report text true) Done before now = now ≡ appended before text
IsGiven (Report text false) No before now = now ≡ appended before text
IsGiven (Report text verdict) WriteFault before now = GaveFirst text before now
IsGiven answer status before now = ⊥
