-- What is computed of files, where what a command comes to is told by a relation, and what an answer says beyond it.
use Rattle.std.specs.Prelude.{ℕ, true, false, List, Result, Ok, Err}
use Rattle.xades_cli.specs.Outcomes.{Outcome, Gives, Refuses}
use Rattle.xades_cli.specs.declared.answers.Answer.{Answer}
use Rattle.xades_cli.specs.declared.answers.Answer.TheVariants.{Text, Report}
use Rattle.xades_cli.specs.declared.stop.Refusal.{Refusal}
use Rattle.xades_cli.specs.declared.stop.Stop.{Stop}
use Rattle.xades_cli.specs.declared.stop.Stop.TheVariants as stops

-- an answer that will end with Done gives bytes of which something holds
abbrev pub AnswerSays : (List ℕ → Type 0) → Answer → Type 0
AnswerSays Says (Text text) = Says text
AnswerSays Says (Report text true) = Says text
AnswerSays Says (Report text false) = Unit {0}

-- it gives what the command comes to
pub record IsAnswerOf (Comes : Outcome → Type 0) (Says : List ℕ → Type 0) (answer : Answer) : Type 0 where
  pub outcome : Outcome
  pub comes : Comes outcome
  pub gives : Gives outcome answer
  pub says : AnswerSays Says answer

-- what is refused is what the command comes to
pub record IsRefusalOf (Comes : Outcome → Type 0) (refusal : Refusal) : Type 0 where
  pub outcome : Outcome
  pub comes : Comes outcome
  pub refuses : Refuses outcome refusal

-- either of them; want of memory is free
abbrev pub IsResultOf : (Outcome → Type 0) → (List ℕ → Type 0) → Result Answer Stop → Type 0
IsResultOf Comes Says (Ok answer) = IsAnswerOf Comes Says answer
IsResultOf Comes Says (Err (stops.Refusal refusal)) = IsRefusalOf Comes refusal
IsResultOf Comes Says (Err stops.OutOfMemory) = Unit {0}
IsResultOf Comes Says (Err (stops.Words index)) = ⊥
IsResultOf Comes Says (Err (stops.File name fault)) = ⊥
