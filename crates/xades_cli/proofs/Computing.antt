-- Results of commands that come to one outcome.
use Rattle.std.proofs.Common.{◌≡◌, ℕ, List}
use Rattle.std.specs.Prelude.{true, false, Result, Ok, Err}
use Rattle.xades_cli.specs.Computed.{AnswerSays, IsResultOf}
use Rattle.xades_cli.specs.Outcomes.{Outcome, IsOf}
use Rattle.xades_cli.specs.Prepare.{TextSays}
use Rattle.xades_cli.specs.declared.answers.Answer.{Answer}
use Rattle.xades_cli.specs.declared.answers.Answer.TheVariants.{Text, Report}
use Rattle.xades_cli.specs.declared.stop.Stop.{Stop}
use Rattle.xades_cli.specs.declared.stop.Stop.TheVariants as stops

says_text : (Says : List ℕ → Type 0) (answer : Answer) → TextSays Says (Ok answer) → AnswerSays Says answer
says_text Says (Text text) says = says
says_text Says (Report text true) says = absurd says
says_text Says (Report text false) says = absurd says

pub text_computed : (Comes : Outcome → Type 0) (Says : List ℕ → Type 0) (outcome : Outcome) (result : Result Answer Stop) → Comes outcome → IsOf outcome result
    → TextSays Says result → IsResultOf Comes Says result
text_computed Comes Says outcome (Ok answer) comes of says = record {
  outcome = outcome;
  comes = comes;
  gives = of;
  says = says_text Says answer says;
}
text_computed Comes Says outcome (Err (stops.Refusal refusal)) comes of says = record {
  outcome = outcome;
  comes = comes;
  refuses = of;
}
text_computed Comes Says outcome (Err stops.OutOfMemory) comes of says = tt
text_computed Comes Says outcome (Err (stops.Words index)) comes of says = of
text_computed Comes Says outcome (Err (stops.File name fault)) comes of says = of

nothing_more : (answer : Answer) → AnswerSays (λ bytes. Unit {0}) answer
nothing_more (Text text) = tt
nothing_more (Report text true) = tt
nothing_more (Report text false) = tt

-- of which nothing more is said
pub plainly_computed : (Comes : Outcome → Type 0) (outcome : Outcome) (result : Result Answer Stop) → Comes outcome → IsOf outcome result → IsResultOf Comes (λ bytes. Unit {0}) result
plainly_computed Comes outcome (Ok answer) comes of = record {
  outcome = outcome;
  comes = comes;
  gives = of;
  says = nothing_more answer;
}
plainly_computed Comes outcome (Err (stops.Refusal refusal)) comes of = record {
  outcome = outcome;
  comes = comes;
  refuses = of;
}
plainly_computed Comes outcome (Err stops.OutOfMemory) comes of = tt
plainly_computed Comes outcome (Err (stops.Words index)) comes of = of
plainly_computed Comes outcome (Err (stops.File name fault)) comes of = of

pub memory_wanted : (Comes : Outcome → Type 0) (Says : List ℕ → Type 0) (result : Result Answer Stop) → result ≡ Err stops.OutOfMemory → IsResultOf Comes Says result
memory_wanted Comes Says result e = rw e tt

-- what an outcome fits, and what is said, in other words
pub in_other_words : (Comes Others : Outcome → Type 0) (Says More : List ℕ → Type 0) (result : Result Answer Stop) → ((outcome : Outcome) → Comes outcome → Others outcome)
    → ((text : List ℕ) → Says text → More text) → IsResultOf Comes Says result → IsResultOf Others More result
in_other_words Comes Others Says More (Ok answer) fits says is = record {
  outcome = is.outcome;
  comes = fits is.outcome is.comes;
  gives = is.gives;
  says = said answer is.says;
}
  where
    said : (answer : Answer) → AnswerSays Says answer → AnswerSays More answer
    said (Text text) s = says text s
    said (Report text true) s = says text s
    said (Report text false) s = tt
in_other_words Comes Others Says More (Err (stops.Refusal refusal)) fits says is = record {
  outcome = is.outcome;
  comes = fits is.outcome is.comes;
  refuses = is.refuses;
}
in_other_words Comes Others Says More (Err stops.OutOfMemory) fits says is = tt
in_other_words Comes Others Says More (Err (stops.Words index)) fits says is = is
in_other_words Comes Others Says More (Err (stops.File name fault)) fits says is = is
