-- At most one outcome fits what items come to.
use Rattle.std.proofs.Common.{◌≡◌, ℕ, List, ◌∙◌, sym, ap}
use Rattle.std.specs.Prelude.{ℤ, IsSome, Option, None, Result, Ok, Err}
use Rattle.augmenter.specs.declared.items.Item.{Item}
use Rattle.augmenter.specs.declared.refusals.Refusal.TheVariants.{Refused}
use Rattle.augmenter.proofs.OneAnswer.{answers_are_one}
use Rattle.policy_rules.specs.Faults as policies
use Rattle.policy_rules.specs.Rules.{Rules}
use Rattle.signature_model.specs.Chains.{Handed}
use Rattle.whole_files.specs.Wants as files
use Rattle.whole_files.specs.Wants.{Held}
use Rattle.xades_cli.specs.Attach.{IsItemsOutcome, IsOutcomeBy, items_of}
use Rattle.xades_cli.specs.Handing.{handed_by}
use Rattle.xades_cli.specs.Outcomes.{Outcome, Writes, Reports, RefusesDocument, RefusesPolicy, RefusesData, RefusesItem}

pub no_fault : {A : Type 0} (found : Option A) → found ≡ None → IsSome found → ⊥
no_fault found none some = cc

items_once : (rules : Rules) (handed : Handed) (at : ℤ) (items : List Item) (bytes : List ℕ) (one two : Outcome)
    → IsItemsOutcome rules handed at items bytes one → IsItemsOutcome rules handed at items bytes two → one ≡ two
items_once rules handed at items bytes (Writes new) (Writes other) comes again = ap Writes (comes.2 ∙ sym again.2)
items_once rules handed at items bytes (Writes new) (RefusesItem number code) comes again =
    let one : Ok new ≡ Err (Refused number code) = answers_are_one rules handed at items bytes (Ok new) (Err (Refused number code)) (λ e. cc) (λ e. cc) comes again in cc
items_once rules handed at items bytes (Writes new) (RefusesDocument document) comes again = absurd (no_fault _ comes.0 again.1)
items_once rules handed at items bytes (RefusesItem number code) (Writes new) comes again =
    let one : Ok new ≡ Err (Refused number code) = answers_are_one rules handed at items bytes (Ok new) (Err (Refused number code)) (λ e. cc) (λ e. cc) again comes in cc
items_once rules handed at items bytes (RefusesItem number code) (RefusesItem other another) comes again =
    let one : Err (Refused number code) ≡ Err (Refused other another)
    = answers_are_one rules handed at items bytes (Err (Refused number code)) (Err (Refused other another)) (λ e. cc) (λ e. cc) comes again in
    let numbers : number ≡ other = cc in
    let codes : code ≡ another = cc in
    (λ i. RefusesItem (numbers i) (codes i))
items_once rules handed at items bytes (RefusesItem number code) (RefusesDocument document) comes again = absurd (no_fault _ comes.0 again.1)
items_once rules handed at items bytes (RefusesDocument document) (Writes new) comes again = absurd (no_fault _ again.0 comes.1)
items_once rules handed at items bytes (RefusesDocument document) (RefusesItem number code) comes again = absurd (no_fault _ again.0 comes.1)
items_once rules handed at items bytes (RefusesDocument document) (RefusesDocument other) comes again = ap RefusesDocument (comes.0 ∙ sym again.0)
items_once rules handed at items bytes (Reports verdict text) two comes again = absurd comes
items_once rules handed at items bytes (RefusesPolicy fault) two comes again = absurd comes
items_once rules handed at items bytes (RefusesData name place) two comes again = absurd comes
items_once rules handed at items bytes one (Reports verdict text) comes again = absurd again
items_once rules handed at items bytes one (RefusesPolicy fault) comes again = absurd again
items_once rules handed at items bytes one (RefusesData name place) comes again = absurd again

pub attaches_once : (policy : Result Rules policies.Fault) (at : ℤ) (held : List Held) (one two : Outcome) → IsOutcomeBy policy at held one → IsOutcomeBy policy at held two → one ≡ two
attaches_once (Err fault) at held one two comes again = comes ∙ sym again
attaches_once (Ok rules) at held one two comes again = items_once rules (handed_by held) at (items_of held) (files.document_of held) one two comes again
