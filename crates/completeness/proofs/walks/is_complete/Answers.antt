use Rattle.std.proofs.Common.{◌≡◌, ◌↔◌, ℕ, List, Option, Some, IsTrue, rules, sym, subst}
use Rattle.std.specs.Option.{option_copied}
use Rattle.completeness.specs.Complete.{IsComplete}
use Rattle.completeness.proofs.Passing.{answer_is}
use Rattle.completeness.proofs.walks.is_complete.Goals as goal

pub returns-in_ok-answer-in-Some : goal.returns-in_ok-answer-in-Some
returns-in_ok-answer-in-Some c =
    let is : option_copied c.args.signer ≡ Some c.in-Some.bytes.now = search rules in
    subst (λ (o : Option (List ℕ)). IsTrue c.in_ok-answer-in-Some.answer ↔ IsComplete c.args.links.now.pool c.args.links.now.policy o) (sym is)
    (answer_is c.args.links.now.pool c.args.links.now.policy c.in_ok-answer-in-Some.answer c.in-Some.bytes.now (c.requires.there c.in-Some.bytes.now is) c.in_ok-answer-in-Some.ensures)
