use Rattle.std.proofs.Common.{◌≡◌, refl, subst, ℕ, List}
use Rattle.std.specs.Prelude.{OnOk}
use Rattle.reference_chains.proofs.HeldTexts.{at_apex}
use Rattle.reference_chains.proofs.set_texts.hand_on_set.Goals as goal

pub returns-in-Some : goal.returns-in-Some
returns-in-Some g c =
    let Takes : List ℕ → Type 0 = λ text. OnOk c.hand_on_held.result (c.hand_on_held.new.taker ≡ g.T.TakesText.after c.args.taker.now text) in
    subst Takes (at_apex c.args.set.now c.in-Some.apex (c.in-Some.ensures.has c.in-Some.apex refl) c.in-Some.ensures.path) c.hand_on_held.ensures
