use Rattle.std.proofs.Common.{ℕ, List, Option, sym, subst, ◌∙◌}
use Rattle.std.specs.List.{Contains}
use Rattle.acceptance.proofs.Rounds.{Contains-first}
use Rattle.completeness.specs.Complete.{IsFirstIncomplete}
use Rattle.completeness.specs.Signers.{shown_signers}
use Rattle.completeness.proofs.Told.{shown_are_there, signers_told}
use Rattle.completeness.proofs.walks.first_incomplete_by.Goals as goal

pub is_complete-requires : goal.is_complete-requires
is_complete-requires c = record {
  there = λ bytes e.
      let p = c.requires.pool in
      shown_are_there p.0 c.args.parts.now p.1 c.args.links.now.pool p.2 p.3 bytes
      (subst (λ (o : Option (List ℕ)). Contains (shown_signers c.args.parts.now) o) (sym c.signing_certificate.ensures ∙ e) (Contains-first _ _));
}

pub first_token-requires-clause-there : goal.first_token-requires-clause-there
first_token-requires-clause-there c =
    let p = c.requires.pool in
    shown_are_there p.0 c.args.parts.now p.1 c.args.links.now.pool p.2 p.3

pub returns : goal.returns
returns c doc h =
    subst (λ (all : List (Option (List ℕ))). IsFirstIncomplete c.args.links.now.pool c.args.links.now.policy all c.in_ok-found.found) (signers_told doc c.args.parts.now h) c.in_ok-found.ensures
