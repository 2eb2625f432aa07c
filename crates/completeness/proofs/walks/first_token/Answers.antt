use Rattle.std.proofs.Common.{ℕ, ◌+◌, List, Option, arith, sym, subst, ◌∙◌, true≢false}
use Rattle.std.specs.List.{Contains}
use Rattle.std.specs.Prelude.{option_and_then, slice_get}
use Rattle.signature_objects.proofs.Numbered.{token_at_is}
use Rattle.completeness.specs.Complete.{IsComplete}
use Rattle.completeness.specs.Signers.{shown_signers}
use Rattle.completeness.proofs.Passing.{Passed, begun, next_is_there, no_token_at, passed_all, passed_none, passed_some, passed_to, token_at_property}
use Rattle.completeness.proofs.walks.first_token.Goals.{in-Some+in_ok-is_complete+else-not-branch, in_default-token}
use Rattle.completeness.proofs.walks.first_token.Goals as goal

pub loop-number-init : goal.loop-number-init
loop-number-init c = begun c.args.links.now.pool c.args.links.now.policy _ c.args.parts.now.properties c.requires.signer

pub signer_of-requires : goal.signer_of-requires
signer_of-requires c = token_at_is c.args.parts.now c.loop-number.number c.in-Some.token.now c.requires.whole c.in-Some.ensures

pub is_complete-requires : goal.is_complete-requires
is_complete-requires c = record {
  there = λ bytes e.
      let at = token_at_property c.args.parts.now.properties c.loop-number.number c.in-Some.token.now c.in-Some.ensures in
      c.requires.there bytes
      (subst (λ (o : Option (List ℕ)). Contains (shown_signers c.args.parts.now) o) (sym c.signer_of.ensures ∙ e)
      (next_is_there c.args.links.now.pool c.args.links.now.policy _ c.args.parts.now.properties c.loop-number.number c.loop-number.before at.0 c.in-Some.token.now at.1 at.2 c.loop-number.invariant));
}

pub returns-then-not-branch : goal.returns-then-not-branch
returns-then-not-branch c =
    let at = token_at_property c.args.parts.now.properties c.loop-number.number c.in-Some.token.now c.in-Some.ensures in
    passed_to c.args.links.now.pool c.args.links.now.policy _ c.args.parts.now.properties c.loop-number.number c.loop-number.before at.0 c.in-Some.token.now at.1 at.2
    (λ h. true≢false
    (sym (c.in_ok-is_complete.ensures.1 (subst (λ (o : Option (List ℕ)). IsComplete c.args.links.now.pool c.args.links.now.policy o) (sym c.signer_of.ensures) h)) ∙ c.if-not-branch.true))
    c.loop-number.invariant

pub loop-number-preserved : goal.loop-number-preserved
loop-number-preserved c =
    let properties = c.args.parts.now.properties in
    let number = c.loop-number.number in
    let signer : Option (List ℕ) = option_and_then (slice_get c.args.parts.now.key_certs) c.args.parts.now.signing_cert in
    let next : ℕ → Type 0 = λ before. Passed c.args.links.now.pool c.args.links.now.policy signer properties (number + 1) before in
    elim c.match-token.branch [
      | in-Some+in_ok-is_complete+else-not-branch w ↦
          let at = token_at_property properties number w.in-Some.token.now w.in-Some.ensures in
          subst next (sym w.before-is)
          (passed_some c.args.links.now.pool c.args.links.now.policy signer properties number c.loop-number.before at.0 w.in-Some.token.now at.1 at.2
          (subst (λ (o : Option (List ℕ)). IsComplete c.args.links.now.pool c.args.links.now.policy o) w.signer_of.ensures (w.in_ok-is_complete.ensures.0 w.if-not-branch.false)) c.loop-number.invariant)
      | in_default-token w ↦
          let at = no_token_at properties number (omega (arith, c.loop-number-test.true, c.in-Ok.ensures, c.properties.ensures)) w.in_default-token.ensures in
          subst next (sym w.before-is) (passed_none c.args.links.now.pool c.args.links.now.policy signer properties number c.loop-number.before at.0 at.1 at.2 c.loop-number.invariant)
    ]

pub returns : goal.returns
returns c =
    passed_all c.args.links.now.pool c.args.links.now.policy _ c.args.parts.now.properties c.loop-number.number c.loop-number.before
    (omega (arith, c.loop-number-test.false, c.in-Ok.ensures, c.properties.ensures)) c.loop-number.invariant
