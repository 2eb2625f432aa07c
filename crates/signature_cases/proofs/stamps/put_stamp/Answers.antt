use Rattle.std.proofs.Common.{sym, ap, subst, ◌∙◌}
use Rattle.acceptance.specs.Objects.{token_of}
use Rattle.existence_times.specs.Kept.{with_stamp}
use Rattle.existence_times.specs.Shown.{HasSignerOf, HasToken, Shown}
use Rattle.signature_cases.specs.Stamps.{covered_by}
use Rattle.signature_cases.proofs.stamps.put_stamp.Goals as goal

pub add_stamp-requires-clause-token : goal.add_stamp-requires-clause-token
add_stamp-requires-clause-token c =
    let token = c.args.stamp.token.now in
    let same = c.in_ok-object.ensures.there c.requires.there.0 c.requires.there.1 in (
      token,
      c.in_ok-object.ensures.number,
      subst (λ (case : Shown). HasSignerOf case.pool (token_of token)) (sym same) c.requires.signer,
    )

pub returns-clause-number : goal.returns-clause-number
returns-clause-number c objects s =
    let token = c.args.stamp.token.now in
    let same = c.in_ok-object.ensures.there c.requires.there.0 c.requires.there.1 in
    (s.tokens c.in_ok-object.object.number token (subst (λ (case : Shown). HasToken case c.in_ok-object.object.number token) same c.in_ok-object.ensures.number)).1

pub returns-clause-stamp : goal.returns-clause-stamp
returns-clause-stamp c objects s =
    let token = c.args.stamp.token.now in
    let same = c.in_ok-object.ensures.there c.requires.there.0 c.requires.there.1 in
    let number = (s.tokens c.in_ok-object.object.number token (subst (λ (case : Shown). HasToken case c.in_ok-object.object.number token) same c.in_ok-object.ensures.number)).1 in
    let covers = c.in_ok-covers.ensures.are ∙ ap (λ (case : Shown). covered_by c.args.stamp.kind case.references c.args.before) same in
    let sound = c.is_sound-sound.ensures in
    c.in_ok-add_stamp.ensures.ok token c.in_ok-object.ensures.number
    ∙ (λ i. with_stamp (same i) (record { object = number i; token = token; sound = sound i; covers = covers i }))
