use Rattle.std.proofs.Common.{ℕ, List, ap, subst, ◌∙◌}
use Rattle.std.specs.Prelude.{MatchResult}
use Rattle.algorithms.specs.Digests.{digest_of}
use Rattle.tst_tokens.specs.Sound.{IsFirst, IsSound}
use Rattle.tst_tokens.specs.View.{token_bytes}
use Rattle.stamp_checks.proofs.soundness.check_read.Goals as goal

pub returns-clause-judged : goal.returns-clause-judged
returns-clause-judged c =
    let whole = token_bytes c.args.token.now in
    let Judged : List ℕ → Type 0 = λ covered. MatchResult c.check_token.result (λ done. IsSound covered whole) (λ fault. IsFirst covered whole fault) in
    subst Judged (c.digest-digest.ensures ∙ ap (λ kind. digest_of kind c.args.covered.now) c.imprint_kind.ensures) c.check_token.ensures.judged
