use Rattle.std.proofs.Common.{ℕ, List, refl, subst}
use Rattle.std.proofs.lemmas.Result.{MatchResult-weaker}
use Rattle.std.specs.Prelude.{MatchResult}
use Rattle.stamp_checks.specs.Sound.{covered_digest, IsSoundOver}
use Rattle.tst_tokens.specs.Sound.{IsFirst}
use Rattle.stamp_checks.proofs.Whole.{first_of_whole}
use Rattle.stamp_checks.proofs.soundness.check_over.Goals as goal

pub returns-in-Ok-clause-judged : goal.returns-in-Ok-clause-judged
returns-in-Ok-clause-judged c =
    let covered = c.args.covered.now in
    let whole = c.in-Ok.ensures.exact.0 refl in
    let Judged : List ℕ → Type 0 = λ token. MatchResult c.check_read.result (λ done. IsSoundOver covered token) (λ fault. IsFirst (covered_digest covered token) token fault) in
    MatchResult-weaker c.check_read.result (subst Judged c.in-Ok.ensures.ok c.check_read.ensures.judged) (λ done sound. (whole, sound))
    (λ fault first. first_of_whole covered c.args.token.now fault whole first)
