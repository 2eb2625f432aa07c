use Rattle.std.proofs.Common.{ℕ, List, subst}
use Rattle.acceptance.specs.Objects.{token_of}
use Rattle.existence_times.specs.Shown.{HasSignerOf}
use Rattle.sample_cases.proofs.CaseSteps.{keeps_both, signer_kept}
use Rattle.sample_cases.proofs.stamps.put_token.Goals as goal

pub returns-clause-signer : goal.returns-clause-signer
returns-clause-signer c =
    signer_kept c.put_signer.new.case.pool c.add_token.new.self.pool (token_of c.args.token.now) c.in_ok-object.ensures.kept.pool
    (subst (λ (b : List ℕ). HasSignerOf c.put_signer.new.case.pool (token_of b)) c.in-Ok.ensures.ok c.in_ok-put_signer.ensures.signer)

pub returns-clause-kept : goal.returns-clause-kept
returns-clause-kept c =
    keeps_both c.args.case.now c.put_signer.new.case c.add_token.new.self c.in_ok-put_signer.ensures.kept c.in_ok-object.ensures.kept
