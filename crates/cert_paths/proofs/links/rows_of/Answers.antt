use Rattle.cert_paths.proofs.GatherLaws.{issuers_over}
use Rattle.cert_paths.proofs.links.rows_of.Goals as goal

pub returns-clause-issuers : goal.returns-clause-issuers
returns-clause-issuers c = issuers_over _ _ _ _ c.as_slice.ensures.value c.in_ok-issuers.ensures
