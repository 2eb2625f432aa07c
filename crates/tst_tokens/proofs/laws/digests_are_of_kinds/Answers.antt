use Rattle.tst_tokens.proofs.DigestKinds.{digests_are_of_kinds}
use Rattle.tst_tokens.proofs.laws.digests_are_of_kinds.Goals as goal

pub returns : goal.returns
returns c = digests_are_of_kinds
