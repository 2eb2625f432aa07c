use Rattle.std.proofs.Common.{refl}
use Rattle.tst_tokens.proofs.Parts.{parts_stand}
use Rattle.tst_tokens.proofs.token.read_token.Goals as goal

pub returns-in-Ok-clause-time : goal.returns-in-Ok-clause-time
returns-in-Ok-clause-time c = (parts_stand c.args.bytes.now (c.in-Ok.ensures.exact.0 refl)).time
