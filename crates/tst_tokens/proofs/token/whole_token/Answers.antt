use Rattle.tst_tokens.proofs.Parts.{parts_stand}
use Rattle.tst_tokens.proofs.token.whole_token.Goals as goal

pub returns-clause-time : goal.returns-clause-time
returns-clause-time c = (parts_stand c.args.bytes.now c.requires).time
