use Rattle.std.proofs.Common.{◌++◌}
use Rattle.lms_verify.specs.LmOts.{u16str, u32str, chain}
use Rattle.lms_verify.proofs.Texts.{IsText}
use Rattle.lms_verify.proofs.lm_ots.chain.Given as goal

abbrev pub invariant-steps : goal.invariant-steps
invariant-steps l = IsText l.text (l.id ++ u32str l.q ++ u16str l.i) (chain l.id l.q l.i l.from l.n l.fn.start)
