use Rattle.std.proofs.Common.{arith}
use Rattle.xmss_definitions.proofs.Octets.{xor_is}
use Rattle.xmssmt_verify.proofs.hashes.xor.Goals as goal

pub returns : goal.returns
returns c = xor_is _ _ _ c.octets.invariant.0 c.requires (omega arith) (λ k h. c.octets.invariant.1 k (omega arith))
