use Rattle.std.proofs.Common.{◌≡◌, ◌+◌, drop}
use Rattle.xa_io.specs.Tlv.{leading_zeros_of}
use Rattle.xa_io.proofs.tlv.leading_zeros.Given as goal

abbrev pub invariant-loop-byte : goal.invariant-loop-byte
invariant-loop-byte l = record {
  counted : l.count ≡ l.byte-index;
  rest : leading_zeros_of l.bytes ≡ l.count + leading_zeros_of (drop l.byte-index l.bytes);
}
