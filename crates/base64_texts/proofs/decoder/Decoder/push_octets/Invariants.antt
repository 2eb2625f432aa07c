use Rattle.std.proofs.Common.{◌≡◌, IsTrue, drop}
use Rattle.base64_texts.specs.Readings.{read_on, has_fault}
use Rattle.base64_texts.proofs.decoder.Decoder.push_octets.Given as goal

abbrev pub invariant-loop-octet : goal.invariant-loop-octet
invariant-loop-octet l = record {
  told : read_on l.self (drop l.octet-index l.octets) ≡ read_on l.initial.self l.octets;
  settled : IsTrue (has_fault l.initial.self) → l.self ≡ l.initial.self;
}
