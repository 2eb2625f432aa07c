use Rattle.std.proofs.Common.{◌≡◌, drop}
use Rattle.base64_texts.specs.Scans.{scan_on}
use Rattle.base64_texts.proofs.scanner.Scanner.push_octets.Given as goal

abbrev pub invariant-loop-octet : goal.invariant-loop-octet
invariant-loop-octet l = scan_on l.self (drop l.octet-index l.octets) ≡ scan_on l.initial.self l.octets
