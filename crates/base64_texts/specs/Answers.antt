-- What a text decodes to.
use Rattle.std.specs.Prelude.{◌≡◌, ℕ, List, Some, None, Result, Ok, Err}
use Rattle.signature_model.specs.Spots.{without_white}
use Rattle.signature_model.specs.Base64.{skipping, fault_in}
use Rattle.base64_texts.specs.declared.faults.Base64Fault.{Base64Fault}
use Rattle.base64_texts.specs.declared.faults.Base64Fault.TheVariants.{NotBase64, OutOfMemory}

-- the octets that it spells where white space is skipped, or that it spells none, and where it stops to be base64. Memory may always be
-- wanting
abbrev pub Decodes : List ℕ → Result (List ℕ) Base64Fault → Type 0
Decodes text (Ok octets) = skipping text ≡ Some octets
Decodes text (Err (NotBase64 at)) = (skipping text ≡ None) × (at ≡ fault_in (without_white text))
Decodes text (Err OutOfMemory) = Unit {0}
