-- What the words of the code for a token's soundness mean: RFC 3161, 2.4.2. This project's own.
use Rattle.signature_evidence.specs.Soundness as evidence
use Rattle.signature_cases.specs.declared.words.Soundness.{Soundness}
use Rattle.signature_cases.specs.declared.words.Soundness.TheVariants as words

abbrev pub soundness_in : Soundness → evidence.Soundness
soundness_in words.Sound = evidence.Sound
soundness_in words.ImprintDiffers = evidence.ImprintDiffers
soundness_in words.ContentDigestDiffers = evidence.ContentDigestDiffers
soundness_in words.NoSigner = evidence.NoSigner
soundness_in words.CertHashDiffers = evidence.CertHashDiffers
soundness_in words.Purpose = evidence.Purpose
soundness_in words.UnknownKind = evidence.UnknownKind
soundness_in words.Fails = evidence.Fails
