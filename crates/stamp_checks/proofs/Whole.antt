-- What stands against a whole token.
use Rattle.std.proofs.Common.{ℕ, List}
use Rattle.der_values.specs.Fits.{IsObject}
use Rattle.tst_tokens.specs.Layouts as layouts
use Rattle.tst_tokens.specs.Sound.{IsFirst}
use Rattle.tst_tokens.specs.declared.fault.TokenFault.{TokenFault}
use Rattle.tst_tokens.specs.declared.fault.TokenFault.TheVariants as faults
use Rattle.stamp_checks.specs.Sound.{covered_digest, IsFirstOver}

pub first_of_whole : (covered token : List ℕ) (fault : TokenFault) → IsObject layouts.token token → IsFirst (covered_digest covered token) token fault
    → IsFirstOver covered token fault
first_of_whole covered token (faults.Shape at) whole h = absurd h
first_of_whole covered token (faults.ImprintDiffers got want) whole h = (whole, h)
first_of_whole covered token (faults.ContentDigestDiffers got want) whole h = (whole, h)
first_of_whole covered token faults.NoSigner whole h = (whole, h)
first_of_whole covered token (faults.CertHashDiffers got want) whole h = (whole, h)
first_of_whole covered token faults.Purpose whole h = (whole, h)
first_of_whole covered token faults.UnknownKind whole h = (whole, h)
first_of_whole covered token faults.Fails whole h = (whole, h)
first_of_whole covered token faults.OutOfMemory whole h = tt
