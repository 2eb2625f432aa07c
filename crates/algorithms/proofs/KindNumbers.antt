-- Kinds of one number are one, so a hasher whose mark was kept is of the kind that it was.
use Rattle.std.proofs.Common.{◌≡◌, refl, arith}
use Rattle.algorithms.specs.declared.digest_kinds.DigestKind.{DigestKind}
use Rattle.algorithms.specs.declared.digest_kinds.DigestKind.TheVariants.{Sha256, Sha384, Sha512}
use Rattle.algorithms.specs.Digests.{number_of}

pub same_kind : (a b : DigestKind) → number_of a ≡ number_of b → a ≡ b
same_kind Sha256 Sha256 e = refl
same_kind Sha256 Sha384 e = absurd (omega (arith, e))
same_kind Sha256 Sha512 e = absurd (omega (arith, e))
same_kind Sha384 Sha256 e = absurd (omega (arith, e))
same_kind Sha384 Sha384 e = refl
same_kind Sha384 Sha512 e = absurd (omega (arith, e))
same_kind Sha512 Sha256 e = absurd (omega (arith, e))
same_kind Sha512 Sha384 e = absurd (omega (arith, e))
same_kind Sha512 Sha512 e = refl
