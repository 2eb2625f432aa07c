-- What a hasher holds, and the digest that it gives.
use Rattle.std.specs.Prelude.{ℕ, List}
use Rattle.sha2.specs.Sha256.{sha256}
use Rattle.sha2.specs.Sha512.{sha384, sha512}
use Rattle.sha2.specs.Hashers.{Holds256, Holds384, Holds512}
use Rattle.algorithms.specs.declared.digest_kinds.DigestKind.{DigestKind}
use Rattle.algorithms.specs.declared.digest_kinds.DigestKind.TheVariants.{Sha256, Sha384, Sha512}
use Rattle.algorithms.specs.declared.digests.Hasher.{Hasher}
use Rattle.algorithms.specs.declared.digests.Hasher.TheVariants.{Of256, Of384, Of512}

-- the digest of a message by a kind (FIPS 180-4)
abbrev pub digest_of : DigestKind → List ℕ → List ℕ
digest_of Sha256 m = sha256 m
digest_of Sha384 m = sha384 m
digest_of Sha512 m = sha512 m

-- how many bytes a digest of a kind has
abbrev pub size_of : DigestKind → ℕ
size_of Sha256 = 32
size_of Sha384 = 48
size_of Sha512 = 64

-- the kind of a hasher
abbrev pub kind_of : Hasher → DigestKind
kind_of (Of256 h) = Sha256
kind_of (Of384 h) = Sha384
kind_of (Of512 h) = Sha512

-- the hasher holds the message m
abbrev pub HoldsMessage : Hasher → List ℕ → Type 0
HoldsMessage (Of256 h) m = Holds256 h m
HoldsMessage (Of384 h) m = Holds384 h m
HoldsMessage (Of512 h) m = Holds512 h m

-- a kind's number, by which a hasher is marked: what is put leaves its kind as it is
abbrev pub number_of : DigestKind → ℕ
number_of Sha256 = 0
number_of Sha384 = 1
number_of Sha512 = 2
