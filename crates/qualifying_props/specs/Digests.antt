-- The digests by which the certificates of KeyInfo are compared: FIPS 180-4.
use Rattle.std.specs.Prelude.{ℕ, Bool, List}
use Rattle.algorithms.specs.declared.digest_kinds.DigestKind.{DigestKind}
use Rattle.algorithms.specs.declared.digest_kinds.DigestKind.TheVariants.{Sha256, Sha384, Sha512}
use Rattle.algorithms.specs.Digests.{digest_of}
use Rattle.document_model.specs.Characters.{◌is◌}
use Rattle.signature_model.specs.Vocabulary as model

-- the algorithm that a name means
abbrev pub algorithm : model.DigestKind → DigestKind
algorithm model.Sha256 = Sha256
algorithm model.Sha384 = Sha384
algorithm model.Sha512 = Sha512

abbrev pub digest : model.DigestKind → List ℕ → List ℕ
digest kind octets = digest_of (algorithm kind) octets

-- whether octets have a digest
abbrev pub has_digest : DigestKind → List ℕ → List ℕ → Bool
has_digest kind wanted octets = digest_of kind octets is wanted
