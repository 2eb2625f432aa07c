-- What digest algorithms in memory mean: XML Signature 1.1, "Message Digests".
use Rattle.algorithms.specs.declared.digest_kinds.DigestKind as code
use Rattle.algorithms.specs.declared.digest_kinds.DigestKind.TheVariants as kinds
use Rattle.signature_model.specs.Vocabulary.{DigestKind, Sha256, Sha384, Sha512}

abbrev pub kind_in : code.DigestKind → DigestKind
kind_in kinds.Sha256 = Sha256
kind_in kinds.Sha384 = Sha384
kind_in kinds.Sha512 = Sha512
