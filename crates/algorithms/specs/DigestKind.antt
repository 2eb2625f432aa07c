-- The names of the kinds of digests.
use Rattle.std.specs.Prelude.{ℕ, List, [], ◌∷◌, ◌++◌, codes}
use Rattle.algorithms.specs.declared.digest_kinds.DigestKind.{DigestKind}
use Rattle.algorithms.specs.declared.digest_kinds.DigestKind.TheVariants.{Sha256, Sha384, Sha512}

-- the URI of a DigestMethod (XML Encryption 5.7, RFC 9231 2.1)
abbrev pub uri_of : DigestKind → List ℕ
uri_of Sha256 = codes "http://www.w3.org/2001/04/xmlenc#sha256"
uri_of Sha384 = codes "http://www.w3.org/2001/04/xmldsig-more#sha384"
uri_of Sha512 = codes "http://www.w3.org/2001/04/xmlenc#sha512"

-- the content octets of 2.16.840.1.101.3.4.2, under which the hash functions stand (RFC 5754, section 2)
abbrev pub hash_algorithms : List ℕ
hash_algorithms = 0x60 ∷ 0x86 ∷ 0x48 ∷ 0x01 ∷ 0x65 ∷ 0x03 ∷ 0x04 ∷ 0x02 ∷ []

-- the content octets of the object identifier
abbrev pub oid_of : DigestKind → List ℕ
oid_of Sha256 = hash_algorithms ++ 1 ∷ []
oid_of Sha384 = hash_algorithms ++ 2 ∷ []
oid_of Sha512 = hash_algorithms ++ 3 ∷ []

-- the word of policies and reports
abbrev pub word_of : DigestKind → List ℕ
word_of Sha256 = codes "sha256"
word_of Sha384 = codes "sha384"
word_of Sha512 = codes "sha512"
