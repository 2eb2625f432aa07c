-- The parts that made certificates, CRLs and tokens have alike: RFC 5280, 4.1 and 5.1. X.690 has the encoding.
use Rattle.std.specs.Prelude.{ℕ, ◌/◌, ◌%◌, List, [], ◌∷◌, ◌++◌, codes, nat_lt, if◌then◌else◌}
use Rattle.std.specs.Fmt.{decimal}
use Rattle.xa_io.specs.Tlv.{tlv}
use Rattle.algorithms.specs.SignatureKind.{oid_of}
use Rattle.algorithms.specs.declared.signature_kinds.SignatureKind.TheVariants.{Hss}

-- the content of an INTEGER below 2^31 that isn't negative: the fewest bytes of which the first is below 128 (X.690, 8.3)
unfoldable pub integer_content : ℕ → List ℕ
integer_content n =
    if nat_lt n 0x80 then n ∷ []
    else if nat_lt n 0x8000 then (n / 0x100) ∷ (n % 0x100) ∷ []
    else if nat_lt n 0x800000 then (n / 0x10000) ∷ (n / 0x100 % 0x100) ∷ (n % 0x100) ∷ []
    else (n / 0x1000000) ∷ (n / 0x10000 % 0x100) ∷ (n / 0x100 % 0x100) ∷ (n % 0x100) ∷ []

-- an INTEGER
abbrev pub integer : ℕ → List ℕ
integer n = tlv 0x02 (integer_content n)

-- a BIT STRING of whole bytes (X.690, 8.6)
abbrev pub bit_string : List ℕ → List ℕ
bit_string bytes = tlv 0x03 (0 ∷ bytes)

-- the AlgorithmIdentifier of HSS, which has no parameters (RFC 8708, 3)
unfoldable pub algorithm : List ℕ
algorithm = tlv 0x30 (tlv 0x06 (oid_of Hss))

-- the CommonName of key j (RFC 5280, 4.1.2.4): 2.5.4.3 and a UTF8String, K and the number in decimal
abbrev pub common_name : ℕ → List ℕ
common_name j = tlv 0x06 (0x55 ∷ 0x04 ∷ 0x03 ∷ []) ++ tlv 0x0C (codes "K" ++ decimal j)

-- the name of key j, which is this CommonName
unfoldable pub name : ℕ → List ℕ
name j = tlv 0x30 (tlv 0x31 (tlv 0x30 (common_name j)))

-- a signed object of what is signed and a signature by HSS (4.1.1, 5.1.1)
unfoldable pub signed_object : List ℕ → List ℕ → List ℕ
signed_object to_be_signed signature = tlv 0x30 (to_be_signed ++ (algorithm ++ bit_string signature))
