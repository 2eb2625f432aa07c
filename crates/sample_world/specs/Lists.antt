-- The CRLs that a world makes: RFC 5280, 5.1.
use Rattle.std.specs.Prelude.{ℕ, ℤ, ◌+◌, List, [], ◌∷◌, ◌++◌, Option, None, Some}
use Rattle.xa_io.specs.Tlv.{tlv}
use Rattle.sample_world.specs.Moments.{time}
use Rattle.sample_world.specs.Parts.{integer, algorithm, name}

-- version 2, the algorithm and the issuer (5.1.2.1 to 5.1.2.3)
unfoldable pub list_front : ℕ → List ℕ
list_front issuer = tlv 0x02 (1 ∷ []) ++ (algorithm ++ name issuer)

-- thisUpdate and nextUpdate (5.1.2.4, 5.1.2.5)
unfoldable pub updates : (from next : ℤ) → List ℕ
updates from next = time from ++ time next

-- the entry of key j's certificate, listed from a date on (5.1.2.6)
unfoldable pub entry : ℕ → ℤ → List ℕ
entry j date = tlv 0x30 (integer (j + 1) ++ time date)

-- the entries, of which there is at most one; the list is left out where there is none
unfoldable pub entries : Option (ℕ × ℤ) → List ℕ
entries None = []
entries (Some revoked) = tlv 0x30 (entry revoked.0 revoked.1)

-- what an issuer signs, without extensions
unfoldable pub list_fields : (issuer : ℕ) → (from next : ℤ) → Option (ℕ × ℤ) → List ℕ
list_fields issuer from next revoked = list_front issuer ++ (updates from next ++ entries revoked)
