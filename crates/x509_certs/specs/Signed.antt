-- What certificates and CRLs have alike: RFC 5280, 4.1.1 and 5.1.1. A path says where a part stands.
-- Each function takes all the bytes of an object. Of bytes that are none it says what stands there, or nothing.
use Rattle.std.specs.Prelude.{ℕ, ℤ, pos, List, [], Option, Some, None, drop, is_none, if◌then◌else◌}
use Rattle.der_values.specs.Element.{Element}
use Rattle.der_values.specs.Rules.{nth, content_of, whole_of}
use Rattle.der_values.specs.Times.{seconds_of}

-- What the k-th element of a content holds, from 0.
abbrev pub part : ℕ → List ℕ → List ℕ
part k content = content_of (nth k content)

-- All its bytes.
abbrev pub piece : ℕ → List ℕ → List ℕ
piece k content = whole_of (nth k content)

-- The seconds since 1970 of a time, if it is one.
abbrev pub time_of : Option Element → Option ℤ
time_of None = None
time_of (Some e) = seconds_of e

abbrev pub or_0 : Option ℤ → ℤ
or_0 None = pos 0
or_0 (Some z) = z

-- The same of a time that has to stand: in a whole object it does.
abbrev pub time_or_0 : Option Element → ℤ
time_or_0 o = or_0 (time_of o)

-- The OID of an algorithm, or nothing where parameters stand: the algorithms of this project have none.
abbrev pub algorithm_name : List ℕ → List ℕ
algorithm_name content = if is_none (nth 1 content) then part 0 content else []

-- The bytes of a BIT STRING, behind the number of unused bits.
abbrev pub bit_bytes : List ℕ → List ℕ
bit_bytes content = drop 1 content

-- What the part that is signed holds, tbsCertificate or tbsCertList.
abbrev pub fields : List ℕ → List ℕ
fields whole = part 0 (part 0 whole)

-- All the bytes that are signed.
abbrev pub tbs : List ℕ → List ℕ
tbs whole = piece 0 (part 0 whole)

-- The OID of the signature's algorithm.
abbrev pub sign_oid : List ℕ → List ℕ
sign_oid whole = algorithm_name (part 1 (part 0 whole))

abbrev pub signature : List ℕ → List ℕ
signature whole = bit_bytes (part 2 (part 0 whole))
