-- The text of octets: RFC 4648, section 4.
use Rattle.std.specs.Prelude.{ℕ, List}
use Rattle.base64.specs.GeneralPurpose.{encode_of}
use Rattle.base64.specs.Engines.{standard}

-- the symbols of octets, with the padding
unfoldable pub spelled : List ℕ → List ℕ
spelled octets = encode_of standard octets
