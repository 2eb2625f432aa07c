-- Extensions: RFC 5280, 4.2.
use Rattle.std.specs.Prelude.{ℕ, ◌&&◌, ◌||◌, not, Bool, List, ◌∷◌, []}
use Rattle.std.specs.Str.{bytes_eq}
use Rattle.der_values.specs.Element.{Element}
use Rattle.der_values.specs.Elements.{tagged, first_named}
use Rattle.der_values.specs.Rules.{content_of, name_in, bytes_of}
use Rattle.der_values.specs.declared.oids.KnownOid.{KnownOid}
use Rattle.der_values.specs.declared.oids.KnownOid.TheVariants as oids
use Rattle.x509_certs.specs.Signed.{part}

-- A content has the BOOLEAN TRUE; where it has none, FALSE is meant.
abbrev pub is_true : List ℕ → Bool
is_true content = bytes_eq (content_of (tagged 0x01 content)) (0xFF ∷ [])

-- The extension is critical.
abbrev pub is_critical : Element → Bool
is_critical e = is_true e.content

-- The extensions whose values are read: basicConstraints, keyUsage, extKeyUsage (4.2.1.9, 4.2.1.3, 4.2.1.12).
abbrev pub is_known : List ℕ → Bool
is_known name = bytes_eq name (bytes_of oids.BasicConstraints) || bytes_eq name (bytes_of oids.KeyUsage) || bytes_eq name (bytes_of oids.ExtKeyUsage)

-- A critical extension that isn't known.
abbrev pub is_strange : Element → Bool
is_strange e = is_critical e && not (is_known (name_in e))

-- What the value of an extension holds: the content of the element in its OCTET STRING.
abbrev pub value_of : KnownOid → List ℕ → List ℕ
value_of name extensions = part 0 (content_of (tagged 0x04 (content_of (first_named (bytes_of name) extensions))))
