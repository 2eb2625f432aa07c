-- Certificates and revocation lists that are handed in, one after another: RFC 5280, sections 4.1 and 5.1.
use Rattle.std.specs.Prelude.{ℕ, List, map, if◌then◌else◌}
use Rattle.der_values.specs.Element.{Element}
use Rattle.der_values.specs.Elements.{elements}
use Rattle.x509_certs.specs.Data.{begins_with_0}
use Rattle.signature_objects.specs.Objects.{Object, Certificate, RevocationList}
use Rattle.signature_evidence.specs.Renewal.{HasNoTokens}

-- what is signed begins with [0] in a certificate alone
abbrev pub object_of : Element → Object
object_of element = if begins_with_0 element.whole then Certificate element.whole else RevocationList element.whole

abbrev pub material_of : List ℕ → List Object
material_of bytes = map object_of (elements bytes)

-- The law: no token is among them.
abbrev pub MaterialHasNoTokens : Type 0
MaterialHasNoTokens = (bytes : List ℕ) → HasNoTokens (material_of bytes)
