-- What the acceptance of certificates sees of the objects of a signature: RFC 5280, sections 4.1 and 5.1.
use Rattle.std.specs.Prelude.{List, map}
use Rattle.acceptance.specs.Certificates.{Part, certificate, crl, other}
use Rattle.acceptance.specs.Objects.{certificate_of, crl_of}
use Rattle.signature_objects.specs.Objects.{Object, Octets, Value, Certificate, RevocationList, Token}

-- only certificates and revocation lists are read
abbrev pub part_of : Object → Part
part_of (Octets k) = other
part_of Value = other
part_of (Certificate bytes) = certificate (certificate_of bytes)
part_of (RevocationList bytes) = crl (crl_of bytes)
part_of (Token bytes) = other

abbrev pub pool_of : List Object → List Part
pool_of objects = map part_of objects
