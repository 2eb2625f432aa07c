-- The object that a certificate or revocation list in memory is: RFC 5280, sections 4.1 and 5.1.
use Rattle.x509_certs.specs.View.{certificate_bytes, list_bytes}
use Rattle.x509_certs.specs.declared.part.Part.{Part}
use Rattle.x509_certs.specs.declared.part.Part.TheVariants as parts
use Rattle.signature_objects.specs.Objects.{Object, Certificate, RevocationList}

abbrev pub object_of : Part → Object
object_of (parts.Cert c) = Certificate (certificate_bytes c)
object_of (parts.List l) = RevocationList (list_bytes l)
