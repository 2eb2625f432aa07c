-- What the values of the code show: all the bytes of an object.
use Rattle.std.specs.Prelude.{ℕ, Bool, true, false, List}
use Rattle.x509_certs.specs.declared.certificate.Certificate.{Certificate}
use Rattle.x509_certs.specs.declared.crl.Crl.{Crl}
use Rattle.x509_certs.specs.declared.part.Part.{Part}
use Rattle.x509_certs.specs.declared.part.Part.TheVariants as parts

abbrev pub certificate_bytes : Certificate → List ℕ
certificate_bytes c = c.whole.now

abbrev pub list_bytes : Crl → List ℕ
list_bytes c = c.whole.now

abbrev pub part_bytes : Part → List ℕ
part_bytes (parts.Cert c) = certificate_bytes c
part_bytes (parts.List c) = list_bytes c

abbrev pub is_certificate : Part → Bool
is_certificate (parts.Cert c) = true
is_certificate (parts.List c) = false
