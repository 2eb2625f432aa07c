-- Octets that are one whole object of a kind: RFC 5280, sections 4.1 and 5.1; RFC 3161, section 2.4.2.
use Rattle.std.specs.Prelude.{◌≡◌, ℕ, Bool, true, List, is_ok}
use Rattle.der_values.specs.Layout.{Layout, read_object}
use Rattle.signature_model.specs.Parts.{DatumKind, Certificate, RevocationList, Token}
use Rattle.tst_tokens.specs.Layouts as tokens
use Rattle.x509_certs.specs.Layouts as objects

abbrev pub layout_of : DatumKind → Layout
layout_of Certificate = objects.certificate
layout_of RevocationList = objects.revocation_list
layout_of Token = tokens.token

abbrev pub is_whole : DatumKind → List ℕ → Bool
is_whole kind octets = is_ok (read_object (layout_of kind) octets)

abbrev pub IsWhole : DatumKind → List ℕ → Type 0
IsWhole kind octets = is_whole kind octets ≡ true
