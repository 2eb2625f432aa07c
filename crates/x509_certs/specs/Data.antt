-- Certificates and CRLs one after another.
use Rattle.std.specs.Prelude.{ℕ, ◌+◌, Bool, List, Option, Some, None, Result, Ok, Err, if◌then◌else◌}
use Rattle.der_values.specs.Element.{Element}
use Rattle.der_values.specs.Layout.{Layout, read_object}
use Rattle.der_values.specs.Rules.{nth}
use Rattle.x509_certs.specs.Layouts.{certificate, revocation_list}
use Rattle.x509_certs.specs.Signed.{fields}
use Rattle.x509_certs.specs.Lists.{is_tag}

-- What is signed begins with [0], as it does in a certificate of version 3 alone.
abbrev pub begins_with_0 : List ℕ → Bool
begins_with_0 whole = is_tag 0xA0 (nth 0 (fields whole))

-- Such an object is taken for a certificate, any other for a CRL.
abbrev pub layout_of : List ℕ → Layout
layout_of whole = if begins_with_0 whole then certificate else revocation_list

-- A place inside an object, counted from before it.
abbrev pub behind : {A : Type 0} → ℕ → Result A ℕ → Result A ℕ
behind at (Ok x) = Ok x
behind at (Err k) = Err (at + k)

-- The length of the object that begins at a place, or the first bad element. Where no legal element begins, that place is bad.
abbrev pub object_in : ℕ → Option Element → Result ℕ ℕ
object_in at None = Err at
object_in at (Some e) = behind at (read_object (layout_of e.whole) e.whole)
