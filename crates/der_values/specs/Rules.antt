-- What an element has to be beyond its tag, and what tells one of two layouts.
use Rattle.std.specs.Prelude.{ℕ, zero, suc, Bool, true, false, not, List, [], ◌∷◌, length, drop, Option, Some, None, option_and_then, is_some, ◌==◌, if◌then◌else◌}
use Rattle.std.specs.List.{list_any}
use Rattle.std.specs.Str.{bytes_eq}
use Rattle.der_values.specs.Element.{Element, element_at, elements}
use Rattle.der_values.specs.Kinds.{is_integer, is_oid, is_boolean, bits, has_unused_bits, is_count, is_thousandth}
use Rattle.der_values.specs.Times.{seconds_of, plain_seconds_of}
use Rattle.der_values.specs.declared.oids.KnownOid.{KnownOid}
use Rattle.der_values.specs.declared.oids.KnownOid.TheVariants as oids
use Rattle.der_values.specs.declared.rules.Rule.{Rule}
use Rattle.der_values.specs.declared.rules.Rule.TheVariants as rules
use Rattle.der_values.specs.declared.rules.Test.{Test}
use Rattle.der_values.specs.declared.rules.Test.TheVariants as tests

-- The k-th element of a content, from 0.
unfoldable pub nth : ℕ → List ℕ → Option Element
nth zero bytes = element_at bytes
nth (suc k) bytes = option_and_then (λ e. nth k (drop (length e.whole) bytes)) (element_at bytes)

abbrev pub content_of : Option Element → List ℕ
content_of None = []
content_of (Some e) = e.content

abbrev pub whole_of : Option Element → List ℕ
whole_of None = []
whole_of (Some e) = e.whole

-- What the first element in an element holds, and all its bytes.
abbrev pub name_in : Element → List ℕ
name_in e = content_of (nth 0 e.content)

abbrev pub first_in : Element → List ℕ
first_in e = whole_of (nth 0 e.content)

-- Some element of the content begins with an element that holds these bytes.
abbrev pub has_named : List ℕ → List ℕ → Bool
has_named name content = list_any (λ e. bytes_eq (name_in e) name) (elements content)

-- Some element of the content begins with the same element as this one.
abbrev pub stands_in : Element → List ℕ → Bool
stands_in e content = list_any (λ x. bytes_eq (first_in x) (first_in e)) (elements content)

abbrev pub tag_of : List ℕ → Option ℕ
tag_of [] = None
tag_of (b ∷ bs) = Some b

-- The content of an OID by its name.
abbrev pub bytes_of : KnownOid → List ℕ
bytes_of oids.BasicConstraints = 0x55 ∷ 0x1D ∷ 0x13 ∷ []
bytes_of oids.KeyUsage = 0x55 ∷ 0x1D ∷ 0x0F ∷ []
bytes_of oids.ExtKeyUsage = 0x55 ∷ 0x1D ∷ 0x25 ∷ []
bytes_of oids.TimeStamping = 0x2B ∷ 0x06 ∷ 0x01 ∷ 0x05 ∷ 0x05 ∷ 0x07 ∷ 0x03 ∷ 0x08 ∷ []
bytes_of oids.SignedData = 0x2A ∷ 0x86 ∷ 0x48 ∷ 0x86 ∷ 0xF7 ∷ 0x0D ∷ 0x01 ∷ 0x07 ∷ 0x02 ∷ []
bytes_of oids.TstInfo = 0x2A ∷ 0x86 ∷ 0x48 ∷ 0x86 ∷ 0xF7 ∷ 0x0D ∷ 0x01 ∷ 0x09 ∷ 0x10 ∷ 0x01 ∷ 0x04 ∷ []
bytes_of oids.ContentType = 0x2A ∷ 0x86 ∷ 0x48 ∷ 0x86 ∷ 0xF7 ∷ 0x0D ∷ 0x01 ∷ 0x09 ∷ 0x03 ∷ []
bytes_of oids.MessageDigest = 0x2A ∷ 0x86 ∷ 0x48 ∷ 0x86 ∷ 0xF7 ∷ 0x0D ∷ 0x01 ∷ 0x09 ∷ 0x04 ∷ []
bytes_of oids.SigningCertificate = 0x2A ∷ 0x86 ∷ 0x48 ∷ 0x86 ∷ 0xF7 ∷ 0x0D ∷ 0x01 ∷ 0x09 ∷ 0x10 ∷ 0x02 ∷ 0x2F ∷ []

-- SHA-256, SHA-384 and SHA-512.
abbrev pub is_digest : List ℕ → Bool
is_digest name =
    if bytes_eq name (0x60 ∷ 0x86 ∷ 0x48 ∷ 0x01 ∷ 0x65 ∷ 0x03 ∷ 0x04 ∷ 0x02 ∷ 0x01 ∷ []) then true
    else if bytes_eq name (0x60 ∷ 0x86 ∷ 0x48 ∷ 0x01 ∷ 0x65 ∷ 0x03 ∷ 0x04 ∷ 0x02 ∷ 0x02 ∷ []) then true
    else bytes_eq name (0x60 ∷ 0x86 ∷ 0x48 ∷ 0x01 ∷ 0x65 ∷ 0x03 ∷ 0x04 ∷ 0x02 ∷ 0x03 ∷ [])

-- A signed attribute that has to stand exactly once.
abbrev pub is_required : List ℕ → Bool
is_required name =
    if bytes_eq name (bytes_of oids.ContentType) then true
    else if bytes_eq name (bytes_of oids.MessageDigest) then true
    else bytes_eq name (bytes_of oids.SigningCertificate)

unfoldable pub allows : Rule → List ℕ → Element → Bool
allows rules.Any before e = true
allows rules.Integer before e = is_integer e.content
allows rules.Oid before e = is_oid e.content
allows rules.BitString before e = is_some (bits e.content)
allows rules.NamedBits before e = has_unused_bits e.content
allows rules.Boolean before e = is_boolean e.content
allows rules.False before e = bytes_eq e.content (0 ∷ [])
allows rules.Time before e = is_some (plain_seconds_of e)
allows rules.StampTime before e = is_some (seconds_of e)
allows (rules.Number n) before e = bytes_eq e.content (n ∷ [])
allows rules.Count before e = is_count e.content
allows rules.Thousandth before e = is_thousandth e.content
allows (rules.Named name) before e = bytes_eq e.content (bytes_of name)
allows rules.Digest before e = is_digest e.content
allows (rules.SameAs place) before e = bytes_eq e.whole (whole_of (nth place (content_of (nth 0 before))))
allows rules.NotTwice before e = not (stands_in e before)
allows rules.RequiredOnce before e = if is_required (name_in e) then not (stands_in e before) else true

unfoldable pub decides : Test → List ℕ → Option ℕ → Bool
decides (tests.Tag t) before None = false
decides (tests.Tag t) before (Some tag) = tag == t
decides tests.Comes before None = false
decides tests.Comes before (Some tag) = true
decides (tests.FirstIs name) before tag = bytes_eq (content_of (nth 0 before)) (bytes_of name)
decides (tests.Has name) before tag = has_named (bytes_of name) before
