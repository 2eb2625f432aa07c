-- What a certificate says, by the places of its parts: RFC 5280, 4.1 and 4.2.
-- tbsCertificate has at 0 the version, 1 the serial, 2 the algorithm, 3 the issuer, 4 the validity, 5 the subject, 6 the key.
use Rattle.std.specs.Prelude.{◌≡◌, ℕ, ℤ, ◌+◌, ◌-◌, ◌*◌, ◌^◌, Bool, true, false, not, ◌&&◌, List, [], ◌∷◌, length, Option, Some, None, is_none, nat_lt, ◌==◌, bit_and, if◌then◌else◌}
use Rattle.std.specs.List.{list_any}
use Rattle.std.specs.Str.{bytes_eq}
use Rattle.der_values.specs.Element.{Element}
use Rattle.der_values.specs.Elements.{elements, tagged, first_named}
use Rattle.der_values.specs.Kinds.{count_of}
use Rattle.der_values.specs.Rules.{nth, content_of, bytes_of}
use Rattle.der_values.specs.declared.oids.KnownOid.TheVariants as oids
use Rattle.x509_certs.specs.Signed.{part, piece, time_of, time_or_0, algorithm_name, bit_bytes, fields}
use Rattle.x509_certs.specs.Extensions.{is_true, is_strange, value_of}

abbrev pub serial : List ℕ → List ℕ
serial whole = part 1 (fields whole)

-- The Name of the issuer, all its bytes.
abbrev pub issuer : List ℕ → List ℕ
issuer whole = piece 3 (fields whole)

abbrev pub not_before : List ℕ → ℤ
not_before whole = time_or_0 (nth 0 (part 4 (fields whole)))

abbrev pub not_after : List ℕ → ℤ
not_after whole = time_or_0 (nth 1 (part 4 (fields whole)))

-- Both are times that stand there.
abbrev pub HasTimes : List ℕ → Type 0
HasTimes whole =
    (Some (not_before whole) ≡ time_of (nth 0 (part 4 (fields whole)))) × (Some (not_after whole) ≡ time_of (nth 1 (part 4 (fields whole))))

-- The Name of the subject, all its bytes.
abbrev pub subject : List ℕ → List ℕ
subject whole = piece 5 (fields whole)

abbrev pub key_oid : List ℕ → List ℕ
key_oid whole = algorithm_name (part 0 (part 6 (fields whole)))

abbrev pub key : List ℕ → List ℕ
key whole = bit_bytes (part 1 (part 6 (fields whole)))

-- The extensions stand in [3].
abbrev pub extensions : List ℕ → List ℕ
extensions whole = part 0 (content_of (tagged 0xA3 (fields whole)))

-- cA of basicConstraints (4.2.1.9).
abbrev pub is_ca : List ℕ → Bool
is_ca whole = is_true (value_of oids.BasicConstraints (extensions whole))

abbrev pub count_in : Option Element → Option ℕ
count_in None = None
count_in (Some e) = count_of e.content

-- pathLenConstraint of basicConstraints, where it stands; cA may be absent before it.
abbrev pub path_len : List ℕ → Option ℕ
path_len whole = count_in (tagged 0x02 (value_of oids.BasicConstraints (extensions whole)))

-- Bit k of a BIT STRING, one of the first eight: it lies in the string, behind whose bytes `unused` bits don't, and is 1.
-- Bit 0 is the highest of the first byte (X.690, 8.6.2).
abbrev pub has_bit : ℕ → List ℕ → Bool
has_bit k [] = false
has_bit k (unused ∷ []) = false
has_bit k (unused ∷ first ∷ bytes) = nat_lt (k + unused) (8 * length (first ∷ bytes)) && not (bit_and first (2 ^ (7 - k)) == 0)

-- keyUsage has this bit (4.2.1.3); without the extension each bit counts as set.
abbrev pub may : ℕ → List ℕ → Bool
may k whole =
    if is_none (first_named (bytes_of oids.KeyUsage) (extensions whole)) then true
    else has_bit k (value_of oids.KeyUsage (extensions whole))

-- keyCertSign is bit 5, cRLSign is bit 6.
abbrev pub signs_certs : List ℕ → Bool
signs_certs whole = may 5 whole

abbrev pub signs_crls : List ℕ → Bool
signs_crls whole = may 6 whole

-- extKeyUsage holds id-kp-timeStamping (4.2.1.12).
abbrev pub stamps_time : List ℕ → Bool
stamps_time whole = list_any (λ e. bytes_eq e.content (bytes_of oids.TimeStamping)) (elements (value_of oids.ExtKeyUsage (extensions whole)))

-- Some critical extension isn't known.
abbrev pub strange : List ℕ → Bool
strange whole = list_any is_strange (elements (extensions whole))
