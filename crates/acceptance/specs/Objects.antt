-- What the bytes of certificates, CRLs and tokens say, as the records that acceptance reads.
-- Of bytes that are no such object these say what stands there, or nothing; a pool holds whole objects alone.
use Rattle.std.specs.Prelude.{ℕ, List, map, Option, Some, None, option_map, if◌then◌else◌}
use Rattle.std.specs.Str.{bytes_eq}
use Rattle.algorithms.specs.SignatureKind.{oid_of}
use Rattle.algorithms.specs.declared.signature_kinds.SignatureKind.{SignatureKind}
use Rattle.algorithms.specs.declared.signature_kinds.SignatureKind.TheVariants.{Hss, Xmss, XmssMt}
use Rattle.der_values.specs.Element.{Element}
use Rattle.der_values.specs.Elements.{elements}
use Rattle.x509_certs.specs.Certificates as certificates
use Rattle.x509_certs.specs.Lists as lists
use Rattle.x509_certs.specs.Signed as signed
use Rattle.tst_tokens.specs.Digests as digests
use Rattle.tst_tokens.specs.Tokens as tokens
use Rattle.tst_tokens.specs.Sound as sound
use Rattle.acceptance.specs.Certificates.{Certificate, Crl, Revoked}
use Rattle.acceptance.specs.Tokens.{Token}

-- the kind with this object identifier, by its content octets (RFC 8708, section 3; RFC 9802, section 3)
unfoldable pub kind_named : List ℕ → Option SignatureKind
kind_named oid = if bytes_eq oid (oid_of Hss) then Some Hss else if bytes_eq oid (oid_of Xmss) then Some Xmss else if bytes_eq oid (oid_of XmssMt) then Some XmssMt else None

-- a certificate (RFC 5280, 4.1 and 4.2)
unfoldable pub certificate_of : List ℕ → Certificate
certificate_of whole = record {
  whole = whole;
  issuer = certificates.issuer whole;
  subject = certificates.subject whole;
  serial = certificates.serial whole;
  not_before = certificates.not_before whole;
  not_after = certificates.not_after whole;
  key = record { kind = kind_named (certificates.key_oid whole); octets = certificates.key whole };
  signature = record { kind = kind_named (signed.sign_oid whole); signed = signed.tbs whole; octets = signed.signature whole };
  is_ca = certificates.is_ca whole;
  path_len = certificates.path_len whole;
  signs_certs = certificates.signs_certs whole;
  signs_crls = certificates.signs_crls whole;
  stamps_time = certificates.stamps_time whole;
  strange = certificates.strange whole;
}

-- an entry of a CRL (RFC 5280, 5.1.2.6)
abbrev pub revoked_of : Element → Revoked
revoked_of entry = record { serial = signed.part 0 entry.content; date = lists.date_in entry }

-- a CRL (RFC 5280, 5.1 and 5.2)
unfoldable pub crl_of : List ℕ → Crl
crl_of whole = record {
  whole = whole;
  issuer = lists.list_issuer whole;
  this_update = lists.this_update whole;
  next_update = lists.next_update whole;
  signature = record { kind = kind_named (signed.sign_oid whole); signed = signed.tbs whole; octets = signed.signature whole };
  entries = map revoked_of (elements (lists.entries whole));
  usable = lists.usable whole;
}

-- a time-stamp token (RFC 3161, 2.4.2; RFC 5652, 5.3; RFC 5035, 4)
unfoldable pub token_of : List ℕ → Token
token_of whole = record {
  whole = whole;
  imprint = digests.imprint_kind whole;
  content = digests.content_kind whole;
  cert_hash = digests.cert_hash_kind whole;
  gen_time = tokens.gen_time whole;
  accuracy = tokens.accuracy whole;
  signature = record { kind = kind_named (tokens.sign_oid whole); signed = sound.signed_text whole; octets = sound.signature whole };
  signer = option_map (λ e. e.whole) (tokens.signer_of whole);
}
