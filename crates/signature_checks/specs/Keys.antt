-- Whether a certificate has a key for a signature method: XML Signature 1.1, "The SignatureMethod Element"; RFC 9802, section 3.
use Rattle.std.specs.Prelude.{ℕ, Bool, not, List, Option, None, Some, is_none, encode_utf8_all}
use Rattle.std.specs.Str.{bytes_eq}
use Rattle.algorithms.specs.declared.signature_kinds.SignatureKind.{SignatureKind}
use Rattle.algorithms.specs.SignatureKind.{oid_of}
use Rattle.policy_rules.specs.Rules.{Rules, kind_of_uri}
use Rattle.x509_certs.specs.Certificates.{key_oid}
use Rattle.signature_model.specs.Chains.{when}
use Rattle.signature_checks.specs.declared.codes.Code.{Code}
use Rattle.signature_checks.specs.declared.codes.Code.TheVariants.{UnknownMethod, KeyKind}

-- the kind of a signature method, by a policy
abbrev pub method_kind : Rules → List ℕ → Option SignatureKind
method_kind rules method = kind_of_uri rules.kinds (encode_utf8_all method)

-- whether the key of a certificate is of a kind
abbrev pub has_key_of : SignatureKind → List ℕ → Bool
has_key_of kind certificate = bytes_eq (key_oid certificate) (oid_of kind)

-- the policy lists the method, as that of a kind
abbrev pub method_test : Option SignatureKind → Option Code
method_test kind = when (is_none kind) UnknownMethod

-- the key of the certificate is of the method's kind
abbrev pub key_test : Option SignatureKind → List ℕ → Option Code
key_test None certificate = None
key_test (Some kind) certificate = when (not (has_key_of kind certificate)) KeyKind
