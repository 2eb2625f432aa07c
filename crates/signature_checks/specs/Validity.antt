-- Whether what a signature says is right: XML Signature 1.1, "Reference Validation" and "Signature Validation"; EN 319 132-1, clause 5.2.2.
use Rattle.std.specs.Prelude.{ℕ, suc, Bool, true, false, not, List, [], ◌∷◌, Option, None, Some, is_none, unwrap_or}
use Rattle.std.specs.Option.{option_map_or}
use Rattle.algorithms.specs.declared.signature_kinds.SignatureKind.{SignatureKind}
use Rattle.algorithms.specs.declared.signature_kinds.SignatureKind.TheVariants.{Hss, Xmss, XmssMt}
use Rattle.lms_verify.specs.declared.Verdict as lms
use Rattle.lms_verify.specs.declared.Verdict.TheVariants as hss
use Rattle.lms_verify.specs.Hss as hss_verdict
use Rattle.xmss_verify.specs.declared.Verdict as single_tree
use Rattle.xmss_verify.specs.declared.Verdict.TheVariants as xmss
use Rattle.xmss_verify.specs.Xmss as xmss_verdict
use Rattle.xmssmt_verify.specs.declared.Verdict as multi_tree
use Rattle.xmssmt_verify.specs.declared.Verdict.TheVariants as xmssmt
use Rattle.xmssmt_verify.specs.XmssMt as xmssmt_verdict
use Rattle.document_model.specs.Items.{or_else}
use Rattle.document_model.specs.Tree.{Nodes, Path}
use Rattle.policy_rules.specs.Rules.{Rules}
use Rattle.qualifying_props.specs.Digests.{digest}
use Rattle.qualifying_props.specs.PartsOf.{name_in}
use Rattle.signature_model.specs.Chains.{Handed, when}
use Rattle.signature_model.specs.Octets.{digest_octets, has_its_digest, value_octets}
use Rattle.signature_model.specs.Parts.{digest_kind, digest_methods, digest_values, octets_or_none, references, signature_method, signing_certificate}
use Rattle.signature_model.specs.Spots.{Spot}
use Rattle.x509_certs.specs.Certificates.{key}
use Rattle.signature_checks.specs.Keys.{method_kind, method_test, key_test}
use Rattle.signature_checks.specs.declared.codes.Code.{Code}
use Rattle.signature_checks.specs.declared.codes.Code.TheVariants.{DigestDiffers, CertificateDiffers, ValueFails}

-- the digest of a Reference's octets, by the algorithm that it names; none where it names none of SHA-2
abbrev pub made_digest : Handed → Nodes → Path → Spot → List ℕ
made_digest handed document signature reference =
    option_map_or (λ kind. digest kind (digest_octets handed document signature reference)) (digest_kind (digest_methods document (reference ∷ []))) []

-- the digest that it tells
abbrev pub told_digest : Nodes → Spot → List ℕ
told_digest document reference = octets_or_none document (digest_values document (reference ∷ []))

-- the octets of the Reference with a number have another digest than it tells
abbrev pub digest_code : Handed → Nodes → Path → ℕ → Spot → Option Code
digest_code handed document signature k reference = when (not (has_its_digest digest handed document signature reference))
    (DigestDiffers k (made_digest handed document signature reference) (told_digest document reference))

-- the first such, counted from k
abbrev pub first_differing : Handed → Nodes → Path → ℕ → List Spot → Option Code
first_differing handed document signature k [] = None
first_differing handed document signature k (reference ∷ references) =
    or_else (digest_code handed document signature k reference) (first_differing handed document signature (suc k) references)

abbrev pub digest_test : Handed → Nodes → Spot → Option Code
digest_test handed document signature = first_differing handed document signature.path 1 (references document signature)

-- no certificate of KeyInfo has the digest of the signing certificate
abbrev pub certificate_test : Nodes → Spot → Option Code
certificate_test document signature = when (is_none (signing_certificate digest document signature)) CertificateDiffers

-- the signing certificate; empty where there is none
abbrev pub signer : Nodes → Spot → List ℕ
signer document signature = unwrap_or (signing_certificate digest document signature) []

-- the kind of the signature's method, by a policy
abbrev pub kind_by : Rules → Nodes → Spot → Option SignatureKind
kind_by rules document signature = method_kind rules (name_in (signature_method document signature))

-- whether a verdict is that a signature holds
abbrev pub is_good_hss : lms.Verdict → Bool
is_good_hss hss.Good = true
is_good_hss (hss.Bad why) = false

abbrev pub is_good_xmss : single_tree.Verdict → Bool
is_good_xmss xmss.Good = true
is_good_xmss (xmss.Bad why) = false

abbrev pub is_good_xmssmt : multi_tree.Verdict → Bool
is_good_xmssmt xmssmt.Good = true
is_good_xmssmt (xmssmt.Bad why) = false

-- whether a signature of a kind holds for octets under a key
abbrev pub verifies : SignatureKind → (key octets value : List ℕ) → Bool
verifies Hss key octets value = is_good_hss (hss_verdict.verdict key octets value)
verifies Xmss key octets value = is_good_xmss (xmss_verdict.verdict key octets value)
verifies XmssMt key octets value = is_good_xmssmt (xmssmt_verdict.verdict key octets value)

-- the value doesn't verify under the key of a certificate
abbrev pub value_test : Option SignatureKind → (certificate octets value : List ℕ) → Option Code
value_test None certificate octets value = None
value_test (Some kind) certificate octets value = when (not (verifies kind (key certificate) octets value)) ValueFails

-- the tests on the method's kind, the key of the signing certificate, and the value over octets
abbrev pub signer_tests : Option SignatureKind → (certificate octets value : List ℕ) → List (Option Code)
signer_tests kind certificate octets value = method_test kind ∷ key_test kind certificate ∷ value_test kind certificate octets value ∷ []

-- The tests on all that a signature says, where this is its value: the digests of its References, its signing certificate, its method by the
-- policy, the key of that certificate, and the value over the octets of SignedInfo
abbrev pub validity_tests : Rules → Handed → Nodes → Spot → (value : List ℕ) → List (Option Code)
validity_tests rules handed document signature value =
    digest_test handed document signature
    ∷ certificate_test document signature
    ∷ signer_tests (kind_by rules document signature) (signer document signature) (value_octets document signature) value
