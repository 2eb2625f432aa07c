-- What is in memory is what the signature shows.
use Rattle.std.proofs.Common.{◌≡◌, ◌↔◌, ℕ, Bool, true, false, List, [], ◌∷◌, ◌++◌, map, Option, Some, None, IsTrue, refl, sym, ◌∙◌, ap, subst, pos}
use Rattle.std.specs.Prelude.{encode_utf8_all, option_map}
use Rattle.std.proofs.lemmas.Option.{none-some, same_Some}
use Rattle.algorithms.specs.declared.digest_kinds.DigestKind.{DigestKind}
use Rattle.algorithms.specs.declared.signature_kinds.SignatureKind.{SignatureKind}
use Rattle.archive_octets.proofs.Listing.{mapped}
use Rattle.doc_spans.specs.declared.documents.Doc.{Doc}
use Rattle.doc_spans.specs.Seen.{document_in}
use Rattle.policy_rules.specs.Rules.{Rules, kind_of_uri}
use Rattle.qualifying_props.specs.Digests.{algorithm, digest}
use Rattle.qualifying_props.specs.PartsOf.{AreParts, cert_method}
use Rattle.qualifying_props.specs.Shown.{Shown}
use Rattle.signature_elements.specs.Standing.{spot_of}
use Rattle.signature_model.specs.Chains.{Handed}
use Rattle.signature_model.specs.Octets.{value_octets}
use Rattle.signature_model.specs.Parts as model
use Rattle.signature_model.specs.Parts.{references, signing_certificate}
use Rattle.signature_model.specs.Vocabulary as vocabulary
use Rattle.acceptance.specs.Certificates.{Verifies}
use Rattle.acceptance.specs.Objects.{certificate_of}
use Rattle.acceptance.specs.Verdict.{Case, DigestUse, Signing}
use Rattle.signature_objects.specs.Held.{objects}
use Rattle.signature_objects.specs.Objects.{Object, Certificate, Value, number_of}
use Rattle.signature_evidence.specs.Answers.{IsGood, IsKeyed}
use Rattle.signature_evidence.specs.Cases.{HasSigning, signature_of}
use Rattle.signature_evidence.specs.Evidence.{Evidence, certificate_digests, evidence_of, kind_named, stamps}
use Rattle.case_steps.specs.Built.{ShowsEvidence, ShowsObjects, ShowsStamps}
use Rattle.case_steps.proofs.Steps.{earliest_are_those}
use Rattle.signature_cases.specs.Built.{AreWords, IsBuilt, case_of, certificate_uses, member_of, signing_of, uses_from}
use Rattle.signature_cases.specs.References.{row_of}
use Rattle.signature_cases.specs.Signer.{HasKeyFor, IsCertOf}
use Rattle.signature_cases.specs.declared.cases.ReferenceDigest.{ReferenceDigest}
use Rattle.signature_cases.specs.declared.cases.SignatureCase.{SignatureCase}
use Rattle.signature_cases.specs.declared.cases.SigningCert.{SigningCert}
use Rattle.signature_cases.specs.declared.keys.KeyFor.{KeyFor}
use Rattle.signature_cases.proofs.Referred.{computed_are, references_are}

-- The signing certificate.

uses_same : (all : List Object) (kind : DigestKind) (bytes : Option (List ℕ)) (cert : Option SigningCert) → IsCertOf all bytes cert → certificate_uses kind cert ≡ certificate_digests all kind bytes
uses_same all kind None None is = refl
uses_same all kind None (Some cert) is = absurd is
uses_same all kind (Some bytes) None is = absurd is
uses_same all kind (Some bytes) (Some cert) is = ap (λ (n : ℕ). record { object = n; kind = kind; matches = true } ∷ []) is.number

octets_same : (all : List Object) (bytes : Option (List ℕ)) (cert : Option SigningCert) → IsCertOf all bytes cert → option_map (λ (c : SigningCert). c.octets.now) cert ≡ bytes
octets_same all None None is = refl
octets_same all None (Some cert) is = absurd is
octets_same all (Some bytes) None is = absurd is
octets_same all (Some bytes) (Some cert) is = ap (λ b. Some b) is.octets

number_same : (all : List Object) (bytes : Option (List ℕ)) (cert : Option SigningCert) → IsCertOf all bytes cert
    → option_map (λ (c : SigningCert). c.object.number) cert ≡ option_map (λ b. number_of all (Certificate b)) bytes
number_same all None None is = refl
number_same all None (Some cert) is = absurd is
number_same all (Some bytes) None is = absurd is
number_same all (Some bytes) (Some cert) is = ap (λ n. Some n) is.number

kind_is : (doc : Doc) (parts : Shown) → AreParts doc parts → parts.digest_kind ≡ kind_named (model.digest_methods (document_in doc) (model.certificate_digest (document_in doc) (spot_of doc parts.signature)))
kind_is doc parts p =
    let methods = cert_method (document_in doc) (spot_of doc parts.signature) in
    let at = mapped algorithm (model.digest_kind methods) parts.digest_kind p.digest_kind in
    sym at.2 ∙ named (model.digest_methods (document_in doc) (model.certificate_digest (document_in doc) (spot_of doc parts.signature))) at.0 at.1
  where
    named : (methods : _) (kind : vocabulary.DigestKind) → model.digest_kind methods ≡ Some kind → algorithm kind ≡ kind_named methods
    named methods kind e = rw e refl

-- The signing.

signing_is : (evidence : Evidence) (kind : Option SignatureKind) (cert : Option SigningCert) (bytes : Option (List ℕ)) (value : ℕ) (key : KeyFor) → IsCertOf evidence.objects bytes cert
    → value ≡ number_of evidence.objects Value → HasKeyFor kind cert evidence.signed evidence.value key → HasSigning evidence kind bytes (signing_of value key.verifies kind cert)
signing_is evidence None cert bytes value key is v k = refl
signing_is evidence (Some kind) None None value key is v k = refl
signing_is evidence (Some kind) None (Some bytes) value key is v k = absurd is
signing_is evidence (Some kind) (Some cert) None value key is v k = absurd is
signing_is evidence (Some kind) (Some cert) (Some bytes) value key is v k = (
  record { value = value; kind = kind; signer = member_of cert; verifies = key.verifies },
  refl,
  record {
    value = v;
    kind_is = refl;
    number = is.number;
    certificate_is = ap certificate_of is.octets;
    verifies = subst (λ (b : List ℕ). IsTrue key.verifies ↔ Verifies (certificate_of b).key (signature_of evidence kind)) is.octets k.verifies;
  },
)

not_true : (b : Bool) → b ≡ false → IsTrue b → ⊥
not_true true e h = cc
not_true false e h = cc

abbrev with_signing : Case → Option Signing → Case
with_signing case signing = record { pool = case.pool; stamps = case.stamps; digests = case.digests; signing = signing }

good_is : (case : Case) (kind : Option SignatureKind) (cert : Option SigningCert) (value : ℕ) (signed octets : List ℕ) (key : KeyFor) → HasKeyFor kind cert signed octets key
    → (IsTrue key.verifies ↔ IsGood (with_signing case (signing_of value key.verifies kind cert)))
good_is case None cert value signed octets key k = ((λ h. absurd (not_true key.verifies k.1 h)), (λ g. absurd (none-some g.0 g.1)))
good_is case (Some kind) None value signed octets key k = ((λ h. absurd (not_true key.verifies k.1 h)), (λ g. absurd (none-some g.0 g.1)))
good_is case (Some kind) (Some cert) value signed octets key k =
    let signing : Signing = record { value = value; kind = kind; signer = member_of cert; verifies = key.verifies } in (
      (λ h. (signing, refl, h)),
      (λ g. subst (λ (s : Signing). IsTrue s.verifies) (sym (same_Some signing g.0 g.1)) g.2),
    )

keyed_is : (case : Case) (kind : Option SignatureKind) (cert : Option SigningCert) (value : ℕ) (signed octets : List ℕ) (key : KeyFor) → HasKeyFor kind cert signed octets key
    → (IsTrue key.keyed ↔ IsKeyed (with_signing case (signing_of value key.verifies kind cert)))
keyed_is case None cert value signed octets key k = ((λ h. absurd (not_true key.keyed k.0 h)), (λ g. absurd (none-some g.0 g.1)))
keyed_is case (Some kind) None value signed octets key k = ((λ h. absurd (not_true key.keyed k.0 h)), (λ g. absurd (none-some g.0 g.1)))
keyed_is case (Some kind) (Some cert) value signed octets key k =
    let signing : Signing = record { value = value; kind = kind; signer = member_of cert; verifies = key.verifies } in (
      (λ h. (signing, refl, k.keyed.0 h)),
      (λ g. k.keyed.1 (subst (λ (s : Signing). s.signer.certificate.key.kind ≡ Some s.kind) (sym (same_Some signing g.0 g.1)) g.2)),
    )

-- All of it.

pub built : (policy : Rules) (handed : Handed) (doc : Doc) (parts : Shown) (more : List Object) (shown : SignatureCase) → AreParts doc parts
    → ShowsObjects (objects (document_in doc) (spot_of doc parts.signature) more) shown.case
    → ShowsStamps (objects (document_in doc) (spot_of doc parts.signature) more) (stamps handed (document_in doc) (spot_of doc parts.signature)) shown.case.stamps
    → AreWords (objects (document_in doc) (spot_of doc parts.signature) more) (stamps handed (document_in doc) (spot_of doc parts.signature)) shown.stamps.items
    → shown.references.items ≡ map (row_of handed (document_in doc) (spot_of doc parts.signature).path) (references (document_in doc) (spot_of doc parts.signature))
    → shown.certificate_kind ≡ parts.digest_kind
    → IsCertOf (objects (document_in doc) (spot_of doc parts.signature) more) (signing_certificate digest (document_in doc) (spot_of doc parts.signature)) shown.certificate
    → shown.kind ≡ kind_of_uri policy.kinds (encode_utf8_all parts.method)
    → HasKeyFor shown.kind shown.certificate (value_octets (document_in doc) (spot_of doc parts.signature)) parts.value (record { keyed = shown.keyed; verifies = shown.verifies })
    → IsBuilt policy (evidence_of handed (document_in doc) (spot_of doc parts.signature) more) shown
built policy handed doc parts more shown p s st words rows kind_eq cert kind key =
    let document = document_in doc in
    let signature = spot_of doc parts.signature in
    let evidence : Evidence = evidence_of handed document signature more in
    let shows : ShowsEvidence evidence shown.case = record { objects = s; stamps = st } in
    let uses : uses_from 0 shown.references.items ≡ evidence.references = ap (uses_from 0) rows ∙ references_are handed document signature more in
    let digest_kind : shown.certificate_kind ≡ evidence.certificate_kind = kind_eq ∙ kind_is doc parts p in
    let signing_kind : shown.kind ≡ kind_of_uri policy.kinds evidence.method = kind ∙ ap (λ (name : List ℕ). kind_of_uri policy.kinds (encode_utf8_all name)) p.method in
    let of_key : KeyFor = record { keyed = shown.keyed; verifies = shown.verifies } in
    let has_key : HasKeyFor shown.kind shown.certificate evidence.signed evidence.value of_key =
    subst (λ (value : List ℕ). HasKeyFor shown.kind shown.certificate (value_octets document signature) value of_key) p.value key in
    record {
      shows = shows;
      is_case = record {
        pool = s.pool;
        stamps = (earliest_are_those policy evidence shown.case (case_of shown) (pos 0) [] shows s.pool refl).0;
        digests = (λ i. uses i ++ certificate_uses (digest_kind i) shown.certificate)
            ∙ ap (λ (last : List DigestUse). evidence.references ++ last) (uses_same evidence.objects evidence.certificate_kind evidence.certificate shown.certificate cert);
        signing = subst (λ (o : Option SignatureKind). HasSigning evidence o evidence.certificate (signing_of shown.case.references shown.verifies shown.kind shown.certificate)) signing_kind
            (signing_is evidence shown.kind shown.certificate evidence.certificate shown.case.references of_key cert s.value has_key);
      };
      words = words;
      references = uses;
      computed = ap (map (λ (row : ReferenceDigest). row.computed)) rows ∙ computed_are handed document signature (references document signature);
      certificate_kind = digest_kind;
      certificate = octets_same evidence.objects evidence.certificate shown.certificate cert;
      signer = number_same evidence.objects evidence.certificate shown.certificate cert;
      kind = signing_kind;
      verifies = good_is (case_of shown) shown.kind shown.certificate shown.case.references evidence.signed evidence.value of_key has_key;
      keyed = keyed_is (case_of shown) shown.kind shown.certificate shown.case.references evidence.signed evidence.value of_key has_key;
    }
