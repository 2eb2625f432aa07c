-- What is in memory of a signature for its judgement is what it shows: XML Signature 1.1, "Core Validation"; EN 319 132-1, clauses 5.2.2 and
-- 5.3 to 5.5.
use Rattle.std.specs.Prelude.{◌≡◌, ◌↔◌, ℕ, suc, Bool, true, false, IsTrue, nat_le, List, [], ◌∷◌, ◌++◌, map, Option, Some, None, option_map}
use Rattle.algorithms.specs.Digests.{digest_of}
use Rattle.algorithms.specs.declared.digest_kinds.DigestKind.{DigestKind}
use Rattle.algorithms.specs.declared.signature_kinds.SignatureKind.{SignatureKind}
use Rattle.der_values.specs.Fits.{IsObject}
use Rattle.policy_rules.specs.Rules.{Rules, kind_of_uri}
use Rattle.tst_tokens.specs.Digests.{imprint_kind}
use Rattle.tst_tokens.specs.Layouts as layout
use Rattle.archive_octets.specs.Kinds.{kind_in}
use Rattle.acceptance.specs.Certificates.{Member}
use Rattle.acceptance.specs.Objects.{certificate_of}
use Rattle.acceptance.specs.Verdict.{Case, DigestUse, Signing}
use Rattle.existence_times.specs.Shown.{stamps_of}
use Rattle.signature_objects.specs.Objects.{Object, Certificate, Token, number_of, limited, most_objects}
use Rattle.signature_evidence.specs.Answers.{IsGood, IsKeyed}
use Rattle.signature_evidence.specs.Cases.{IsCaseOf}
use Rattle.signature_evidence.specs.Evidence.{Evidence, Stamped}
use Rattle.signature_evidence.specs.Soundness.{HasSoundness}
use Rattle.case_steps.specs.Built.{ShowsEvidence}
use Rattle.signature_cases.specs.Words.{soundness_in}
use Rattle.signature_cases.specs.declared.cases.Counted.{Counted}
use Rattle.signature_cases.specs.declared.cases.Counted.TheVariants.{Built, TooLarge}
use Rattle.signature_cases.specs.declared.cases.ReferenceDigest.{ReferenceDigest}
use Rattle.signature_cases.specs.declared.cases.SignatureCase.{SignatureCase}
use Rattle.signature_cases.specs.declared.cases.SigningCert.{SigningCert}
use Rattle.signature_cases.specs.declared.cases.StampWord.{StampWord}

-- Time-stamps.

-- one in memory is one that is shown, its token is whole, and its word is the token's over what the property covers
pub record IsWord (objects : List Object) (stamped : Stamped) (word : StampWord) : Type 0 where
  pub kind : kind_in word.kind ≡ stamped.kind
  pub token : word.token.now ≡ stamped.token
  pub whole : IsObject layout.token stamped.token
  pub object : word.object.number ≡ number_of objects (Token stamped.token)
  pub soundness : HasSoundness (digest_of (imprint_kind stamped.token) stamped.octets) stamped.token (soundness_in word.soundness)

-- those in memory are those that are shown, one for one
abbrev pub AreWords : List Object → List Stamped → List StampWord → Type 0
AreWords objects [] [] = Unit {0}
AreWords objects [] (word ∷ words) = ⊥
AreWords objects (stamped ∷ shown) [] = ⊥
AreWords objects (stamped ∷ shown) (word ∷ words) = IsWord objects stamped word × AreWords objects shown words

-- The case of acceptance.

-- the digests of References, the first of which is the object with a number
abbrev pub uses_from : ℕ → List ReferenceDigest → List DigestUse
uses_from number [] = []
uses_from number (row ∷ rows) = record { object = number; kind = row.kind; matches = row.matches } ∷ uses_from (suc number) rows

-- the digest of the signing certificate, where there is one
abbrev pub certificate_uses : DigestKind → Option SigningCert → List DigestUse
certificate_uses kind None = []
certificate_uses kind (Some signer) = record { object = signer.object.number; kind = kind; matches = true } ∷ []

abbrev pub member_of : SigningCert → Member
member_of signer = record { number = signer.object.number; certificate = certificate_of signer.octets.now }

-- who signed, where the policy has a kind for the method and there is a signing certificate
abbrev pub signing_of : (value : ℕ) (verifies : Bool) → Option SignatureKind → Option SigningCert → Option Signing
signing_of value verifies None signer = None
signing_of value verifies (Some kind) None = None
signing_of value verifies (Some kind) (Some signer) = Some (record { value = value; kind = kind; signer = member_of signer; verifies = verifies })

abbrev pub case_of : SignatureCase → Case
case_of shown = record {
  pool = shown.case.pool;
  stamps = stamps_of shown.case;
  digests = uses_from 0 shown.references.items ++ certificate_uses shown.certificate_kind shown.certificate;
  signing = signing_of shown.case.references shown.verifies shown.kind shown.certificate;
}

-- All of it.

pub record IsBuilt (policy : Rules) (evidence : Evidence) (shown : SignatureCase) : Type 0 where
  pub shows : ShowsEvidence evidence shown.case
  pub is_case : IsCaseOf policy evidence (case_of shown)
  pub words : AreWords evidence.objects evidence.stamps shown.stamps.items
  pub references : uses_from 0 shown.references.items ≡ evidence.references
  pub computed : map (λ row. row.computed) shown.references.items ≡ evidence.computed
  pub certificate_kind : shown.certificate_kind ≡ evidence.certificate_kind
  pub certificate : option_map (λ signer. signer.octets.now) shown.certificate ≡ evidence.certificate
  pub signer : option_map (λ signer. signer.object.number) shown.certificate ≡ option_map (λ bytes. number_of evidence.objects (Certificate bytes)) evidence.certificate
  pub kind : shown.kind ≡ kind_of_uri policy.kinds evidence.method
  -- where there is no signing, neither is true
  pub verifies : IsTrue shown.verifies ↔ IsGood (case_of shown)
  pub keyed : IsTrue shown.keyed ↔ IsKeyed (case_of shown)

-- too large is what has more than so many certificates, revocation lists and tokens; all else is built
abbrev pub IsCounted : Rules → Evidence → Counted → Type 0
IsCounted policy evidence (Built shown) = (nat_le (limited evidence.objects) most_objects ≡ true) × IsBuilt policy evidence shown
IsCounted policy evidence TooLarge = nat_le (limited evidence.objects) most_objects ≡ false
