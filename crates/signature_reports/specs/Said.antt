-- What is said in a report of the single parts of a signature, as they are in memory. This project's own.
use Rattle.std.specs.Prelude.{ℕ, Bool, not, List, [], ◌∷◌, Option, Some, None, ℤ}
use Rattle.algorithms.specs.Digests.{digest_of}
use Rattle.algorithms.specs.declared.digest_kinds.DigestKind.{DigestKind}
use Rattle.tst_tokens.specs.Tokens.{gen_time}
use Rattle.archive_octets.specs.Kinds.{kind_in}
use Rattle.acceptance.specs.Certificates.{Part}
use Rattle.acceptance.specs.Walks.{time}
use Rattle.cert_paths.specs.Pool.{is_list_at}
use Rattle.signature_cases.specs.Words.{soundness_in}
use Rattle.signature_cases.specs.declared.cases.ReferenceDigest.{ReferenceDigest}
use Rattle.signature_cases.specs.declared.cases.SignatureCase.{SignatureCase}
use Rattle.signature_cases.specs.declared.cases.SigningCert.{SigningCert}
use Rattle.signature_cases.specs.declared.cases.StampWord.{StampWord}
use Rattle.signature_evidence.specs.Evidence.{Stamped}
use Rattle.report_texts.specs.Facts.{TokenFact}
use Rattle.report_texts.specs.declared.facts.CertificateFact.{CertificateFact}
use Rattle.report_texts.specs.declared.facts.ObjectFact.{ObjectFact}
use Rattle.report_texts.specs.declared.facts.ReferenceFact.{ReferenceFact}
use Rattle.report_texts.specs.declared.facts.ValueFact.{ValueFact}
use Rattle.signature_verdicts.specs.declared.answers.Answers.{Answers}
use Rattle.signature_verdicts.specs.declared.answers.TokenAnswer.{TokenAnswer}

-- of the Reference with a number from 0
abbrev pub reference_said : List ℤ → ℕ → ReferenceDigest → Bool → ReferenceFact
reference_said times number row accepted = record {
  kind = row.kind;
  computed = row.computed;
  matches = row.matches;
  accepted = accepted;
  time = time times number;
}

abbrev pub certificate_said : List ℤ → DigestKind → Bool → Option SigningCert → Option CertificateFact
certificate_said times kind accepted None = None
certificate_said times kind accepted (Some signer) = Some (record {
  kind = kind;
  digest = digest_of kind signer.octets.now;
  accepted = accepted;
  time = time times signer.object.number;
})

abbrev pub value_said : SignatureCase → Answers → ValueFact
value_said shown answers = record {
  kind = shown.kind;
  good = answers.good;
  keyed = answers.keyed;
  accepted = answers.kind;
  time = time answers.times shown.case.references;
}

abbrev pub token_said : List ℤ → StampWord → TokenAnswer → TokenFact
token_said times word answer = record {
  kind = kind_in word.kind;
  gen_time = gen_time word.token.now;
  soundness = soundness_in answer.soundness;
  accepted = answer.accepted;
  time = time times word.object.number;
}

abbrev pub tokens_said : List ℤ → List StampWord → List TokenAnswer → List TokenFact
tokens_said times (word ∷ words) (answer ∷ answers) = token_said times word answer ∷ tokens_said times words answers
tokens_said times _ _ = []

-- of the certificate or revocation list with a number
abbrev pub object_said : List Part → List ℤ → ℕ → ObjectFact
object_said pool times number = record { is_certificate = not (is_list_at pool (Some number)); time = time times number }

-- a time-stamp by its kind and its token alone
abbrev pub stamped_in : StampWord → Stamped
stamped_in word = record { kind = kind_in word.kind; token = word.token.now; octets = []; covers = [] }
