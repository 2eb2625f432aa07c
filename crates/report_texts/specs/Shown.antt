-- The facts of a signature's evidence and of the answers on it, and the law that their text is the report. This project's own.
use Rattle.std.specs.Prelude.{◌≡◌, ℕ, Bool, true, false, ◌&&◌, if◌then◌else◌, List, [], ◌∷◌, length, Option, Some, None, ℤ}
use Rattle.std.specs.List.{list_any}
use Rattle.algorithms.specs.Digests.{digest_of}
use Rattle.acceptance.specs.Verdict.{AreEarliest, Case, DigestUse}
use Rattle.acceptance.specs.Walks.{time}
use Rattle.policy_rules.specs.Rules.{Rules, kind_of_uri}
use Rattle.signature_evidence.specs.Answers.{Answers, AreAnswers, TokenAnswer, time_of}
use Rattle.signature_evidence.specs.Answers as answered
use Rattle.signature_evidence.specs.Cases.{IsCaseOf}
use Rattle.signature_evidence.specs.Evidence.{Evidence, Stamped, evidence_of}
use Rattle.signature_evidence.specs.Reporting.{IsReportOf}
use Rattle.signature_model.specs.Chains.{Handed}
use Rattle.signature_model.specs.Spots.{Spot}
use Rattle.document_model.specs.Tree.{Nodes}
use Rattle.signature_evidence.specs.Renewal.{IsInRange}
use Rattle.signature_evidence.specs.Report.{is_archive, is_signature_stamp, report}
use Rattle.signature_objects.specs.Objects.{Object, Value, Certificate, RevocationList, Token}
use Rattle.time_texts.specs.Clock.{clock, IsOfYears}
use Rattle.tst_tokens.specs.Tokens.{gen_time}
use Rattle.report_texts.specs.declared.facts.CertificateFact.{CertificateFact}
use Rattle.report_texts.specs.declared.facts.Level.{Level}
use Rattle.report_texts.specs.declared.facts.Level.TheVariants.{B, T, Lt, Lta}
use Rattle.report_texts.specs.declared.facts.ObjectFact.{ObjectFact}
use Rattle.report_texts.specs.declared.facts.ReferenceFact.{ReferenceFact}
use Rattle.report_texts.specs.declared.facts.ValueFact.{ValueFact}
use Rattle.report_texts.specs.Facts.{AreTimed, Facts, TokenFact, is_yes}
use Rattle.report_texts.specs.Texts.{text_of}

-- The facts, field by field.

abbrev pub level_of : Evidence → Answers → Level
level_of evidence answers =
    if list_any is_archive evidence.stamps then Lta
    else (if list_any is_signature_stamp evidence.stamps && answers.complete then Lt
    else (if list_any is_signature_stamp evidence.stamps then T else B))

abbrev pub references_of : List ℤ → List DigestUse → List (List ℕ) → List Bool → List ReferenceFact
references_of times (digest ∷ digests) (computed ∷ others) (accepted ∷ answers) =
    record { kind = digest.kind; computed = computed; matches = digest.matches; accepted = accepted; time = time times digest.object }
    ∷ references_of times digests others answers
references_of times _ _ _ = []

abbrev pub certificate_of : List ℤ → Evidence → Answers → Option (List ℕ) → Option CertificateFact
certificate_of times evidence answers None = None
certificate_of times evidence answers (Some bytes) = Some (record {
  kind = evidence.certificate_kind;
  digest = digest_of evidence.certificate_kind bytes;
  accepted = answers.certificate;
  time = time_of evidence times (Certificate bytes);
})

abbrev pub value_of : Rules → Evidence → List ℤ → Answers → ValueFact
value_of policy evidence times answers = record {
  kind = kind_of_uri policy.kinds evidence.method;
  good = answers.good;
  keyed = answers.keyed;
  accepted = answers.kind;
  time = time_of evidence times Value;
}

abbrev pub tokens_of : List ℤ → Evidence → List Stamped → List TokenAnswer → List TokenFact
tokens_of times evidence (stamped ∷ shown) (answer ∷ answers) =
    record {
      kind = stamped.kind;
      gen_time = gen_time stamped.token;
      soundness = answer.soundness;
      accepted = answer.accepted;
      time = time_of evidence times (Token stamped.token);
    } ∷ tokens_of times evidence shown answers
tokens_of times evidence _ _ = []

-- the certificates and revocation lists among objects whose times these are
abbrev pub objects_of : List Object → List ℤ → List ObjectFact
objects_of (Certificate bytes ∷ objects) (at ∷ times) = record { is_certificate = true; time = at } ∷ objects_of objects times
objects_of (RevocationList bytes ∷ objects) (at ∷ times) = record { is_certificate = false; time = at } ∷ objects_of objects times
objects_of (object ∷ objects) (at ∷ times) = objects_of objects times
objects_of _ _ = []

abbrev pub facts_of : Rules → Evidence → ℤ → List ℤ → Answers → Facts
facts_of policy evidence now times answers = record {
  moment = now;
  level = level_of evidence answers;
  references = references_of times evidence.references evidence.computed answers.references;
  certificate = certificate_of times evidence answers evidence.certificate;
  value = value_of policy evidence times answers;
  walk = answers.walk;
  tokens = tokens_of times evidence evidence.stamps answers.tokens;
  in_order = answers.in_order;
  objects = objects_of evidence.objects times;
}

-- there are as many digests and answers as References, and as many answers as time-stamps
pub record AreMatched (evidence : Evidence) (answers : Answers) : Type 0 where
  pub computed : length evidence.computed ≡ length evidence.references
  pub references : length answers.references ≡ length evidence.references
  pub tokens : length answers.tokens ≡ length evidence.stamps

-- The laws.

abbrev pub FactsAreReported : Type 0
FactsAreReported = (policy : Rules) (evidence : Evidence) (now : ℤ) (times : List ℤ) (answers : Answers)
    → AreMatched evidence answers → text_of (facts_of policy evidence now times answers) ≡ report clock policy evidence now times answers

abbrev pub VerdictIsSaid : Type 0
VerdictIsSaid = (policy : Rules) (evidence : Evidence) (now : ℤ) (times : List ℤ) (answers : Answers)
    → AreMatched evidence answers → is_yes (facts_of policy evidence now times answers) ≡ answered.is_yes evidence answers

-- for right answers, of which there are as many as there are to be
abbrev pub FactsMakeReports : Type 0
FactsMakeReports = (policy : Rules) (evidence : Evidence) (case : Case) (now : ℤ) (times : List ℤ) (answers : Answers)
    → length evidence.computed ≡ length evidence.references → IsCaseOf policy evidence case → AreAnswers policy evidence case now times answers
    → IsReportOf clock policy evidence now (text_of (facts_of policy evidence now times answers))

abbrev pub EvidenceIsMatched : Type 0
EvidenceIsMatched = (handed : Handed) (document : Nodes) (signature : Spot) (more : List Object)
    → length (evidence_of handed document signature more).computed ≡ length (evidence_of handed document signature more).references

-- for the earliest times of the case, where the moment is of these years
abbrev pub FactsAreTimed : Type 0
FactsAreTimed = (policy : Rules) (evidence : Evidence) (case : Case) (now : ℤ) (times : List ℤ) (answers : Answers)
    → IsInRange evidence → IsCaseOf policy evidence case → AreEarliest policy case now times → IsOfYears now
    → AreTimed (facts_of policy evidence now times answers)
