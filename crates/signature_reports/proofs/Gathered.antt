-- What is said of the parts of a signature in memory is what is to be said of its evidence.
use Rattle.std.proofs.Common.{◌≡◌, ℕ, List, [], ◌∷◌, length, map, Option, Some, None, option_map, ℤ, Vec, refl, sym, ◌∙◌, ap}
use Rattle.std.specs.declared.alloc.Global.{Global}
use Rattle.std.proofs.lemmas.List.{length-map}
use Rattle.std.proofs.lemmas.Option.{none-some}
use Rattle.algorithms.specs.Digests.{digest_of}
use Rattle.algorithms.specs.declared.digest_kinds.DigestKind.{DigestKind}
use Rattle.policy_rules.specs.Rules.{Rules}
use Rattle.tst_tokens.specs.Tokens.{gen_time}
use Rattle.acceptance.specs.Certificates.{Part}
use Rattle.acceptance.specs.Walks.{time}
use Rattle.cert_paths.specs.Pool.{part_numbers}
use Rattle.signature_objects.specs.Objects.{Certificate, number_of}
use Rattle.signature_cases.specs.Built.{AreWords, IsBuilt}
use Rattle.signature_cases.specs.Words.{soundness_in}
use Rattle.signature_cases.specs.declared.cases.SignatureCase.{SignatureCase}
use Rattle.signature_cases.specs.declared.cases.SigningCert.{SigningCert}
use Rattle.signature_cases.specs.declared.cases.StampWord.{StampWord}
use Rattle.signature_evidence.specs.Answers as answered
use Rattle.signature_evidence.specs.Evidence.{Evidence, Stamped}
use Rattle.signature_evidence.specs.Pools.{part_of}
use Rattle.signature_evidence.proofs.Whole.{some_same}
use Rattle.report_texts.specs.declared.facts.CertificateFact.{CertificateFact}
use Rattle.report_texts.specs.declared.facts.Level.{Level}
use Rattle.report_texts.specs.declared.facts.ObjectFact.{ObjectFact}
use Rattle.report_texts.specs.declared.facts.ReferenceFact.{ReferenceFact}
use Rattle.report_texts.specs.declared.facts.TokenFact as code_token
use Rattle.report_texts.specs.declared.facts.ValueFact.{ValueFact}
use Rattle.report_texts.specs.Facts.{shown as said_in, token_shown}
use Rattle.report_texts.specs.Shown.{certificate_of, facts_of, level_of, references_of, tokens_of, value_of}
use Rattle.signature_verdicts.specs.Seen.{answers_in, token_answer_in}
use Rattle.signature_verdicts.specs.declared.answers.Answers.{Answers}
use Rattle.signature_verdicts.specs.declared.answers.TokenAnswer.{TokenAnswer}
use Rattle.signature_reports.specs.Said.{certificate_said, object_said, tokens_said, value_said}
use Rattle.signature_reports.proofs.Objects.{objects_are}
use Rattle.signature_reports.proofs.References.{said_from}

certificate_are : (times : List ℤ) (evidence : Evidence) (answers : answered.Answers) (kind : DigestKind) (signer : Option SigningCert) (certificate : Option (List ℕ))
    → kind ≡ evidence.certificate_kind → option_map (λ signer. signer.octets.now) signer ≡ certificate
    → option_map (λ signer. signer.object.number) signer ≡ option_map (λ bytes. number_of evidence.objects (Certificate bytes)) certificate
    → certificate_said times kind answers.certificate signer ≡ certificate_of times evidence answers certificate
certificate_are times evidence answers kind None None k e n = refl
certificate_are times evidence answers kind None (Some bytes) k e n = absurd (none-some bytes e)
certificate_are times evidence answers kind (Some signer) None k e n = absurd (none-some signer.octets.now (sym e))
certificate_are times evidence answers kind (Some signer) (Some bytes) k e n =
    let octets : signer.octets.now ≡ bytes = some_same signer.octets.now bytes e in
    let number : signer.object.number ≡ number_of evidence.objects (Certificate bytes) = some_same signer.object.number (number_of evidence.objects (Certificate bytes)) n in
    (λ i. Some (record { kind = k i; digest = digest_of (k i) (octets i); accepted = answers.certificate; time = time times (number i) }))

tokens_are : (times : List ℤ) (evidence : Evidence) (shown : List Stamped) (words : List StampWord) (answers : List TokenAnswer) → AreWords evidence.objects shown words
    → tokens_said times words answers ≡ tokens_of times evidence shown (map token_answer_in answers)
tokens_are times evidence [] [] answers are = refl
tokens_are times evidence [] (word ∷ words) answers are = absurd are
tokens_are times evidence (stamped ∷ shown) [] answers are = absurd are
tokens_are times evidence (stamped ∷ shown) (word ∷ words) [] are = refl
tokens_are times evidence (stamped ∷ shown) (word ∷ words) (answer ∷ answers) are = (λ i. record {
  kind = are.0.kind i;
  gen_time = gen_time (are.0.token i);
  soundness = soundness_in answer.soundness;
  accepted = answer.accepted;
  time = time times (are.0.object i);
} ∷ tokens_are times evidence shown words answers are.1 i)

-- the value, by its object
value_is : (policy : Rules) (evidence : Evidence) (shown : SignatureCase) (answers : Answers) → IsBuilt policy evidence shown
    → value_said shown answers ≡ value_of policy evidence answers.times (answers_in answers)
value_is policy evidence shown answers built = (λ i. record {
  kind = built.kind i;
  good = answers.good;
  keyed = answers.keyed;
  accepted = answers.kind;
  time = time answers.times (built.shows.objects.value i);
})

pub many_times : (policy : Rules) (evidence : Evidence) (shown : SignatureCase) → IsBuilt policy evidence shown → length shown.case.pool ≡ length evidence.objects
many_times policy evidence shown built = ap (λ (pool : List Part). length pool) built.shows.objects.pool ∙ length-map evidence.objects part_of

pub gathered : (policy : Rules) (evidence : Evidence) (shown : SignatureCase) (answers : Answers) (now moment : ℤ) (level : Level) (references : Vec ReferenceFact Global) (certificate : Option CertificateFact)
    (value : ValueFact) (tokens : Vec code_token.TokenFact Global) (objects : Vec ObjectFact Global) → IsBuilt policy evidence shown → length answers.times ≡ length shown.case.pool
    → moment ≡ now → level ≡ level_of evidence (answers_in answers)
    → references.items ≡ said_from answers.times 0 shown.references.items answers.references.items
    → certificate ≡ certificate_said answers.times shown.certificate_kind answers.certificate shown.certificate → value ≡ value_said shown answers
    → map token_shown tokens.items ≡ tokens_said answers.times shown.stamps.items answers.tokens.items
    → objects.items ≡ map (object_said shown.case.pool answers.times) (part_numbers shown.case.pool)
    → said_in (record {
      moment = moment;
      level = level;
      references = references;
      certificate = certificate;
      value = value;
      walk = answers.walk;
      tokens = tokens;
      in_order = answers.in_order;
      objects = objects;
    }) ≡ facts_of policy evidence now answers.times (answers_in answers)
gathered policy evidence shown answers now moment level references certificate value tokens objects built many m l r c v t o =
    let references_are : references.items ≡ references_of answers.times evidence.references evidence.computed answers.references.items =
    r ∙ (λ i. references_of answers.times (built.references i) (built.computed i) answers.references.items) in
    let certificate_is = c ∙ certificate_are answers.times evidence (answers_in answers) shown.certificate_kind shown.certificate evidence.certificate built.certificate_kind built.certificate built.signer in
    let value_are = v ∙ value_is policy evidence shown answers built in
    let tokens_all = t ∙ tokens_are answers.times evidence evidence.stamps shown.stamps.items answers.tokens.items built.words in
    let objects_all = o ∙ objects_are shown.case.pool evidence.objects answers.times built.shows.objects.pool (many ∙ many_times policy evidence shown built) in
    (λ i. record {
      moment = m i;
      level = l i;
      references = references_are i;
      certificate = certificate_is i;
      value = value_are i;
      walk = answers.walk;
      tokens = tokens_all i;
      in_order = answers.in_order;
      objects = objects_all i;
    })
