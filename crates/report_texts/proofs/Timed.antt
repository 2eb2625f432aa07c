-- The times of the facts of evidence and answers.
use Rattle.std.proofs.Common.{◌≡◌, ℕ, zero, suc, ◌<◌, ◌==◌, Bool, true, false, if◌then◌else◌, List, [], ◌∷◌, length, Option, Some, None, ℤ, pos, neg_ℤ, ◌+ℤ◌, ◌≤ℤ◌, refl, sym, ap, ◌∙◌, subst, arith}
use Rattle.std.specs.Prelude.{All, Contains}
use Rattle.std.proofs.lemmas.List.Elements.{All-head, All-tail, All-nil, All-cons, All-from_get_or}
use Rattle.acceptance.specs.Verdict.{AreEarliest, Case, DigestUse}
use Rattle.acceptance.specs.Walks.{time}
use Rattle.jiff_core.proofs.SignedLemmas.{signed_arith}
use Rattle.signature_evidence.specs.Answers.{Answers, TokenAnswer, time_of}
use Rattle.signature_evidence.specs.Evidence.{Evidence, Stamped}
use Rattle.signature_objects.specs.Objects.{Object, Octets, Value, Certificate, RevocationList, Token, number_of}
use Rattle.time_texts.specs.Clock.{IsOfYears}
use Rattle.tst_tokens.specs.Tokens.{gen_time}
use Rattle.report_texts.specs.declared.facts.ObjectFact.{ObjectFact}
use Rattle.acceptance.proofs.Cases.{times_are_proved}
use Rattle.acceptance.specs.Laws.{IsProvedOf}
use Rattle.acceptance.specs.Objects.{token_of}
use Rattle.acceptance.specs.Stamping.{proof_time}
use Rattle.acceptance.specs.Times.{Stamp, at_the_moment, by_a_stamp}
use Rattle.acceptance.specs.Tokens as acceptance
use Rattle.policy_rules.specs.Rules.{Rules}
use Rattle.signature_evidence.specs.Cases.{AreStampsOf, IsCaseOf}
use Rattle.signature_evidence.specs.Renewal.{IsInRange}
use Rattle.signature_evidence.proofs.Whole.{cases_are_whole, shown_of}
use Rattle.report_texts.proofs.GenTimes.{at_first, gen_years}
use Rattle.report_texts.specs.Facts.{IsCertificateTimed, TokenFact}
use Rattle.report_texts.specs.Shown.{certificate_of, objects_of, references_of, tokens_of, FactsAreTimed}

time_timed : (times : List ℤ) (object : ℕ) → All IsOfYears times → IsOfYears (time times object)
time_timed [] zero each = at_first
time_timed [] (suc object) each = at_first
time_timed (at ∷ times) zero each = All-head IsOfYears at times each
time_timed (at ∷ times) (suc object) each = time_timed times object (All-tail IsOfYears at times each)

references_timed : (times : List ℤ) → All IsOfYears times → (digests : List DigestUse) (computed : List (List ℕ)) (answers : List Bool)
    → All (λ fact. IsOfYears fact.time) (references_of times digests computed answers)
references_timed times each [] computed answers = All-nil (λ fact. IsOfYears fact.time)
references_timed times each (digest ∷ digests) [] answers = All-nil (λ fact. IsOfYears fact.time)
references_timed times each (digest ∷ digests) (one ∷ computed) [] = All-nil (λ fact. IsOfYears fact.time)
references_timed times each (digest ∷ digests) (one ∷ computed) (answer ∷ answers) =
    All-cons (λ fact. IsOfYears fact.time) (record { kind = digest.kind; computed = one; matches = digest.matches; accepted = answer; time = time times digest.object })
    (references_of times digests computed answers) (time_timed times digest.object each) (references_timed times each digests computed answers)

certificate_timed : (times : List ℤ) → All IsOfYears times → (evidence : Evidence) (answers : Answers) (certificate : Option (List ℕ))
    → IsCertificateTimed (certificate_of times evidence answers certificate)
certificate_timed times each evidence answers None = tt
certificate_timed times each evidence answers (Some bytes) = time_timed times (number_of evidence.objects (Certificate bytes)) each

abbrev IsTokenTimed : TokenFact → Type 0
IsTokenTimed fact = IsOfYears fact.gen_time × IsOfYears fact.time

tokens_timed : (times : List ℤ) → All IsOfYears times → (evidence : Evidence) (shown : List Stamped) (answers : List TokenAnswer)
    → All IsTokenTimed (tokens_of times evidence shown answers)
tokens_timed times each evidence [] answers = All-nil IsTokenTimed
tokens_timed times each evidence (stamped ∷ shown) [] = All-nil IsTokenTimed
tokens_timed times each evidence (stamped ∷ shown) (answer ∷ answers) =
    All-cons IsTokenTimed (record { kind = stamped.kind; gen_time = gen_time stamped.token; soundness = answer.soundness; accepted = answer.accepted; time = time_of evidence times (Token stamped.token) })
    (tokens_of times evidence shown answers)
    (gen_years stamped.token, time_timed times (number_of evidence.objects (Token stamped.token)) each)
    (tokens_timed times each evidence shown answers)

abbrev IsObjectTimed : ObjectFact → Type 0
IsObjectTimed fact = IsOfYears fact.time

objects_timed : (objects : List Object) (times : List ℤ) → All IsOfYears times → All IsObjectTimed (objects_of objects times)
objects_timed [] times each = All-nil IsObjectTimed
objects_timed (Octets j ∷ objects) [] each = All-nil IsObjectTimed
objects_timed (Value ∷ objects) [] each = All-nil IsObjectTimed
objects_timed (Certificate bytes ∷ objects) [] each = All-nil IsObjectTimed
objects_timed (RevocationList bytes ∷ objects) [] each = All-nil IsObjectTimed
objects_timed (Token bytes ∷ objects) [] each = All-nil IsObjectTimed
objects_timed (Octets j ∷ objects) (at ∷ times) each = objects_timed objects times (All-tail IsOfYears at times each)
objects_timed (Value ∷ objects) (at ∷ times) each = objects_timed objects times (All-tail IsOfYears at times each)
objects_timed (Certificate bytes ∷ objects) (at ∷ times) each =
    All-cons IsObjectTimed (record { is_certificate = true; time = at }) (objects_of objects times) (All-head IsOfYears at times each) (objects_timed objects times (All-tail IsOfYears at times each))
objects_timed (RevocationList bytes ∷ objects) (at ∷ times) each =
    All-cons IsObjectTimed (record { is_certificate = false; time = at }) (objects_of objects times) (All-head IsOfYears at times each) (objects_timed objects times (All-tail IsOfYears at times each))
objects_timed (Token bytes ∷ objects) (at ∷ times) each = objects_timed objects times (All-tail IsOfYears at times each)

-- The earliest times: each is the moment, or a time that a token proves.

abbrev IsLate : ℤ → Type 0
IsLate at = neg_ℤ (pos 62_167_219_200) ≤ℤ at

proof_late : (policy : Rules) (token : acceptance.Token) → IsLate token.gen_time → IsLate (proof_time policy token)
proof_late policy token late = by_version (policy.version == 2)
  where
    by_version : (b : Bool) → IsLate (if b then token.gen_time +ℤ pos token.accuracy else token.gen_time)
    by_version true = omega (arith, signed_arith, late)
    by_version false = late

own_time : (whole : List ℕ) → (token_of whole).gen_time ≡ gen_time whole
unfolding token_of
own_time whole = refl

stamp_late : (evidence : Evidence) (stamps : List (Stamp acceptance.Token)) → AreStampsOf evidence.objects evidence.stamps stamps
    → (stamp : Stamp acceptance.Token) → Contains stamps stamp → IsLate stamp.token.gen_time
stamp_late evidence stamps are stamp has =
    let found = shown_of evidence.objects evidence.stamps stamps are stamp has in
    let same : stamp.token.gen_time ≡ gen_time found.0.token = ap (λ t. t.gen_time) found.2.token ∙ own_time found.0.token in
    subst IsLate (sym same) (gen_years found.0.token).0

proved_late : (policy : Rules) (case : Case) (now : ℤ) (times : List ℤ) → IsLate now → ((stamp : Stamp acceptance.Token) → Contains case.stamps stamp → IsLate stamp.token.gen_time)
    → (object : ℕ) (at : ℤ) → IsProvedOf policy case now times object at → IsLate at
proved_late policy case now times late each object at (at_the_moment x) = late
proved_late policy case now times late each object at (by_a_stamp stamp before x has sound proved accepted covers) = proof_late policy stamp.token (each stamp has)

times_timed : (policy : Rules) (evidence : Evidence) (case : Case) (now : ℤ) (times : List ℤ) → IsInRange evidence → IsCaseOf policy evidence case
    → AreEarliest policy case now times → IsOfYears now → All IsOfYears times
times_timed policy evidence case now times range is earliest moment =
    All-from_get_or IsOfYears times (pos 0) (λ object within.
    let inside : object < length case.pool = omega (arith, within, earliest.closed.each) in
    let proved = times_are_proved policy case now times (cases_are_whole policy evidence case range is).stamps earliest object inside in
    let low : IsLate (time times object) = proved_late policy case now times moment.0 (stamp_late evidence case.stamps is.stamps) object (time times object) proved in
    let high = earliest.closed.by_now object inside in
    (low, omega (arith, signed_arith, high, moment.1)))

pub facts_are_timed : FactsAreTimed
facts_are_timed policy evidence case now times answers range is earliest moment =
    let each = times_timed policy evidence case now times range is earliest moment in record {
      moment = moment;
      references = references_timed times each evidence.references evidence.computed answers.references;
      certificate = certificate_timed times each evidence answers evidence.certificate;
      value = time_timed times (number_of evidence.objects Value) each;
      tokens = tokens_timed times each evidence evidence.stamps answers.tokens;
      objects = objects_timed evidence.objects times each;
    }
