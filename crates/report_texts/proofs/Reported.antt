-- The text of the facts of evidence and answers is the report.
use Rattle.std.proofs.Common.{◌≡◌, ℕ, suc, Bool, true, false, ◌&&◌, if◌then◌else◌, List, [], ◌∷◌, ◌++◌, length, Option, Some, None, ℤ, refl, ◌∙◌, ap, append_assoc, arith, codes}
use Rattle.std.specs.Prelude.{is_some}
use Rattle.std.specs.List.{list_all, list_any}
use Rattle.acceptance.specs.Verdict.{DigestUse}
use Rattle.acceptance.specs.Walks.{time}
use Rattle.tst_tokens.specs.Tokens.{gen_time}
use Rattle.policy_rules.specs.Rules.{Rules}
use Rattle.signature_evidence.specs.Answers as answered
use Rattle.signature_evidence.specs.Answers.{AreAccepted, AreAnswers, AreTokenAnswers, Answers, TokenAnswer}
use Rattle.signature_evidence.specs.Evidence.{Evidence, Stamped, computed_digests, reference_digests}
use Rattle.signature_model.specs.Chains.{Handed}
use Rattle.signature_model.specs.Parts.{references}
use Rattle.signature_model.specs.Spots.{Spot}
use Rattle.signature_objects.specs.Held.{objects}
use Rattle.document_model.specs.Tree.{Nodes}
use Rattle.signature_evidence.specs.Report as report
use Rattle.signature_evidence.specs.Report.{is_archive, is_signature_stamp, line, verdict_word, walk_word}
use Rattle.signature_objects.specs.Objects.{Object, Octets, Value, Certificate, RevocationList, Token}
use Rattle.acceptance.specs.Verdict.{Case}
use Rattle.time_texts.specs.Clock.{clock}
use Rattle.report_texts.specs.declared.facts.Level.TheVariants.{B, T, Lt, Lta}
use Rattle.report_texts.specs.Facts.{is_certified, is_fine, is_held}
use Rattle.report_texts.specs.Shown.{certificate_of, level_of, objects_of, references_of, tokens_of, value_of, AreMatched, EvidenceIsMatched, FactsAreReported, FactsMakeReports, VerdictIsSaid}
use Rattle.report_texts.specs.Texts.{certificate_line, each_from, level_word, object_line, order_word, reference_line, token_line, value_line}

-- Lines.

references_said : (times : List ℤ) (k : ℕ) (digests : List DigestUse) (computed : List (List ℕ)) (answers : List Bool)
    → each_from reference_line k (references_of times digests computed answers) ≡ report.reference_lines clock times k digests computed answers
references_said times k [] computed answers = refl
references_said times k (digest ∷ digests) [] answers = refl
references_said times k (digest ∷ digests) (one ∷ computed) [] = refl
references_said times k (digest ∷ digests) (one ∷ computed) (answer ∷ answers) =
    ap (λ x. reference_line k (record { kind = digest.kind; computed = one; matches = digest.matches; accepted = answer; time = time times digest.object }) ++ x) (references_said times (suc k) digests computed answers)

certificate_said : (times : List ℤ) (evidence : Evidence) (answers : Answers) (certificate : Option (List ℕ))
    → certificate_line (certificate_of times evidence answers certificate) ≡ report.certificate_line clock times evidence answers certificate
certificate_said times evidence answers None = refl
certificate_said times evidence answers (Some bytes) = refl

tokens_said : (times : List ℤ) (evidence : Evidence) (k : ℕ) (shown : List Stamped) (answers : List TokenAnswer)
    → each_from token_line k (tokens_of times evidence shown answers) ≡ report.token_lines clock times evidence k shown answers
tokens_said times evidence k [] answers = refl
tokens_said times evidence k (stamped ∷ shown) [] = refl
tokens_said times evidence k (stamped ∷ shown) (answer ∷ answers) =
    ap (λ x. token_line k (record { kind = stamped.kind; gen_time = gen_time stamped.token; soundness = answer.soundness; accepted = answer.accepted; time = answered.time_of evidence times (Token stamped.token) }) ++ x) (tokens_said times evidence (suc k) shown answers)

objects_said : (k : ℕ) (objects : List Object) (times : List ℤ) → each_from object_line k (objects_of objects times) ≡ report.object_lines clock k objects times
objects_said k [] times = refl
objects_said k (Octets j ∷ objects) [] = refl
objects_said k (Value ∷ objects) [] = refl
objects_said k (Certificate bytes ∷ objects) [] = refl
objects_said k (RevocationList bytes ∷ objects) [] = refl
objects_said k (Token bytes ∷ objects) [] = refl
objects_said k (Octets j ∷ objects) (at ∷ times) = objects_said k objects times
objects_said k (Value ∷ objects) (at ∷ times) = objects_said k objects times
objects_said k (Certificate bytes ∷ objects) (at ∷ times) = ap (λ x. object_line k (record { is_certificate = true; time = at }) ++ x) (objects_said (suc k) objects times)
objects_said k (RevocationList bytes ∷ objects) (at ∷ times) = ap (λ x. object_line k (record { is_certificate = false; time = at }) ++ x) (objects_said (suc k) objects times)
objects_said k (Token bytes ∷ objects) (at ∷ times) = objects_said k objects times

level_said : (evidence : Evidence) (answers : Answers) → level_word (level_of evidence answers) ≡ report.level_word evidence answers
level_said evidence answers = by_three (list_any is_archive evidence.stamps) (list_any is_signature_stamp evidence.stamps) answers.complete
  where
    by_three : (a s c : Bool) → level_word (if a then Lta else (if s && c then Lt else (if s then T else B)))
        ≡ (if a then codes "B-LTA" else (if s && c then codes "B-LT" else (if s then codes "B-T" else codes "B-B")))
    by_three true s c = refl
    by_three false true true = refl
    by_three false true false = refl
    by_three false false c = refl

-- The verdict.

four : (a b c d : Bool) → ((a && b) && (c && d)) ≡ ((a && c) && (b && d))
four true true c d = refl
four true false true d = refl
four true false false d = refl
four false b c d = refl

references_held : (times : List ℤ) (digests : List DigestUse) (computed : List (List ℕ)) (answers : List Bool) → length computed ≡ length digests → length answers ≡ length digests
    → list_all is_held (references_of times digests computed answers) ≡ (list_all (λ digest. digest.matches) digests && list_all (λ answer. answer) answers)
references_held times [] computed [] l m = refl
references_held times [] computed (answer ∷ answers) l m = absurd (omega (arith, m))
references_held times (digest ∷ digests) [] answers l m = absurd (omega (arith, l))
references_held times (digest ∷ digests) (one ∷ computed) [] l m = absurd (omega (arith, m))
references_held times (digest ∷ digests) (one ∷ computed) (answer ∷ answers) l m =
    ap (λ x. (digest.matches && answer) && x) (references_held times digests computed answers (omega (arith, l)) (omega (arith, m)))
    ∙ four digest.matches answer (list_all (λ digest. digest.matches) digests) (list_all (λ answer. answer) answers)

certificate_held : (times : List ℤ) (evidence : Evidence) (answers : Answers) (certificate : Option (List ℕ))
    → is_certified (certificate_of times evidence answers certificate) ≡ (is_some certificate && answers.certificate)
certificate_held times evidence answers None = refl
certificate_held times evidence answers (Some bytes) = refl

tokens_fine : (times : List ℤ) (evidence : Evidence) (shown : List Stamped) (answers : List TokenAnswer) → length answers ≡ length shown
    → list_all is_fine (tokens_of times evidence shown answers) ≡ list_all answered.is_fine answers
tokens_fine times evidence [] [] l = refl
tokens_fine times evidence [] (answer ∷ answers) l = absurd (omega (arith, l))
tokens_fine times evidence (stamped ∷ shown) [] l = absurd (omega (arith, l))
tokens_fine times evidence (stamped ∷ shown) (answer ∷ answers) l = ap (λ x. answered.is_fine answer && x) (tokens_fine times evidence shown answers (omega (arith, l)))

pub verdict_is_said : VerdictIsSaid
verdict_is_said policy evidence now times answers matched =
    (λ i. references_held times evidence.references evidence.computed answers.references matched.computed matched.references i
    && certificate_held times evidence answers evidence.certificate i && answers.good && answers.kind && answers.walk
    && tokens_fine times evidence evidence.stamps answers.tokens matched.tokens i && answers.in_order)
    ∙ nine (list_all (λ digest. digest.matches) evidence.references) (list_all (λ answer. answer) answers.references) (is_some evidence.certificate) answers.certificate
    answers.good answers.kind answers.walk (list_all answered.is_fine answers.tokens) answers.in_order
  where
    nine : (a b c d e f g h j : Bool) → ((a && b) && (c && d) && e && f && g && h && j) ≡ list_all (λ x. x) (a ∷ b ∷ c ∷ d ∷ e ∷ f ∷ g ∷ h ∷ j ∷ [])
    nine false b c d e f g h j = refl
    nine true false c d e f g h j = refl
    nine true true false d e f g h j = refl
    nine true true true false e f g h j = refl
    nine true true true true false f g h j = refl
    nine true true true true true false g h j = refl
    nine true true true true true true false h j = refl
    nine true true true true true true true false j = refl
    nine true true true true true true true true false = refl
    nine true true true true true true true true true = refl

pub facts_are_reported : FactsAreReported
facts_are_reported policy evidence now times answers matched =
    let verdict : Bool → List ℕ = λ yes. line (codes "verdict:" ∷ verdict_word yes ∷ []) in
    let level : List ℕ → List ℕ = λ word. line (codes "level:" ∷ word ∷ []) in
    let moment = line (codes "moment:" ∷ clock now ∷ []) in
    let value = value_line (value_of policy evidence times answers) in
    let walk = line (codes "walk:" ∷ walk_word answers.walk ∷ []) in
    let order = line (codes "order:" ∷ order_word answers.in_order ∷ []) in
    (λ i. (verdict (verdict_is_said policy evidence now times answers matched i) ++ moment ++ level (level_said evidence answers i))
    ++ (references_said times 1 evidence.references evidence.computed answers.references i ++ certificate_said times evidence answers evidence.certificate i ++ value ++ walk)
    ++ (tokens_said times evidence 1 evidence.stamps answers.tokens i ++ order ++ objects_said 1 evidence.objects times i))
    ∙ regroup (verdict (answered.is_yes evidence answers)) moment (level (report.level_word evidence answers))
    (report.reference_lines clock times 1 evidence.references evidence.computed answers.references)
    (report.certificate_line clock times evidence answers evidence.certificate) value walk
    (report.token_lines clock times evidence 1 evidence.stamps answers.tokens) order (report.object_lines clock 1 evidence.objects times)
  where
    regroup : (v m l r c a w t o b : List ℕ) → (v ++ m ++ l) ++ (r ++ c ++ a ++ w) ++ (t ++ o ++ b) ≡ v ++ (m ++ l ++ r ++ c ++ a ++ w ++ t ++ o ++ b)
    regroup v m l r c a w t o b = simp append_assoc

-- As many answers.

pub as_many_accepted : (policy : Rules) (times : List ℤ) (digests : List DigestUse) (answers : List Bool) → AreAccepted policy times digests answers → length answers ≡ length digests
as_many_accepted policy times [] [] are = refl
as_many_accepted policy times [] (answer ∷ answers) are = absurd are
as_many_accepted policy times (digest ∷ digests) [] are = absurd are
as_many_accepted policy times (digest ∷ digests) (answer ∷ answers) are = ap (λ n. suc n) (as_many_accepted policy times digests answers are.1)

pub as_many_tokens : (policy : Rules) (evidence : Evidence) (case : Case) (times : List ℤ) (shown : List Stamped) (answers : List TokenAnswer)
    → AreTokenAnswers policy evidence case times shown answers → length answers ≡ length shown
as_many_tokens policy evidence case times [] [] are = refl
as_many_tokens policy evidence case times [] (answer ∷ answers) are = absurd are
as_many_tokens policy evidence case times (stamped ∷ shown) [] are = absurd are
as_many_tokens policy evidence case times (stamped ∷ shown) (answer ∷ answers) are = ap (λ n. suc n) (as_many_tokens policy evidence case times shown answers are.1)

pub answers_are_matched : (policy : Rules) (evidence : Evidence) (case : Case) (now : ℤ) (times : List ℤ) (answers : Answers)
    → length evidence.computed ≡ length evidence.references → AreAnswers policy evidence case now times answers → AreMatched evidence answers
answers_are_matched policy evidence case now times answers computed are = record {
  computed = computed;
  references = as_many_accepted policy times evidence.references answers.references are.references;
  tokens = as_many_tokens policy evidence case times evidence.stamps answers.tokens are.tokens;
}

pub facts_make_reports : FactsMakeReports
facts_make_reports policy evidence case now times answers computed is_case are = record {
  case = case;
  is_case = is_case;
  times = times;
  answers = answers;
  are = are;
  is = facts_are_reported policy evidence now times answers (answers_are_matched policy evidence case now times answers computed are);
}

as_many_computed : (handed : Handed) (document : Nodes) (signature : Spot) (objects : List Object) (k : ℕ) (references : List Spot)
    → length (computed_digests handed document signature references) ≡ length (reference_digests handed document signature objects k references)
as_many_computed handed document signature objects k [] = refl
as_many_computed handed document signature objects k (reference ∷ references) = ap (λ n. suc n) (as_many_computed handed document signature objects (suc k) references)

pub evidence_is_matched : EvidenceIsMatched
evidence_is_matched handed document signature more = as_many_computed handed document signature (objects document signature more) 1 (references document signature)
