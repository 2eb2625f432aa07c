-- What is built of a signature and the right answers on it fit together.
use Rattle.std.proofs.Common.{◌≡◌, ℕ, suc, ◌+◌, ◌<◌, ◌≤◌, List, [], ◌∷◌, length, map, All, Contains, Option, Some, None, option_map, IfSome, true, ℤ, refl, sym, ◌∙◌, ap, subst, arith}
use Rattle.std.proofs.lemmas.List.{length-map}
use Rattle.std.proofs.lemmas.List.Elements.{All-nil, All-cons}
use Rattle.std.proofs.lemmas.Option.{none-some}
use Rattle.der_values.specs.Fits.{IsObject}
use Rattle.tst_tokens.specs.Layouts as layout
use Rattle.policy_rules.specs.Rules.{Rules}
use Rattle.acceptance.specs.Verdict.{DigestUse}
use Rattle.acceptance.proofs.Rounds.{Contains-first, Contains-later}
use Rattle.signature_objects.specs.Objects.{Object, Certificate, Token, has, number_of}
use Rattle.signature_cases.specs.Built.{AreWords, IsBuilt, case_of, uses_from}
use Rattle.signature_cases.specs.declared.cases.ReferenceDigest.{ReferenceDigest}
use Rattle.signature_cases.specs.declared.cases.SignatureCase.{SignatureCase}
use Rattle.signature_cases.specs.declared.cases.SigningCert.{SigningCert}
use Rattle.signature_cases.specs.declared.cases.StampWord.{StampWord}
use Rattle.signature_evidence.specs.Answers.{AreAnswers}
use Rattle.signature_evidence.specs.Evidence.{Evidence, Stamped}
use Rattle.signature_evidence.specs.Renewal.{IsInRange}
use Rattle.signature_evidence.proofs.Numbers.{number_within}
use Rattle.signature_evidence.proofs.Whole.{some_same}
use Rattle.report_texts.proofs.Reported.{as_many_accepted, as_many_tokens}
use Rattle.signature_verdicts.specs.Seen.{answers_in, token_answer_in}
use Rattle.signature_verdicts.specs.declared.answers.Answers.{Answers}
use Rattle.signature_reports.specs.Ready.{AreReady}
use Rattle.signature_reports.proofs.Gathered.{many_times}

as_many_uses : (first : ℕ) (rows : List ReferenceDigest) → length (uses_from first rows) ≡ length rows
as_many_uses first [] = refl
as_many_uses first (row ∷ rows) = ap suc (as_many_uses (suc first) rows)

-- the References are among the objects, which are so many
uses_within : (many first : ℕ) (rows : List ReferenceDigest) → first ≤ many → ((digest : DigestUse) → Contains (uses_from first rows) digest → digest.object < many)
    → first + length rows ≤ many
uses_within many first [] h within = omega (arith, h)
uses_within many first (row ∷ rows) h within =
    let here = within _ (Contains-first _ (uses_from (suc first) rows)) in
    let rest = uses_within many (suc first) rows (omega (arith, here)) (λ digest has. within digest (Contains-later _ digest (uses_from (suc first) rows) has)) in
    omega (arith, rest)

as_many_words : (objects : List Object) (shown : List Stamped) (words : List StampWord) → AreWords objects shown words → length words ≡ length shown
as_many_words objects [] [] are = refl
as_many_words objects [] (word ∷ words) are = absurd are
as_many_words objects (stamped ∷ shown) [] are = absurd are
as_many_words objects (stamped ∷ shown) (word ∷ words) are = ap suc (as_many_words objects shown words are.1)

abbrev IsWithin : ℕ → StampWord → Type 0
IsWithin many word = IsObject layout.token word.token.now × (word.object.number < many)

words_within : (objects : List Object) (shown : List Stamped) (words : List StampWord) → AreWords objects shown words
    → ((stamped : Stamped) → Contains shown stamped → has objects (Token stamped.token) ≡ true) → All (IsWithin (length objects)) words
words_within objects [] [] are there = All-nil (IsWithin (length objects))
words_within objects [] (word ∷ words) are there = absurd are
words_within objects (stamped ∷ shown) [] are there = absurd are
words_within objects (stamped ∷ shown) (word ∷ words) are there =
    All-cons (IsWithin (length objects)) word words (
      subst (λ (bytes : List ℕ). IsObject layout.token bytes) (sym are.0.token) are.0.whole,
      subst (λ (n : ℕ). n < length objects) (sym are.0.object) (number_within objects (Token stamped.token) (there stamped (Contains-first stamped shown))),
    )
    (words_within objects shown words are.1 (λ other found. there other (Contains-later stamped other shown found)))

signer_within : (objects : List Object) (signer : Option SigningCert) (certificate : Option (List ℕ))
    → option_map (λ signer. signer.object.number) signer ≡ option_map (λ bytes. number_of objects (Certificate bytes)) certificate
    → ((bytes : List ℕ) → certificate ≡ Some bytes → has objects (Certificate bytes) ≡ true) → IfSome signer (λ signer. signer.object.number < length objects)
signer_within objects None certificate n there = tt
signer_within objects (Some signer) None n there = absurd (none-some signer.object.number (sym n))
signer_within objects (Some signer) (Some bytes) n there =
    subst (λ (k : ℕ). k < length objects) (sym (some_same signer.object.number (number_of objects (Certificate bytes)) n)) (number_within objects (Certificate bytes) (there bytes refl))

pub fitting : (policy : Rules) (evidence : Evidence) (shown : SignatureCase) (answers : Answers) (now : ℤ) → IsInRange evidence → IsBuilt policy evidence shown
    → AreAnswers policy evidence (case_of shown) now answers.times (answers_in answers) → AreReady shown answers
fitting policy evidence shown answers now range built are =
    let many : length evidence.objects ≡ length shown.case.pool = sym (many_times policy evidence shown built) in
    let uses : length evidence.references ≡ length shown.references.items = ap (λ (digests : List DigestUse). length digests) (sym built.references) ∙ as_many_uses 0 shown.references.items in
    let inside : (digest : DigestUse) → Contains (uses_from 0 shown.references.items) digest → digest.object < length evidence.objects =
    λ digest found. range.references digest (subst (λ (digests : List DigestUse). Contains digests digest) built.references found) in
    let under : 0 + length shown.references.items ≤ length evidence.objects = uses_within (length evidence.objects) 0 shown.references.items (omega arith) inside in
    record {
      times = are.earliest.closed.each;
      references = omega (arith, under, many);
      digests = as_many_accepted policy answers.times evidence.references answers.references.items are.references ∙ uses;
      tokens = sym (length-map answers.tokens.items token_answer_in)
          ∙ as_many_tokens policy evidence (case_of shown) answers.times evidence.stamps (map token_answer_in answers.tokens.items) are.tokens
          ∙ sym (as_many_words evidence.objects evidence.stamps shown.stamps.items built.words);
      words = subst (λ (n : ℕ). All (IsWithin n) shown.stamps.items) many (words_within evidence.objects evidence.stamps shown.stamps.items built.words range.stamps);
      signer = subst (λ (n : ℕ). IfSome shown.certificate (λ signer. signer.object.number < n)) many (signer_within evidence.objects shown.certificate evidence.certificate built.signer range.certificate);
    }
