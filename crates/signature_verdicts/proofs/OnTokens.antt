-- The answers on the tokens of time-stamps, one after another.
use Rattle.std.proofs.Common.{◌≡◌, ◌↔◌, ℕ, suc, ◌+◌, ◌<◌, Bool, List, [], ◌∷◌, ◌++◌, length, get_or, Some, ℤ, IsTrue, arith, refl, sym, ap, subst, ◌∙◌, ⊎_elim, length-append}
use Rattle.std.proofs.lemmas.Option.{slice_get-get_or}
use Rattle.std.specs.Prelude.{map, slice_get}
use Rattle.algorithms.specs.Digests.{digest_of}
use Rattle.policy_rules.specs.Rules.{Rules}
use Rattle.tst_tokens.specs.Digests.{imprint_kind}
use Rattle.acceptance.specs.Certificates.{Part}
use Rattle.acceptance.specs.Objects.{token_of}
use Rattle.acceptance.specs.Stamping.{IsTokenAccepted}
use Rattle.acceptance.specs.Verdict.{Case}
use Rattle.acceptance.specs.Walks.{time}
use Rattle.cert_paths.proofs.HeldLaws.{get_cases}
use Rattle.case_steps.specs.Built.{ShowsStamps}
use Rattle.existence_times.specs.Shown.{ShownStamp}
use Rattle.signature_cases.specs.Built.{AreWords}
use Rattle.signature_cases.specs.Words.{soundness_in}
use Rattle.signature_cases.specs.declared.cases.StampWord.{StampWord}
use Rattle.signature_cases.specs.declared.words.Soundness as soundness
use Rattle.signature_evidence.specs.Answers.{AreTokenAnswers}
use Rattle.signature_evidence.specs.Evidence.{Evidence, Stamped}
use Rattle.signature_evidence.specs.Soundness.{HasSoundness}
use Rattle.signature_evidence.proofs.Whole.{some_same}
use Rattle.signature_objects.specs.Objects.{Object}
use Rattle.signature_verdicts.specs.Seen.{token_answer_in}
use Rattle.signature_verdicts.specs.declared.answers.TokenAnswer.{TokenAnswer}

-- an answer on the token of a time-stamp
pub record IsAnswerOn (pool : List Part) (policy : Rules) (times : List ℤ) (stamp : ShownStamp) (word : StampWord) (answer : TokenAnswer) : Type 0 where
  pub soundness : answer.soundness ≡ word.soundness
  pub accepted : IsTrue answer.accepted ↔ IsTokenAccepted pool policy times (token_of stamp.token) (time times stamp.object)

-- those on the first
pub record Answered (pool : List Part) (policy : Rules) (times : List ℤ) (stamps : List ShownStamp) (words : List StampWord) (count : ℕ) (answers : List TokenAnswer) : Type 0 where
  pub many : length answers ≡ count
  pub each : (k : ℕ) (stamp : ShownStamp) (word : StampWord) (answer : TokenAnswer)
      → slice_get stamps k ≡ Some stamp → slice_get words k ≡ Some word → slice_get answers k ≡ Some answer → IsAnswerOn pool policy times stamp word answer

pub answered_more : (pool : List Part) (policy : Rules) (times : List ℤ) (stamps : List ShownStamp) (words : List StampWord) (count : ℕ) (answers longer : List TokenAnswer)
    (word : StampWord) (answer : TokenAnswer) → slice_get words count ≡ Some word → longer ≡ answers ++ answer ∷ [] → answer.soundness ≡ word.soundness
    → ((stamp : ShownStamp) → slice_get stamps count ≡ Some stamp → IsTrue answer.accepted ↔ IsTokenAccepted pool policy times (token_of stamp.token) (time times stamp.object))
    → Answered pool policy times stamps words count answers → Answered pool policy times stamps words (count + 1) longer
answered_more pool policy times stamps words count answers longer word answer at put same_word accepted h =
    subst (λ (all : List TokenAnswer). Answered pool policy times stamps words (count + 1) all) (sym put)
    (record {
      many = let l = length-append answers (answer ∷ []) in let m = h.many in omega (arith, l, m);
      each = λ k stamp other found shown there has.
          ⊎_elim
          (λ old. h.each k stamp other found shown there old)
          (λ new.
          let here : k ≡ count = new.0 ∙ h.many in
          let same : word ≡ other = some_same word other (sym at ∙ ap (slice_get words) (sym here) ∙ there) in
          let is : IsAnswerOn pool policy times stamp word answer =
          record { soundness = same_word; accepted = accepted stamp (ap (slice_get stamps) (sym here) ∙ shown) } in
          subst (λ (w : StampWord). IsAnswerOn pool policy times stamp w found) same
          (subst (λ (a : TokenAnswer). IsAnswerOn pool policy times stamp word a) (sym new.1) is))
          (get_cases answers answer found k has);
    })

-- the same with the word that is read at its number
pub answered_at : (pool : List Part) (policy : Rules) (times : List ℤ) (stamps : List ShownStamp) (words : List StampWord) (count : ℕ) (answers longer : List TokenAnswer)
    (default : StampWord) (accepted : Bool) → count < length words
    → longer ≡ answers ++ record { soundness = (get_or words count default).soundness; accepted = accepted } ∷ []
    → ((stamp : ShownStamp) → slice_get stamps count ≡ Some stamp → IsTrue accepted ↔ IsTokenAccepted pool policy times (token_of stamp.token) (time times stamp.object))
    → Answered pool policy times stamps words count answers → Answered pool policy times stamps words (count + 1) longer
answered_at pool policy times stamps words count answers longer default accepted lt put is h =
    let word = get_or words count default in
    answered_more pool policy times stamps words count answers longer word (record { soundness = word.soundness; accepted = accepted }) (slice_get-get_or words count default lt) put refl is h

-- one time-stamp for each that is shown
pub as_many : (objects : List Object) (shown : List Stamped) (stamps : List ShownStamp) (words : List StampWord) → ShowsStamps objects shown stamps → AreWords objects shown words
    → length words ≡ length stamps
as_many objects [] [] [] s w = refl
as_many objects [] [] (word ∷ words) s w = absurd w
as_many objects [] (stamp ∷ stamps) words s w = absurd s
as_many objects (stamped ∷ shown) [] words s w = absurd s
as_many objects (stamped ∷ shown) (stamp ∷ stamps) [] s w = absurd w
as_many objects (stamped ∷ shown) (stamp ∷ stamps) (word ∷ words) s w = ap suc (as_many objects shown stamps words s.1 w.1)

pub answers_are : (policy : Rules) (evidence : Evidence) (case : Case) (times : List ℤ) (shown : List Stamped) (stamps : List ShownStamp) (words : List StampWord) (answers : List TokenAnswer)
    → ShowsStamps evidence.objects shown stamps → AreWords evidence.objects shown words → Answered case.pool policy times stamps words (length words) answers
    → AreTokenAnswers policy evidence case times shown (map token_answer_in answers)
answers_are policy evidence case times [] [] [] [] s w h = tt
answers_are policy evidence case times [] [] [] (answer ∷ answers) s w h = let m = h.many in absurd (omega (arith, m))
answers_are policy evidence case times [] [] (word ∷ words) answers s w h = absurd w
answers_are policy evidence case times [] (stamp ∷ stamps) words answers s w h = absurd s
answers_are policy evidence case times (stamped ∷ shown) [] words answers s w h = absurd s
answers_are policy evidence case times (stamped ∷ shown) (stamp ∷ stamps) [] answers s w h = absurd w
answers_are policy evidence case times (stamped ∷ shown) (stamp ∷ stamps) (word ∷ words) [] s w h = let m = h.many in absurd (omega (arith, m))
answers_are policy evidence case times (stamped ∷ shown) (stamp ∷ stamps) (word ∷ words) (answer ∷ answers) s w h =
    let is = h.each 0 stamp word answer refl refl refl in (
      record {
        soundness = subst (λ (x : soundness.Soundness). HasSoundness (digest_of (imprint_kind stamped.token) stamped.octets) stamped.token (soundness_in x)) (sym is.soundness) w.0.soundness;
        accepted = subst (λ (n : ℕ). IsTrue answer.accepted ↔ IsTokenAccepted case.pool policy times (token_of stamped.token) (time times n)) s.0.object
            (subst (λ (b : List ℕ). IsTrue answer.accepted ↔ IsTokenAccepted case.pool policy times (token_of b) (time times stamp.object)) s.0.token is.accepted);
      },
      answers_are policy evidence case times shown stamps words answers s.1 w.1
          (record { many = let m = h.many in omega (arith, m); each = λ k st wo an x y z. h.each (suc k) st wo an x y z }),
    )
