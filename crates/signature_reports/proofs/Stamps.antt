-- What is said of time-stamps, one after another.
use Rattle.std.proofs.Common.{◌≡◌, ℕ, ◌+◌, ◌<◌, List, [], ◌∷◌, ◌++◌, length, get_or, drop, map, ℤ, refl, sym, ◌∙◌, ap, append_assoc}
use Rattle.std.proofs.lemmas.List.{drop_more}
use Rattle.signature_cases.specs.declared.cases.StampWord.{StampWord}
use Rattle.report_texts.specs.declared.facts.TokenFact as code
use Rattle.report_texts.specs.Facts.{TokenFact, token_shown}
use Rattle.signature_verdicts.specs.declared.answers.TokenAnswer.{TokenAnswer}
use Rattle.signature_reports.specs.Said.{token_said, tokens_said}

regroup : (a b c : List TokenFact) → (a ++ b) ++ c ≡ a ++ (b ++ c)
regroup a b c = simp append_assoc

shown_more : (out : List code.TokenFact) (fact : code.TokenFact) → map token_shown (out ++ fact ∷ []) ≡ map token_shown out ++ token_shown fact ∷ []
shown_more [] fact = refl
shown_more (first ∷ out) fact = ap (λ x. token_shown first ∷ x) (shown_more out fact)

pub tokens_more : (times : List ℤ) (words : List StampWord) (answers : List TokenAnswer) (k : ℕ) (d : StampWord) (b : TokenAnswer) (out longer : List code.TokenFact) (fact : code.TokenFact) (whole : List TokenFact)
    → k < length words → k < length answers → longer ≡ out ++ fact ∷ [] → token_shown fact ≡ token_said times (get_or words k d) (get_or answers k b)
    → map token_shown out ++ tokens_said times (drop k words) (drop k answers) ≡ whole
    → map token_shown longer ++ tokens_said times (drop (k + 1) words) (drop (k + 1) answers) ≡ whole
tokens_more times words answers k d b out longer fact whole h j put is w =
    let rest : List TokenFact = tokens_said times (drop (k + 1) words) (drop (k + 1) answers) in
    ap (λ x. map token_shown x ++ rest) put
    ∙ ap (λ x. x ++ rest) (shown_more out fact)
    ∙ regroup (map token_shown out) (token_shown fact ∷ []) rest
    ∙ ap (λ f. map token_shown out ++ f ∷ rest) is
    ∙ (λ i. map token_shown out ++ tokens_said times (sym (drop_more words k d h) i) (sym (drop_more answers k b j) i))
    ∙ w
