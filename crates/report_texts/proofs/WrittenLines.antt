-- Lines that are written word by word, and one after another.
use Rattle.std.proofs.Common.{Bor, ◌≡◌, ℕ, suc, ◌+◌, ◌<◌, ◌≤◌, List, [], ◌∷◌, ◌++◌, length, get_or, drop, map, refl, sym, subst, ◌∙◌, ap, append_assoc, codes}
use Rattle.std.proofs.lemmas.List.{append-nil, drop_more, drop_all, get_or-map, length-map}
use Rattle.std.proofs.lemmas.List.Elements.{All-get_or}
use Rattle.std.specs.Prelude.{All}
use Rattle.der_values.specs.Distinct.{octets}
use Rattle.signature_evidence.specs.Report.{line}
use Rattle.report_texts.specs.declared.facts.TokenFact as code
use Rattle.report_texts.specs.Facts.{TokenFact, token_shown}
use Rattle.report_texts.specs.Texts.{each_from}
use Rattle.report_texts.specs.Words.{behind}

pub line_behind : (first : List ℕ) (words : List (List ℕ)) → line (first ∷ words) ≡ first ++ (behind words ++ codes "\n")
line_behind first [] = refl
line_behind first (word ∷ words) =
    ap (λ x. first ++ codes " " ++ x) (line_behind word words) ∙ regroup first (codes " ") word (behind words) (codes "\n")
  where
    regroup : (a b c d e : List ℕ) → a ++ b ++ (c ++ (d ++ e)) ≡ a ++ ((b ++ c ++ d) ++ e)
    regroup a b c d e = simp append_assoc

-- a line in three pieces
pub whole_line : (out first : List ℕ) (words : List (List ℕ)) (s t : List ℕ) → s ≡ out ++ first → t ≡ s ++ behind words → t ++ codes "\n" ≡ out ++ line (first ∷ words)
whole_line out first words s t e f =
    ap (λ x. x ++ codes "\n") (f ∙ ap (λ x. x ++ behind words) e) ∙ regroup out first (behind words) (codes "\n") ∙ ap (λ x. out ++ x) (sym (line_behind first words))
  where
    regroup : (a b c d : List ℕ) → ((a ++ b) ++ c) ++ d ≡ a ++ (b ++ (c ++ d))
    regroup a b c d = simp append_assoc

pub words_end : (all : List (Bor (List ℕ))) (n : ℕ) (out whole : List ℕ) → length all ≤ n → out ++ behind (map octets (drop n all)) ≡ whole → out ≡ whole
words_end all n out whole h e = sym (append-nil out) ∙ ap (λ x. out ++ behind (map octets x)) (sym (drop_all n all h)) ∙ e

pub words_more : (all : List (Bor (List ℕ))) (n : ℕ) (d : Bor (List ℕ)) (out mid new whole : List ℕ) → n < length all → mid ≡ out ++ codes " " → new ≡ mid ++ (get_or all n d).now
    → out ++ behind (map octets (drop n all)) ≡ whole → new ++ behind (map octets (drop (n + 1) all)) ≡ whole
words_more all n d out mid new whole h e f w =
    let rest : List ℕ = behind (map octets (drop (n + 1) all)) in
    let word : List ℕ = (get_or all n d).now in
    ap (λ x. x ++ rest) (f ∙ ap (λ x. x ++ word) e)
    ∙ regroup out (codes " ") word rest
    ∙ ap (λ x. out ++ behind (map octets x)) (sym (drop_more all n d h))
    ∙ w
  where
    regroup : (a b c d : List ℕ) → ((a ++ b) ++ c) ++ d ≡ a ++ (b ++ c ++ d)
    regroup a b c d = simp append_assoc

-- Time-stamps as they are shown.

pub lines_shown : {A B : Type 0} (f : ℕ → B → List ℕ) (g : A → B) (k : ℕ) (all : List A) → each_from f k (map g all) ≡ each_from (λ k x. f k (g x)) k all
lines_shown f g k [] = refl
lines_shown f g k (x ∷ all) = ap (λ y. f k (g x) ++ y) (lines_shown f g (suc k) all)

-- what holds of each time-stamp that is shown holds of one of them
pub shown_at : (P : TokenFact → Type 0) (all : List code.TokenFact) (n : ℕ) (d : code.TokenFact) → n < length all → All P (map token_shown all) → P (token_shown (get_or all n d))
shown_at P all n d h each =
    subst P (get_or-map token_shown all n d (token_shown d) h) (All-get_or P (map token_shown all) n (token_shown d) (subst (λ k. n < k) (sym (length-map all token_shown)) h) each)
