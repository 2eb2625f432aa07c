-- Octets that are appended one after another.
use Rattle.std.proofs.Common.{Bor, suc, true, false, ◌==◌, refl, ◌≡◌, ℕ, ◌+◌, ◌<◌, ◌≤◌, List, [], ◌∷◌, ◌++◌, length, get_or, drop, map, sym, ◌∙◌, ap, append_assoc}
use Rattle.std.proofs.lemmas.Bool.{eqb-true}
use Rattle.std.proofs.lemmas.List.{append-nil, drop_more, drop_all}
use Rattle.der_values.specs.Distinct.{octets}
use Rattle.document_model.specs.Characters.{is_empty}
use Rattle.document_model.specs.Tree.{Nodes}
use Rattle.signature_model.specs.Fragments.{written_octets, each}
use Rattle.signature_drafts.proofs.Written.{joined_octets}

-- three pieces
pub three : (out a b c s t : List ℕ) → s ≡ out ++ a → t ≡ s ++ b → t ++ c ≡ out ++ (a ++ (b ++ c))
three out a b c s t e f = ap (λ x. x ++ c) (f ∙ ap (λ x. x ++ b) e) ∙ regroup out a b c
  where
    regroup : (out a b c : List ℕ) → out ++ a ++ b ++ c ≡ out ++ (a ++ (b ++ c))
    regroup out a b c = simp append_assoc

-- What is appended for each of some octets: with what is left to append, it is the whole.

pub each_end : (f : List ℕ → Nodes) (all : List (Bor (List ℕ))) (n : ℕ) (out whole : List ℕ) → length all ≤ n
    → out ++ written_octets (each f (map octets (drop n all))) ≡ whole → out ≡ whole
each_end f all n out whole h e = sym (append-nil out) ∙ ap (λ x. out ++ written_octets (each f (map octets x))) (sym (drop_all n all h)) ∙ e

pub each_more : (f : List ℕ → Nodes) (all : List (Bor (List ℕ))) (n : ℕ) (d : Bor (List ℕ)) (out new whole : List ℕ) → n < length all
    → new ≡ out ++ written_octets (f (get_or all n d).now) → out ++ written_octets (each f (map octets (drop n all))) ≡ whole
    → new ++ written_octets (each f (map octets (drop (n + 1) all))) ≡ whole
each_more f all n d out new whole h e w =
    let rest : List (Bor (List ℕ)) = drop (n + 1) all in
    let one : List ℕ = (get_or all n d).now in
    ap (λ x. x ++ written_octets (each f (map octets rest))) e
    ∙ append_assoc out (written_octets (f one)) (written_octets (each f (map octets rest)))
    ∙ ap (λ x. out ++ x) (sym (joined_octets (f one) (each f (map octets rest))))
    ∙ ap (λ x. out ++ written_octets (each f (map octets x))) (sym (drop_more all n d h))
    ∙ w

-- none, or some
pub none_there : (all : List (Bor (List ℕ))) → (length all == 0) ≡ true → map octets all ≡ []
none_there [] e = refl
none_there (x ∷ all) e = let none : suc (length all) ≡ 0 = eqb-true (suc (length all)) 0 e in cc

pub some_there : (all : List (Bor (List ℕ))) → (length all == 0) ≡ false → is_empty (map octets all) ≡ false
some_there [] e = cc
some_there (x ∷ all) e = refl
