-- Octets that are written part by part over others.
use Rattle.std.proofs.Common.{◌≡◌, ℕ, ◌+◌, List, ◌++◌, length, take, drop, refl, ap, sym, ◌∙◌, append_assoc, arith, length-append, zero-add}
use Rattle.std.proofs.lemmas.List.{take_at, drop_at, append-nil, drop-drop, drop_all}
use Rattle.xmss_definitions.specs.Address.{Place, chain_step, l_tree_pair, tree_pair, place_octets}

-- a part written behind what was written before
next_part : (front part t0 : List ℕ) (at : ℕ) → length front ≡ at
    → take at (front ++ drop at t0) ++ (part ++ drop (at + length part) (front ++ drop at t0)) ≡ (front ++ part) ++ drop (at + length part) t0
next_part front part t0 at long =
    let behind : drop (at + length part) (front ++ drop at t0) ≡ drop (at + length part) t0 =
    sym (drop-drop (length part) at (front ++ drop at t0)) ∙ ap (drop (length part)) (drop_at front (drop at t0) at long) ∙ drop-drop (length part) at t0 in
    rw (take_at front (drop at t0) at long, behind, append_assoc) refl

-- four parts that fill the octets
pub four_parts : (a b c d t0 t1 t2 t3 t4 : List ℕ) (i j k : ℕ) → length a ≡ i → i + length b ≡ j → j + length c ≡ k → k + length d ≡ length t0
    → t1 ≡ take 0 t0 ++ (a ++ drop (0 + length a) t0)
    → t2 ≡ take i t1 ++ (b ++ drop (i + length b) t1)
    → t3 ≡ take j t2 ++ (c ++ drop (j + length c) t2)
    → t4 ≡ take k t3 ++ (d ++ drop (k + length d) t3)
    → t4 ≡ a ++ b ++ c ++ d
four_parts a b c d t0 t1 t2 t3 t4 i j k la lb lc ld e1 e2 e3 e4 =
    let one : t1 ≡ a ++ drop i t0 = rw (e1, la, zero-add) refl in
    let two : t2 ≡ (a ++ b) ++ drop j t0 = rw (next_part a b t0 i la, lb) at (rw one at e2) in
    let both : length (a ++ b) ≡ j = simp length-append (omega (arith, la, lb)) in
    let three : t3 ≡ (a ++ b ++ c) ++ drop k t0 = rw (next_part (a ++ b) c t0 j both, lc) at (rw two at e3) in
    let all : length (a ++ b ++ c) ≡ k = simp length-append (omega (arith, la, lb, lc)) in
    rw (next_part (a ++ b ++ c) d t0 k all, ld, drop_all (length t0) t0 (omega arith), append-nil) at (rw three at e4)

pub length-place : (p : Place) → length (place_octets p) ≡ 16
length-place (chain_step leaf chain step) = refl
length-place (l_tree_pair leaf height index) = refl
length-place (tree_pair height index) = refl
