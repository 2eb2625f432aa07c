-- The part of a document that a set holds, by its apex.
use Rattle.std.proofs.Common.{◌≡◌, ℕ, zero, suc, ◌+◌, false, cond, nat_eq, [], ◌∷◌, Option, Some, None, refl, sym, ◌∙◌, ap, arith}
use Rattle.std.proofs.lemmas.Bool.{ne_eqb}
use Rattle.std.specs.Option.{option_map_or}
use Rattle.std.specs.Prelude.{option_and_then}
use Rattle.document_model.specs.Tree.{Node, Nodes, no_nodes, ◌⨾◌, nth, descend}
use Rattle.document_model.specs.Scopes.{elements_down}
use Rattle.canon_forms.specs.Writing.{Test}
use Rattle.document_model.specs.NodeSets.{NodeSet, has_in, kept, kept_node, apex_alone, part_from, part}

-- the test fails at each node that the document holds but the k-th
abbrev Misses : (Test) → ℕ → Type 0
Misses test k = (j : ℕ) (node : Node) → nat_eq k j ≡ false → test [] (j ∷ []) node ≡ false

none_kept : (test : Test) (k i : ℕ) (nodes : Nodes) → Misses test k → ((d : ℕ) → nat_eq k (i + d) ≡ false) → kept test [] [] i nodes ≡ no_nodes
none_kept test k i no_nodes h far = refl
none_kept test k i (node ⨾ nodes) h far =
    let here : nat_eq k i ≡ false = (let n : i + 0 ≡ i = omega arith in ap (nat_eq k) (sym n) ∙ far 0) in
    ap (λ b. cond b (kept_node test [] (i ∷ []) node ⨾ kept test [] [] (suc i) nodes) (kept test [] [] (suc i) nodes)) (h i node here)
    ∙ none_kept test k (suc i) nodes h (λ d. (let n : suc i + d ≡ i + suc d = omega arith in ap (nat_eq k) n ∙ far (suc d)))

one_kept : (test : Test) (k i d : ℕ) (nodes : Nodes) → Misses test k → k ≡ i + d → kept test [] [] i nodes ≡ option_map_or (apex_alone test [] (k ∷ [])) (nth d nodes) no_nodes
one_kept test k i d no_nodes h e = refl
one_kept test k i zero (node ⨾ nodes) h e =
    let n : i ≡ k = omega (arith, e) in
    let far : (d : ℕ) → nat_eq k (suc i + d) ≡ false = (λ d. ne_eqb k (suc i + d) (λ f. omega (arith, e, f))) in
    ap (λ rest. cond (test [] (i ∷ []) node) (kept_node test [] (i ∷ []) node ⨾ rest) rest) (none_kept test k (suc i) nodes h far)
    ∙ ap (λ j. apex_alone test [] (j ∷ []) node) n
one_kept test k i (suc d) (node ⨾ nodes) h e =
    let here : nat_eq k i ≡ false = ne_eqb k i (λ f. omega (arith, e, f)) in
    ap (λ b. cond b (kept_node test [] (i ∷ []) node ⨾ kept test [] [] (suc i) nodes) (kept test [] [] (suc i) nodes)) (h i node here)
    ∙ one_kept test k (suc i) d nodes h (omega (arith, e))

misses : (set : NodeSet) (k : ℕ) → set.apex ≡ k ∷ [] → Misses (has_in set) k
misses set k e j node ne = (let f : has_in set [] (j ∷ []) node ≡ has_in (record set { apex = k ∷ [] }) [] (j ∷ []) node = ap (λ apex. has_in (record set { apex = apex }) [] (j ∷ []) node) e in
    f ∙ rw ne refl)

-- an apex that the document holds, and no apex: those of the nodes of the document that are in the set
alone : (test : Test) (k : ℕ) (document : Nodes) (o : Option Node) → nth k document ≡ o
    → option_map_or (apex_alone test (option_map_or (λ child. elements_down [] child []) o []) (k ∷ [])) (option_and_then (descend []) o) no_nodes ≡ option_map_or (apex_alone test [] (k ∷ [])) o no_nodes
alone test k document None e = refl
alone test k document (Some node) e = refl

pub part_of_top : (set : NodeSet) (k : ℕ) (document : Nodes) → set.apex ≡ k ∷ [] → part set document ≡ kept (has_in set) [] [] 0 document
part_of_top set k document e =
    ap (λ apex. part_from (has_in set) apex document) e
    ∙ alone (has_in set) k document (nth k document) refl
    ∙ sym (one_kept (has_in set) k 0 k document (misses set k e) (omega arith))
