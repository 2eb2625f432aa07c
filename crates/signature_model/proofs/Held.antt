-- What an element holds stays where content is put into another one.
use Rattle.std.proofs.Common.{◌≡◌, ℕ, zero, suc, [], ◌∷◌, Option, Some, None, refl, sym, ◌∙◌, ap, inl, inr}
use Rattle.std.proofs.lemmas.Option.{none-some}
use Rattle.std.specs.Prelude.{option_and_then, option_map}
use Rattle.document_model.specs.Tree.{Node, Nodes, Path, Element, Text, Comment, Instruction, no_nodes, ◌⨾◌, nth, descend, IsElementAt, in_nth, with_last, put_last}
use Rattle.document_model.proofs.Kept.{nth_changed, joined_nth, LeadsToElement}
use Rattle.signature_model.specs.Spots.{emptied, emptied_all, held_in, held_at}

pub same_shell : (added : Nodes) (host : Path) (node : Node) → emptied (with_last added host node) ≡ emptied node
same_shell added [] (Element name attributes nodes) = refl
same_shell added [] (Text cs) = refl
same_shell added [] (Comment cs) = refl
same_shell added [] (Instruction target content) = refl
same_shell added (k ∷ host) (Element name attributes nodes) = refl
same_shell added (k ∷ host) (Text cs) = refl
same_shell added (k ∷ host) (Comment cs) = refl
same_shell added (k ∷ host) (Instruction target content) = refl

same_shells : (change : Node → Node) → ((node : Node) → emptied (change node) ≡ emptied node) → (k : ℕ) (nodes : Nodes)
    → emptied_all (in_nth k change nodes) ≡ emptied_all nodes
same_shells change h k no_nodes = refl
same_shells change h zero (node ⨾ nodes) = ap (λ n. n ⨾ emptied_all nodes) (h node)
same_shells change h (suc k) (node ⨾ nodes) = ap (λ r. emptied node ⨾ r) (same_shells change h k nodes)

-- what is held at a path from a node on
abbrev held_below : Path → Option Node → Nodes
held_below path o = held_in (option_and_then (descend path) o)

on_child : (added : Nodes) (host path : Path) (o : Option Node) → LeadsToElement path o
    → ((node : Node) → LeadsToElement path (Some node) → held_below path (Some (with_last added host node)) ≡ held_below path (Some node))
    → held_below path (option_map (with_last added host) o) ≡ held_below path o
on_child added host path None l same = absurd (none-some _ l.1)
on_child added host path (Some node) l same = same node l

nth_stays : (added : Nodes) (host path : Path) (j k : ℕ) (nodes : Nodes) → LeadsToElement path (nth k nodes) → (k ∷ path ≡ j ∷ host → ⊥)
    → ((path ≡ host → ⊥) → (node : Node) → LeadsToElement path (Some node) → held_below path (Some (with_last added host node)) ≡ held_below path (Some node))
    → held_below path (nth k (in_nth j (with_last added host) nodes)) ≡ held_below path (nth k nodes)
nth_stays added host path j k nodes l d same = elim (nth_changed j k (with_last added host) nodes) [
  | inl e ↦ ap (held_below path) e
  | inr e ↦ ap (held_below path) e.1
      ∙ on_child added host path (nth k nodes) l (same (λ p. d (ap (λ i. i ∷ path) (sym e.0) ∙ ap (λ q. j ∷ q) p)))
]

below_stays : (added : Nodes) (host path : Path) → (path ≡ host → ⊥) → (node : Node) → LeadsToElement path (Some node)
    → held_below path (Some (with_last added host node)) ≡ held_below path (Some node)
below_stays added [] [] d node l = absurd (d refl)
below_stays added (j ∷ host) [] d (Element name attributes nodes) l = same_shells (with_last added host) (same_shell added host) j nodes
below_stays added (j ∷ host) [] d (Text cs) l = refl
below_stays added (j ∷ host) [] d (Comment cs) l = refl
below_stays added (j ∷ host) [] d (Instruction target content) l = refl
below_stays added [] (k ∷ path) d (Element name attributes nodes) l = ap (held_below path) (joined_nth path k nodes added l)
below_stays added [] (k ∷ path) d (Text cs) l = refl
below_stays added [] (k ∷ path) d (Comment cs) l = refl
below_stays added [] (k ∷ path) d (Instruction target content) l = refl
below_stays added (j ∷ host) (k ∷ path) d (Element name attributes nodes) l =
    nth_stays added host path j k nodes l d (λ d' node l'. below_stays added host path d' node l')
below_stays added (j ∷ host) (k ∷ path) d (Text cs) l = refl
below_stays added (j ∷ host) (k ∷ path) d (Comment cs) l = refl
below_stays added (j ∷ host) (k ∷ path) d (Instruction target content) l = refl

pub held_stays : (document added : Nodes) (host path : Path) → IsElementAt document path → (path ≡ host → ⊥)
    → held_at (put_last added host document) path ≡ held_at document path
held_stays document added host [] e d = absurd (none-some _ e.1)
held_stays document added [] (k ∷ path) e d = ap (held_below path) (joined_nth path k document added e)
held_stays document added (j ∷ host) (k ∷ path) e d =
    nth_stays added host path j k document e d (λ d' node l. below_stays added host path d' node l)
