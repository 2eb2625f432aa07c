-- An element of the document stands in the new one, in the same scope.
use Rattle.std.proofs.Common.{◌≡◌, ℕ, false, not, ◌&&◌, List, [], ◌∷◌, Option, Some, None, refl, sym, ◌∙◌, ap, subst, inl, inr, Bool, true}
use Rattle.std.proofs.lemmas.Option.{none-some, same_Some}
use Rattle.std.specs.Prelude.{option_and_then, option_map}
use Rattle.document_model.specs.Tree.{Node, Nodes, Path, Element, Text, Comment, Instruction, nth, descend, node_at, IsElement, IsElementAt, in_nth, with_last, put_last}
use Rattle.document_model.specs.Scopes.{Tag, with_tag_of, elements_around, tags_at}
use Rattle.document_model.specs.NodeSets.{subtree, without, is_within}
use Rattle.document_model.proofs.Kept.{nth_changed, joined_nth, LeadsToElement, keeps_around}
use Rattle.signature_model.specs.Spots.{Spot, emptied}
use Rattle.signature_model.specs.Keeping.{IsSpot, IsSignature}
use Rattle.signature_model.proofs.Standing.{tags_of}
use Rattle.signature_model.proofs.References.{whole_or_element}
use Rattle.signature_model.proofs.Held.{same_shell}
use Rattle.signature_model.proofs.PropertyKept.{same_self}

abbrev shell_below : Path → Option Node → Option Node
shell_below path o = option_map emptied (option_and_then (descend path) o)

on_child : (added : Nodes) (host path : Path) (o : Option Node) → LeadsToElement path o
    → ((node : Node) → LeadsToElement path (Some node) → shell_below path (Some (with_last added host node)) ≡ shell_below path (Some node))
    → shell_below path (option_map (with_last added host) o) ≡ shell_below path o
on_child added host path None l same = absurd (none-some _ l.1)
on_child added host path (Some node) l same = same node l

nth_stays : (added : Nodes) (host path : Path) (j k : ℕ) (nodes : Nodes) → LeadsToElement path (nth k nodes)
    → ((node : Node) → LeadsToElement path (Some node) → shell_below path (Some (with_last added host node)) ≡ shell_below path (Some node))
    → shell_below path (nth k (in_nth j (with_last added host) nodes)) ≡ shell_below path (nth k nodes)
nth_stays added host path j k nodes l same = elim (nth_changed j k (with_last added host) nodes) [
  | inl e ↦ ap (shell_below path) e
  | inr e ↦ ap (shell_below path) e.1 ∙ on_child added host path (nth k nodes) l same
]

below_stays : (added : Nodes) (host path : Path) (node : Node) → LeadsToElement path (Some node)
    → shell_below path (Some (with_last added host node)) ≡ shell_below path (Some node)
below_stays added host [] node l = ap (λ n. Some n) (same_shell added host node)
below_stays added [] (k ∷ path) (Element name attributes nodes) l = ap (shell_below path) (joined_nth path k nodes added l)
below_stays added [] (k ∷ path) (Text cs) l = refl
below_stays added [] (k ∷ path) (Comment cs) l = refl
below_stays added [] (k ∷ path) (Instruction target content) l = refl
below_stays added (j ∷ host) (k ∷ path) (Element name attributes nodes) l =
    nth_stays added host path j k nodes l (λ node l'. below_stays added host path node l')
below_stays added (j ∷ host) (k ∷ path) (Text cs) l = refl
below_stays added (j ∷ host) (k ∷ path) (Comment cs) l = refl
below_stays added (j ∷ host) (k ∷ path) (Instruction target content) l = refl

shell_stays : (document added : Nodes) (host path : Path) → IsElementAt document path
    → option_map emptied (node_at (put_last added host document) path) ≡ option_map emptied (node_at document path)
shell_stays document added host [] e = absurd (none-some _ e.1)
shell_stays document added [] (k ∷ path) e = ap (shell_below path) (joined_nth path k document added e)
shell_stays document added (j ∷ host) (k ∷ path) e = nth_stays added host path j k document e (λ node l. below_stays added host path node l)

abbrev AnElement : Option Node → Type 0
AnElement o = (m : Node) × (o ≡ Some m) × IsElement m

not_emptied : (node : Node) → IsElement (emptied node) → IsElement node
not_emptied (Element name attributes nodes) i = tt
not_emptied (Text cs) i = i
not_emptied (Comment cs) i = i
not_emptied (Instruction target content) i = i

emptied_element : (node : Node) → IsElement node → IsElement (emptied node)
emptied_element (Element name attributes nodes) i = tt
emptied_element (Text cs) i = i
emptied_element (Comment cs) i = i
emptied_element (Instruction target content) i = i

from_shell : (o : Option Node) (m : Node) → IsElement m → option_map emptied o ≡ Some (emptied m) → AnElement o
from_shell None m i e = absurd (none-some _ e)
from_shell (Some node) m i e =
    (node, refl, not_emptied node (subst IsElement (sym (same_Some (emptied node) (emptied m) e)) (emptied_element m i)))

same_tag : (outer : List Tag) (node : Node) → with_tag_of (emptied node) outer ≡ with_tag_of node outer
same_tag outer (Element name attributes nodes) = refl
same_tag outer (Text cs) = refl
same_tag outer (Comment cs) = refl
same_tag outer (Instruction target content) = refl

-- the set of an element without the host doesn't hold the host
not_middle : (a b c : Bool) → b ≡ false → (a && b && c) ≡ false
not_middle true b c e = rw e refl
not_middle false b c e = refl

pub spot_stays : (document added : Nodes) (host : Path) → IsElementAt document host → (spot : Spot) → IsSpot document spot → IsSpot (put_last added host document) spot
spot_stays document added host h spot s =
    let new : Nodes = put_last added host document in
    let shell = shell_stays document added host spot.path s.element in
    let there = from_shell (node_at new spot.path) s.element.0 s.element.2 (shell ∙ ap (option_map emptied) s.element.1) in
    let same : emptied there.0 ≡ emptied s.element.0 =
    same_Some (emptied there.0) (emptied s.element.0) (sym (ap (option_map emptied) there.1) ∙ shell ∙ ap (option_map emptied) s.element.1) in
    let around = keeps_around (without (subtree spot.path) host) document added host spot.path h (whole_or_element document spot.path s.element)
    (not_middle (is_within spot.path host) (not (is_within host host)) true (ap not (same_self host))) in
    let tags : tags_at new spot.path ≡ tags_at document spot.path =
    tags_of new spot.path there.0 there.1
    ∙ sym (same_tag (elements_around new spot.path) there.0)
    ∙ (λ i. with_tag_of (same i) (around i))
    ∙ same_tag (elements_around document spot.path) s.element.0
    ∙ sym (tags_of document spot.path s.element.0 s.element.1) in
    record { tags = s.tags ∙ sym tags; element = there }

pub signature_stays : (document added : Nodes) (host : Path) → IsElementAt document host → (signature : Spot) → IsSignature document signature
    → IsSignature (put_last added host document) signature
signature_stays document added host h signature s = record { stands = spot_stays document added host h signature s.stands; named = s.named }
