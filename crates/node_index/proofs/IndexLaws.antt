-- What an index has after one more node.
use Rattle.std.proofs.Common.{◌≡◌, ℕ, Bool, true, false, List, Some, refl, sym, ◌∙◌, ap, cond, unwrap_or}
use Rattle.std.specs.BTreeMap.{get_by_text}
use Rattle.std.specs.Cmp.Lexicographic.{same_text}
use Rattle.std.specs.Map.{update}
use Rattle.std.specs.Str.{bytes_eq}
use Rattle.doc_spans.specs.declared.documents.NodeId.{NodeId}
use Rattle.node_index.specs.declared.indices.NodeIndex.{NodeIndex}
use Rattle.node_index.specs.declared.sightings.Sightings.TheVariants.{Absent}
use Rattle.node_index.specs.Indices.{sighted, Adds}
use Rattle.node_index.specs.Sightings.{with_node}

-- a map that has one more node under a text is an index that has it
pub adds_from : (text : List ℕ) (node : NodeId) (old new : NodeIndex)
    → ((other : List ℕ) → get_by_text new.held other ≡ update bytes_eq (get_by_text old.held) text (Some (with_node node (sighted old text))) other) → Adds text node old new
adds_from text node old new h = λ other. ap (λ o. unwrap_or o Absent) (h other) ∙ by_test other (bytes_eq text other) refl
  where
    by_test : (other : List ℕ) (b : Bool) → bytes_eq text other ≡ b
        → unwrap_or (cond b (Some (with_node node (sighted old text))) (get_by_text old.held other)) Absent ≡ cond b (with_node node (sighted old other)) (sighted old other)
    by_test other true e = ap (λ t. with_node node (sighted old t)) (same_text text other (sym e))
    by_test other false e = refl
