-- A signature is free again where its first property is put in, with the elements around it that were missing.
use Rattle.std.proofs.Common.{◌≡◌, ℕ, suc, ◌+◌, Bool, true, false, ◌&&◌, not, List, [], ◌∷◌, ◌++◌, Option, Some, None, refl, sym, ◌∙◌, ap, subst, arith, ◌==◌}
use Rattle.std.proofs.lemmas.Option.{none-some}
use Rattle.std.specs.Prelude.{option_and_then}
use Rattle.std.specs.Option.{option_map_or}
use Rattle.std.specs.Cmp.{unsigned_Decides}
use Rattle.document_model.specs.Tree.{Node, Nodes, Path, Element, Text, Comment, Instruction, no_nodes, ◌⨾◌, nth, below, descend, node_at}
use Rattle.document_model.specs.Scopes.{Tag}
use Rattle.document_model.specs.NodeSets.{NodeSet, is_within, is_removed}
use Rattle.document_model.specs.Insertion.{IsWholeOrElement}
use Rattle.signature_model.specs.Spots.{Spot, emptied_all, elements_from}
use Rattle.signature_model.specs.Covers.{lies_in}
use Rattle.signature_model.proofs.Standing.{Each}
use Rattle.signature_model.proofs.Lists.{not_both, both, each_map}

-- Elements that are new among the joined nodes: no old node has their number.

abbrev pub IsNew : Path → ℕ → Nodes → Spot → Type 0
IsNew path i old spot = (j : ℕ) × (spot.path ≡ path ++ (i + j) ∷ []) × (nth j old ≡ None)

pub numbered : (path : Path) (tags : List Tag) (i : ℕ) (nodes : Nodes) → Each (IsNew path i no_nodes) (elements_from path tags i (emptied_all nodes))
numbered path tags i no_nodes = tt
numbered path tags i (Element name attributes inner ⨾ nodes) =
    let n : i ≡ i + 0 = omega arith in
    ((0, ap (λ k. path ++ k ∷ []) n, refl), each_map (IsNew path (suc i) no_nodes) (IsNew path i no_nodes) _ (shift path i) (numbered path tags (suc i) nodes))
  where
    shift : (path : Path) (i : ℕ) (spot : Spot) → IsNew path (suc i) no_nodes spot → IsNew path i no_nodes spot
    shift path i spot h = let n : suc i + h.0 ≡ i + suc h.0 = omega arith in (suc h.0, h.1 ∙ ap (λ k. path ++ k ∷ []) n, refl)
numbered path tags i (Text cs ⨾ nodes) = each_map (IsNew path (suc i) no_nodes) (IsNew path i no_nodes) _
    (λ spot h. let n : suc i + h.0 ≡ i + suc h.0 = omega arith in (suc h.0, h.1 ∙ ap (λ k. path ++ k ∷ []) n, refl)) (numbered path tags (suc i) nodes)
numbered path tags i (Comment cs ⨾ nodes) = each_map (IsNew path (suc i) no_nodes) (IsNew path i no_nodes) _
    (λ spot h. let n : suc i + h.0 ≡ i + suc h.0 = omega arith in (suc h.0, h.1 ∙ ap (λ k. path ++ k ∷ []) n, refl)) (numbered path tags (suc i) nodes)
numbered path tags i (Instruction target content ⨾ nodes) = each_map (IsNew path (suc i) no_nodes) (IsNew path i no_nodes) _
    (λ spot h. let n : suc i + h.0 ≡ i + suc h.0 = omega arith in (suc h.0, h.1 ∙ ap (λ k. path ++ k ∷ []) n, refl)) (numbered path tags (suc i) nodes)

-- A place below the host whose first step is new isn't reached where the host isn't.

pub within_more : (apex path rest : Path) → is_within apex path ≡ true → is_within apex (path ++ rest) ≡ true
within_more [] path rest e = refl
within_more (k ∷ apex) [] rest e = absurd (not_both (sym e))
within_more (k ∷ apex) (j ∷ path) rest e =
    let h = both (k == j) (is_within apex path) e in
    let inner = within_more apex path rest h.1 in
    λ i. h.0 i && inner i

-- an apex that is around such a place and not around the host would be new
pub none_below : (path : Path) (k : ℕ) (node m : Node) → descend path node ≡ Some m → nth k (below m) ≡ None → (rest : Path)
    → option_and_then (descend (path ++ k ∷ rest)) (Some node) ≡ None
none_below [] k node m e n rest = let same : node ≡ m = ap (λ o. option_map_or (λ x. x) o m) e in
    ap (λ x. option_and_then (descend rest) (nth k (below x))) same ∙ ap (option_and_then (descend rest)) n
none_below (j ∷ path) k node m e n rest = on_option (λ c e'. none_below path k c m e' n rest) (nth j (below node)) e
  where
    on_option : ((c : Node) → descend path c ≡ Some m → descend (path ++ k ∷ rest) c ≡ None) → (o : Option Node) → option_and_then (descend path) o ≡ Some m
        → option_and_then (descend (path ++ k ∷ rest)) o ≡ None
    on_option more None e' = refl
    on_option more (Some c) e' = more c e'

none_at : (document : Nodes) (path : Path) (k : ℕ) (m : Node) → node_at document path ≡ Some m → nth k (below m) ≡ None → (rest : Path) → node_at document (path ++ k ∷ rest) ≡ None
none_at document [] k m e n rest = absurd (none-some _ e)
none_at document (j ∷ path) k m e n rest = on_option (nth j document) e
  where
    on_option : (o : Option Node) → option_and_then (descend path) o ≡ Some m → option_and_then (descend (path ++ k ∷ rest)) o ≡ None
    on_option None e' = refl
    on_option (Some c) e' = none_below path k c m e' n rest

-- an apex is around the host, or it isn't around the place, or it is the host with the new step and more
around_new : (apex path : Path) (k : ℕ) (rest : Path) → is_within apex path ≡ false → is_within apex (path ++ k ∷ rest) ≡ true
    → (more : Path) × (apex ≡ path ++ k ∷ more)
around_new [] path k rest e f = absurd (not_both e)
around_new (a ∷ apex) [] k rest e f =
    let h = both (a == k) (is_within apex rest) f in (apex, ap (λ i. i ∷ apex) ((unsigned_Decides a k).0 h.0))
around_new (a ∷ apex) (j ∷ path) k rest e f =
    let h = both (a == j) (is_within apex (path ++ k ∷ rest)) f in
    let inner : is_within apex path ≡ false = ap (λ b. b && is_within apex path) (sym h.0) ∙ e in
    let more = around_new apex path k rest inner h.1 in
    (more.0, ap (λ i. i ∷ apex) ((unsigned_Decides a j).0 h.0) ∙ ap (λ p. j ∷ p) more.1)

not_around : (document : Nodes) (apex path : Path) (k : ℕ) (rest : Path) (m : Node) → IsWholeOrElement document apex → node_at document path ≡ Some m
    → nth k (below m) ≡ None → is_within apex path ≡ false → is_within apex (path ++ k ∷ rest) ≡ false
not_around document apex path k rest m w e n f = by_bool (is_within apex (path ++ k ∷ rest)) (λ t. no_apex apex w (around_new apex path k rest f t))
  where
    by_bool : (b : Bool) → (b ≡ true → ⊥) → b ≡ false
    by_bool true h = absurd (h refl)
    by_bool false h = refl

    no_apex : (apex : Path) → IsWholeOrElement document apex → (more : Path) × (apex ≡ path ++ k ∷ more) → ⊥
    no_apex [] w a = not_empty path k a.0 a.1
      where
        not_empty : (path : Path) (k : ℕ) (more : Path) → [] ≡ path ++ k ∷ more → ⊥
        not_empty [] k more e = subst IsNone e tt
          where
            IsNone : Path → Type 0
            IsNone [] = Unit {0}
            IsNone (x ∷ xs) = ⊥
        not_empty (j ∷ path) k more e = subst IsNone e tt
          where
            IsNone : Path → Type 0
            IsNone [] = Unit {0}
            IsNone (x ∷ xs) = ⊥
    no_apex (a ∷ apex) w h = none-some _ (sym (none_at document path k m e n h.0) ∙ ap (node_at document) (sym h.1) ∙ w.1)

-- the law for a set: new places below the host aren't reached
pub new_not_reached : (document : Nodes) (set : NodeSet) (path : Path) (k : ℕ) (rest : Path) (m : Node) → IsWholeOrElement document set.apex → node_at document path ≡ Some m
    → nth k (below m) ≡ None → lies_in set path ≡ false → lies_in set (path ++ k ∷ rest) ≡ false
new_not_reached document set path k rest m w e n f = by_apex (is_within set.apex path) refl
  where
    removed_more : (removed : Option Path) → is_removed removed path ≡ true → is_removed removed (path ++ k ∷ rest) ≡ true
    removed_more None h = absurd (not_both (sym h))
    removed_more (Some top) h = within_more top path (k ∷ rest) h

    not_true : (b : Bool) → not b ≡ false → b ≡ true
    not_true true h = refl
    not_true false h = absurd (not_both h)

    second : (a b : Bool) → b ≡ false → (a && b) ≡ false
    second true b h = h
    second false b h = refl

    by_apex : (b : Bool) → is_within set.apex path ≡ b → lies_in set (path ++ k ∷ rest) ≡ false
    by_apex true t =
        let kept : not (is_removed set.removed path) ≡ false = ap (λ b. b && not (is_removed set.removed path)) (sym t) ∙ f in
        second (is_within set.apex (path ++ k ∷ rest)) _ (ap not (removed_more set.removed (not_true _ kept)))
    by_apex false t = ap (λ b. b && not (is_removed set.removed (path ++ k ∷ rest))) (not_around document set.apex path k rest m w e n t)
