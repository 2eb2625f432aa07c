-- Elements in document order: of several places behind each other the first stands for all.
use Rattle.std.proofs.Common.{◌≡◌, ℕ, suc, ◌<◌, Bool, true, false, cond, List, [], ◌∷◌, ◌++◌, Option, Some, None, refl, sym, ◌∙◌, ap, subst, arith}
use Rattle.std.proofs.lemmas.List.{append-nil}
use Rattle.std.specs.Prelude.{filter}
use Rattle.document_model.specs.Canonical.{is_before}
use Rattle.document_model.specs.Names.{Expanded}
use Rattle.document_model.specs.Scopes.{Tag}
use Rattle.document_model.specs.Tree.{Nodes, Path, Element, Text, Comment, Instruction, no_nodes, ◌⨾◌}
use Rattle.document_model.proofs.ListOrder.{before_less, before_one_way, before_same, not_before_on}
use Rattle.signature_model.specs.Faults.{with_place, with_places}
use Rattle.signature_model.proofs.FirstFaults.{later_place}
use Rattle.signature_model.specs.Spots.{Spot, elements_from, elements_in, called, called_in, first, held_at, is_called, paths}
use Rattle.signature_parts.proofs.AnyOrder.{Alike}

-- no element of a list stands before a place
abbrev pub NoneBefore : Path → List Spot → Type 0
NoneBefore place [] = Unit {0}
NoneBefore place (spot ∷ spots) = (is_before spot.path place ≡ false) × NoneBefore place spots

abbrev pub Ordered : List Spot → Type 0
Ordered [] = Unit {0}
Ordered (spot ∷ spots) = NoneBefore spot.path spots × Ordered spots

-- One place stands for those behind it.

behind_kept : (q p : Path) (kept : Option Path) → is_before q p ≡ false → with_place q (with_place p kept) ≡ with_place p kept
behind_kept q p None e = later_place q p e
behind_kept q p (Some x) e = by (is_before p x) refl
  where
    by : (b : Bool) → is_before p x ≡ b → with_place q (cond b (Some p) (Some x)) ≡ cond b (Some p) (Some x)
    by true f = later_place q p e
    by false f = later_place q x (not_before_on q p x e f)

all_behind : (p : Path) (spots : List Spot) (kept : Option Path) → NoneBefore p spots → with_places (paths spots) (with_place p kept) ≡ with_place p kept
all_behind p [] kept h = refl
all_behind p (spot ∷ spots) kept h = ap (with_places (paths spots)) (behind_kept spot.path p kept h.0) ∙ all_behind p spots kept h.1

pub one_for_all : (spot : Spot) (spots : List Spot) → NoneBefore spot.path spots → Alike (spot.path ∷ []) (paths (spot ∷ spots))
one_for_all spot spots h = record { same = λ kept. sym (all_behind spot.path spots kept h) }

-- Elements that an element holds.

not_earlier : (path : Path) (j k : ℕ) → j < k → is_before (path ++ k ∷ []) (path ++ j ∷ []) ≡ false
not_earlier path j k h = before_one_way (path ++ j ∷ []) (path ++ k ∷ []) (earlier path)
  where
    earlier : (p : Path) → is_before (p ++ j ∷ []) (p ++ k ∷ []) ≡ true
    earlier [] = before_less j k [] [] h
    earlier (c ∷ p) = before_same c c (p ++ j ∷ []) (p ++ k ∷ []) refl ∙ earlier p

none_earlier : (path : Path) (outer : List Tag) (j k : ℕ) (nodes : Nodes) → j < k → NoneBefore (path ++ j ∷ []) (elements_from path outer k nodes)
none_earlier path outer j k no_nodes h = tt
none_earlier path outer j k (Element name attributes inner ⨾ nodes) h = (not_earlier path j k h, none_earlier path outer j (suc k) nodes (omega arith))
none_earlier path outer j k (Text cs ⨾ nodes) h = none_earlier path outer j (suc k) nodes (omega arith)
none_earlier path outer j k (Comment cs ⨾ nodes) h = none_earlier path outer j (suc k) nodes (omega arith)
none_earlier path outer j k (Instruction target content ⨾ nodes) h = none_earlier path outer j (suc k) nodes (omega arith)

in_order : (path : Path) (outer : List Tag) (k : ℕ) (nodes : Nodes) → Ordered (elements_from path outer k nodes)
in_order path outer k no_nodes = tt
in_order path outer k (Element name attributes inner ⨾ nodes) = (none_earlier path outer k (suc k) nodes (omega arith), in_order path outer (suc k) nodes)
in_order path outer k (Text cs ⨾ nodes) = in_order path outer (suc k) nodes
in_order path outer k (Comment cs ⨾ nodes) = in_order path outer (suc k) nodes
in_order path outer k (Instruction target content ⨾ nodes) = in_order path outer (suc k) nodes

-- Those of them that pass a test.

none_kept : (test : Spot → Bool) (place : Path) (spots : List Spot) → NoneBefore place spots → NoneBefore place (filter test spots)
none_kept test place [] h = tt
none_kept test place (spot ∷ spots) h = by (test spot) (none_kept test place spots h.1)
  where
    by : (b : Bool) → NoneBefore place (filter test spots) → NoneBefore place (cond b (spot ∷ filter test spots) (filter test spots))
    by true k = (h.0, k)
    by false k = k

pub order_kept : (test : Spot → Bool) (spots : List Spot) → Ordered spots → Ordered (filter test spots)
order_kept test [] h = tt
order_kept test (spot ∷ spots) h = by (test spot) (order_kept test spots h.1)
  where
    by : (b : Bool) → Ordered (filter test spots) → Ordered (cond b (spot ∷ filter test spots) (filter test spots))
    by true k = (none_kept test spot.path spots h.0, k)
    by false k = k

-- the elements with a name in one element, or in none
pub order_called : (document : Nodes) (name : Expanded) (holders : List Spot) → Ordered (called_in document name (first holders))
order_called document name [] = tt
order_called document name (holder ∷ holders) =
    subst Ordered (sym (append-nil (called document name holder)))
    (order_kept (is_called name) (elements_in document holder) (in_order holder.path holder.tags 0 (held_at document holder.path)))
