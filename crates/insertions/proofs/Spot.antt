-- Where an element is closed in the bytes.
use Rattle.std.proofs.Common.{◌≡◌, ℕ, zero, suc, pred, ◌+◌, ◌≤◌, ◌<◌, Bool, true, false, cond, not, ◌&&◌, ◌||◌, List, [], ◌∷◌, ◌++◌, length, Option, Some, None, refl, sym, ◌∙◌, ap, subst, inl, inr, arith, nat_eq, length-append}
use Rattle.std.proofs.lemmas.Option.{none-some}
use Rattle.std.proofs.lemmas.Bool.{and_parts, eqb-true, eqb-false, eq-eqb}
use Rattle.std.proofs.Math.Dec.{eqb-suc-zero}
use Rattle.std.specs.Option.{option_map_or}
use Rattle.document_model.specs.Names.{Name}
use Rattle.document_model.specs.Items.{Item, Piece, declaration, start_tag, empty_tag, end_tag, character, reference, cdata, comment, instruction}
use Rattle.document_model.specs.Tree.{Node, Nodes, Path, node_at, below, IsElementAt, depth, added_at, tree_after, last_of, last_path, count}
use Rattle.document_model.specs.Documents.{is_in_text}
use Rattle.document_model.specs.NodeSets.{is_within}
use Rattle.document_model.specs.Places.{Place, depth_of, path_of, begins_node, extent, place_of, places_from}
use Rattle.document_model.specs.Insertion.{may_close}
use Rattle.document_model.proofs.Grown.{Spine, spine_stays, spine_less}
use Rattle.document_model.proofs.Put.{Off, off_less, off_stays, closing}
use Rattle.doc_spans.specs.View.{Each}
use Rattle.doc_spans.proofs.Each.{each_weaker}
use Rattle.doc_spans.specs.Marks.{Fits, Follow, open_path}
use Rattle.doc_spans.proofs.Steps.{spine, child_count, path_begun}
use Rattle.doc_spans.proofs.Spine.{none_behind}
use Rattle.insertions.proofs.Scope.{innermost_is}
use Rattle.insertions.specs.Content.{texts, items_after}
use Rattle.insertions.proofs.Closings.{IsOpen, still_open, level_kept, innermost, end_path}
use Rattle.insertions.proofs.Splice.{off_open, closes_off, follow_before}

-- Prefixes of the path of the last nodes.

abbrev below_path : ℕ → Option Node → Path
below_path d o = option_map_or (λ node. last_path d (below node)) o []

within_level : (j m : ℕ) → j ≤ m → (nodes : Nodes) → is_within (last_path j nodes) (last_path m nodes) ≡ true
within_level zero m h nodes = refl
within_level (suc j) zero h nodes = absurd (omega (arith, h))
within_level (suc j) (suc m) h nodes =
    (λ i. eq-eqb (pred (count nodes)) (pred (count nodes)) refl i && go (λ node. within_level j m (omega (arith, h)) (below node)) (last_of nodes) i)
  where
    go : ((node : Node) → is_within (last_path j (below node)) (last_path m (below node)) ≡ true) → (o : Option Node) → is_within (below_path j o) (below_path m o) ≡ true
    go f None = refl
    go f (Some node) = f node

-- a path that one of them is within is one of them
level_within : (m : ℕ) (nodes : Nodes) (host : Path) → is_within host (last_path m nodes) ≡ true → (j : ℕ) × (j ≤ m) × (host ≡ last_path j nodes)
level_within m nodes [] e = (0, omega arith, refl)
level_within zero nodes (k ∷ host) e = cc
level_within (suc m) nodes (k ∷ host) e =
    let both = and_parts (nat_eq k (pred (count nodes))) (is_within host (below_path m (last_of nodes))) e in
    let first : k ≡ pred (count nodes) = eqb-true k (pred (count nodes)) both.0 in
    let rest = go (λ node. level_within m (below node) host) (last_of nodes) both.1 in
    (suc rest.0, omega (arith, rest.1), (λ i. first i ∷ rest.2 i))
  where
    none : (host : Path) → is_within host [] ≡ true → host ≡ []
    none [] e = refl
    none (k ∷ host) e = cc

    go : ((node : Node) → is_within host (last_path m (below node)) ≡ true → (j : ℕ) × (j ≤ m) × (host ≡ last_path j (below node))) → (o : Option Node) → is_within host (below_path m o) ≡ true
        → (j : ℕ) × (j ≤ m) × (host ≡ below_path j o)
    go f None e = (0, omega arith, none host e)
    go f (Some node) e = f node e

-- While an element is open, each item is part of it.

deep_of : (before : List Item) (item : Item) → 0 < depth before → Fits before item → depth before ≤ depth_of before item
deep_of before declaration h f = omega (arith, h, f)
deep_of before (start_tag name attributes) h f = omega arith
deep_of before (empty_tag name attributes) h f = omega arith
deep_of before (end_tag name) h f = omega arith
deep_of before (character c) h f = flat (depth before) h
  where
    flat : (d : ℕ) → 0 < d → d ≤ cond (nat_eq d 0) 0 (suc d)
    flat zero h = absurd (omega (arith, h))
    flat (suc d) h = subst (λ b. suc d ≤ cond b 0 (suc (suc d))) (sym (eqb-suc-zero d)) (omega arith)
deep_of before (reference c) h f = omega arith
deep_of before (cdata []) h f = either (is_in_text before)
  where
    either : (b : Bool) → depth before ≤ cond b (suc (depth before)) (depth before)
    either true = omega arith
    either false = omega arith
deep_of before (cdata (c ∷ cs)) h f = omega arith
deep_of before (comment cs) h f = omega arith
deep_of before (instruction target content) h f = omega arith

while_open : (host : Path) (before : List Item) (item : Item) → Follow before → Fits before item → IsOpen host before → is_within host (path_of before item) ≡ true
while_open host before item h f o =
    let lt : o.level < depth before = o.inside in
    let inner : 0 < depth before = omega arith in
    let same : host ≡ last_path (suc o.level) (tree_after (item ∷ before)) =
    o.at ∙ sym (level_kept (suc o.level) (depth before) (omega arith) (added_at (depth before) item) (tree_after before) (spine before h)) in
    let m = deep_of before item inner f in
    ap (λ p. is_within p (path_of before item)) same ∙ within_level (suc o.level) (depth_of before item) (omega (arith, m, lt)) (tree_after (item ∷ before))

-- Behind the item that closes it, no item is.

off_none : (j d : ℕ) → j ≤ d → (host : Path) (nodes : Nodes) → Spine d nodes → Off host d nodes → host ≡ last_path j nodes → ⊥
off_none j zero h host nodes s o e =
    let none : j ≡ 0 = omega (arith, h) in
    off_open 0 nodes tt (subst (λ p. Off p 0 nodes) (e ∙ ap (λ k. last_path k nodes) none) o)
off_none j (suc d) h host nodes s o e =
    either (λ l. off_none j d l host nodes (spine_less d nodes s) (off_less d host nodes o) e) (nat_eq j (suc d)) refl
  where
    either : (j ≤ d → ⊥) → (b : Bool) → nat_eq j (suc d) ≡ b → ⊥
    either f true t = off_open (suc d) nodes s (subst (λ p. Off p (suc d) nodes) (e ∙ ap (λ k. last_path k nodes) (eqb-true j (suc d) t)) o)
    either f false t = let other = eqb-false j (suc d) t in f (omega (arith, h, other))

-- an item whose path is no deeper than the open elements
none_deeper : (host : Path) (before : List Item) (item : Item) → Follow before → Off host (depth before) (tree_after before) → depth_of before item ≤ depth before
    → is_within host (path_of before item) ≡ true → ⊥
none_deeper host before item h o l e =
    let x : Nodes = added_at (depth before) item in
    let level = level_within (depth_of before item) (tree_after (item ∷ before)) host e in
    let lt : level.0 ≤ depth_of before item = level.1 in
    off_none level.0 (depth before) (omega (arith, lt, l)) host (tree_after (item ∷ before)) (spine_stays (depth before) x (tree_after before) (spine before h))
    (off_stays (depth before) host x (tree_after before) o) level.2

-- an item that begins a node
none_begun : (host : Path) (before : List Item) (item : Item) → Follow before → Off host (depth before) (tree_after before) → IsElementAt (tree_after before) host → begins_node before item ≡ true
    → depth_of before item ≡ suc (depth before) → is_within host (path_of before item) ≡ true → ⊥
none_begun host before item h o e b deep is_in =
    let x : Nodes = added_at (depth before) item in
    let level = level_within (depth_of before item) (tree_after (item ∷ before)) host is_in in
    let lt : level.0 ≤ depth_of before item = level.1 in
    either level.0 (omega (arith, lt, deep)) level.2 (nat_eq level.0 (suc (depth before))) refl
  where
    either : (j : ℕ) → j ≤ suc (depth before) → host ≡ last_path j (tree_after (item ∷ before)) → (t : Bool) → nat_eq j (suc (depth before)) ≡ t → ⊥
    either j l at true t =
        let same : host ≡ open_path before ++ child_count before ∷ [] =
        at ∙ ap (λ k. last_path k (tree_after (item ∷ before))) (eqb-true j (suc (depth before)) t ∙ sym deep) ∙ path_begun before item h b in
        none-some e.0 (sym (none_behind (depth before) (tree_after before) (spine before h)) ∙ ap (node_at (tree_after before)) (sym same) ∙ e.1)
    either j l at false t =
        let other = eqb-false j (suc (depth before)) t in
        off_none j (depth before) (omega (arith, l, other)) host (tree_after (item ∷ before))
        (spine_stays (depth before) (added_at (depth before) item) (tree_after before) (spine before h))
        (off_stays (depth before) host (added_at (depth before) item) (tree_after before) o) at

-- right behind a tag no text goes on
not_true : (b : Bool) → (b ≡ true → ⊥) → b ≡ false
not_true true f = absurd (f refl)
not_true false f = refl

not_after : (host : Path) (before : List Item) (item : Item) → Follow before → Fits before item → Off host (depth before) (tree_after before) → IsElementAt (tree_after before) host
    → is_in_text before ≡ false → is_within host (path_of before item) ≡ false
not_after host before item h f o e t = not_true (is_within host (path_of before item)) (by_item item f)
  where
    begins_text : (d : ℕ) → 0 < d → not (nat_eq d 0 || is_in_text before) ≡ true
    begins_text zero l = absurd (omega (arith, l))
    begins_text (suc d) l = (λ i. not (eqb-suc-zero d i || t i))

    by_item : (item : Item) → Fits before item → is_within host (path_of before item) ≡ true → ⊥
    by_item declaration f = none_deeper host before declaration h o (omega arith)
    by_item (start_tag name attributes) f = none_begun host before (start_tag name attributes) h o e refl refl
    by_item (empty_tag name attributes) f = none_begun host before (empty_tag name attributes) h o e refl refl
    by_item (end_tag name) f = none_deeper host before (end_tag name) h o (omega arith)
    by_item (character c) f = by_depth (depth before) refl
      where
        by_depth : (d : ℕ) → depth before ≡ d → is_within host (path_of before (character c)) ≡ true → ⊥
        by_depth zero is_flat = none_deeper host before (character c) h o
            (subst (λ n. cond (nat_eq n 0) 0 (suc n) ≤ n) (sym is_flat) (omega arith))
        by_depth (suc d) is_deep =
            let inner : 0 < depth before = omega (arith, is_deep) in
            none_begun host before (character c) h o e (begins_text (depth before) inner)
            (subst (λ n. cond (nat_eq n 0) 0 (suc n) ≡ suc n) (sym is_deep) (ap (λ b. cond b 0 (suc (suc d))) (eqb-suc-zero d)))
    by_item (reference c) f = none_begun host before (reference c) h o e (begins_text (depth before) f) refl
    by_item (cdata []) f = none_deeper host before (cdata []) h o (subst (λ b. cond b (suc (depth before)) (depth before) ≤ depth before) (sym t) (omega arith))
    by_item (cdata (c ∷ cs)) f = none_begun host before (cdata (c ∷ cs)) h o e (begins_text (depth before) f) refl
    by_item (comment cs) f = none_begun host before (comment cs) h o e refl refl
    by_item (instruction target content) f = none_begun host before (instruction target content) h o e refl refl

-- nothing behind is part of it
pub extent_none : (host : Path) (before : List Item) (pieces : List Piece) → Follow (items_after pieces before) → Off host (depth before) (tree_after before) → IsElementAt (tree_after before) host
    → is_in_text before ≡ false → extent host before pieces ≡ 0
extent_none host before [] h o e t = refl
extent_none host before (piece ∷ pieces) h o e t =
    let f = follow_before pieces (piece.item ∷ before) h in
    ap (λ b. cond b (length piece.text + extent host (piece.item ∷ before) pieces) 0) (not_after host before piece.item f.1 f.0 o e t)

-- From the start tag to the end tag.
pub record ClosesIn (host : Path) (before : List Item) (pieces : List Piece) : Type 0 where
  pub middle : List Piece
  pub piece : Piece
  pub behind : List Piece
  pub name : Name
  pub parts : pieces ≡ middle ++ (piece ∷ behind)
  pub is_end : piece.item ≡ end_tag name
  pub at : path_of (items_after middle before) piece.item ≡ host
  pub whole : extent host before pieces ≡ length (texts middle) + length piece.text

next_closes : (host : Path) (before : List Item) (piece : Piece) (pieces : List Piece) → (o : IsOpen host before) → Follow (items_after pieces (piece.item ∷ before))
    → (IsOpen host (piece.item ∷ before) → ClosesIn host (piece.item ∷ before) pieces) → ClosesIn host before (piece ∷ pieces)
next_closes host before piece pieces o h rec = by_item piece.item refl
  where
    f : Follow (piece.item ∷ before)
    f = follow_before pieces (piece.item ∷ before) h

    within : is_within host (path_of before piece.item) ≡ true
    within = while_open host before piece.item f.1 f.0 o

    counts : extent host before (piece ∷ pieces) ≡ length piece.text + extent host (piece.item ∷ before) pieces
    counts = ap (λ b. cond b (length piece.text + extent host (piece.item ∷ before) pieces) 0) within

    goes_on : o.level < depth (piece.item ∷ before) → ClosesIn host before (piece ∷ pieces)
    goes_on l = let c = rec (still_open host piece.item before f.1 o l) in record {
      middle = piece ∷ c.middle;
      piece = c.piece;
      behind = c.behind;
      name = c.name;
      parts = ap (λ ps. piece ∷ ps) c.parts;
      is_end = c.is_end;
      at = c.at;
      whole = let e = c.whole in let m = length-append piece.text (texts c.middle) in
          counts ∙ ap (λ n. length piece.text + n) e ∙ sum (length piece.text) (length (texts c.middle)) (length c.piece.text) (length (piece.text ++ texts c.middle)) m;
    }
      where
        sum : (a b c d : ℕ) → d ≡ a + b → a + (b + c) ≡ d + c
        sum a b c d e = omega arith

    ends : (name : Name) → piece.item ≡ end_tag name → suc o.level ≡ depth before → ClosesIn host before (piece ∷ pieces)
    ends name e last =
        let here : host ≡ last_path (depth before) (tree_after before) = o.at ∙ ap (λ n. last_path n (tree_after before)) last in
        let at : path_of before piece.item ≡ host = ap (path_of before) e ∙ end_path before name ∙ sym here in
        let off = closes_off host piece.item before f.0 f.1 (ap may_close e) at in
        let lt : o.level < depth before = o.inside in
        let is_element : IsElementAt (tree_after before) host = subst (IsElementAt (tree_after before)) (sym here) (innermost_is before f.1 (omega arith)) in
        let tree : tree_after (piece.item ∷ before) ≡ tree_after before = ap (λ i. tree_after (i ∷ before)) e ∙ closing name before in
        let none = extent_none host (piece.item ∷ before) pieces h off (subst (λ t. IsElementAt t host) (sym tree) is_element) (ap (λ i. is_in_text (i ∷ before)) e) in
        record {
          middle = [];
          piece = piece;
          behind = pieces;
          name = name;
          parts = refl;
          is_end = e;
          at = at;
          whole = counts ∙ ap (λ n. length piece.text + n) none ∙ sum (length piece.text);
        }
      where
        sum : (a : ℕ) → a + 0 ≡ 0 + a
        sum a = omega arith

    by_item : (item : Item) → piece.item ≡ item → ClosesIn host before (piece ∷ pieces)
    by_item (end_tag name) e = elim (innermost o.level (depth before) o.inside) [
      | inl last ↦ ends name e last
      | inr l ↦ goes_on (subst (λ i. o.level < depth (i ∷ before)) (sym e) l)
    ]
    by_item (start_tag name attributes) e = goes_on (subst (λ i. o.level < depth (i ∷ before)) (sym e) (let l : o.level < depth before = o.inside in omega (arith, l)))
    by_item declaration e = goes_on (subst (λ i. o.level < depth (i ∷ before)) (sym e) o.inside)
    by_item (empty_tag name attributes) e = goes_on (subst (λ i. o.level < depth (i ∷ before)) (sym e) o.inside)
    by_item (character c) e = goes_on (subst (λ i. o.level < depth (i ∷ before)) (sym e) o.inside)
    by_item (reference c) e = goes_on (subst (λ i. o.level < depth (i ∷ before)) (sym e) o.inside)
    by_item (cdata cs) e = goes_on (subst (λ i. o.level < depth (i ∷ before)) (sym e) o.inside)
    by_item (comment cs) e = goes_on (subst (λ i. o.level < depth (i ∷ before)) (sym e) o.inside)
    by_item (instruction target content) e = goes_on (subst (λ i. o.level < depth (i ∷ before)) (sym e) o.inside)

pub closes_in : (host : Path) (before : List Item) (pieces : List Piece) → IsOpen host before → Follow (items_after pieces before) → depth (items_after pieces before) ≡ 0 → ClosesIn host before pieces
closes_in host before [] o h flat = absurd (let lt : o.level < depth before = o.inside in omega (arith, lt, flat))
closes_in host before (piece ∷ pieces) o h flat = next_closes host before piece pieces o h (λ p. closes_in host (piece.item ∷ before) pieces p h flat)

-- The place of an element.

-- the pieces at a place
pub record PlaceAt (before : List Item) (at : ℕ) (pieces : List Piece) (place : Place) : Type 0 where
  pub early : List Piece
  pub piece : Piece
  pub late : List Piece
  pub parts : pieces ≡ early ++ (piece ∷ late)
  pub begins : begins_node (items_after early before) piece.item ≡ true
  pub is_place : place ≡ place_of (items_after early before) (at + length (texts early)) piece late

later_place : (before : List Item) (at : ℕ) (piece : Piece) (pieces : List Piece) (place : Place) → PlaceAt (piece.item ∷ before) (at + length piece.text) pieces place → PlaceAt before at (piece ∷ pieces) place
later_place before at piece pieces place p = record {
  early = piece ∷ p.early;
  piece = p.piece;
  late = p.late;
  parts = ap (λ ps. piece ∷ ps) p.parts;
  begins = p.begins;
  is_place = p.is_place ∙ ap (λ n. place_of (items_after p.early (piece.item ∷ before)) n p.piece p.late)
      (sum at (length piece.text) (length (texts p.early)) (length (piece.text ++ texts p.early)) (length-append piece.text (texts p.early)));
}
  where
    sum : (a b c d : ℕ) → d ≡ b + c → a + b + c ≡ a + d
    sum a b c d e = omega arith

pub places_stand : (before : List Item) (at : ℕ) (pieces : List Piece) → Each (PlaceAt before at pieces) (places_from before at pieces)
places_stand before at [] = tt
places_stand before at (piece ∷ pieces) =
    either (each_weaker (PlaceAt (piece.item ∷ before) (at + length piece.text) pieces) (PlaceAt before at (piece ∷ pieces)) (later_place before at piece pieces)
    (places_from (piece.item ∷ before) (at + length piece.text) pieces) (places_stand (piece.item ∷ before) (at + length piece.text) pieces)) (begins_node before piece.item) refl
  where
    rest : List Place
    rest = places_from (piece.item ∷ before) (at + length piece.text) pieces

    plus_none : (n : ℕ) → n ≡ n + 0
    plus_none n = omega arith

    either : Each (PlaceAt before at (piece ∷ pieces)) rest → (b : Bool) → begins_node before piece.item ≡ b
        → Each (PlaceAt before at (piece ∷ pieces)) (cond (begins_node before piece.item) (place_of before at piece pieces ∷ rest) rest)
    either old true e = subst (λ b. Each (PlaceAt before at (piece ∷ pieces)) (cond b (place_of before at piece pieces ∷ rest) rest)) (sym e)
        (record { early = []; piece = piece; late = pieces; parts = refl; begins = e; is_place = ap (λ n. place_of before n piece pieces) (plus_none at) }, old)
    either old false e = subst (λ b. Each (PlaceAt before at (piece ∷ pieces)) (cond b (place_of before at piece pieces ∷ rest) rest)) (sym e) old
