-- The place of an element tells where content is put into it.
use Rattle.std.proofs.Common.{◌≡◌, ℕ, ◌+◌, ◌≤◌, ◌<◌, Bool, true, false, cond, not, ◌&&◌, ◌||◌, List, [], ◌∷◌, ◌++◌, length, reverse, Some, None, refl, sym, ◌∙◌, ap, subst, ◌⊎◌, inl, inr, arith, nat_eq, append_assoc, length-append, codes}
use Rattle.std.proofs.lemmas.Option.{none-some, same_Some}
use Rattle.std.proofs.lemmas.Bool.{true≢false, and_parts, and_from, ne_eqb}
use Rattle.std.proofs.lemmas.List.{append-nil, reverse-append, reverse-reverse}
use Rattle.std.specs.Prelude.{encode_utf8_all}
use Rattle.std.specs.List.{list_all}
use Rattle.document_model.specs.Characters.{in_ranges, is_white, starts_name, continues_name, span, between}
use Rattle.document_model.specs.Names.{Name, name_of, joined_name, is_not_colon, is_plain_name, spelled}
use Rattle.document_model.specs.Items.{Attribute, Item, Piece, declaration, start_tag, empty_tag, end_tag, character, reference, cdata, comment, instruction, EndTagKind, item_of, end_tag_of, piece_at, without_space_behind}
use Rattle.document_model.specs.Tree.{Node, Path, Element, Text, Comment, Instruction, node_at, IsElement, IsElementAt, depth, added_at, tree_after, last_path}
use Rattle.document_model.specs.Scopes.{Tag, with_tag_of, tags_at, elements_around}
use Rattle.document_model.specs.NodeSets.{is_within}
use Rattle.document_model.specs.Documents.{is_in_text, open_elements, run, limits, fault, document_of}
use Rattle.document_model.specs.Places.{Place, depth_of, path_of, extent}
use Rattle.document_model.specs.Insertion.{may_close, with_content, put_inside, pieces_with}
use Rattle.document_model.proofs.Joins.{bind_some}
use Rattle.xml_items.proofs.AsciiTexts.{between_whole}
use Rattle.xml_items.proofs.NameTexts.{cut_text}
use Rattle.doc_spans.specs.Marks.{Follow}
use Rattle.doc_spans.specs.Seen.{name_of_node}
use Rattle.doc_spans.proofs.Named.{head_of, named_begun}
use Rattle.doc_spans.proofs.Outward.{own_tag}
use Rattle.doc_spans.proofs.Run.{run_good}
use Rattle.doc_spans.proofs.Stays.{head, stays}
use Rattle.doc_spans.proofs.Steps.{path_begun}
use Rattle.doc_spans.proofs.Marks.{within_self}
use Rattle.insertions.specs.Content.{texts, items_after, Stand}
use Rattle.insertions.proofs.Standing.{legal_is, texts_join, after_join, stand_second, map_some}
use Rattle.insertions.proofs.Closings.{IsOpen, same_head, no_text}
use Rattle.insertions.proofs.Splice.{pieces_spliced, placed_once, items_onto, follow_before, closes_off}
use Rattle.insertions.proofs.Scope.{tags_at_empty}
use Rattle.insertions.proofs.Runs.{IsDocument, is_document}
use Rattle.insertions.proofs.Quiet.{all_both, all_weaker, all_reversed, all_bytes_pass, in_name, cut_of}
use Rattle.insertions.proofs.Opened.{EmptyTag, empty_tag_is, one_more_char}
use Rattle.insertions.proofs.ReadKinds.{kind_of}
use Rattle.insertions.proofs.Law.{whole_flat, source}
use Rattle.insertions.proofs.Spot.{PlaceAt, closes_in, extent_none}
use Rattle.insertions.specs.Placed.{for_content, placed_in, placed_inside}

-- what a node's tag is, later
head_later : (pieces : List Piece) (before : List Item) (host : Path) (node : Node) → node_at (tree_after before) host ≡ Some node
    → (m : Node) × (node_at (tree_after (items_after pieces before)) host ≡ Some m) × (head m ≡ head node)
head_later [] before host node e = (node, e, refl)
head_later (piece ∷ pieces) before host node e =
    let next = map_some head (node_at (tree_after (piece.item ∷ before)) host) (head node) (stays (depth before) (added_at (depth before) piece.item) (tree_after before) host node e) in
    let later = head_later pieces (piece.item ∷ before) host next.0 next.1 in
    (later.0, later.1, later.2 ∙ next.2)

-- an item that begins an element
IsTag : Item → Type 0
IsTag item = (name : Name) × (attributes : List Attribute) × ((item ≡ start_tag name attributes) ⊎ (item ≡ empty_tag name attributes))

begins_tag : (node : Node) → IsElement node → (item : Item) → Some (head node) ≡ head_of item → IsTag item
unfolding IsTag
begins_tag node h (start_tag name attributes) e = (name, attributes, inl refl)
begins_tag node h (empty_tag name attributes) e = (name, attributes, inr refl)
begins_tag node h declaration e = absurd (none-some (head node) (sym e))
begins_tag node h (end_tag name) e = absurd (none-some (head node) (sym e))
begins_tag node h (character c) e = absurd (no_text node (Text []) e h)
begins_tag node h (reference c) e = absurd (no_text node (Text []) e h)
begins_tag node h (cdata cs) e = absurd (no_text node (Text []) e h)
begins_tag node h (comment cs) e = absurd (no_text node (Comment cs) e h)
begins_tag node h (instruction target content) e = absurd (no_text node (Instruction target content) e h)

-- The text of an end tag.

plain_chars : (cs : List ℕ) → is_plain_name cs ≡ true → list_all in_name cs ≡ true
plain_chars [] h = cc
plain_chars (c ∷ cs) h =
    let both = and_parts (starts_name c) (list_all continues_name cs) h in
    and_from (in_name c) (list_all in_name cs) (first (starts_name c) (nat_eq c 0x3A) both.0) (all_weaker continues_name in_name (λ d k. or_first (continues_name d) (nat_eq d 0x3A) k) cs both.1)
  where
    or_first : (a b : Bool) → a ≡ true → (a || b) ≡ true
    or_first true b k = refl
    or_first false b k = cc

    first : (a : Bool) (b : Bool) → a ≡ true → ((a || in_ranges ((0x2D, 0x2E) ∷ (0x30, 0x39) ∷ (0xB7, 0xB7) ∷ (0x300, 0x36F) ∷ (0x203F, 0x2040) ∷ []) c) || b) ≡ true
    first true b k = refl
    first false b k = cc

ColonFirst : List ℕ → Type 0
ColonFirst behind = (c : ℕ) (rest : List ℕ) → behind ≡ c ∷ rest → c ≡ 0x3A

pub name_chars : (text : List ℕ) (n : Name) → name_of text ≡ Some n → list_all in_name text ≡ true
unfolding ColonFirst
name_chars text n e =
    let cut = cut_text text in
    subst (λ t. list_all in_name t ≡ true) cut.joined (parts (span is_not_colon text).0 (span is_not_colon text).1 cut.colon e)
  where
    parts : (front behind : List ℕ) → ColonFirst behind → joined_name front behind ≡ Some n → list_all in_name (front ++ behind) ≡ true
    parts front [] f e = one (is_plain_name front) refl e
      where
        one : (b : Bool) → is_plain_name front ≡ b → cond b (Some (record { prefix = []; local = front })) None ≡ Some n → list_all in_name (front ++ []) ≡ true
        one true h e = ap (list_all in_name) (append-nil front) ∙ plain_chars front h
        one false h e = absurd (none-some n e)
    parts front (c ∷ behind) f e = two (is_plain_name front && is_plain_name behind) refl e
      where
        two : (b : Bool) → (is_plain_name front && is_plain_name behind) ≡ b → cond b (Some (record { prefix = front; local = behind })) None ≡ Some n → list_all in_name (front ++ (c ∷ behind)) ≡ true
        two true h e =
            let both = and_parts (is_plain_name front) (is_plain_name behind) h in
            all_both in_name front (c ∷ behind) (plain_chars front both.0)
            (and_from (in_name c) (list_all in_name behind) (ap in_name (f c behind refl)) (plain_chars behind both.1))
        two false h e = absurd (none-some n e)

abbrev pub no_less : ℕ → Bool
no_less b = not (nat_eq b 0x3C)

-- an end tag is `<`, and no other behind it
pub record EndText (text : List ℕ) : Type 0 where
  pub rest : List ℕ
  pub is_text : text ≡ 0x3C ∷ rest
  pub none : list_all no_less rest ≡ true

less_by : (test : ℕ → Bool) → test 0x3C ≡ false → (c : ℕ) → test c ≡ true → no_less c ≡ true
less_by test f c h = ap not (ne_eqb c 0x3C (λ e. true≢false (sym h ∙ ap test e ∙ f)))

pub end_text_is : (bytes : List ℕ) (found : Piece × List ℕ) (name : Name) → piece_at bytes ≡ Some found → found.0.item ≡ end_tag name → EndText found.0.text
end_text_is bytes found name e is_end =
    let s = source bytes found e in
    let item : item_of EndTagKind s.cs ≡ Some (end_tag name) = ap (λ i. item_of (kind_of i) s.cs) (sym is_end) ∙ s.item ∙ ap Some is_end in
    let t = bind_some end_tag_of (between (codes "</") (codes ">") s.cs) (end_tag name) item in
    let n = map_some end_tag (name_of (without_space_behind t.0)) (end_tag name) t.2 in
    let whole = between_whole (codes "</") (codes ">") s.cs t.0 t.1 in
    let behind : List ℕ × List ℕ = span is_white (reverse t.0) in
    let cut_white = cut_of is_white (reverse t.0) in
    let inside : t.0 ≡ without_space_behind t.0 ++ reverse behind.0 = sym (reverse-reverse t.0) ∙ ap reverse (sym cut_white.0) ∙ reverse-append behind.0 behind.1 in
    let names : list_all no_less (without_space_behind t.0) ≡ true = all_weaker in_name no_less (less_by in_name refl) (without_space_behind t.0) (name_chars (without_space_behind t.0) n.0 n.1) in
    let whites : list_all no_less (reverse behind.0) ≡ true = all_weaker is_white no_less (less_by is_white refl) (reverse behind.0) (all_reversed is_white behind.0 cut_white.1) in
    let all : list_all no_less t.0 ≡ true = ap (list_all no_less) inside ∙ all_both no_less (without_space_behind t.0) (reverse behind.0) names whites in
    let chars : List ℕ = 0x2F ∷ (t.0 ++ codes ">") in
    record {
      rest = encode_utf8_all chars;
      is_text = s.is_text ∙ ap encode_utf8_all whole ∙ one_more_char 0x3C chars (omega arith);
      none = all_bytes_pass no_less (λ b h. ap not (ne_eqb b 0x3C (λ e. (let l : ⊥ = omega (arith, e, h) in l)))) chars
          (and_from (no_less 0x2F) (list_all no_less (t.0 ++ codes ">")) refl (all_both no_less t.0 (codes ">") all refl));
    }

-- The place of an element.

pub record ElementSpot (bytes : List ℕ) (host : Path) (place : Place) : Type 0 where
  pub front : List Piece
  pub piece : Piece
  pub behind : List Piece
  pub joined : bytes ≡ texts front ++ (piece.text ++ texts behind)
  pub placed : (content : List ℕ) → placed_inside content host bytes ≡ for_content content (length (texts front)) piece.text piece.item
  pub end : place.end ≡ length (texts front) + length piece.text
  pub kind : ((name : Name) × (attributes : List Attribute) × (piece.item ≡ empty_tag name attributes) × (place.first_end ≡ place.end) × EmptyTag piece.text name attributes
      × ((node : Node) → node_at (document_of bytes) host ≡ Some node → name_of_node node ≡ spelled name))
      ⊎ ((place.first_end ≤ length (texts front)) × EndText piece.text × ((name : Name) × (piece.item ≡ end_tag name)))

first_tag : (node : Node) (tag : Tag) (outer others : List Tag) → IsElement node → with_tag_of node outer ≡ tag ∷ others → name_of_node node ≡ spelled tag.name
first_tag (Element name attributes nodes) tag outer others h e = ap (λ tags. spelled (name_first tags)) e
  where
    name_first : List Tag → Name
    name_first [] = name
    name_first (t ∷ ts) = t.name
first_tag (Text cs) tag outer others h e = absurd h
first_tag (Comment cs) tag outer others h e = absurd h
first_tag (Instruction target content) tag outer others h e = absurd h

-- the old document by its pieces
pub record Ready (bytes : List ℕ) : Type 0 where
  pub document : IsDocument bytes (run limits bytes).pieces
  pub follow : Follow (items_after (run limits bytes).pieces [])
  pub flat : depth (items_after (run limits bytes).pieces []) ≡ 0

pub ready : (bytes : List ℕ) → fault bytes ≡ None → Ready bytes
ready bytes none =
    let pieces : List Piece = (run limits bytes).pieces in
    let d = is_document bytes none in
    record {
      document = d;
      follow = subst Follow (items_onto pieces []) (run_good limits (length bytes) [] bytes tt).follow;
      flat = whole_flat (items_after pieces []) d.whole;
    }

-- where the pieces are split at the closing one
pub record SplitAt (bytes : List ℕ) (host : Path) (front : List Piece) (piece : Piece) (behind : List Piece) : Type 0 where
  pub joined : bytes ≡ texts front ++ (piece.text ++ texts behind)
  pub put : (content : List ℕ) → put_inside content host bytes ≡ texts front ++ (with_content content piece.text piece.item ++ texts behind)
  pub placed : (content : List ℕ) → placed_inside content host bytes ≡ for_content content (length (texts front)) piece.text piece.item
  pub read : piece_at (piece.text ++ (texts behind ++ [])) ≡ Some (piece, texts behind ++ [])

pub split_at : (bytes : List ℕ) (host : Path) (front : List Piece) (piece : Piece) (behind : List Piece) → Ready bytes → (run limits bytes).pieces ≡ front ++ (piece ∷ behind) → may_close piece.item ≡ true
    → path_of (items_after front []) piece.item ≡ host → SplitAt bytes host front piece behind
split_at bytes host front piece behind r parts may at =
    let pieces : List Piece = (run limits bytes).pieces in
    let stand : Stand [] (front ++ (piece ∷ behind)) [] = subst (λ p. Stand [] p []) parts r.document.stand in
    let here = stand_second [] front (piece ∷ behind) [] stand in
    let follow : Follow (items_after (front ++ (piece ∷ behind)) []) = subst (λ p. Follow (items_after p [])) parts r.follow in
    record {
      joined = sym r.document.spelled ∙ ap texts parts ∙ texts_join front (piece ∷ behind);
      put = λ content. (λ i. pieces_with content host [] (parts i) ++ r.document.none_left i) ∙ append-nil (pieces_with content host [] (front ++ (piece ∷ behind)))
          ∙ pieces_spliced content host [] front piece behind follow may at;
      placed = λ content. (λ i. placed_in content host 0 [] (parts i)) ∙ placed_once content host 0 [] front piece behind follow may at
          ∙ ap (λ k. for_content content k piece.text piece.item) (let z : 0 + length (texts front) ≡ length (texts front) = omega arith in z);
      read = (legal_is (items_after front []) (piece.text ++ (texts behind ++ [])) (piece, texts behind ++ []) here.0).piece;
    }

pub spot_of : (bytes : List ℕ) (place : Place) → Ready bytes → IsElementAt (document_of bytes) place.path → PlaceAt [] 0 (run limits bytes).pieces place → ElementSpot bytes place.path place
unfolding IsTag
spot_of bytes place r e p = by_tag tag
  where
    pieces : List Piece
    pieces = (run limits bytes).pieces

    before : List Item
    before = items_after p.early []

    host : Path
    host = place.path

    path : host ≡ path_of before p.piece.item
    path = ap (λ q. q.path) p.is_place

    split : items_after pieces [] ≡ items_after p.late (p.piece.item ∷ before)
    split = ap (λ q. items_after q []) p.parts ∙ after_join p.early (p.piece ∷ p.late) []

    follow : Follow (items_after p.late (p.piece.item ∷ before))
    follow = subst Follow split r.follow

    here : Follow (p.piece.item ∷ before)
    here = follow_before p.late (p.piece.item ∷ before) follow

    tree : document_of bytes ≡ tree_after (items_after p.late (p.piece.item ∷ before))
    tree = r.document.tree ∙ ap tree_after split

    -- the node that the item begins
    node_here : (node : Node) × (node_at (tree_after (p.piece.item ∷ before)) host ≡ Some node) × (Some (head node) ≡ head_of p.piece.item)
    node_here = let named = named_begun before p.piece.item here.1 p.begins in
        (named.0, ap (node_at (tree_after (p.piece.item ∷ before))) (path ∙ path_begun before p.piece.item here.1 p.begins) ∙ named.1, named.2)

    is_element : IsElement node_here.0
    is_element =
        let later = head_later p.late (p.piece.item ∷ before) host node_here.0 node_here.1 in
        let same : later.0 ≡ e.0 = same_Some later.0 e.0 (sym later.1 ∙ ap (λ t. node_at t host) (sym tree) ∙ e.1) in
        same_head e.0 node_here.0 (ap head (sym same) ∙ later.2) e.2

    tag : IsTag p.piece.item
    tag = begins_tag node_here.0 is_element p.piece.item node_here.2

    start : ℕ
    start = 0 + length (texts p.early)

    inner : ℕ
    inner = extent host (p.piece.item ∷ before) p.late

    own : is_within host (path_of before p.piece.item) ≡ true
    own = ap (λ q. is_within host q) (sym path) ∙ within_self host

    counted : place.end ≡ start + (length p.piece.text + inner)
    counted = ap (λ q. q.end) p.is_place ∙ ap (λ q. start + extent q before (p.piece ∷ p.late)) (sym path) ∙ ap (λ b. start + cond b (length p.piece.text + inner) 0) own

    first : place.first_end ≡ start + length p.piece.text
    first = ap (λ q. q.first_end) p.is_place

    empty : (name : Name) (attributes : List Attribute) → p.piece.item ≡ empty_tag name attributes → ElementSpot bytes host place
    empty name attributes is_empty_tag =
        let may : may_close p.piece.item ≡ true = ap may_close is_empty_tag in
        let s = split_at bytes host p.early p.piece p.late r p.parts may (sym path) in
        let off = closes_off host p.piece.item before here.0 here.1 may (sym path) in
        let none : inner ≡ 0 = extent_none host (p.piece.item ∷ before) p.late follow off (node_here.0, node_here.1, is_element) (ap (λ i. is_in_text (i ∷ before)) is_empty_tag) in
        record {
          front = p.early;
          piece = p.piece;
          behind = p.late;
          joined = s.joined;
          placed = s.placed;
          end = omega (arith, counted, none);
          kind = inl (
            name,
            attributes,
            is_empty_tag,
            (let e : place.first_end ≡ place.end = omega (arith, counted, none, first) in e),
            empty_tag_is (p.piece.text ++ (texts p.late ++ [])) (p.piece, texts p.late ++ []) name attributes s.read is_empty_tag,
            (λ node n. first_tag node (record { name = name; attributes = attributes }) (elements_around (document_of bytes) host) (open_elements before)
                (subst IsElement (same_Some e.0 node (sym e.1 ∙ n)) e.2)
                (sym (own_tag (document_of bytes) host node n) ∙ ap (λ t. tags_at t host) tree ∙ tags_at_empty p.early p.late p.piece.item name attributes host is_empty_tag here.1 (sym path))),
          );
        }

    opened : (name : Name) (attributes : List Attribute) → p.piece.item ≡ start_tag name attributes → ElementSpot bytes host place
    opened name attributes is_start_tag =
        let o : IsOpen host (p.piece.item ∷ before) = record {
          level = depth before;
          inside = subst (λ i. depth before < depth (i ∷ before)) (sym is_start_tag) (omega arith);
          at = path ∙ ap (λ n. last_path n (tree_after (p.piece.item ∷ before))) (ap (depth_of before) is_start_tag);
        } in
        let c = closes_in host (p.piece.item ∷ before) p.late o follow (ap depth (sym split) ∙ r.flat) in
        let front : List Piece = p.early ++ (p.piece ∷ c.middle) in
        let parts : pieces ≡ front ++ (c.piece ∷ c.behind) =
        p.parts ∙ ap (λ q. p.early ++ (p.piece ∷ q)) c.parts ∙ sym (append_assoc p.early (p.piece ∷ c.middle) (c.piece ∷ c.behind)) in
        let items : items_after front [] ≡ items_after c.middle (p.piece.item ∷ before) = after_join p.early (p.piece ∷ c.middle) [] in
        let s = split_at bytes host front c.piece c.behind r parts (ap may_close c.is_end) (ap (λ b. path_of b c.piece.item) items ∙ c.at) in
        let w : inner ≡ length (texts c.middle) + length c.piece.text = c.whole in
        let size : length (texts front) ≡ length (texts p.early) + (length p.piece.text + length (texts c.middle)) =
        ap length (texts_join p.early (p.piece ∷ c.middle)) ∙ length-append (texts p.early) (p.piece.text ++ texts c.middle)
        ∙ ap (λ n. length (texts p.early) + n) (length-append p.piece.text (texts c.middle)) in
        record {
          front = front;
          piece = c.piece;
          behind = c.behind;
          joined = s.joined;
          placed = s.placed;
          end = omega (arith, counted, w, size);
          kind = inr (
            (let l : place.first_end ≤ length (texts front) = omega (arith, first, size) in l),
            end_text_is (c.piece.text ++ (texts c.behind ++ [])) (c.piece, texts c.behind ++ []) c.name s.read c.is_end,
            (c.name, c.is_end),
          );
        }

    by_tag : IsTag p.piece.item → ElementSpot bytes host place
    by_tag t = elim t.2 [ inl e ↦ opened t.0 t.1 e | inr e ↦ empty t.0 t.1 e ]
