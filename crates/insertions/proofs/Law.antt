-- Content that is put into an element is spelled by the new bytes.
use Rattle.std.proofs.Common.{◌≡◌, ℕ, zero, suc, ◌<◌, ◌≤◌, Bool, true, false, cond, not, ◌&&◌, ◌||◌, List, [], ◌∷◌, ◌++◌, length, drop, Option, Some, None, refl, sym, ◌∙◌, ap, subst, inl, inr, arith, nat_eq, append_assoc, codes}
use Rattle.std.proofs.lemmas.Option.{none-some}
use Rattle.std.proofs.lemmas.Bool.{true≢false, false≢true, ne_eqb, eq-eqb, and_parts}
use Rattle.std.proofs.lemmas.List.{append-nil}
use Rattle.std.specs.Prelude.{encode_utf8_all}
use Rattle.document_model.specs.Characters.{begins_with, is_empty, between}
use Rattle.document_model.specs.Names.{Name}
use Rattle.document_model.specs.Items.{Attribute, Item, Piece, declaration, start_tag, empty_tag, end_tag, character, reference, cdata, comment, instruction, Kind, EndTagKind, kind_at, cut, item_of, character_of, end_tag_of, piece_at, when}
use Rattle.document_model.specs.Tree.{Nodes, Path, IsElementAt, put_last, depth, tree_after, content_after, last_path}
use Rattle.document_model.specs.Scopes.{Tag, tags_at}
use Rattle.document_model.specs.Documents.{open_elements, has_element, closes, may_follow, is_whole, is_too_deep, has_too_many, nodes_of, limits, run, fault, document_of}
use Rattle.document_model.specs.Places.{path_of}
use Rattle.document_model.specs.Insertion.{StandInside, may_close, with_content, pieces_with, put_inside}
use Rattle.document_model.proofs.Joins.{bind_some, some_same, HasByte}
use Rattle.document_model.proofs.Put.{puts_last, opens_tag}
use Rattle.document_model.specs.Sizes.{height, count_all}
use Rattle.xml_items.proofs.AsciiTexts.{between_whole}
use Rattle.xml_items.proofs.NameTexts.{itself}
use Rattle.doc_spans.specs.Marks.{Follow, Fits}
use Rattle.doc_spans.proofs.Run.{opens, run_good}
use Rattle.doc_spans.proofs.Steps.{stand}
use Rattle.doc_spans.proofs.Weigh.{nodes_counted}
use Rattle.insertions.specs.Content.{texts, items_after, Stand, begun, closing, IsContent, nodes_of_content, SpellsWithin, ContentIsSpelled}
use Rattle.insertions.proofs.Heights.{deepest, high, within_small, passes_depth, passes_nodes, stand_follow}
use Rattle.insertions.proofs.PieceStays.{feeds, read, read_at, read_from}
use Rattle.insertions.proofs.Standing.{legal_is, is_legal, texts_join, after_join, after_all, stand_first, stand_second, stand_both, stand_before}
use Rattle.insertions.proofs.Alike.{Alike, alike_next, alike_closed, stand_alike, open_around, begun_open, open_begun, NoCharacter, stand_inside}
use Rattle.insertions.proofs.Closings.{end_path, empty_path}
use Rattle.insertions.proofs.Splice.{Splits, splits, pieces_spliced, items_onto, follow_before}
use Rattle.insertions.proofs.Scope.{tags_at_end, tags_at_empty}
use Rattle.insertions.proofs.Runs.{Within, within_first, within_second, within_both, IsDocument, is_document, Spelling, spells, begun_along}
use Rattle.insertions.proofs.ReadKinds.{kind_of, kind_is}
use Rattle.insertions.proofs.Opened.{encoded, read_parts, empty_tag_is, start_text, start_piece, end_text, end_piece, opened_bytes, one_more_char}

-- The first byte of an item.

-- what a piece was read of
pub record Source (kind : Kind) (piece : Piece) : Type 0 where
  pub cs : List ℕ
  pub item : item_of kind cs ≡ Some piece.item
  pub is_text : piece.text ≡ encode_utf8_all cs

pub source : (bytes : List ℕ) (found : Piece × List ℕ) → piece_at bytes ≡ Some found → Source (kind_of found.0.item) found.0
source bytes found e =
    let kind : Kind = kind_at bytes in
    let r : read kind (cut kind bytes) ≡ Some found = sym (read_at bytes) ∙ e in
    let parts = read_parts kind (cut kind bytes) found r in
    let same : kind_of found.0.item ≡ kind = kind_is kind parts.0 found.0.item parts.2 in
    record {
      cs = parts.0;
      item = ap (λ k. item_of k parts.0) same ∙ parts.2;
      is_text = (read_from kind (cut kind bytes) found r).text ∙ (encoded (cut kind bytes).0 parts.0 parts.1).is_text;
    }

-- one of a literal character begins with it
literal_of : Item → Option ℕ
literal_of (character c) = Some c
literal_of item = None

one_character : (d : ℕ) (cs : List ℕ) → (d ≡ 0xA → ⊥) → character_of cs ≡ Some (character d) → cs ≡ d ∷ []
unfolding literal_of
one_character d [] n e = absurd (none-some (character d) e)
one_character d (c ∷ []) n e = go (nat_eq c 0xD) refl (one (not ((nat_eq c 0x3C) || (nat_eq c 0x26))) e)
  where
    one : (b : Bool) → when b (character (cond (nat_eq c 0xD) 0xA c)) ≡ Some (character d) → cond (nat_eq c 0xD) 0xA c ≡ d
    one true e = some_same _ d (ap literal_of (some_same (character (cond (nat_eq c 0xD) 0xA c)) (character d) e))
    one false e = absurd (none-some (character d) e)

    go : (b : Bool) → nat_eq c 0xD ≡ b → cond (nat_eq c 0xD) 0xA c ≡ d → c ∷ [] ≡ d ∷ []
    go true e f = absurd (n (sym f ∙ ap (λ b. cond b 0xA c) e))
    go false e f = ap (λ x. x ∷ []) (sym (ap (λ b. cond b 0xA c) e) ∙ f)
one_character d (c ∷ c2 ∷ []) n e = absurd (n (sym (one (nat_eq c 0xD && nat_eq c2 0xA) e)))
  where
    one : (b : Bool) → when b (character 0xA) ≡ Some (character d) → 0xA ≡ d
    one true e = some_same 0xA d (ap literal_of (some_same (character 0xA) (character d) e))
    one false e = absurd (none-some (character d) e)
one_character d (c ∷ c2 ∷ c3 ∷ cs) n e = absurd (none-some (character d) e)

begins_character : (d : ℕ) (bytes : List ℕ) (found : Piece × List ℕ) → d < 128 → (d ≡ 0xA → ⊥) → piece_at bytes ≡ Some found → found.0.item ≡ character d → (behind : List ℕ)
    → begins_with d (found.0.text ++ behind) ≡ true
begins_character d bytes found l n e is_it behind =
    let s = source bytes found e in
    let item : character_of s.cs ≡ Some (character d) = ap (λ i. item_of (kind_of i) s.cs) (sym is_it) ∙ s.item ∙ ap Some is_it in
    let one = one_character d s.cs n item in
    let text : found.0.text ≡ d ∷ [] = s.is_text ∙ ap encode_utf8_all one ∙ one_more_char d [] l in
    ap (λ t. begins_with d (t ++ behind)) text ∙ eq-eqb d d refl

no_character : (d : ℕ) (bytes : List ℕ) (found : Piece × List ℕ) (behind : List ℕ) → d < 128 → (d ≡ 0xA → ⊥) → piece_at bytes ≡ Some found → begins_with d (found.0.text ++ behind) ≡ false
    → NoCharacter d found.0.item
no_character d bytes found behind l n e f = by_item found.0.item refl
  where
    by_item : (item : Item) → found.0.item ≡ item → NoCharacter d item
    by_item (character c) i a = ne_eqb d c (λ s. true≢false (sym (begins_character d bytes found l n e (i ∙ ap character (sym s)) behind) ∙ f))
    by_item declaration i a = refl
    by_item (start_tag name attributes) i a = refl
    by_item (empty_tag name attributes) i a = refl
    by_item (end_tag name) i a = refl
    by_item (reference c) i a = refl
    by_item (cdata cs) i a = refl
    by_item (comment cs) i a = refl
    by_item (instruction target content) i a = refl

-- an end tag begins with `<`
end_tag_text : (bytes : List ℕ) (found : Piece × List ℕ) (name : Name) → piece_at bytes ≡ Some found → found.0.item ≡ end_tag name → (rest : List ℕ) × (found.0.text ≡ 0x3C ∷ rest)
end_tag_text bytes found name e is_it =
    let s = source bytes found e in
    let item : item_of EndTagKind s.cs ≡ Some (end_tag name) = ap (λ i. item_of (kind_of i) s.cs) (sym is_it) ∙ s.item ∙ ap Some is_it in
    let t = bind_some end_tag_of (between (codes "</") (codes ">") s.cs) (end_tag name) item in
    let whole = between_whole (codes "</") (codes ">") s.cs t.0 t.1 in
    (encode_utf8_all (0x2F ∷ (t.0 ++ codes ">")), s.is_text ∙ ap encode_utf8_all whole ∙ one_more_char 0x3C (0x2F ∷ (t.0 ++ codes ">")) (omega arith))

-- Content behind other items.

feeds_first : (a r : List ℕ) → feeds a ≡ false → (a ≡ [] → feeds r ≡ false) → feeds (a ++ r) ≡ false
feeds_first [] r e f = f refl
feeds_first (b ∷ a) r e f = e

never_feeds : (y x : List ℕ) → feeds y ≡ false → feeds y ≡ true → feeds x ≡ true
never_feeds y x e f = absurd (true≢false (sym f ∙ e))

-- content stands where the same elements are open, in front of an end tag
content_stands : (tags : List Tag) (content : List ℕ) (c : IsContent tags content) (tag : Tag) (outer : List Tag) → tags ≡ tag ∷ outer → (before : List Item) → open_elements before ≡ tags
    → (rest : List ℕ) → feeds rest ≡ false → Stand before c.pieces rest
content_stands tags content c tag outer some before same rest f =
    by_pieces c.pieces refl (stand_before (begun tags) c.pieces closing rest tt (never_feeds rest closing f) c.stand)
  where
    by_pieces : (pieces : List Piece) → c.pieces ≡ pieces → Stand (begun tags) pieces rest → Stand before pieces rest
    by_pieces [] e s = tt
    by_pieces (piece ∷ pieces) e s =
        let l = legal_is (begun tags) (piece.text ++ (texts pieces ++ rest)) (piece, texts pieces ++ rest) s.0 in
        let spelled : content ≡ piece.text ++ texts pieces = sym c.spelled ∙ ap texts e in
        let no : (d : ℕ) → d < 128 → (d ≡ 0xA → ⊥) → begins_with d content ≡ false → NoCharacter d piece.item =
        λ d l1 n b. no_character d (piece.text ++ (texts pieces ++ rest)) (piece, texts pieces ++ rest) (texts pieces) l1 n l.piece (ap (begins_with d) (sym spelled) ∙ b) in
        stand_inside (begun tags) before piece pieces rest tag outer (open_begun tags ∙ some) (same ∙ some)
        (no 0x3E (omega arith) (λ x. (cc)) c.no_greater) (no 0x5D (omega arith) (λ x. (cc)) c.no_bracket) s

alike_along : (pieces : List Piece) (a b : List Item) → Alike a b → Alike (items_after pieces a) (items_after pieces b)
alike_along [] a b s = s
alike_along (piece ∷ pieces) a b s = alike_along pieces (piece.item ∷ a) (piece.item ∷ b) (alike_next piece.item a b s)

whole_alike : (a b : List Item) → Alike a b → is_whole b ≡ true → is_whole a ≡ true
whole_alike a b s h = (λ i. s.begun_same i && is_empty (s.open_same i)) ∙ h

no_open : (tags : List Tag) → is_empty tags ≡ true → length tags ≡ 0
no_open [] e = refl
no_open (tag ∷ tags) e = cc

pub whole_flat : (items : List Item) → is_whole items ≡ true → depth items ≡ 0
whole_flat items h = opens items ∙ no_open (open_elements items) (and_parts (has_element items) (is_empty (open_elements items)) h).1

some_tag : (tags : List Tag) → 0 < length tags → (tag : Tag) × (outer : List Tag) × (tags ≡ tag ∷ outer)
some_tag [] h = absurd (omega arith)
some_tag (tag ∷ outer) h = (tag, outer, refl)

-- The old document, where the host is closed.
record Old (bytes : List ℕ) (host : Path) : Type 0 where
  pub split : Splits host (run limits bytes).pieces
  pub document : IsDocument bytes (run limits bytes).pieces
  pub follow : Follow (items_after split.behind (split.piece.item ∷ items_after split.front []))
  pub stand : Stand [] (split.front ++ (split.piece ∷ split.behind)) []
  pub within : Within limits [] (split.front ++ (split.piece ∷ split.behind))
  pub whole : is_whole (items_after split.behind (split.piece.item ∷ items_after split.front [])) ≡ true
  pub tree : document_of bytes ≡ tree_after (items_after split.behind (split.piece.item ∷ items_after split.front []))
  pub bytes_with : (content : List ℕ) → put_inside content host bytes ≡ texts split.front ++ (with_content content split.piece.text split.piece.item ++ texts split.behind)

old : (bytes : List ℕ) (host : Path) → fault bytes ≡ None → IsElementAt (document_of bytes) host → Old bytes host
old bytes host none e =
    let pieces : List Piece = (run limits bytes).pieces in
    let d = is_document bytes none in
    let f : Follow (items_after pieces []) = subst Follow (items_onto pieces []) (run_good limits (length bytes) [] bytes tt).follow in
    let s = splits host pieces f (whole_flat (items_after pieces []) d.whole) (subst (λ t. IsElementAt t host) d.tree e) in
    let items : items_after pieces [] ≡ items_after s.behind (s.piece.item ∷ items_after s.front []) = ap (λ p. items_after p []) s.parts ∙ after_join s.front (s.piece ∷ s.behind) [] in
    record {
      split = s;
      document = d;
      follow = subst Follow items f;
      stand = subst (λ p. Stand [] p []) s.parts d.stand;
      within = subst (Within limits []) s.parts d.within;
      whole = ap is_whole (sym items) ∙ d.whole;
      tree = d.tree ∙ ap tree_after items;
      bytes_with = λ content. (λ i. pieces_with content host [] (s.parts i) ++ d.none_left i) ∙ append-nil (pieces_with content host [] (s.front ++ (s.piece ∷ s.behind)))
          ∙ pieces_spliced content host [] s.front s.piece s.behind (subst (λ p. Follow (items_after p [])) s.parts f) s.may s.at;
    }

-- what the new pieces spell, where their tree is known
spelled_within : (front behind : List Piece) (bytes : List ℕ) (tree : Nodes) → Stand [] (front ++ behind) [] → Spelling front behind bytes → tree_after (items_after (front ++ behind) []) ≡ tree
    → SpellsWithin bytes tree
spelled_within front behind bytes tree stand s e =
    let items : List Item = items_after (front ++ behind) [] in
    let f : Follow items = stand_follow [] (front ++ behind) [] tt stand in
    let deep : height tree ≡ deepest items = ap height (sym e) ∙ high items f in
    let many : count_all tree ≡ nodes_of items = ap count_all (sym e) ∙ nodes_counted items f in
    elim s.ends [
      | inl all ↦
          let small = within_small limits [] (front ++ behind) (omega arith) (omega arith) all.0 in
          inl ((subst (λ n. n ≤ limits.depth) (sym deep) small.0, subst (λ n. n ≤ limits.nodes) (sym many) small.1), all.1, all.2 ∙ e)
      | inr some ↦ inr (
        some.passed.0,
        elim some.passed.1 [
          | inl d ↦ inl (d.0, subst (λ n. limits.depth < n) (ap deepest (sym some.parts) ∙ sym deep) (passes_depth limits some.item some.early some.later d.1))
          | inr m ↦ inr (m.0, subst (λ n. limits.nodes < n) (ap nodes_of (sym some.parts) ∙ sym many) (passes_nodes limits some.item some.early some.later m.1))
        ],
      )
    ]

puts : (later new before : List Item) (name : Name) → 0 < depth before → StandInside new → depth new ≡ 0 → StandInside before
    → tree_after (later ++ (end_tag name ∷ (new ++ before))) ≡ put_last (content_after new) (last_path (depth before) (tree_after before)) (tree_after (later ++ (end_tag name ∷ before)))
puts later new before name h i w s = go (depth before) refl h
  where
    go : (n : ℕ) → depth before ≡ n → 0 < n
        → tree_after (later ++ (end_tag name ∷ (new ++ before))) ≡ put_last (content_after new) (last_path (depth before) (tree_after before)) (tree_after (later ++ (end_tag name ∷ before)))
    go zero e h = absurd (omega (arith, h))
    go (suc d) e h = puts_last before new later name d e s i w
        ∙ ap (λ k. put_last (content_after new) (last_path k (tree_after before)) (tree_after (later ++ (end_tag name ∷ before)))) (sym e)

alike_back : {a b : List Item} → Alike a b → Alike b a
alike_back s = record { open_same = sym s.open_same; begun_same = sym s.begun_same; bracket = sym s.bracket; brackets = sym s.brackets; front = sym s.front; empty = sym s.empty }

-- The host has an end tag.
at_end_tag : (content bytes : List ℕ) (host : Path) (c : IsContent (tags_at (document_of bytes) host) content) (o : Old bytes host) (name : Name) → o.split.piece.item ≡ end_tag name
    → SpellsWithin (put_inside content host bytes) (put_last (nodes_of_content c) host (document_of bytes))
at_end_tag content bytes host c o name is_end =
    let front : List Piece = o.split.front in
    let piece : Piece = o.split.piece in
    let behind : List Piece = o.split.behind in
    let cp : List Piece = c.pieces in
    let before : List Item = items_after front [] in
    let tags : List Tag = tags_at (document_of bytes) host in
    let f = follow_before behind (piece.item ∷ before) o.follow in
    let deep : 0 < depth before = subst (Fits before) is_end f.0 in
    let opened : tags ≡ open_elements before = ap (λ t. tags_at t host) o.tree ∙ tags_at_end front behind piece.item name host is_end f.1 deep o.split.at in
    let some = some_tag (open_elements before) (let n = opens before in omega (arith, n, deep)) in
    let sb : Stand before (piece ∷ behind) [] = stand_second [] front (piece ∷ behind) [] o.stand in
    let sf : Stand [] front (texts (piece ∷ behind) ++ []) = stand_first [] front (piece ∷ behind) [] o.stand in
    let l = legal_is before (piece.text ++ (texts behind ++ [])) (piece, texts behind ++ []) sb.0 in
    let first = end_tag_text (piece.text ++ (texts behind ++ [])) (piece, texts behind ++ []) name l.piece is_end in
    let close : (r : List ℕ) → feeds (piece.text ++ r) ≡ false = λ r. ap (λ t. feeds (t ++ r)) first.1 in
    let has : HasByte (texts (piece ∷ behind) ++ []) = subst (λ t. HasByte ((t ++ texts behind) ++ [])) (sym first.1) tt in
    let closing_rest : feeds (texts (piece ∷ behind) ++ []) ≡ false = ap feeds (append_assoc piece.text (texts behind) []) ∙ close (texts behind ++ []) in
    -- the content
    let cs : Stand before cp (texts (piece ∷ behind) ++ []) = content_stands tags content c some.0 some.1 (opened ∙ some.2) before (sym opened) (texts (piece ∷ behind) ++ []) closing_rest in
    -- behind it
    let new : List Item = items_after cp [] in
    let there : List Item = items_after cp before in
    let there_is : there ≡ new ++ before = after_all cp before in
    let open_same : open_elements there ≡ open_elements before = ap open_elements there_is ∙ open_around new before c.inside c.whole in
    let begun_before : has_element before ≡ true = begun_open before some.0 some.1 some.2 in
    let begun_there : has_element there ≡ true = begun_along cp before begun_before in
    let alike : Alike (piece.item ∷ there) (piece.item ∷ before) =
    subst (λ i. Alike (i ∷ there) (i ∷ before)) (sym is_end) (alike_closed name there before open_same (begun_there ∙ sym begun_before)) in
    let may : may_follow there piece.item ≡ true = ap (may_follow there) is_end ∙ ap (closes name) open_same ∙ ap (may_follow before) (sym is_end) ∙ l.may in
    let closes_there : Stand there (piece ∷ behind) [] = (
      is_legal there (piece.text ++ (texts behind ++ [])) (piece, texts behind ++ []) (record { piece = l.piece; may = may }),
      stand_alike (piece.item ∷ before) (piece.item ∷ there) behind [] (alike_back alike) sb.1,
    ) in
    let inner : Stand before (cp ++ (piece ∷ behind)) [] = stand_both before cp (piece ∷ behind) [] cs closes_there in
    -- in front of it
    let rest_is : texts (cp ++ (piece ∷ behind)) ++ [] ≡ content ++ (texts (piece ∷ behind) ++ []) =
    ap (λ x. x ++ []) (texts_join cp (piece ∷ behind)) ∙ append_assoc (texts cp) (texts (piece ∷ behind)) [] ∙ ap (λ x. x ++ (texts (piece ∷ behind) ++ [])) c.spelled in
    let no : feeds (texts (cp ++ (piece ∷ behind)) ++ []) ≡ false =
    ap feeds rest_is ∙ feeds_first content (texts (piece ∷ behind) ++ []) c.no_end (λ _. closing_rest) in
    let outer : Stand [] front (texts (cp ++ (piece ∷ behind)) ++ []) =
    stand_before [] front (texts (piece ∷ behind) ++ []) (texts (cp ++ (piece ∷ behind)) ++ []) has (never_feeds (texts (cp ++ (piece ∷ behind)) ++ []) (texts (piece ∷ behind) ++ []) no) sf in
    let all : Stand [] (front ++ (cp ++ (piece ∷ behind))) [] = stand_both [] front (cp ++ (piece ∷ behind)) [] outer inner in
    -- all of them
    let items : items_after (front ++ (cp ++ (piece ∷ behind))) [] ≡ items_after behind (piece.item ∷ there) =
    after_join front (cp ++ (piece ∷ behind)) [] ∙ after_join cp (piece ∷ behind) before in
    let whole : is_whole (items_after (front ++ (cp ++ (piece ∷ behind))) []) ≡ true =
    ap is_whole items ∙ whole_alike _ _ (alike_along behind (piece.item ∷ there) (piece.item ∷ before) alike) o.whole in
    let spelled : texts (front ++ (cp ++ (piece ∷ behind))) ≡ put_inside content host bytes =
    texts_join front (cp ++ (piece ∷ behind)) ∙ ap (λ x. texts front ++ x) (texts_join cp (piece ∷ behind) ∙ ap (λ x. x ++ texts (piece ∷ behind)) c.spelled
    ∙ sym (append_assoc content piece.text (texts behind)) ∙ ap (λ i. with_content content piece.text i ++ texts behind) (sym is_end)) ∙ sym (o.bytes_with content) in
    let spelling = spells front (cp ++ (piece ∷ behind)) (put_inside content host bytes) spelled all (within_first limits [] front (piece ∷ behind) o.within) begun_before whole in
    -- the tree
    let path : last_path (depth before) (tree_after before) ≡ host = sym (end_path before name) ∙ ap (path_of before) (sym is_end) ∙ o.split.at in
    let later : List Item = items_after behind [] in
    let old_tree : document_of bytes ≡ tree_after (later ++ (end_tag name ∷ before)) =
    o.tree ∙ ap (λ i. tree_after (items_after behind (i ∷ before))) is_end ∙ ap tree_after (after_all behind (end_tag name ∷ before)) in
    let new_tree : tree_after (items_after (front ++ (cp ++ (piece ∷ behind))) []) ≡ tree_after (later ++ (end_tag name ∷ (new ++ before))) =
    ap tree_after (items ∙ (λ i. items_after behind (is_end i ∷ there_is i)) ∙ after_all behind (end_tag name ∷ (new ++ before))) in
    let put : tree_after (later ++ (end_tag name ∷ (new ++ before))) ≡ put_last (content_after new) host (tree_after (later ++ (end_tag name ∷ before))) =
    puts later new before name deep c.inside c.whole (stand before f.1) ∙ ap (λ p. put_last (content_after new) p (tree_after (later ++ (end_tag name ∷ before)))) path in
    spelled_within front (cp ++ (piece ∷ behind)) (put_inside content host bytes) (put_last (nodes_of_content c) host (document_of bytes)) all spelling
    (new_tree ∙ put ∙ ap (put_last (content_after new) host) (sym old_tree))

-- The host is an empty tag, which is opened.
at_empty_tag : (content bytes : List ℕ) (host : Path) (c : IsContent (tags_at (document_of bytes) host) content) (o : Old bytes host) (name : Name) (attributes : List Attribute)
    → o.split.piece.item ≡ empty_tag name attributes → SpellsWithin (put_inside content host bytes) (put_last (nodes_of_content c) host (document_of bytes))
at_empty_tag content bytes host c o name attributes is_empty_tag =
    let front : List Piece = o.split.front in
    let piece : Piece = o.split.piece in
    let behind : List Piece = o.split.behind in
    let cp : List Piece = c.pieces in
    let before : List Item = items_after front [] in
    let start : List Item = start_tag name attributes ∷ before in
    let tags : List Tag = tags_at (document_of bytes) host in
    let tag : Tag = record { name = name; attributes = attributes } in
    let f = follow_before behind (piece.item ∷ before) o.follow in
    let opened : tags ≡ open_elements start = ap (λ t. tags_at t host) o.tree ∙ tags_at_empty front behind piece.item name attributes host is_empty_tag f.1 o.split.at in
    let sb : Stand before (piece ∷ behind) [] = stand_second [] front (piece ∷ behind) [] o.stand in
    let sf : Stand [] front (texts (piece ∷ behind) ++ []) = stand_first [] front (piece ∷ behind) [] o.stand in
    let l = legal_is before (piece.text ++ (texts behind ++ [])) (piece, texts behind ++ []) sb.0 in
    let w = empty_tag_is (piece.text ++ (texts behind ++ [])) (piece, texts behind ++ []) name attributes l.piece is_empty_tag in
    let sp : Piece = record { text = start_text w.inner; item = start_tag name attributes } in
    let ep : Piece = record { text = end_text name; item = end_tag name } in
    let has : HasByte (texts (piece ∷ behind) ++ []) =
    subst (λ t. HasByte ((t ++ texts behind) ++ [])) (sym (w.is_text ∙ ap (λ x. x ++ (0x2F ∷ 0x3E ∷ [])) (one_more_char 0x3C w.inner (omega arith)))) tt in
    -- the content, between the tags
    let cs : Stand start cp (texts (ep ∷ behind) ++ []) = content_stands tags content c tag (open_elements before) opened start (sym opened) (texts (ep ∷ behind) ++ []) refl in
    -- behind it
    let new : List Item = items_after cp [] in
    let there : List Item = items_after cp start in
    let there_is : there ≡ new ++ start = after_all cp start in
    let open_same : open_elements there ≡ tag ∷ open_elements before = ap open_elements there_is ∙ open_around new start c.inside c.whole in
    let begun_there : has_element there ≡ true = begun_along cp start refl in
    let alike : Alike (end_tag name ∷ there) (piece.item ∷ before) =
    subst (λ i. Alike (end_tag name ∷ there) (i ∷ before)) (sym is_empty_tag)
    (record { open_same = ap (drop 1) open_same; begun_same = begun_there; bracket = refl; brackets = refl; front = refl; empty = refl }) in
    let may : may_follow there (end_tag name) ≡ true = ap (closes name) open_same ∙ itself name in
    let closes_there : Stand there (ep ∷ behind) [] = (
      is_legal there (ep.text ++ (texts behind ++ [])) (ep, texts behind ++ []) (record { piece = end_piece piece.text name attributes w (texts behind ++ []); may = may }),
      stand_alike (piece.item ∷ before) (end_tag name ∷ there) behind [] (alike_back alike) sb.1,
    ) in
    let inner : Stand start (cp ++ (ep ∷ behind)) [] = stand_both start cp (ep ∷ behind) [] cs closes_there in
    let rest : List ℕ = texts (cp ++ (ep ∷ behind)) ++ [] in
    let opens_there : Stand before (sp ∷ (cp ++ (ep ∷ behind))) [] =
    (is_legal before (sp.text ++ rest) (sp, rest) (record { piece = start_piece piece.text name attributes w rest; may = sym (ap (may_follow before) is_empty_tag) ∙ l.may }), inner) in
    -- in front of it
    let no : feeds (texts (sp ∷ (cp ++ (ep ∷ behind))) ++ []) ≡ false =
    ap (λ t. feeds (((t ++ 0x3E ∷ []) ++ texts (cp ++ (ep ∷ behind))) ++ [])) (one_more_char 0x3C w.inner (omega arith)) in
    let outer : Stand [] front (texts (sp ∷ (cp ++ (ep ∷ behind))) ++ []) =
    stand_before [] front (texts (piece ∷ behind) ++ []) (texts (sp ∷ (cp ++ (ep ∷ behind))) ++ []) has (never_feeds (texts (sp ∷ (cp ++ (ep ∷ behind))) ++ []) (texts (piece ∷ behind) ++ []) no) sf in
    let all : Stand [] (front ++ (sp ∷ (cp ++ (ep ∷ behind)))) [] = stand_both [] front (sp ∷ (cp ++ (ep ∷ behind))) [] outer opens_there in
    let again : front ++ (sp ∷ (cp ++ (ep ∷ behind))) ≡ (front ++ sp ∷ []) ++ (cp ++ (ep ∷ behind)) = sym (append_assoc front (sp ∷ []) (cp ++ (ep ∷ behind))) in
    -- all of them
    let pieces : List Piece = (front ++ sp ∷ []) ++ (cp ++ (ep ∷ behind)) in
    let items : items_after pieces [] ≡ items_after behind (end_tag name ∷ there) =
    ap (λ p. items_after p []) (sym again) ∙ after_join front (sp ∷ (cp ++ (ep ∷ behind))) [] ∙ after_join cp (ep ∷ behind) start in
    let whole : is_whole (items_after pieces []) ≡ true =
    ap is_whole items ∙ whole_alike _ _ (alike_along behind (end_tag name ∷ there) (piece.item ∷ before) alike) o.whole in
    let spelled : texts pieces ≡ put_inside content host bytes =
    ap texts (sym again) ∙ texts_join front (sp ∷ (cp ++ (ep ∷ behind)))
    ∙ ap (λ x. texts front ++ (sp.text ++ x)) (texts_join cp (ep ∷ behind) ∙ ap (λ x. x ++ texts (ep ∷ behind)) c.spelled)
    ∙ ap (λ x. texts front ++ x) (joins sp.text content ep.text (texts behind))
    ∙ ap (λ x. texts front ++ (x ++ texts behind)) (sym (opened_bytes content piece.text name attributes w) ∙ ap (with_content content piece.text) (sym is_empty_tag))
    ∙ sym (o.bytes_with content) in
    let wf = within_first limits [] front (piece ∷ behind) o.within in
    let ws = within_second limits [] front (piece ∷ behind) o.within in
    let within : Within limits [] (front ++ sp ∷ []) =
    within_both limits [] front (sp ∷ []) wf (sym (ap (is_too_deep limits before) is_empty_tag) ∙ ws.0, sym (ap (has_too_many limits before) is_empty_tag) ∙ ws.1, tt) in
    let begun_start : has_element (items_after (front ++ sp ∷ []) []) ≡ true = ap has_element (after_join front (sp ∷ []) []) in
    let spelling = spells (front ++ sp ∷ []) (cp ++ (ep ∷ behind)) (put_inside content host bytes) spelled (subst (λ p. Stand [] p []) again all) within begun_start whole in
    -- the tree
    let path : last_path (depth start) (tree_after start) ≡ host = sym (empty_path before name attributes) ∙ ap (path_of before) (sym is_empty_tag) ∙ o.split.at in
    let later : List Item = items_after behind [] in
    let old_tree : document_of bytes ≡ tree_after (later ++ (end_tag name ∷ start)) =
    o.tree ∙ ap (λ i. tree_after (items_after behind (i ∷ before))) is_empty_tag ∙ ap tree_after (after_all behind (empty_tag name attributes ∷ before))
    ∙ opens_tag before later name name attributes in
    let new_tree : tree_after (items_after pieces []) ≡ tree_after (later ++ (end_tag name ∷ (new ++ start))) =
    ap tree_after (items ∙ (λ i. items_after behind (end_tag name ∷ there_is i)) ∙ after_all behind (end_tag name ∷ (new ++ start))) in
    let put : tree_after (later ++ (end_tag name ∷ (new ++ start))) ≡ put_last (content_after new) host (tree_after (later ++ (end_tag name ∷ start))) =
    puts later new start name (omega arith) c.inside c.whole (stand before f.1) ∙ ap (λ p. put_last (content_after new) p (tree_after (later ++ (end_tag name ∷ start)))) path in
    spelled_within (front ++ sp ∷ []) (cp ++ (ep ∷ behind)) (put_inside content host bytes) (put_last (nodes_of_content c) host (document_of bytes)) (subst (λ p. Stand [] p []) again all) spelling
    (new_tree ∙ put ∙ ap (put_last (content_after new) host) (sym old_tree))
  where
    joins : (a b c d : List ℕ) → a ++ (b ++ (c ++ d)) ≡ (a ++ (b ++ c)) ++ d
    joins a b c d = simp append_assoc

pub content_spelled : ContentIsSpelled
content_spelled content bytes host none e c = by_item (old bytes host none e)
  where
    by_kind : (o : Old bytes host) (item : Item) → o.split.piece.item ≡ item → SpellsWithin (put_inside content host bytes) (put_last (nodes_of_content c) host (document_of bytes))
    by_kind o (end_tag name) is_it = at_end_tag content bytes host c o name is_it
    by_kind o (empty_tag name attributes) is_it = at_empty_tag content bytes host c o name attributes is_it
    by_kind o declaration is_it = absurd (false≢true (sym (ap may_close is_it) ∙ o.split.may))
    by_kind o (start_tag name attributes) is_it = absurd (false≢true (sym (ap may_close is_it) ∙ o.split.may))
    by_kind o (character x) is_it = absurd (false≢true (sym (ap may_close is_it) ∙ o.split.may))
    by_kind o (reference x) is_it = absurd (false≢true (sym (ap may_close is_it) ∙ o.split.may))
    by_kind o (cdata x) is_it = absurd (false≢true (sym (ap may_close is_it) ∙ o.split.may))
    by_kind o (comment x) is_it = absurd (false≢true (sym (ap may_close is_it) ∙ o.split.may))
    by_kind o (instruction x y) is_it = absurd (false≢true (sym (ap may_close is_it) ∙ o.split.may))

    by_item : Old bytes host → SpellsWithin (put_inside content host bytes) (put_last (nodes_of_content c) host (document_of bytes))
    by_item o = by_kind o o.split.piece.item refl
