-- The pieces of nodes that are written.
use Rattle.std.proofs.Common.{◌≡◌, ℕ, suc, ◌+◌, ◌<◌, true, false, cond, not, ◌&&◌, ◌||◌, List, [], ◌∷◌, ◌++◌, map, drop, pred, refl, sym, ◌∙◌, ap, subst, arith, nat_eq, append_assoc, codes}
use Rattle.std.proofs.lemmas.Bool.{and_parts}
use Rattle.std.proofs.lemmas.List.{append-nil}
use Rattle.std.proofs.lemmas.Str.{encodes-append}
use Rattle.std.specs.Prelude.{encode_utf8_all}
use Rattle.std.specs.List.{list_all}
use Rattle.document_model.specs.Characters.{begins_with, is_empty}
use Rattle.document_model.specs.Names.{Name, spelled, same_name}
use Rattle.document_model.specs.Items.{Attribute, Item, Piece, start_tag, end_tag, character}
use Rattle.document_model.specs.Tree.{Node, Nodes, Element, Text, Comment, Instruction, no_nodes, ◌⨾◌, joined, grown, depth, content_after}
use Rattle.document_model.specs.Scopes.{Tag, is_sound}
use Rattle.document_model.specs.Documents.{open_elements, has_element, may_stand_outside, after_two_brackets, closes, may_follow}
use Rattle.document_model.specs.Insertion.{StandInside}
use Rattle.document_model.proofs.Grown.{grown_none}
use Rattle.xml_items.proofs.AsciiTexts.{same_from}
use Rattle.xml_items.proofs.OrdinaryCharacters.{ordinary_piece}
use Rattle.signature_model.specs.Fragments.{written, written_node, written_octets}
use Rattle.insertions.specs.Content.{texts, items_after, Stand, begun, closing, IsContent}
use Rattle.insertions.proofs.Standing.{is_legal, texts_join, after_join, stand_both}
use Rattle.insertions.proofs.Quiet.{all_weaker}
use Rattle.insertions.proofs.Alike.{open_begun}
use Rattle.insertions.proofs.Opened.{front_of, start_text, end_text, one_more_char}
use Rattle.insertion_fragments.specs.Fragment.{is_simple, IsFragment, IsFragmentNode, FragmentsAreContent}
use Rattle.insertion_fragments.proofs.SimpleCharacters.{simple_ordinary, apart, text_text}
use Rattle.insertion_fragments.proofs.StartTags.{fine, fine_simple, fine_encoded, inside_of, attrs, start_there, end_there}
use Rattle.document_model.proofs.Grown.{grown_twice}

abbrev letter : ℕ → Piece
letter c = record { text = c ∷ []; item = character c }

abbrev start_of : Name → List Attribute → Piece
start_of name attributes = record { text = start_text (inside_of name attributes); item = start_tag name attributes }

abbrev end_of : Name → Piece
end_of name = record { text = end_text name; item = end_tag name }

abbrev mutual
  pieces_of : Nodes → List Piece
  pieces_of no_nodes = []
  pieces_of (node ⨾ nodes) = pieces_of_node node ++ pieces_of nodes

  pieces_of_node : Node → List Piece
  pieces_of_node (Element name attributes inner) = start_of name attributes ∷ (pieces_of inner ++ (end_of name ∷ []))
  pieces_of_node (Text cs) = map letter cs
  pieces_of_node (Comment cs) = []
  pieces_of_node (Instruction target content) = []

-- their bytes

letters_text : (cs : List ℕ) → texts (map letter cs) ≡ cs
letters_text [] = refl
letters_text (c ∷ cs) = ap (λ x. c ∷ x) (letters_text cs)

pub all_fine : (cs : List ℕ) → list_all is_simple cs ≡ true → encode_utf8_all cs ≡ cs
all_fine cs h = fine_encoded cs (all_weaker is_simple fine fine_simple cs h)

element_text : (name : Name) (attributes : List Attribute) (inner : List ℕ)
    → encode_utf8_all (codes "<" ++ spelled name ++ attrs attributes ++ codes ">" ++ inner ++ codes "</" ++ spelled name ++ codes ">")
    ≡ start_text (inside_of name attributes) ++ (encode_utf8_all inner ++ (end_text name ++ []))
element_text name attributes inner =
    ap encode_utf8_all (regroup (spelled name) (attrs attributes) inner)
    ∙ encodes-append ((0x3C ∷ inside_of name attributes) ++ codes ">") (inner ++ (codes "</" ++ (spelled name ++ codes ">")))
    ∙ (λ i. (encodes-append (0x3C ∷ inside_of name attributes) (codes ">") i) ++ (encodes-append inner (codes "</" ++ (spelled name ++ codes ">")) i))
    ∙ (λ i. (front_of (inside_of name attributes) ++ fine_encoded (codes ">") refl i) ++ (encode_utf8_all inner ++ end i))
  where
    regroup : (n a b : List ℕ) → codes "<" ++ n ++ a ++ codes ">" ++ b ++ codes "</" ++ n ++ codes ">" ≡ ((0x3C ∷ (n ++ a)) ++ codes ">") ++ (b ++ (codes "</" ++ (n ++ codes ">")))
    regroup n a b = simp append_assoc

    end : encode_utf8_all (codes "</" ++ (spelled name ++ codes ">")) ≡ end_text name ++ []
    end = encodes-append (codes "</") (spelled name ++ codes ">")
        ∙ (λ i. fine_encoded (codes "</") refl i ++ encodes-append (spelled name) (codes ">") i)
        ∙ ap (λ x. 0x3C ∷ 0x2F ∷ (encode_utf8_all (spelled name) ++ x)) (fine_encoded (codes ">") refl)
        ∙ sym (append-nil (end_text name))

mutual
  nodes_text : (tags : List Tag) (nodes : Nodes) → IsFragment tags nodes → texts (pieces_of nodes) ≡ written_octets nodes
  nodes_text tags no_nodes f = refl
  nodes_text tags (node ⨾ nodes) f =
      texts_join (pieces_of_node node) (pieces_of nodes)
      ∙ (λ i. node_text tags node nodes f.0 i ++ nodes_text tags nodes f.1 i) ∙ sym (encodes-append (written_node node) (written nodes))

  node_text : (tags : List Tag) (node : Node) (nodes : Nodes) → IsFragmentNode tags node nodes → texts (pieces_of_node node) ≡ encode_utf8_all (written_node node)
  node_text tags (Element name attributes inner) nodes f =
      ap (λ x. start_text (inside_of name attributes) ++ x) (texts_join (pieces_of inner) (end_of name ∷ [])
      ∙ ap (λ x. x ++ (end_text name ++ [])) (nodes_text (record { name = name; attributes = attributes } ∷ tags) inner f.4))
      ∙ sym (element_text name attributes (written inner))
  node_text tags (Text []) nodes f = absurd f
  node_text tags (Text (c ∷ cs)) nodes f = letters_text (c ∷ cs) ∙ sym (ap encode_utf8_all (text_text (c ∷ cs) f.0) ∙ all_fine (c ∷ cs) f.0)
  node_text tags (Comment cs) nodes f = absurd f
  node_text tags (Instruction target content) nodes f = absurd f

-- They stand where the same elements are open.

record StandsAt (before : List Item) (pieces : List Piece) (rest : List ℕ) (tag : Tag) (outer : List Tag) : Type 0 where
  pub stand : Stand before pieces rest
  pub opens : open_elements (items_after pieces before) ≡ tag ∷ outer

both_stand : (before : List Item) (p q : List Piece) (rest : List ℕ) (tag : Tag) (outer : List Tag) → StandsAt before p (texts q ++ rest) tag outer → StandsAt (items_after p before) q rest tag outer
    → StandsAt before (p ++ q) rest tag outer
both_stand before p q rest tag outer s t = record { stand = stand_both before p q rest s.stand t.stand; opens = ap open_elements (after_join p q before) ∙ t.opens }

letters_stand : (before : List Item) (cs : List ℕ) (rest : List ℕ) (tag : Tag) (outer : List Tag) → list_all is_simple cs ≡ true → open_elements before ≡ tag ∷ outer
    → StandsAt before (map letter cs) rest tag outer
letters_stand before [] rest tag outer h o = record { stand = tt; opens = o }
letters_stand before (c ∷ cs) rest tag outer h o =
    let both = and_parts (is_simple c) (list_all is_simple cs) h in
    let behind : List ℕ = texts (map letter cs) ++ rest in
    let others = letters_stand (character c ∷ before) cs rest tag outer both.1 o in
    let may : may_follow before (character c) ≡ true =
    (λ i. cond (is_empty (o i)) (may_stand_outside before c) (not (apart c 0x3E both.0 refl i && after_two_brackets before))) in
    record {
      stand = (is_legal before (c ∷ behind) (letter c, behind) (record { piece = ordinary_piece c behind (simple_ordinary c both.0); may = may }), others.stand);
      opens = others.opens;
    }

same_itself : (n : Name) → same_name n n ≡ true
same_itself n = λ i. same_from n.prefix n.prefix refl i && same_from n.local n.local refl i

mutual
  nodes_stand : (before : List Item) (nodes : Nodes) (rest : List ℕ) (tag : Tag) (outer : List Tag) → IsFragment (tag ∷ outer) nodes → open_elements before ≡ tag ∷ outer
      → StandsAt before (pieces_of nodes) rest tag outer
  nodes_stand before no_nodes rest tag outer f o = record { stand = tt; opens = o }
  nodes_stand before (node ⨾ nodes) rest tag outer f o =
      let first = node_stands before node nodes (texts (pieces_of nodes) ++ rest) tag outer f.0 o in
      both_stand before (pieces_of_node node) (pieces_of nodes) rest tag outer first (nodes_stand (items_after (pieces_of_node node) before) nodes rest tag outer f.1 first.opens)

  node_stands : (before : List Item) (node : Node) (nodes : Nodes) (rest : List ℕ) (tag : Tag) (outer : List Tag) → IsFragmentNode (tag ∷ outer) node nodes → open_elements before ≡ tag ∷ outer
      → StandsAt before (pieces_of_node node) rest tag outer
  node_stands before (Element name attributes inner) nodes rest tag outer f o =
      let own : Tag = record { name = name; attributes = attributes } in
      let start : List Item = start_tag name attributes ∷ before in
      let open_start : open_elements start ≡ own ∷ tag ∷ outer = ap (λ tags. own ∷ tags) o in
      let there : List Item = items_after (pieces_of inner) start in
      let inside = nodes_stand start inner (end_text name ++ [] ++ rest) own (tag ∷ outer) f.4 open_start in
      let may_start : may_follow before (start_tag name attributes) ≡ true = (λ i. (not (is_empty (o i)) || not (has_element before)) && is_sound (o i) own) ∙ f.3 in
      let may_end : may_follow there (end_tag name) ≡ true = ap (closes name) inside.opens ∙ same_itself name in
      let bytes_end : List ℕ = rest in
      let stand_end : Stand there (end_of name ∷ []) rest = (is_legal there (end_text name ++ ([] ++ rest)) (end_of name, [] ++ rest) (record { piece = end_there name attributes f.0 f.1 f.2 ([] ++ rest); may = may_end }), tt) in
      let stand_inner : Stand start (pieces_of inner) (texts (end_of name ∷ []) ++ rest) = inside.stand in
      let inner_all : Stand start (pieces_of inner ++ (end_of name ∷ [])) rest = stand_both start (pieces_of inner) (end_of name ∷ []) rest stand_inner stand_end in
      let behind : List ℕ = texts (pieces_of inner ++ (end_of name ∷ [])) ++ rest in
      record {
        stand = (is_legal before (start_text (inside_of name attributes) ++ behind) (start_of name attributes, behind) (record { piece = start_there name attributes f.0 f.1 f.2 behind; may = may_start }), inner_all);
        opens = ap open_elements (after_join (pieces_of inner) (end_of name ∷ []) start) ∙ ap (drop 1) inside.opens;
      }
  node_stands before (Text []) nodes rest tag outer f o = absurd f
  node_stands before (Text (c ∷ cs)) nodes rest tag outer f o = letters_stand before (c ∷ cs) rest tag outer f.0 o
  node_stands before (Comment cs) nodes rest tag outer f o = absurd f
  node_stands before (Instruction target content) nodes rest tag outer f o = absurd f

-- And have these nodes.

record Adds (before : List Item) (pieces : List Piece) (nodes : Nodes) : Type 0 where
  pub content : content_after (items_after pieces before) ≡ grown (depth before) nodes (content_after before)
  pub deep : depth (items_after pieces before) ≡ depth before
  pub inside : StandInside before → StandInside (items_after pieces before)

letters_add : (before : List Item) (cs ds : List ℕ) (d : ℕ) (old : Nodes) → depth before ≡ d → content_after before ≡ grown d (Text cs ⨾ no_nodes) old
    → (content_after (items_after (map letter ds) before) ≡ grown d (Text (cs ++ ds) ⨾ no_nodes) old) × (depth (items_after (map letter ds) before) ≡ d) × (StandInside before → StandInside (items_after (map letter ds) before))
letters_add before cs [] d old e c = (c ∙ ap (λ x. grown d (Text x ⨾ no_nodes) old) (sym (append-nil cs)), e, (λ s. s))
letters_add before cs (x ∷ ds) d old e c =
    let next : content_after (character x ∷ before) ≡ grown d (Text (cs ++ x ∷ []) ⨾ no_nodes) old =
    (λ i. grown (e i) (Text (x ∷ []) ⨾ no_nodes) (c i)) ∙ put_twice d (Text (x ∷ []) ⨾ no_nodes) (Text cs ⨾ no_nodes) old in
    let rest = letters_add (character x ∷ before) (cs ++ x ∷ []) ds d old e next in
    (rest.0 ∙ ap (λ t. grown d (Text t ⨾ no_nodes) old) (append_assoc cs (x ∷ []) ds), rest.1, rest.2)
  where
    plus : (d : ℕ) → d + 0 ≡ d
    plus d = omega arith

    put_twice : (d : ℕ) (x added nodes : Nodes) → grown d x (grown d added nodes) ≡ grown d (joined added x) nodes
    put_twice d x added nodes = ap (λ n. grown n x (grown d added nodes)) (sym (plus d)) ∙ grown_twice d 0 x added nodes tt

plus_none : (d : ℕ) → d + 0 ≡ d
plus_none d = omega arith

plus_one : (d : ℕ) → d + 1 ≡ suc d
plus_one d = omega arith

at_once : (d : ℕ) (x added nodes : Nodes) → grown d x (grown d added nodes) ≡ grown d (joined added x) nodes
at_once d x added nodes = ap (λ n. grown n x (grown d added nodes)) (sym (plus_none d)) ∙ grown_twice d 0 x added nodes tt

one_deeper : (d : ℕ) (name : Name) (attributes : List Attribute) (inner nodes : Nodes)
    → grown (suc d) inner (grown d (Element name attributes no_nodes ⨾ no_nodes) nodes) ≡ grown d (Element name attributes inner ⨾ no_nodes) nodes
one_deeper d name attributes inner nodes =
    ap (λ n. grown n inner (grown d (Element name attributes no_nodes ⨾ no_nodes) nodes)) (sym (plus_one d))
    ∙ grown_twice d 1 inner (Element name attributes no_nodes ⨾ no_nodes) nodes (Element name attributes no_nodes, refl, tt, tt)

joined_node : (tags : List Tag) (node : Node) (nodes : Nodes) → IsFragmentNode tags node nodes → joined (node ⨾ no_nodes) nodes ≡ node ⨾ nodes
joined_node tags (Element name attributes inner) nodes f = refl
joined_node tags (Text []) nodes f = absurd f
joined_node tags (Text (c ∷ cs)) no_nodes f = refl
joined_node tags (Text (c ∷ cs)) (Element name attributes inner ⨾ nodes) f = refl
joined_node tags (Text (c ∷ cs)) (Text ds ⨾ nodes) f = (let h : false ≡ true = f.1 in (cc))
joined_node tags (Text (c ∷ cs)) (Comment ds ⨾ nodes) f = refl
joined_node tags (Text (c ∷ cs)) (Instruction target content ⨾ nodes) f = refl
joined_node tags (Comment cs) nodes f = absurd f
joined_node tags (Instruction target content) nodes f = absurd f

positive : (d : ℕ) → 0 < suc d
positive d = omega arith

mutual
  nodes_add : (tags : List Tag) (before : List Item) (nodes : Nodes) → IsFragment tags nodes → Adds before (pieces_of nodes) nodes
  nodes_add tags before no_nodes f = record { content = sym (grown_none (depth before) (content_after before)); deep = refl; inside = λ s. s }
  nodes_add tags before (node ⨾ nodes) f =
      let p : List Piece = pieces_of_node node in
      let q : List Piece = pieces_of nodes in
      let mid : List Item = items_after p before in
      let first = node_adds tags before node nodes f.0 in
      let rest = nodes_add tags mid nodes f.1 in
      let all : items_after (p ++ q) before ≡ items_after q mid = after_join p q before in
      record {
        content = ap content_after all ∙ rest.content ∙ (λ i. grown (first.deep i) nodes (first.content i))
            ∙ at_once (depth before) nodes (node ⨾ no_nodes) (content_after before) ∙ ap (λ x. grown (depth before) x (content_after before)) (joined_node tags node nodes f.0);
        deep = ap depth all ∙ rest.deep ∙ first.deep;
        inside = λ s. subst StandInside (sym all) (rest.inside (first.inside s));
      }

  node_adds : (tags : List Tag) (before : List Item) (node : Node) (nodes : Nodes) → IsFragmentNode tags node nodes → Adds before (pieces_of_node node) (node ⨾ no_nodes)
  node_adds tags before (Element name attributes inner) nodes f =
      let d : ℕ = depth before in
      let start : List Item = start_tag name attributes ∷ before in
      let inside = nodes_add (record { name = name; attributes = attributes } ∷ tags) start inner f.4 in
      let there : List Item = items_after (pieces_of inner) start in
      let all : items_after (pieces_of inner ++ (end_of name ∷ [])) start ≡ end_tag name ∷ there = after_join (pieces_of inner) (end_of name ∷ []) start in
      record {
        content = ap content_after all ∙ grown_none (depth there) (content_after there) ∙ inside.content ∙ one_deeper d name attributes inner (content_after before);
        deep = ap depth all ∙ ap pred inside.deep;
        inside = λ s. subst StandInside (sym all) (subst (λ n. 0 < n) (sym inside.deep) (positive d), inside.inside s);
      }
  node_adds tags before (Text []) nodes f = absurd f
  node_adds tags before (Text (c ∷ cs)) nodes f =
      let l = letters_add (character c ∷ before) (c ∷ []) cs (depth before) (content_after before) refl refl in record { content = l.0; deep = l.1; inside = l.2 }
  node_adds tags before (Comment cs) nodes f = absurd f
  node_adds tags before (Instruction target content) nodes f = absurd f

-- The law.

first_other : (tags : List Tag) (nodes : Nodes) (d : ℕ) → IsFragment tags nodes → is_simple d ≡ false → nat_eq 0x3C d ≡ false → begins_with d (texts (pieces_of nodes)) ≡ false
first_other tags no_nodes d f h e = refl
first_other tags (Element name attributes inner ⨾ nodes) d f h e =
    ap (λ x. begins_with d ((x ++ 0x3E ∷ []) ++ texts ((pieces_of inner ++ (end_of name ∷ [])) ++ pieces_of nodes))) (one_more_char 0x3C (inside_of name attributes) (omega arith)) ∙ e
first_other tags (Text [] ⨾ nodes) d f h e = absurd f.0
first_other tags (Text (c ∷ cs) ⨾ nodes) d f h e = apart c d (and_parts (is_simple c) (list_all is_simple cs) f.0.0).0 h
first_other tags (Comment cs ⨾ nodes) d f h e = absurd f.0
first_other tags (Instruction target content ⨾ nodes) d f h e = absurd f.0

pub are_content : FragmentsAreContent
are_content tag outer nodes f =
    let tags : List Tag = tag ∷ outer in
    let text : texts (pieces_of nodes) ≡ written_octets nodes = nodes_text tags nodes f in
    let adds = nodes_add tags [] nodes f in
    let first : (d : ℕ) → is_simple d ≡ false → nat_eq 0x3C d ≡ false → begins_with d (written_octets nodes) ≡ false =
    λ d h e. ap (begins_with d) (sym text) ∙ first_other tags nodes d f h e in
    let c : IsContent tags (written_octets nodes) = record {
      pieces = pieces_of nodes;
      spelled = text;
      stand = (nodes_stand (begun tags) nodes closing tag outer f (open_begun tags)).stand;
      inside = adds.inside tt;
      whole = adds.deep;
      no_end = first 0xA refl refl;
      no_greater = first 0x3E refl refl;
      no_bracket = first 0x5D refl refl;
    } in
    (c, adds.content)
