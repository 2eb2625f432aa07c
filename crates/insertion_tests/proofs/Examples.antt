-- Content in small documents, and what the new bytes spell.
use Rattle.std.specs.Prelude.{◌≡◌, refl, [], ◌∷◌, codes, List, ℕ, None}
use Rattle.std.specs.Str.{is_utf8, chars}
use Rattle.std.specs.Char.{encode_utf8}
use Rattle.document_model.specs.Names.{Name}
use Rattle.document_model.specs.Items.{piece_at, Piece, character, empty_tag}
use Rattle.document_model.specs.Tree.{put_last, Element, Text, no_nodes, ◌⨾◌}
use Rattle.document_model.specs.Scopes.{Tag, is_sound}
use Rattle.document_model.specs.Documents.{document_of, fault}
use Rattle.document_model.specs.Insertion.{put_inside}
use Rattle.insertions.specs.Content.{IsContent, nodes_of_content, SpellsWithin}
use Rattle.insertions.proofs.Law.{content_spelled}

name : List ℕ → Name
name local = record { prefix = []; local = local }

tag_a : List Tag
tag_a = record { name = name (codes "a"); attributes = [] } ∷ []

letter : ℕ → Piece
letter c = record { text = c ∷ []; item = character c }

x_content : IsContent tag_a (codes "x")
unfolding is_utf8 chars encode_utf8 piece_at is_sound name tag_a letter
x_content = record {
  pieces = letter 0x78 ∷ [];
  spelled = refl;
  stand = (refl, tt);
  inside = tt;
  whole = refl;
  no_end = refl;
  no_greater = refl;
  no_bracket = refl;
}

c_content : IsContent tag_a (codes "<c/>")
unfolding is_utf8 chars encode_utf8 piece_at is_sound name tag_a
c_content = record {
  pieces = record { text = codes "<c/>"; item = empty_tag (name (codes "c")) [] } ∷ [];
  spelled = refl;
  stand = (refl, tt);
  inside = tt;
  whole = refl;
  no_end = refl;
  no_greater = refl;
  no_bracket = refl;
}

joining : IsContent tag_a (codes "x<c/>")
unfolding is_utf8 chars encode_utf8 piece_at is_sound name tag_a letter
joining = record {
  pieces = letter 0x78 ∷ record { text = codes "<c/>"; item = empty_tag (name (codes "c")) [] } ∷ [];
  spelled = refl;
  stand = (refl, (refl, tt));
  inside = tt;
  whole = refl;
  no_end = refl;
  no_greater = refl;
  no_bracket = refl;
}

-- an empty tag is opened
opened_bytes : put_inside (codes "x") (0 ∷ []) (codes "<a/>") ≡ codes "<a>x</a>"
unfolding is_utf8 chars encode_utf8 document_of piece_at is_sound
opened_bytes = refl

opened_whole : fault (codes "<a>x</a>") ≡ None
unfolding is_utf8 chars encode_utf8 fault piece_at is_sound
opened_whole = refl

opened_tree : document_of (codes "<a>x</a>") ≡ Element (name (codes "a")) [] (Text (codes "x") ⨾ no_nodes) ⨾ no_nodes
unfolding is_utf8 chars encode_utf8 document_of piece_at is_sound name
opened_tree = refl

element_tree : put_inside (codes "<c/>") (0 ∷ []) (codes "<a>b</a>") ≡ codes "<a>b<c/></a>"
unfolding is_utf8 chars encode_utf8 document_of piece_at is_sound
element_tree = refl

-- text in front joins the text that is there
joined_tree : put_last (nodes_of_content joining) (0 ∷ []) (document_of (codes "<a>b</a>"))
    ≡ Element (name (codes "a")) [] (Text (codes "bx") ⨾ Element (name (codes "c")) [] no_nodes ⨾ no_nodes) ⨾ no_nodes
unfolding is_utf8 chars encode_utf8 document_of piece_at is_sound name joining letter tag_a
joined_tree = refl

joined_spelled : document_of (codes "<a>bx<c/></a>") ≡ Element (name (codes "a")) [] (Text (codes "bx") ⨾ Element (name (codes "c")) [] no_nodes ⨾ no_nodes) ⨾ no_nodes
unfolding is_utf8 chars encode_utf8 document_of piece_at is_sound name
joined_spelled = refl

-- the law at one of them
by_law : SpellsWithin (put_inside (codes "x") (0 ∷ []) (codes "<a/>")) (put_last (nodes_of_content x_content) (0 ∷ []) (document_of (codes "<a/>")))
unfolding is_utf8 chars encode_utf8 document_of fault piece_at is_sound name tag_a letter x_content
by_law = content_spelled (codes "x") (codes "<a/>") (0 ∷ []) refl (Element (name (codes "a")) [] no_nodes, refl, tt) x_content
