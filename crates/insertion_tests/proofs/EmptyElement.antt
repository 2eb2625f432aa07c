-- An empty element without prefix and attributes is legal content of any element.
use Rattle.std.proofs.Common.{refl, sym, subst, [], ◌∷◌, codes, List}
use Rattle.std.specs.Str.{is_utf8, chars}
use Rattle.std.specs.Char.{encode_utf8}
use Rattle.document_model.specs.Items.{piece_at, empty_tag}
use Rattle.document_model.specs.Tree.{Node, Nodes, Path, Element, Text, Comment, Instruction, IsElement, IsElementAt}
use Rattle.document_model.specs.Scopes.{Tag, is_sound, with_tag_of, tags_at, elements_around}
use Rattle.doc_spans.proofs.Outward.{own_tag}
use Rattle.insertions.specs.Content.{IsContent}

c_content : (tag : Tag) (outer : List Tag) → IsContent (tag ∷ outer) (codes "<c/>")
unfolding is_utf8 chars encode_utf8 piece_at is_sound
c_content tag outer = record {
  pieces = record { text = codes "<c/>"; item = empty_tag (record { prefix = []; local = codes "c" }) [] } ∷ [];
  spelled = refl;
  stand = (refl, tt);
  inside = tt;
  whole = refl;
  no_end = refl;
  no_greater = refl;
  no_bracket = refl;
}

below_node : (node : Node) (outer : List Tag) → IsElement node → IsContent (with_tag_of node outer) (codes "<c/>")
below_node (Element name attributes nodes) outer is = c_content _ outer
below_node (Text cs) outer is = absurd is
below_node (Comment cs) outer is = absurd is
below_node (Instruction target content) outer is = absurd is

pub c_inside : (document : Nodes) (host : Path) → IsElementAt document host → IsContent (tags_at document host) (codes "<c/>")
c_inside document host e =
    subst (λ tags. IsContent tags (codes "<c/>")) (sym (own_tag document host e.0 e.1)) (below_node e.0 (elements_around document host) e.2)
