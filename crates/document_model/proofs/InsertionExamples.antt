-- Content that is put into documents.
use Rattle.std.specs.Prelude.{◌≡◌, refl, [], ◌∷◌, codes, List, ℕ}
use Rattle.std.specs.Str.{is_utf8, chars}
use Rattle.std.specs.Char.{encode_utf8}
use Rattle.document_model.specs.Insertion.{put_inside}
use Rattle.document_model.specs.Documents.{document_of}
use Rattle.document_model.specs.Names.{Name}
use Rattle.document_model.specs.Tree.{put_last, Element, Text, no_nodes, ◌⨾◌}
use Rattle.document_model.specs.Items.{piece_at}
use Rattle.document_model.specs.Scopes.{is_sound}

opened : put_inside (codes "<f/>") (0 ∷ 1 ∷ []) (codes "<r>x<p:u xmlns:p='v' /><p:u xmlns:p='w'></p:u></r>") ≡ codes "<r>x<p:u xmlns:p='v' ><f/></p:u><p:u xmlns:p='w'></p:u></r>"
unfolding is_utf8 chars encode_utf8 document_of piece_at is_sound
opened = refl

before_end : put_inside (codes "y<f/>") (0 ∷ []) (codes "<r><u/>x</r >\n") ≡ codes "<r><u/>xy<f/></r >\n"
unfolding is_utf8 chars encode_utf8 document_of piece_at is_sound
before_end = refl

name : List ℕ → Name
name local = record { prefix = []; local = local }

-- the text joins
tree_inside : put_last (Text (codes "y") ⨾ no_nodes) (0 ∷ []) (document_of (codes "<r><u/>x</r>"))
    ≡ Element (name (codes "r")) [] (Element (name (codes "u")) [] no_nodes ⨾ Text (codes "xy") ⨾ no_nodes) ⨾ no_nodes
unfolding is_utf8 chars encode_utf8 name document_of piece_at is_sound
tree_inside = refl
