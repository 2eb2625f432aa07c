-- Items at the front of texts.
use Rattle.std.specs.Prelude.{◌≡◌, refl, Option, Some, None, [], ◌∷◌, codes, List, ℕ}
use Rattle.document_model.specs.Characters.{with_line_ends}
use Rattle.std.specs.Prelude.{option_map}
use Rattle.std.specs.Str.{is_utf8, chars}
use Rattle.std.specs.Char.{encode_utf8}
use Rattle.document_model.specs.Items.{Item, piece_at, empty_tag, comment, instruction, declaration}

item_of_text : List ℕ → Option Item
item_of_text text = option_map (λ found. found.0.item) (piece_at text)

ends : with_line_ends (codes "a\r\nb\rc\r\n\r") ≡ codes "a\nb\nc\n\n"
ends = refl

a_comment : item_of_text (codes "<!-- a - b -->") ≡ Some (comment (codes " a - b "))
unfolding is_utf8 chars encode_utf8 item_of_text piece_at
a_comment = refl

no_comment : item_of_text (codes "<!-- a --->") ≡ None
unfolding is_utf8 chars encode_utf8 item_of_text piece_at
no_comment = refl

a_tag : item_of_text (codes "<b:a x = '>\t&#x41;&lt;'  />") ≡ Some (empty_tag (record { prefix = codes "b"; local = codes "a" }) (record { name = record { prefix = []; local = codes "x" }; value = codes "> A<" } ∷ []))
unfolding is_utf8 chars encode_utf8 item_of_text piece_at
a_tag = refl

a_declaration : item_of_text (codes "<?xml version='1.0' encoding=\"utf-8\" standalone='no' ?>") ≡ Some declaration
unfolding is_utf8 chars encode_utf8 item_of_text piece_at
a_declaration = refl

an_instruction : item_of_text (codes "<?xm l  m?>") ≡ Some (instruction (codes "xm") (codes "l  m"))
unfolding is_utf8 chars encode_utf8 item_of_text piece_at
an_instruction = refl
