-- The first faults of small documents.
use Rattle.std.specs.Prelude.{◌≡◌, refl, Some, None, [], ◌∷◌, ◌++◌, codes}
use Rattle.std.specs.Str.{is_utf8, chars}
use Rattle.std.specs.Char.{encode_utf8}
use Rattle.document_model.specs.Documents.{BadItem, Doctype, End, fault}
use Rattle.document_model.specs.Items.{piece_at}
use Rattle.document_model.specs.Scopes.{is_sound}

least_document : fault (codes "<a/>") ≡ None
unfolding is_utf8 chars encode_utf8 fault piece_at is_sound
least_document = refl

doctype : fault (codes "<!--c--><!DOCTYPE a><a/>") ≡ Some (Doctype 8)
unfolding is_utf8 chars encode_utf8 fault piece_at is_sound
doctype = refl

cut_tag : fault (codes "<a><b") ≡ Some (BadItem 3)
unfolding is_utf8 chars encode_utf8 fault piece_at is_sound
cut_tag = refl

no_bytes : fault (codes "") ≡ Some End
unfolding is_utf8 chars encode_utf8 fault piece_at is_sound
no_bytes = refl

unknown_entity : fault (codes "<a>&x;</a>") ≡ Some (BadItem 3)
unfolding is_utf8 chars encode_utf8 fault piece_at is_sound
unknown_entity = refl

brackets : fault (codes "<a>]]></a>") ≡ Some (BadItem 5)
unfolding is_utf8 chars encode_utf8 fault piece_at is_sound
brackets = refl

twice : fault (codes "<a b=\"1\" b=\"2\"/>") ≡ Some (BadItem 0)
unfolding is_utf8 chars encode_utf8 fault piece_at is_sound
twice = refl

undeclared : fault (codes "<p:a/>") ≡ Some (BadItem 0)
unfolding is_utf8 chars encode_utf8 fault piece_at is_sound
undeclared = refl

other_end : fault (codes "<a></b>") ≡ Some (BadItem 3)
unfolding is_utf8 chars encode_utf8 fault piece_at is_sound
other_end = refl

text_behind : fault (codes "<a/>x") ≡ Some (BadItem 4)
unfolding is_utf8 chars encode_utf8 fault piece_at is_sound
text_behind = refl

two_elements : fault (codes "<a/><b/>") ≡ Some (BadItem 4)
unfolding is_utf8 chars encode_utf8 fault piece_at is_sound
two_elements = refl

version : fault (codes "<?xml version=\"1.1\"?><a/>") ≡ Some (BadItem 0)
unfolding is_utf8 chars encode_utf8 fault piece_at is_sound
version = refl

zero : fault (codes "<a>&#0;</a>") ≡ Some (BadItem 3)
unfolding is_utf8 chars encode_utf8 fault piece_at is_sound
zero = refl

declared_prefixes : fault (codes "<b:a xmlns:b=\"u\" z=\"1\" b:y=\"2\" x=\"&#9;\"><c xmlns=\"\" xmlns:b=\"u\"/></b:a>") ≡ None
unfolding is_utf8 chars encode_utf8 fault piece_at is_sound
declared_prefixes = refl

nested_prefixes : fault (codes "<r xmlns=\"u\" xmlns:p=\"v\" xml:lang=\"de\"><p:x id=\"k\" a=\"1\"><y/></p:x></r>") ≡ None
unfolding is_utf8 chars encode_utf8 fault piece_at is_sound
nested_prefixes = refl

references_and_sections : fault (codes "<a t=\"x\r\ny\">p\r\nq<![CDATA[r\r\ns]]>&#13;</a>") ≡ None
unfolding is_utf8 chars encode_utf8 fault piece_at is_sound
references_and_sections = refl

outside_nodes : fault (codes "<?x 1?><!--c--><a/><!--d--><?y?>") ≡ None
unfolding is_utf8 chars encode_utf8 fault piece_at is_sound
outside_nodes = refl

bom_alone : fault (0xEF ∷ 0xBB ∷ 0xBF ∷ []) ≡ Some End
unfolding is_utf8 chars encode_utf8 fault piece_at is_sound
bom_alone = refl

bom_document : fault (0xEF ∷ 0xBB ∷ 0xBF ∷ codes "<?xml version='1.0'?> <a>\r\n</a>\r\n") ≡ None
unfolding is_utf8 chars encode_utf8 fault piece_at is_sound
bom_document = refl

bad_utf8 : fault (codes "<a>" ++ 0xC0 ∷ 0x80 ∷ []) ≡ Some (BadItem 3)
unfolding is_utf8 chars encode_utf8 fault piece_at is_sound
bad_utf8 = refl
