-- further cases, on namespaces, white space, quotes, sections and places
use Rattle.std.specs.Prelude.{◌≡◌, refl, Some, None, ◌∷◌, ◌++◌, codes}
use Rattle.std.specs.Str.{is_utf8, chars}
use Rattle.std.specs.Char.{encode_utf8}
use Rattle.document_model.specs.Documents.{BadItem, Doctype, End, fault}
use Rattle.document_model.specs.Items.{piece_at}
use Rattle.document_model.specs.Scopes.{is_sound}

xml_prefix : fault (codes "<a xml:lang=\"de\"/>") ≡ None
unfolding is_utf8 chars encode_utf8 fault piece_at is_sound
xml_prefix = refl

xml_bound_right : fault (codes "<a xmlns:xml=\"http://www.w3.org/XML/1998/namespace\"/>") ≡ None
unfolding is_utf8 chars encode_utf8 fault piece_at is_sound
xml_bound_right = refl

xml_bound_wrong : fault (codes "<a xmlns:xml=\"u\"/>") ≡ Some (BadItem 0)
unfolding is_utf8 chars encode_utf8 fault piece_at is_sound
xml_bound_wrong = refl

other_bound_to_xml : fault (codes "<a xmlns:p=\"http://www.w3.org/XML/1998/namespace\"/>") ≡ Some (BadItem 0)
unfolding is_utf8 chars encode_utf8 fault piece_at is_sound
other_bound_to_xml = refl

default_bound_to_xml : fault (codes "<a xmlns=\"http://www.w3.org/XML/1998/namespace\"/>") ≡ Some (BadItem 0)
unfolding is_utf8 chars encode_utf8 fault piece_at is_sound
default_bound_to_xml = refl

bound_to_xmlns : fault (codes "<a xmlns:p=\"http://www.w3.org/2000/xmlns/\"/>") ≡ Some (BadItem 0)
unfolding is_utf8 chars encode_utf8 fault piece_at is_sound
bound_to_xmlns = refl

default_to_xmlns : fault (codes "<a xmlns=\"http://www.w3.org/2000/xmlns/\"/>") ≡ Some (BadItem 0)
unfolding is_utf8 chars encode_utf8 fault piece_at is_sound
default_to_xmlns = refl

empty_prefix : fault (codes "<a xmlns:p=\"\"/>") ≡ Some (BadItem 0)
unfolding is_utf8 chars encode_utf8 fault piece_at is_sound
empty_prefix = refl

empty_default : fault (codes "<a xmlns=\"u\"><b xmlns=\"\"/></a>") ≡ None
unfolding is_utf8 chars encode_utf8 fault piece_at is_sound
empty_default = refl

xmlns_declared : fault (codes "<a xmlns:xmlns=\"u\"/>") ≡ Some (BadItem 0)
unfolding is_utf8 chars encode_utf8 fault piece_at is_sound
xmlns_declared = refl

xmlns_element : fault (codes "<xmlns:a/>") ≡ Some (BadItem 0)
unfolding is_utf8 chars encode_utf8 fault piece_at is_sound
xmlns_element = refl

same_expanded : fault (codes "<a xmlns:p=\"u\" xmlns:q=\"u\" p:x=\"\" q:x=\"\"/>") ≡ Some (BadItem 0)
unfolding is_utf8 chars encode_utf8 fault piece_at is_sound
same_expanded = refl

default_not_for_attributes : fault (codes "<a xmlns=\"u\" xmlns:q=\"u\" x=\"\" q:x=\"\"/>") ≡ None
unfolding is_utf8 chars encode_utf8 fault piece_at is_sound
default_not_for_attributes = refl

out_of_scope : fault (codes "<a><b xmlns:p=\"u\"/><p:c/></a>") ≡ Some (BadItem 19)
unfolding is_utf8 chars encode_utf8 fault piece_at is_sound
out_of_scope = refl

end_with_space : fault (codes "<a></a \t>") ≡ None
unfolding is_utf8 chars encode_utf8 fault piece_at is_sound
end_with_space = refl

end_prefix : fault (codes "<p:a xmlns:p=\"u\" xmlns:q=\"u\"></q:a>") ≡ Some (BadItem 29)
unfolding is_utf8 chars encode_utf8 fault piece_at is_sound
end_prefix = refl

no_space_between : fault (codes "<a b=\"1\"c=\"2\"/>") ≡ Some (BadItem 0)
unfolding is_utf8 chars encode_utf8 fault piece_at is_sound
no_space_between = refl

less_in_value : fault (codes "<a b=\"<\"/>") ≡ Some (BadItem 0)
unfolding is_utf8 chars encode_utf8 fault piece_at is_sound
less_in_value = refl

greater_in_value : fault (codes "<a b=\">\" c='\"'>></a>") ≡ None
unfolding is_utf8 chars encode_utf8 fault piece_at is_sound
greater_in_value = refl

bare_ampersand : fault (codes "<a b=\"&\"/>") ≡ Some (BadItem 0)
unfolding is_utf8 chars encode_utf8 fault piece_at is_sound
bare_ampersand = refl

reference_outside : fault (codes "<a/>&#32;") ≡ Some (BadItem 4)
unfolding is_utf8 chars encode_utf8 fault piece_at is_sound
reference_outside = refl

brackets_by_reference : fault (codes "<a>]]&gt;&#93;]></a>") ≡ None
unfolding is_utf8 chars encode_utf8 fault piece_at is_sound
brackets_by_reference = refl

brackets_over_cdata : fault (codes "<a>]]<![CDATA[]]>></a>") ≡ None
unfolding is_utf8 chars encode_utf8 fault piece_at is_sound
brackets_over_cdata = refl

comment_of_greater : fault (codes "<a><!-->--></a>") ≡ None
unfolding is_utf8 chars encode_utf8 fault piece_at is_sound
comment_of_greater = refl

comment_of_dashes : fault (codes "<a><!-- -- --></a>") ≡ Some (BadItem 3)
unfolding is_utf8 chars encode_utf8 fault piece_at is_sound
comment_of_dashes = refl

comment_end : fault (codes "<a><!-- ---></a>") ≡ Some (BadItem 3)
unfolding is_utf8 chars encode_utf8 fault piece_at is_sound
comment_end = refl

cdata_of_brackets : fault (codes "<a><![CDATA[]]]]></a>") ≡ None
unfolding is_utf8 chars encode_utf8 fault piece_at is_sound
cdata_of_brackets = refl

cdata_outside : fault (codes "<![CDATA[]]><a/>") ≡ Some (BadItem 0)
unfolding is_utf8 chars encode_utf8 fault piece_at is_sound
cdata_outside = refl

doctype_behind : fault (codes "<a/><!DOCTYPE a>") ≡ Some (BadItem 4)
unfolding is_utf8 chars encode_utf8 fault piece_at is_sound
doctype_behind = refl

doctype_inside : fault (codes "<a><!DOCTYPE a></a>") ≡ Some (BadItem 3)
unfolding is_utf8 chars encode_utf8 fault piece_at is_sound
doctype_inside = refl

doctype_behind_space : fault (codes " \r\n<!DOCTYPE") ≡ Some (Doctype 3)
unfolding is_utf8 chars encode_utf8 fault piece_at is_sound
doctype_behind_space = refl

late_declaration : fault (codes " <?xml version=\"1.0\"?><a/>") ≡ Some (BadItem 1)
unfolding is_utf8 chars encode_utf8 fault piece_at is_sound
late_declaration = refl

two_declarations : fault (codes "<?xml version=\"1.0\"?><?xml version=\"1.0\"?><a/>") ≡ Some (BadItem 21)
unfolding is_utf8 chars encode_utf8 fault piece_at is_sound
two_declarations = refl

encoding : fault (codes "<?xml version=\"1.0\" encoding=\"Utf-8\"?><a/>") ≡ None
unfolding is_utf8 chars encode_utf8 fault piece_at is_sound
encoding = refl

other_encoding : fault (codes "<?xml version=\"1.0\" encoding=\"utf-16\"?><a/>") ≡ Some (BadItem 0)
unfolding is_utf8 chars encode_utf8 fault piece_at is_sound
other_encoding = refl

standalone_first : fault (codes "<?xml version=\"1.0\" standalone=\"yes\" encoding=\"utf-8\"?><a/>") ≡ Some (BadItem 0)
unfolding is_utf8 chars encode_utf8 fault piece_at is_sound
standalone_first = refl

stylesheet : fault (codes "<?xml-stylesheet href=\"a\"?><a/>") ≡ None
unfolding is_utf8 chars encode_utf8 fault piece_at is_sound
stylesheet = refl

xml_target : fault (codes "<a><?XmL x?></a>") ≡ Some (BadItem 3)
unfolding is_utf8 chars encode_utf8 fault piece_at is_sound
xml_target = refl

colon_target : fault (codes "<?a:b?><a/>") ≡ Some (BadItem 0)
unfolding is_utf8 chars encode_utf8 fault piece_at is_sound
colon_target = refl

white_alone : fault (codes " \t\r\n") ≡ Some End
unfolding is_utf8 chars encode_utf8 fault piece_at is_sound
white_alone = refl

cut_comment : fault (codes "<a/><!--") ≡ Some (BadItem 4)
unfolding is_utf8 chars encode_utf8 fault piece_at is_sound
cut_comment = refl

cut_in_element : fault (codes "<a>x") ≡ Some End
unfolding is_utf8 chars encode_utf8 fault piece_at is_sound
cut_in_element = refl

two_colons : fault (codes "<a:b:c xmlns:a=\"u\"/>") ≡ Some (BadItem 0)
unfolding is_utf8 chars encode_utf8 fault piece_at is_sound
two_colons = refl

digit_first : fault (codes "<1/>") ≡ Some (BadItem 0)
unfolding is_utf8 chars encode_utf8 fault piece_at is_sound
digit_first = refl

surrogate : fault (codes "<a>&#xD800;</a>") ≡ Some (BadItem 3)
unfolding is_utf8 chars encode_utf8 fault piece_at is_sound
surrogate = refl

high : fault (codes "<a>&#x10FFFF;&#x00000041;</a>") ≡ None
unfolding is_utf8 chars encode_utf8 fault piece_at is_sound
high = refl

control : fault (codes "<a>" ++ 1 ∷ codes "</a>") ≡ Some (BadItem 3)
unfolding is_utf8 chars encode_utf8 fault piece_at is_sound
control = refl

carriage_return : fault (codes "<a>\r</a>\r") ≡ None
unfolding is_utf8 chars encode_utf8 fault piece_at is_sound
carriage_return = refl
