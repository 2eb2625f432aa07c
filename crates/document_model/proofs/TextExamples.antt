-- Canonical texts and targets of small documents.
use Rattle.std.specs.Prelude.{◌≡◌, refl, ℕ, List, [], ◌∷◌, codes, true, false}
use Rattle.std.specs.Str.{is_utf8, chars}
use Rattle.std.specs.Char.{encode_utf8}
use Rattle.document_model.specs.Documents.{document_of}
use Rattle.document_model.specs.NodeSets.{whole, subtree, without, without_signatures, reaches, has, target_of, Missing, Single, Double}
use Rattle.document_model.specs.Canonical.{Inclusive, Exclusive, Form, octets_of, text_of}
use Rattle.document_model.specs.Items.{piece_at}
use Rattle.document_model.specs.Scopes.{is_sound}

exclusive : Form
exclusive = record { rule = Exclusive []; comments = false }

exclusive_default : Form
exclusive_default = record { rule = Exclusive ([] ∷ []); comments = false }

with_comments : Form
with_comments = record { rule = Exclusive []; comments = true }

inclusive : Form
inclusive = record { rule = Inclusive; comments = false }

empty_tag : octets_of exclusive whole (document_of (codes "<a/>")) ≡ codes "<a></a>"
unfolding is_utf8 chars encode_utf8 exclusive exclusive_default with_comments inclusive document_of piece_at is_sound text_of
empty_tag = refl

declarations_and_order : octets_of exclusive whole (document_of (codes "<b:a xmlns:b=\"u\" z=\"1\" b:y=\"2\" x=\"&#9;\"><c xmlns=\"\" xmlns:b=\"u\"/></b:a>")) ≡ codes "<b:a xmlns:b=\"u\" x=\"&#x9;\" z=\"1\" b:y=\"2\"><c></c></b:a>"
unfolding is_utf8 chars encode_utf8 exclusive exclusive_default with_comments inclusive document_of piece_at is_sound text_of
declarations_and_order = refl

apex_exclusive : octets_of exclusive (subtree (0 ∷ 0 ∷ [])) (document_of (codes "<r xmlns=\"u\" xmlns:p=\"v\" xml:lang=\"de\"><p:x id=\"k\" a=\"1\"><y/></p:x></r>")) ≡ codes "<p:x xmlns:p=\"v\" a=\"1\" id=\"k\"><y xmlns=\"u\"></y></p:x>"
unfolding is_utf8 chars encode_utf8 exclusive exclusive_default with_comments inclusive document_of piece_at is_sound text_of
apex_exclusive = refl

apex_inclusive : octets_of inclusive (subtree (0 ∷ 0 ∷ [])) (document_of (codes "<r xmlns=\"u\" xmlns:p=\"v\" xml:lang=\"de\"><p:x id=\"k\" a=\"1\"><y/></p:x></r>")) ≡ codes "<p:x xmlns=\"u\" xmlns:p=\"v\" a=\"1\" id=\"k\" xml:lang=\"de\"><y></y></p:x>"
unfolding is_utf8 chars encode_utf8 exclusive exclusive_default with_comments inclusive document_of piece_at is_sound text_of
apex_inclusive = refl

apex_with_listed_default : octets_of exclusive_default (subtree (0 ∷ 0 ∷ [])) (document_of (codes "<r xmlns=\"u\" xmlns:p=\"v\" xml:lang=\"de\"><p:x id=\"k\" a=\"1\"><y/></p:x></r>")) ≡ codes "<p:x xmlns=\"u\" xmlns:p=\"v\" a=\"1\" id=\"k\"><y></y></p:x>"
unfolding is_utf8 chars encode_utf8 exclusive exclusive_default with_comments inclusive document_of piece_at is_sound text_of
apex_with_listed_default = refl

line_ends : octets_of exclusive whole (document_of (codes "<a t=\"x\r\ny\">p\r\nq<![CDATA[r\r\ns]]>&#13;</a>")) ≡ codes "<a t=\"x y\">p\nqr\ns&#xD;</a>"
unfolding is_utf8 chars encode_utf8 exclusive exclusive_default with_comments inclusive document_of piece_at is_sound text_of
line_ends = refl

outside_lines : octets_of exclusive whole (document_of (codes "<?x 1?><!--c--><a/><!--d--><?y?>")) ≡ codes "<?x 1?>\n<a></a>\n<?y?>"
unfolding is_utf8 chars encode_utf8 exclusive exclusive_default with_comments inclusive document_of piece_at is_sound text_of
outside_lines = refl

outside_comments : octets_of with_comments whole (document_of (codes "<?x 1?><!--c--><a/><!--d--><?y?>")) ≡ codes "<?x 1?>\n<!--c-->\n<a></a>\n<!--d-->\n<?y?>"
unfolding is_utf8 chars encode_utf8 exclusive exclusive_default with_comments inclusive document_of piece_at is_sound text_of
outside_comments = refl

apex_outside : octets_of with_comments (subtree (3 ∷ [])) (document_of (codes "<?x 1?><!--c--><a/><!--d--><?y?>")) ≡ codes "\n<!--d-->"
unfolding is_utf8 chars encode_utf8 exclusive exclusive_default with_comments inclusive document_of piece_at is_sound text_of
apex_outside = refl

undeclared_default : octets_of inclusive whole (document_of (codes "<r xmlns=\"u\"><a xmlns=\"\"><b/></a></r>")) ≡ codes "<r xmlns=\"u\"><a xmlns=\"\"><b></b></a></r>"
unfolding is_utf8 chars encode_utf8 exclusive exclusive_default with_comments inclusive document_of piece_at is_sound text_of
undeclared_default = refl

undeclared_exclusive : octets_of exclusive whole (document_of (codes "<r xmlns=\"u\"><p:q xmlns:p=\"v\"><a xmlns=\"\"><b/></a></p:q></r>")) ≡ codes "<r xmlns=\"u\"><p:q xmlns:p=\"v\"><a xmlns=\"\"><b></b></a></p:q></r>"
unfolding is_utf8 chars encode_utf8 exclusive exclusive_default with_comments inclusive document_of piece_at is_sound text_of
undeclared_exclusive = refl

two_with_the_identifier : target_of (codes "x") (document_of (codes "<r><a Id=\"x\"/><b ID=\"x\"/></r>")) ≡ Double
unfolding is_utf8 chars encode_utf8 document_of piece_at is_sound text_of
two_with_the_identifier = refl

none_with_the_identifier : target_of (codes "y") (document_of (codes "<r><a Id=\"x\"/><b ID=\"x\"/></r>")) ≡ Missing
unfolding is_utf8 chars encode_utf8 document_of piece_at is_sound text_of
none_with_the_identifier = refl

identifier_with_a_prefix : target_of (codes "x") (document_of (codes "<r xmlns:p=\"u\"><a p:id=\"x\"/></r>")) ≡ Missing
unfolding is_utf8 chars encode_utf8 document_of piece_at is_sound text_of
identifier_with_a_prefix = refl

one_with_the_identifier : target_of (codes "k") (document_of (codes "<r xmlns=\"u\" xmlns:p=\"v\" xml:lang=\"de\"><p:x id=\"k\" a=\"1\"><y/></p:x></r>")) ≡ Single (0 ∷ 0 ∷ [])
unfolding is_utf8 chars encode_utf8 document_of piece_at is_sound text_of
one_with_the_identifier = refl

enveloped : octets_of inclusive (without whole (0 ∷ 1 ∷ [])) (document_of (codes "<r>a<s>b</s>c</r>")) ≡ codes "<r>ac</r>"
unfolding is_utf8 chars encode_utf8 inclusive document_of piece_at is_sound text_of
enveloped = refl

-- the canonical text of a canonical text is itself
apex_again : octets_of inclusive whole (document_of (codes "<p:x xmlns=\"u\" xmlns:p=\"v\" a=\"1\" id=\"k\" xml:lang=\"de\"><y></y></p:x>")) ≡ codes "<p:x xmlns=\"u\" xmlns:p=\"v\" a=\"1\" id=\"k\" xml:lang=\"de\"><y></y></p:x>"
unfolding is_utf8 chars encode_utf8 exclusive with_comments inclusive document_of piece_at is_sound text_of
apex_again = refl

all_kinds : octets_of with_comments whole (document_of (codes "<?x   1?><!--c--><a t=\"x\r\ny&#xD;&#xA;&quot;\">p\r\nq<![CDATA[r\r\n<s>]]>&#13;]]&gt;<?y?></a><!--d-->")) ≡ codes "<?x 1?>\n<!--c-->\n<a t=\"x y&#xD;&#xA;&quot;\">p\nqr\n&lt;s&gt;&#xD;]]&gt;<?y?></a>\n<!--d-->"
unfolding is_utf8 chars encode_utf8 exclusive with_comments inclusive document_of piece_at is_sound text_of
all_kinds = refl

all_kinds_again : octets_of with_comments whole (document_of (codes "<?x 1?>\n<!--c-->\n<a t=\"x y&#xD;&#xA;&quot;\">p\nqr\n&lt;s&gt;&#xD;]]&gt;<?y?></a>\n<!--d-->")) ≡ codes "<?x 1?>\n<!--c-->\n<a t=\"x y&#xD;&#xA;&quot;\">p\nqr\n&lt;s&gt;&#xD;]]&gt;<?y?></a>\n<!--d-->"
unfolding is_utf8 chars encode_utf8 exclusive with_comments inclusive document_of piece_at is_sound text_of
all_kinds_again = refl

-- Before and behind the document element are by the document, also where the element, or another node, is taken away.
no_element : octets_of exclusive (without whole (2 ∷ [])) (document_of (codes "<?x 1?><!--c--><a/><!--d--><?y?>")) ≡ codes "<?x 1?>\n\n<?y?>"
unfolding is_utf8 chars encode_utf8 exclusive with_comments inclusive document_of piece_at is_sound text_of
no_element = refl

no_element_comments : octets_of with_comments (without whole (2 ∷ [])) (document_of (codes "<?x 1?><!--c--><a/><!--d--><?y?>")) ≡ codes "<?x 1?>\n<!--c-->\n\n<!--d-->\n<?y?>"
unfolding is_utf8 chars encode_utf8 exclusive with_comments inclusive document_of piece_at is_sound text_of
no_element_comments = refl

no_element_inclusive : octets_of inclusive (without whole (2 ∷ [])) (document_of (codes "<?x 1?><!--c--><a/><!--d--><?y?>")) ≡ codes "<?x 1?>\n\n<?y?>"
unfolding is_utf8 chars encode_utf8 exclusive with_comments inclusive document_of piece_at is_sound text_of
no_element_inclusive = refl

no_element_front : octets_of with_comments (without whole (0 ∷ [])) (document_of (codes "<a/><!--d--><?y?>")) ≡ codes "\n<!--d-->\n<?y?>"
unfolding is_utf8 chars encode_utf8 exclusive with_comments inclusive document_of piece_at is_sound text_of
no_element_front = refl

no_element_behind : octets_of with_comments (without whole (2 ∷ [])) (document_of (codes "<?x 1?><!--c--><a/>")) ≡ codes "<?x 1?>\n<!--c-->\n"
unfolding is_utf8 chars encode_utf8 exclusive with_comments inclusive document_of piece_at is_sound text_of
no_element_behind = refl

no_front_node : octets_of with_comments (without whole (0 ∷ [])) (document_of (codes "<?x 1?><!--c--><a/><!--d--><?y?>")) ≡ codes "<!--c-->\n<a></a>\n<!--d-->\n<?y?>"
unfolding is_utf8 chars encode_utf8 exclusive with_comments inclusive document_of piece_at is_sound text_of
no_front_node = refl

no_behind_node : octets_of with_comments (without whole (3 ∷ [])) (document_of (codes "<?x 1?><!--c--><a/><!--d--><?y?>")) ≡ codes "<?x 1?>\n<!--c-->\n<a></a>\n<?y?>"
unfolding is_utf8 chars encode_utf8 exclusive with_comments inclusive document_of piece_at is_sound text_of
no_behind_node = refl

-- an apex outside the document element, and the document element as apex
apex_front : octets_of exclusive (subtree (0 ∷ [])) (document_of (codes "<?x 1?><!--c--><a/><!--d--><?y?>")) ≡ codes "<?x 1?>\n"
unfolding is_utf8 chars encode_utf8 exclusive with_comments inclusive document_of piece_at is_sound text_of
apex_front = refl

apex_front_comment : octets_of with_comments (subtree (1 ∷ [])) (document_of (codes "<?x 1?><!--c--><a/><!--d--><?y?>")) ≡ codes "<!--c-->\n"
unfolding is_utf8 chars encode_utf8 exclusive with_comments inclusive document_of piece_at is_sound text_of
apex_front_comment = refl

apex_front_no_comment : octets_of exclusive (subtree (1 ∷ [])) (document_of (codes "<?x 1?><!--c--><a/><!--d--><?y?>")) ≡ []
unfolding is_utf8 chars encode_utf8 exclusive with_comments inclusive document_of piece_at is_sound text_of
apex_front_no_comment = refl

apex_behind : octets_of inclusive (subtree (4 ∷ [])) (document_of (codes "<?x 1?><!--c--><a/><!--d--><?y?>")) ≡ codes "\n<?y?>"
unfolding is_utf8 chars encode_utf8 exclusive with_comments inclusive document_of piece_at is_sound text_of
apex_behind = refl

apex_behind_no_comment : octets_of exclusive (subtree (3 ∷ [])) (document_of (codes "<?x 1?><!--c--><a/><!--d--><?y?>")) ≡ []
unfolding is_utf8 chars encode_utf8 exclusive with_comments inclusive document_of piece_at is_sound text_of
apex_behind_no_comment = refl

apex_element : octets_of with_comments (subtree (2 ∷ [])) (document_of (codes "<?x 1?><!--c--><a/><!--d--><?y?>")) ≡ codes "<a></a>"
unfolding is_utf8 chars encode_utf8 exclusive with_comments inclusive document_of piece_at is_sound text_of
apex_element = refl

apex_removed : octets_of with_comments (without (subtree (2 ∷ [])) (2 ∷ [])) (document_of (codes "<?x 1?><!--c--><a/><!--d--><?y?>")) ≡ []
unfolding is_utf8 chars encode_utf8 exclusive with_comments inclusive document_of piece_at is_sound text_of
apex_removed = refl

apex_nowhere : octets_of with_comments (subtree (5 ∷ [])) (document_of (codes "<?x 1?><!--c--><a/><!--d--><?y?>")) ≡ []
unfolding is_utf8 chars encode_utf8 exclusive with_comments inclusive document_of piece_at is_sound text_of
apex_nowhere = refl

apex_comment_inside : octets_of with_comments (subtree (0 ∷ 0 ∷ [])) (document_of (codes "<a><!--c--></a>")) ≡ codes "<!--c-->"
unfolding is_utf8 chars encode_utf8 exclusive with_comments inclusive document_of piece_at is_sound text_of
apex_comment_inside = refl

-- all signatures taken away, by their expanded name
no_signatures : octets_of exclusive (without_signatures whole) (document_of (codes "<r xmlns:s=\"http://www.w3.org/2000/09/xmldsig#\">a<s:Signature Id=\"k\"><b/><s:Signature/></s:Signature>b<Signature xmlns=\"http://www.w3.org/2000/09/xmldsig#\"/><Signature/><c xmlns:s=\"u\"><s:Signature/></c><s:signature/></r>")) ≡ codes "<r>ab<Signature></Signature><c><s:Signature xmlns:s=\"u\"></s:Signature></c><s:signature xmlns:s=\"http://www.w3.org/2000/09/xmldsig#\"></s:signature></r>"
unfolding is_utf8 chars encode_utf8 exclusive with_comments inclusive document_of piece_at is_sound text_of
no_signatures = refl

no_signatures_below : octets_of exclusive (without_signatures (subtree (0 ∷ 1 ∷ 0 ∷ []))) (document_of (codes "<r xmlns:s=\"http://www.w3.org/2000/09/xmldsig#\">a<s:Signature Id=\"k\"><b/><s:Signature/></s:Signature>b<Signature xmlns=\"http://www.w3.org/2000/09/xmldsig#\"/><Signature/><c xmlns:s=\"u\"><s:Signature/></c><s:signature/></r>")) ≡ []
unfolding is_utf8 chars encode_utf8 exclusive with_comments inclusive document_of piece_at is_sound text_of
no_signatures_below = refl

signatures_below : octets_of exclusive (subtree (0 ∷ 1 ∷ 0 ∷ [])) (document_of (codes "<r xmlns:s=\"http://www.w3.org/2000/09/xmldsig#\">a<s:Signature Id=\"k\"><b/><s:Signature/></s:Signature>b<Signature xmlns=\"http://www.w3.org/2000/09/xmldsig#\"/><Signature/><c xmlns:s=\"u\"><s:Signature/></c><s:signature/></r>")) ≡ codes "<b></b>"
unfolding is_utf8 chars encode_utf8 exclusive with_comments inclusive document_of piece_at is_sound text_of
signatures_below = refl

no_signature_element : octets_of with_comments (without_signatures whole) (document_of (codes "<?x 1?><!--c--><Signature xmlns=\"http://www.w3.org/2000/09/xmldsig#\">x</Signature><!--d--><?y?>")) ≡ codes "<?x 1?>\n<!--c-->\n\n<!--d-->\n<?y?>"
unfolding is_utf8 chars encode_utf8 exclusive with_comments inclusive document_of piece_at is_sound text_of
no_signature_element = refl

signed : List ℕ
signed = codes "<r xmlns:s=\"http://www.w3.org/2000/09/xmldsig#\">a<s:Signature Id=\"k\"><b/><s:Signature/></s:Signature>b<Signature xmlns=\"http://www.w3.org/2000/09/xmldsig#\"/><Signature/><c xmlns:s=\"u\"><s:Signature/></c><s:signature/></r>"

not_reached_inside : reaches (without_signatures whole) (document_of signed) (0 ∷ 1 ∷ 0 ∷ []) ≡ false
unfolding is_utf8 chars encode_utf8 document_of piece_at is_sound signed
not_reached_inside = refl

reached_behind : reaches (without_signatures whole) (document_of signed) (0 ∷ 2 ∷ []) ≡ true
unfolding is_utf8 chars encode_utf8 document_of piece_at is_sound signed
reached_behind = refl

has_text : has (without_signatures whole) (document_of signed) (0 ∷ 0 ∷ []) ≡ true
unfolding is_utf8 chars encode_utf8 document_of piece_at is_sound signed
has_text = refl

has_no_signature : has (without_signatures whole) (document_of signed) (0 ∷ 3 ∷ []) ≡ false
unfolding is_utf8 chars encode_utf8 document_of piece_at is_sound signed
has_no_signature = refl
