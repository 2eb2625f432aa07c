-- Forms that elements name.
use Rattle.std.specs.Prelude.{◌≡◌, refl, Some, None, [], ◌∷◌, codes, true, false}
use Rattle.std.specs.Str.{is_utf8, chars}
use Rattle.std.specs.Char.{encode_utf8}
use Rattle.document_model.specs.Documents.{document_of}
use Rattle.document_model.specs.Canonical.{Inclusive, Exclusive}
use Rattle.document_model.specs.Methods.{form_at}
use Rattle.document_model.specs.Items.{piece_at}
use Rattle.document_model.specs.Scopes.{is_sound}

listed : form_at (document_of (codes "<m Algorithm='http://www.w3.org/2001/10/xml-exc-c14n#WithComments'><x/> <e:InclusiveNamespaces xmlns:e='http://www.w3.org/2001/10/xml-exc-c14n#' PrefixList=' a #default\tb '/></m>")) (0 ∷ [])
    ≡ Some (record { rule = Exclusive (codes "a" ∷ [] ∷ codes "b" ∷ []); comments = true })
unfolding is_utf8 chars encode_utf8 document_of piece_at is_sound
listed = refl

plain : form_at (document_of (codes "<m Algorithm='http://www.w3.org/TR/2001/REC-xml-c14n-20010315'/>")) (0 ∷ []) ≡ Some (record { rule = Inclusive; comments = false })
unfolding is_utf8 chars encode_utf8 document_of piece_at is_sound
plain = refl

other : form_at (document_of (codes "<m Algorithm='u'/>")) (0 ∷ []) ≡ None
unfolding is_utf8 chars encode_utf8 document_of piece_at is_sound
other = refl
