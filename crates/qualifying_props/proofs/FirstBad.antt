-- The first bad value of all that were read.
use Rattle.std.proofs.Common.{◌≡◌, List, ◌++◌, None, sym}
use Rattle.doc_spans.specs.declared.documents.Doc.{Doc}
use Rattle.doc_spans.specs.Seen.{document_in}
use Rattle.signature_model.specs.Parts.{Datum}
use Rattle.signature_parts.specs.declared.places.FirstPlace.{FirstPlace}
use Rattle.signature_parts.specs.Places.{Adds, IsFirst}
use Rattle.signature_parts.proofs.Adding.{adds_as, adds_more, adds_first}
use Rattle.qualifying_props.specs.Data.{bad_places}
use Rattle.qualifying_props.proofs.Reading.{bad_places-append}

-- of two lists, where none was kept before
pub first_bad : (doc : Doc) (a b : List Datum) (x y z : FirstPlace) → x.node ≡ None → Adds doc (bad_places (document_in doc) a) x y → Adds doc (bad_places (document_in doc) b) y z
    → IsFirst doc (bad_places (document_in doc) (a ++ b)) z
first_bad doc a b x y z e h k =
    adds_first doc (bad_places (document_in doc) (a ++ b)) x z e
    (adds_as doc _ _ x z (sym (bad_places-append (document_in doc) a b)) (adds_more doc (bad_places (document_in doc) a) (bad_places (document_in doc) b) x y z h k))
