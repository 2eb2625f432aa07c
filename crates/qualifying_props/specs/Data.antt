-- What is read of the elements that hold certificates, CRLs and tokens.
use Rattle.std.specs.Prelude.{◌≡◌, ℕ, List, [], ◌∷◌, ◌++◌, codes, filter, flat_map, map}
use Rattle.document_model.specs.Tree.{Nodes, Path}
use Rattle.doc_spans.specs.declared.documents.Doc.{Doc}
use Rattle.doc_spans.specs.Seen.{document_in}
use Rattle.signature_model.specs.Parts as model
use Rattle.signature_model.specs.Parts.{Datum, octets_or_none}
use Rattle.signature_model.specs.Readable.{is_bad}
use Rattle.signature_model.specs.Spots.{Spot, called, called_in, elements_in}
use Rattle.signature_model.specs.Vocabulary.{xades}
use Rattle.signature_parts.specs.declared.places.FirstPlace.{FirstPlace}
use Rattle.signature_parts.specs.Places.{Adds}
use Rattle.qualifying_props.specs.declared.kinds.DatumKind.{DatumKind}
use Rattle.qualifying_props.specs.declared.kinds.DatumKind.TheVariants.{Certificate, RevocationList, Token}
use Rattle.qualifying_props.specs.Whole.{is_whole}

abbrev pub datum_kind : DatumKind → model.DatumKind
datum_kind Certificate = model.Certificate
datum_kind RevocationList = model.RevocationList
datum_kind Token = model.Token

-- the octets of one, and of several; none where the text isn't base64
abbrev pub octets_of : Nodes → Datum → List ℕ
octets_of document datum = octets_or_none document (datum.spot ∷ [])

abbrev pub all_octets : Nodes → List Datum → List (List ℕ)
all_octets document all = map (octets_of document) all

-- the places of those that aren't base64 of one whole object
abbrev pub bad_places : Nodes → List Datum → List Path
bad_places document all = map (λ datum. datum.spot.path) (filter (is_bad is_whole document) all)

-- the octets of some stand behind those that were there, and of the bad ones the first is kept
pub record Reads (doc : Doc) (all : List Datum) (before now : List (List ℕ)) (kept kept_now : FirstPlace) : Type 0 where
  pub octets : now ≡ before ++ all_octets (document_in doc) all
  pub bad : Adds doc (bad_places (document_in doc) all) kept kept_now

-- the CRLs of a RevocationValues, and what stands in a TimeStampValidationData
abbrev pub lists_of : Nodes → Spot → List Datum
lists_of document values =
    model.as_kind model.RevocationList (called_in document (xades (codes "EncapsulatedCRLValue")) (called document (xades (codes "CRLValues")) values))

abbrev pub inner_data : Nodes → Spot → List Datum
inner_data document property = flat_map (model.data_of_values document) (filter model.is_values (elements_in document property))
