-- The files that a command wants, in the order of its words.
use Rattle.std.specs.Prelude.{List, [], ◌∷◌, map}
use Rattle.command_words.specs.Asked.{Asked, AskedCanon, AskedOctets, AskedPrepare, AskedAttach, AskedValidate}
use Rattle.command_words.specs.Attaching.{attach_wants}
use Rattle.command_words.specs.Preparing.{prepare_wants}
use Rattle.command_words.specs.Validating.{validate_wants}
use Rattle.command_words.specs.Wanting.{document_want, external_want}
use Rattle.whole_files.specs.Wants.{Want}

abbrev pub wants_of : Asked → List Want
wants_of (AskedCanon document form id) = document_want document ∷ []
wants_of (AskedOctets document purpose externals) = document_want document ∷ map external_want externals
wants_of (AskedPrepare prepares) = prepare_wants prepares
wants_of (AskedAttach attaches) = attach_wants attaches
wants_of (AskedValidate validates) = validate_wants validates
