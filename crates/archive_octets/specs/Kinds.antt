-- What kinds of time-stamps mean: EN 319 132-1, clauses 5.3 and 5.5.2.
use Rattle.archive_octets.specs.declared.kinds.StampKind.{StampKind}
use Rattle.archive_octets.specs.declared.kinds.StampKind.TheVariants.{Signature, Archive}
use Rattle.signature_model.specs.Parts.{PropertyKind, SignatureStamp, ArchiveStamp}

abbrev pub kind_in : StampKind → PropertyKind
kind_in Signature = SignatureStamp
kind_in Archive = ArchiveStamp
