-- Which time-stamps a signature has: EN 319 132-1, clauses 5.3 and 5.5.2.
use Rattle.std.specs.Prelude.{Bool, true, false}
use Rattle.std.specs.List.{list_any}
use Rattle.archive_octets.specs.declared.kinds.StampKind.{StampKind}
use Rattle.archive_octets.specs.declared.kinds.StampKind.TheVariants as stamps
use Rattle.document_model.specs.Tree.{Nodes}
use Rattle.signature_model.specs.Parts.{PropertyKind, SignatureStamp, ArchiveStamp, Material, Passed, kind_of, properties}
use Rattle.signature_model.specs.Spots.{Spot}

-- whether a property of a kind is a time-stamp of a kind
abbrev pub is_of : StampKind → PropertyKind → Bool
is_of stamps.Signature SignatureStamp = true
is_of stamps.Signature ArchiveStamp = false
is_of stamps.Signature Material = false
is_of stamps.Signature Passed = false
is_of stamps.Archive SignatureStamp = false
is_of stamps.Archive ArchiveStamp = true
is_of stamps.Archive Material = false
is_of stamps.Archive Passed = false

abbrev pub has_stamp : StampKind → Nodes → Spot → Bool
has_stamp kind document signature = list_any (λ property. is_of kind (kind_of property)) (properties document signature)
