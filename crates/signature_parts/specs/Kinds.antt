-- What kinds in memory mean.
use Rattle.signature_model.specs.Parts as model
use Rattle.signature_parts.specs.declared.kinds.PropertyKind.{PropertyKind}
use Rattle.signature_parts.specs.declared.kinds.PropertyKind.TheVariants.{SignatureStamp, ArchiveStamp, Material, Passed}

abbrev pub kind_in : PropertyKind → model.PropertyKind
kind_in SignatureStamp = model.SignatureStamp
kind_in ArchiveStamp = model.ArchiveStamp
kind_in Material = model.Material
kind_in Passed = model.Passed
