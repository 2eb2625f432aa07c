-- Octets that are handed in for References: XML Signature 1.1, "The URI Attribute".
use Rattle.std.specs.Prelude.{◌&&◌, if◌then◌else◌, List, [], ◌∷◌, None, Some}
use Rattle.std.specs.Str.{chars}
use Rattle.document_model.specs.Characters.{◌is◌}
use Rattle.signature_model.specs.Chains.{Handed}
use Rattle.whole_files.specs.Roles.{is_external}
use Rattle.whole_files.specs.Wants.{Held}

-- the octets of the first file with a name, of those that are handed in for References
abbrev pub handed_by : List Held → Handed
handed_by [] wanted = None
handed_by (file ∷ files) wanted = if is_external file.role && (wanted is chars file.name) then Some file.bytes else handed_by files wanted
