-- The octets that are handed in.
use Rattle.std.specs.Prelude.{ℕ, if◌then◌else◌, List, [], ◌∷◌, Option, None, Some, string_bytes}
use Rattle.std.specs.Str.{chars}
use Rattle.document_model.specs.Characters.{◌is◌}
use Rattle.document_model.specs.Items.{or_else}
use Rattle.signature_model.specs.Chains.{Handed}
use Rattle.reference_chains.specs.declared.externals.File.{File}
use Rattle.reference_chains.specs.declared.externals.Externals.{Externals}

-- the octets of the first file with a name
abbrev pub look_up : List File → Handed
look_up [] name = None
look_up (file ∷ files) name = if name is chars (string_bytes file.name) then Some file.octets else look_up files name

abbrev pub handed_in : Externals → Handed
handed_in externals = look_up externals.files.items

-- one more name with its octets: of equal names the first counts
abbrev pub one_more : Handed → List ℕ → List ℕ → Handed
one_more handed name octets other = or_else (handed other) (if other is name then Some octets else None)
