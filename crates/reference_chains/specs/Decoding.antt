-- The text that a chain decodes: XML Signature 1.1, "Base64".
use Rattle.std.specs.Prelude.{ℕ, ◌-◌, ◌^◌, min, if◌then◌else◌, List, [], Option, None, Some, unwrap_or}
use Rattle.std.specs.Option.{option_map_or}
use Rattle.document_model.specs.Tree.{Nodes, Path}
use Rattle.document_model.specs.NodeSets.{part}
use Rattle.signature_model.specs.Spots.{Spot}
use Rattle.signature_model.specs.Base64.{skipping, is_strict, fault_in}
use Rattle.signature_model.specs.Chains.{Handed, place, node_set, handed_in, texts}

-- the octets that a text spells where white space is skipped, and none where it isn't base64
abbrev pub decoded : List ℕ → List ℕ
decoded text = unwrap_or (skipping text) []

-- the text of the nodes of a Reference, or the octets that are handed in, each as the character of its number
abbrev pub characters_of : Handed → Nodes → Path → Spot → Option (List ℕ)
characters_of handed document signature reference =
    option_map_or (λ set. Some (texts (part set document))) (node_set document signature reference) (handed_in handed (place reference) reference)

-- the greatest place that is told
abbrev pub last_told : ℕ
last_told = 2 ^ 32 - 1

-- the place at which a text without white space stops to be base64, where it does
abbrev pub fault_told : List ℕ → Option ℕ
fault_told text = if is_strict text then None else Some (min (fault_in text) last_told)
