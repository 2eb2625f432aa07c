-- A pair in the code.
use Rattle.std.specs.Prelude.{ℕ, Bool, false, ◌&&◌, List, map, codes}
use Rattle.std.specs.Option.{option_map_or}
use Rattle.std.specs.Str.{chars}
use Rattle.document_model.specs.Items as items
use Rattle.document_model.specs.Items.{pairs_of, lower_case}
use Rattle.document_model.specs.Characters.{◌is◌}
use Rattle.xml_items.specs.declared.tags.Pair.{Pair}

abbrev pub pair_in : Pair → items.Pair
pair_in pair = record { name = chars pair.name.now; text = chars pair.text.now }

-- whether a text is at most n pairs that pass a test
abbrev pub passes_pairs : (List items.Pair → Bool) → ℕ → List ℕ → Bool
passes_pairs test n text = option_map_or test (pairs_of n text) false

-- whether a pair is that of an encoding, in UTF-8; of the version 1.0
abbrev pub tells_encoding : items.Pair → Bool
tells_encoding pair = (pair.name is codes "encoding") && (map lower_case pair.text is codes "utf-8")

abbrev pub tells_version : items.Pair → Bool
tells_version pair = (pair.name is codes "version") && (pair.text is codes "1.0")
