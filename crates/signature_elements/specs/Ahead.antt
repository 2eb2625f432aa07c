-- The characters that are still ahead.
use Rattle.std.specs.Prelude.{ℕ, List, ◌++◌}
use Rattle.std.specs.Str.{chars}
use Rattle.doc_spans.specs.Pieces.{characters_left}
use Rattle.signature_elements.specs.declared.pointing.Characters.{Characters}

abbrev pub ahead : Characters → List ℕ
ahead characters = chars characters.run.now ++ characters_left characters.pieces
