use Rattle.std.proofs.Common.{◌≡◌}
use Rattle.std.specs.Str.{chars}
use Rattle.document_model.specs.Canonical.{is_among}
use Rattle.document_model.specs.Methods.{cut_at}
use Rattle.doc_spans.specs.Pieces.{characters_left}
use Rattle.canon_methods.specs.Words.{parts}
use Rattle.canon_methods.specs.Sought.{holds}
use Rattle.canon_methods.proofs.rules.Prefixes.has.Given as goal

-- what is known at the place, and what is left of the list, tell whether the word is in the list
abbrev pub invariant-pieces : goal.invariant-pieces
invariant-pieces l =
    (goal.iterator-pieces).can_next l.piece-iterator × (goal.iterator-pieces).is_finite l.piece-iterator
    × (holds (parts l.self.by_commas) (chars l.word) l.sought (characters_left l.piece-iterator)
    ≡ is_among (chars l.word) (cut_at (parts l.self.by_commas) (characters_left l.self.text)))
