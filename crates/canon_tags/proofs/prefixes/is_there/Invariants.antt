use Rattle.std.proofs.Common.{◌≡◌, drop}
use Rattle.std.specs.Str.{chars}
use Rattle.document_model.specs.Canonical.{is_among}
use Rattle.canon_tags.specs.Texts.{texts_in}
use Rattle.canon_tags.proofs.prefixes.is_there.Given as goal

-- none that was passed is the prefix
abbrev pub invariant-prefixes : goal.invariant-prefixes
invariant-prefixes l = is_among (chars l.prefix) (texts_in l.found) ≡ is_among (chars l.prefix) (texts_in (drop l.other-index l.found))
