use Rattle.std.proofs.Common.{◌≡◌, drop}
use Rattle.doc_spans.specs.Pieces.{characters_left}
use Rattle.reference_chains.specs.HandedIn.{look_up}
use Rattle.reference_chains.proofs.externals.look.Given as goal

-- the files that were passed have other names
abbrev pub invariant-loop-file : goal.invariant-loop-file
invariant-loop-file l = look_up (drop l.file-index l.files.items) (characters_left l.name) ≡ look_up l.files.items (characters_left l.name)
