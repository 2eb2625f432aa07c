use Rattle.std.proofs.Common.{◌≡◌, ◌+◌, ◌++◌, drop}
use Rattle.signature_model.specs.Fragments.{written_octets}
use Rattle.signature_model.specs.Prepared.{formats_from}
use Rattle.signature_drafts.proofs.properties.put_formats.Given as goal

-- with those that are left, it is the whole
abbrev pub invariant-loop-number : goal.invariant-loop-number
invariant-loop-number l =
    l.out ++ written_octets (formats_from l.draft (l.number + 1) (drop l.number l.draft.references)) ≡ l.initial.out ++ written_octets (formats_from l.draft 1 l.draft.references)
