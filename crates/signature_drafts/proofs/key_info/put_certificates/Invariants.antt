use Rattle.std.proofs.Common.{◌≡◌, ◌++◌, drop}
use Rattle.signature_model.specs.Fragments.{written_octets}
use Rattle.signature_drafts.specs.Parts.{certificate_nodes}
use Rattle.signature_drafts.proofs.key_info.put_certificates.Given as goal

-- with those that are left, it is the whole
abbrev pub invariant-loop-number : goal.invariant-loop-number
invariant-loop-number l =
    l.out ++ written_octets (certificate_nodes (drop l.number l.draft.certificates)) ≡ l.initial.out ++ written_octets (certificate_nodes l.draft.certificates)
