use Rattle.std.proofs.Common.{◌≡◌, ◌+◌, ◌++◌, ℕ, List, map, drop}
use Rattle.signature_model.specs.Fragments.{written_octets}
use Rattle.signature_model.specs.Prepared.{references_from}
use Rattle.signature_drafts.proofs.references.put_references.Given as goal

-- with those that are left, it is the whole
abbrev pub invariant-loop-number : goal.invariant-loop-number
invariant-loop-number l = (digest_of : List ℕ → List ℕ) → l.digests ≡ map digest_of l.draft.references
    → l.out ++ written_octets (references_from l.draft digest_of (l.number + 1) (drop l.number l.draft.references)) ≡ l.initial.out ++ written_octets (references_from l.draft digest_of 1 l.draft.references)
