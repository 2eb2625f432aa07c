use Rattle.std.proofs.Common.{◌≡◌}
use Rattle.std.specs.Prelude.{List}
use Rattle.std.specs.Prelude.{filter}
use Rattle.signature_model.specs.Spots.{Spot, paths}
use Rattle.signature_model.specs.Parts.{is_typed}
use Rattle.signature_parts.specs.ListsLeft.{named_doc, named_left}
use Rattle.signature_parts.proofs.Adding.{Adding}
use Rattle.signature_parts.proofs.Spread.{one_each}
use Rattle.inner_lines.proofs.typed.add_typed.Given as goal

-- what is left comes to what all comes to
abbrev pub invariant-loop-reference : goal.invariant-loop-reference
invariant-loop-reference l =
    (goal.iterator-loop-reference).can_next l.reference-iterator × (goal.iterator-loop-reference).is_finite l.reference-iterator
    × (named_doc l.reference-iterator ≡ l.doc)
    × Adding l.doc (one_each (λ (spots : List Spot). paths (filter is_typed spots)) (named_left l.reference-iterator)) (one_each (λ (spots : List Spot). paths (filter is_typed spots)) (named_left l.fn.references)) l.fn.place l.place
