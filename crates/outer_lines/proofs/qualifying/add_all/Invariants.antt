use Rattle.std.proofs.Common.{◌≡◌}
use Rattle.signature_model.specs.Spots.{paths}
use Rattle.signature_parts.specs.QualifyingLeft.{qualifying_doc, qualifying_left}
use Rattle.signature_parts.proofs.Adding.{Adding}
use Rattle.outer_lines.proofs.qualifying.add_all.Given as goal

abbrev pub invariant-loop-holder : goal.invariant-loop-holder
invariant-loop-holder l =
    (goal.iterator-loop-holder).can_next l.holder-iterator × (goal.iterator-loop-holder).is_finite l.holder-iterator
    × (qualifying_doc l.holder-iterator ≡ l.doc)
    × Adding l.doc (paths (qualifying_left l.holder-iterator)) (paths (qualifying_left l.fn.holders)) l.fn.places l.places
