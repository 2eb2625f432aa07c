use Rattle.std.proofs.Common.{◌≡◌, length}
use Rattle.std.specs.Prelude.{filter}
use Rattle.signature_model.specs.Parts.{is_typed}
use Rattle.signature_parts.specs.ListsLeft.{named_doc, named_left}
use Rattle.inner_lines.proofs.typed.next_typed.Given as goal

-- only others were passed
abbrev pub invariant-references : goal.invariant-references
invariant-references l =
    (named_doc l.references ≡ l.doc) × (filter is_typed (named_left l.references) ≡ filter is_typed (named_left l.fn.references))

abbrev pub decreases-references : goal.decreases-references
decreases-references l = length (named_left l.references)
