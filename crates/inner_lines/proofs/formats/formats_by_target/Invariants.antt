use Rattle.std.proofs.Common.{◌≡◌, codes}
use Rattle.doc_spans.specs.Seen.{document_in}
use Rattle.signature_model.specs.Spots.{called_in}
use Rattle.signature_model.specs.Vocabulary.{xades}
use Rattle.signature_elements.specs.Standing.{spot_or_none}
use Rattle.signature_parts.specs.ListsLeft.{named_doc, named_left}
use Rattle.inner_lines.proofs.FormatLists.{Seeing}
use Rattle.inner_lines.proofs.formats.formats_by_target.Given as goal

-- the index has the first two so far
abbrev pub invariant-loop-format : goal.invariant-loop-format
invariant-loop-format l =
    (goal.iterator-loop-format).can_next l.format-iterator × (goal.iterator-loop-format).is_finite l.format-iterator
    × (named_doc l.format-iterator ≡ l.doc)
    × Seeing l.doc (named_left l.format-iterator) (called_in (document_in l.doc) (xades (codes "DataObjectFormat")) (spot_or_none l.doc l.fn.holder)) l.index
