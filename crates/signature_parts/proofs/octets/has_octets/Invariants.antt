use Rattle.std.proofs.Common.{◌≡◌}
use Rattle.base64_texts.specs.Scans.{scan_on, scanned}
use Rattle.doc_spans.specs.Seen.{document_in}
use Rattle.signature_elements.specs.Standing.{spot_of}
use Rattle.signature_elements.specs.TextsLeft.{text_left}
use Rattle.signature_model.specs.Spots.{text_in}
use Rattle.signature_parts.proofs.octets.has_octets.Given as goal

-- what is left comes to what the whole text comes to
abbrev pub invariant-loop-piece : goal.invariant-loop-piece
invariant-loop-piece l =
    (goal.iterator-loop-piece).can_next l.piece-iterator × (goal.iterator-loop-piece).is_finite l.piece-iterator
    × (scan_on l.scanner (text_left l.piece-iterator) ≡ scanned (text_in (document_in l.doc) (spot_of l.doc l.fn.node)))
