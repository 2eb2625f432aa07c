use Rattle.std.proofs.Common.{ap, sym, ◌∙◌, ◌++◌}
use Rattle.std.specs.Str.{chars}
use Rattle.base64_texts.specs.Scans.{scan_on}
use Rattle.doc_spans.specs.Pieces.{characters_in}
use Rattle.signature_elements.specs.TextsLeft.{text_left}
use Rattle.base64_texts.specs.Scans.{scan_on-append}
use Rattle.signature_parts.proofs.octets.has_octets.Goals as goal

pub loop-piece-preserved-in-Run : goal.loop-piece-preserved-in-Run
loop-piece-preserved-in-Run c =
    let left = text_left c.next.new.self in
    let text = c.in-Some.ensures.steps.0 ∙ ap (λ piece. characters_in piece ++ left) c.in-Run.is in (
      tt,
      tt,
      ap (λ scanner. scan_on scanner left) c.push.ensures ∙ sym (scan_on-append c.loop-piece.scanner (chars c.in-Run.text.now) left)
          ∙ sym (ap (scan_on c.loop-piece.scanner) text) ∙ c.loop-piece.invariant.2,
    )
