use Rattle.std.proofs.Common.{◌≡◌, true, ap, refl, get_or}
use Rattle.std.proofs.lemmas.Bool.{ne_eqb}
use Rattle.document_model.specs.Items.{is_quote}
use Rattle.xml_items.proofs.TagEnds.{over_quotes}
use Rattle.xml_items.proofs.cuts.through_tag.Goals as goal
use Rattle.xml_items.proofs.cuts.through_tag.Goals.{then-byte-eq34-via-then-byte-eq34, then-byte-eq34-via-else-byte-eq34+then-byte-eq39}

pub bytes-preserved-in-bytes : goal.bytes-preserved-in-bytes
bytes-preserved-in-bytes c =
    let byte = get_or c.args.bytes.now c.bytes.at 0 in
    let quote : is_quote byte ≡ true = elim c.then-byte-eq34.branch [
      | then-byte-eq34-via-then-byte-eq34 w ↦ ap is_quote w.if-byte-eq34.true
      | then-byte-eq34-via-else-byte-eq34+then-byte-eq39 w ↦ ap is_quote w.if-byte-eq39.true
    ] in (
      c.behind_quote-at.ensures.bound,
      over_quotes c.args.bytes.now c.bytes.at c.behind_quote-at.result byte c.bytes-test.true c.behind_quote-at.ensures.order refl (ne_eqb _ _ c.if-byte-eq62.false) quote
          c.bytes.invariant.1 c.behind_quote-at.ensures.cut,
    )
