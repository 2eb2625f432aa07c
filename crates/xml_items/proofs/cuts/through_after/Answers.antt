use Rattle.std.proofs.Common.{◌≡◌, ◌∙◌, ◌+◌, ◌++◌, ℕ, List, take, drop, sym, ap}
use Rattle.std.proofs.Math.Seq.{take-add, drop-drop}
use Rattle.std.proofs.lemmas.List.{take_rest}
use Rattle.document_model.specs.Items.{through, through_after}
use Rattle.xml_items.proofs.cuts.through_after.Goals as goal

through_after_at : (n r : ℕ) (close bytes : List ℕ) → through close (drop n bytes) ≡ (take r (drop n bytes), drop r (drop n bytes))
    → through_after n close bytes ≡ (take (n + r) bytes, drop (n + r) bytes)
through_after_at n r close bytes e =
    ap (λ x. (take n bytes ++ x.0, x.1)) e ∙ (λ i. (sym (take-add n r bytes) i, drop-drop r n bytes i))

pub returns-then-n-bytes-clause-cut : goal.returns-then-n-bytes-clause-cut
returns-then-n-bytes-clause-cut c =
    through_after_at c.args.n c.through.result c.args.close.now c.args.bytes.now
    (rw take_rest at c.through.ensures.cut)
