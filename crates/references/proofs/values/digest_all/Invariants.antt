use Rattle.doc_spans.specs.Seen.{document_in}
use Rattle.signature_elements.specs.Standing.{spot_of}
use Rattle.signature_model.specs.Chains.{no_digest}
use Rattle.reference_chains.specs.declared.references.Reference.{Reference}
use Rattle.references.specs.declared.rows.Row.{Row}
use Rattle.references.specs.RefsOf.{IsRow}
use Rattle.references.proofs.Building.{Building}
use Rattle.references.proofs.Judging.{Judging}
use Rattle.references.proofs.values.digest_all.Given as goal

abbrev pub invariant-loop-number : goal.invariant-loop-number
invariant-loop-number l = record {
  judging : Judging (no_digest (document_in l.doc)) (λ (r : Reference). spot_of l.doc r.node) l.all l.number;
  building : Building (IsRow l.doc) (λ (r : Reference). spot_of l.doc r.node) (λ (row : Row). spot_of l.doc row.reference.node) l.all l.number l.rows.items;
}
