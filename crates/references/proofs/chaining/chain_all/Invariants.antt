use Rattle.doc_spans.specs.Seen.{document_in}
use Rattle.signature_elements.specs.Standing.{spot_of}
use Rattle.signature_model.specs.Chains.{no_chain}
use Rattle.reference_chains.specs.declared.references.Reference.{Reference}
use Rattle.reference_chains.specs.References.{IsReference}
use Rattle.references.specs.declared.targets.Sought.{Sought}
use Rattle.references.proofs.Building.{Building}
use Rattle.references.proofs.Judging.{Judging}
use Rattle.references.proofs.chaining.chain_all.Given as goal

abbrev pub invariant-loop-number : goal.invariant-loop-number
invariant-loop-number l = record {
  judging : Judging (no_chain (document_in l.doc)) (λ (s : Sought). spot_of l.doc s.node) l.all l.number;
  building : Building (IsReference l.doc) (λ (s : Sought). spot_of l.doc s.node) (λ (r : Reference). spot_of l.doc r.node) l.all l.number l.references.items;
}
