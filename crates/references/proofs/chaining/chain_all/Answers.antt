use Rattle.std.proofs.Common.{◌+◌, get_or, sym, ap}
use Rattle.std.proofs.lemmas.List.{get_or_default}
use Rattle.std.specs.Prelude.{is_none}
use Rattle.doc_spans.specs.Seen.{document_in}
use Rattle.signature_elements.specs.Standing.{spot_of}
use Rattle.signature_model.specs.Chains.{no_chain, when, NoChain}
use Rattle.reference_chains.specs.declared.references.Reference.{Reference}
use Rattle.reference_chains.specs.References.{IsReference}
use Rattle.references.specs.declared.targets.Sought.{Sought}
use Rattle.references.proofs.Anyone.{any_sought}
use Rattle.references.proofs.Building.{building_on}
use Rattle.references.proofs.Judging.{judging_on}
use Rattle.references.proofs.chaining.chain_all.Goals as goal

pub loop-number-preserved : goal.loop-number-preserved
loop-number-preserved c =
    let doc = c.args.doc in
    let all = c.args.all.now in
    let number = c.loop-number.number in
    let within = c.loop-number-test.true in
    let sought = get_or all number any_sought in
    let is = get_or_default all number any_sought sought within in
    let reference = c.in-Some.reference in record {
      judging = judging_on (no_chain (document_in doc)) (λ (s : Sought). spot_of doc s.node) all number sought within is
          (ap (λ o. when (is_none o) (NoChain (number + 1))) (sym c.in-Some.ensures.chain)) c.loop-number.invariant.judging;
      building = building_on (IsReference doc) (λ (s : Sought). spot_of doc s.node) (λ (r : Reference). spot_of doc r.node) all number c.loop-number.references.items _ sought
          reference within is c.in-Ok.ensures.items (ap (spot_of doc) c.in-Some.ensures.same.0) c.in-Some.ensures.is c.loop-number.invariant.building;
    }
