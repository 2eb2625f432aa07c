use Rattle.std.proofs.Common.{◌+◌, get_or, refl, sym, ap}
use Rattle.std.proofs.lemmas.List.{get_or_default}
use Rattle.std.proofs.lemmas.List.Elements.{All-get_or}
use Rattle.std.specs.Prelude.{is_none}
use Rattle.doc_spans.specs.Seen.{document_in}
use Rattle.signature_elements.specs.Standing.{spot_of}
use Rattle.signature_model.specs.Chains.{no_digest, when, DigestName}
use Rattle.reference_chains.specs.declared.references.Reference.{Reference}
use Rattle.reference_chains.specs.References.{IsReference}
use Rattle.references.specs.declared.rows.Row.{Row}
use Rattle.references.specs.RefsOf.{IsRow}
use Rattle.references.proofs.Anyone.{any_reference}
use Rattle.references.proofs.Building.{building_on}
use Rattle.references.proofs.Judging.{judging_on}
use Rattle.references.proofs.values.digest_all.Goals as goal

pub loop-number-preserved : goal.loop-number-preserved
loop-number-preserved c =
    let doc = c.args.doc in
    let all = c.args.all.now in
    let number = c.loop-number.number in
    let within = c.loop-number-test.true in
    let reference = get_or all number any_reference in
    let is = get_or_default all number any_reference reference within in
    let row : Row = record { reference = reference; kind = c.in-Some.kind; value = c.in_ok-value.value } in
    let sound : IsRow doc row = record {
      reference = All-get_or (IsReference doc) all number any_reference within c.requires.each;
      kind = sym c.in-Some.ensures;
      value = c.in_ok-value.ensures;
    } in record {
      judging = judging_on (no_digest (document_in doc)) (λ (r : Reference). spot_of doc r.node) all number reference within is
          (ap (λ o. when (is_none o) (DigestName (number + 1))) (sym c.in-Some.ensures)) c.loop-number.invariant.judging;
      building = building_on (IsRow doc) (λ (r : Reference). spot_of doc r.node) (λ (r : Row). spot_of doc r.reference.node) all number c.loop-number.rows.items _ reference
          row within is c.in-Ok.ensures.items refl sound c.loop-number.invariant.building;
    }
