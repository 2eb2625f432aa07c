use Rattle.std.proofs.Common.{ap, sym, ◌∙◌}
use Rattle.std.specs.Prelude.{flat_map, option_map}
use Rattle.doc_spans.specs.Seen.{document_in, path_in}
use Rattle.signature_elements.specs.Standing.{spot_of}
use Rattle.signature_model.specs.Parts.{as_kind, data_of, key_certificates, properties, Certificate}
use Rattle.signature_model.specs.Readable.{by_data}
use Rattle.qualifying_props.proofs.DataOfKind.{octets_as_kind}
use Rattle.qualifying_props.proofs.FirstBad.{first_bad}
use Rattle.qualifying_props.proofs.collecting.read_values.Goals as goal

pub returns-in-Some-clause-err : goal.returns-in-Some-clause-err
returns-in-Some-clause-err c =
    let doc = c.args.doc in
    let document = document_in doc in
    let spot = spot_of doc c.args.signature in
    let first = first_bad doc (as_kind Certificate (key_certificates document spot)) (flat_map (data_of document) (properties document spot))
    _ _ _ c.none-bad.ensures c.in_ok-key_certs.ensures.bad c.in_ok-properties.ensures.bad in
    (path_in doc c.in-Some.node, ap (by_data spot) (sym first.place ∙ ap (option_map (path_in doc)) (sym c.node.ensures ∙ c.in-Some.is)), c.beginning.ensures)

pub returns-in-None-clause-values : goal.returns-in-None-clause-values
returns-in-None-clause-values c =
    let document = document_in c.args.doc in
    record {
      key_certs = c.in_ok-key_certs.ensures.octets ∙ octets_as_kind Certificate document (key_certificates document (spot_of c.args.doc c.args.signature));
      properties = c.in_ok-properties.ensures.read;
    }

pub returns-in-None-clause-none : goal.returns-in-None-clause-none
returns-in-None-clause-none c =
    let doc = c.args.doc in
    let document = document_in doc in
    let spot = spot_of doc c.args.signature in
    let first = first_bad doc (as_kind Certificate (key_certificates document spot)) (flat_map (data_of document) (properties document spot))
    _ _ _ c.none-bad.ensures c.in_ok-key_certs.ensures.bad c.in_ok-properties.ensures.bad in
    sym first.place ∙ ap (option_map (path_in doc)) (sym c.node.ensures ∙ c.in-None.is)
