use Rattle.std.proofs.Common.{refl, codes, not}
use Rattle.std.specs.Prelude.{filter}
use Rattle.doc_spans.specs.Seen.{document_in}
use Rattle.signature_elements.specs.Standing.{spot_of}
use Rattle.signature_model.specs.Holding.{further, without_attribute}
use Rattle.signature_model.specs.Shape.{id_of, points_to}
use Rattle.signature_model.specs.Spots.{attribute, paths}
use Rattle.signature_parts.proofs.Adding.{adds_more, adds_first, adds_at, adds_by, part_of}
use Rattle.signature_elements.proofs.AsciiNames.{word}
use Rattle.signature_parts.proofs.Named.{xades_name}
use Rattle.outer_lines.proofs.qualifying.qualifying_line.Goals as goal

pub returns : goal.returns
returns c =
    let doc = c.args.doc in
    let id = id_of (spot_of doc c.args.signature) in
    let second = adds_by (further (document_in doc)) doc _ _ _ _ _ _ (xades_name _ (codes "QualifyingProperties") refl c.xades.ensures) c.first_qualifying_object-holder.ensures c.add_further.ensures in
    let nameless = adds_by without_attribute doc _ _ _ _ _ _ (word (codes "Id") refl) (part_of doc c.args.signature c.requires) c.add_without_attribute.ensures in
    let pointless = adds_by without_attribute doc _ _ _ _ _ _ (word (codes "Target") refl) c.qualifying-properties.ensures c.add_without_attribute-2.ensures in
    let elsewhere = adds_at (λ spots. paths (filter (λ spot. not (points_to (attribute (codes "Target") spot) id)) spots)) doc _ _ _ _ c.qualifying-properties.ensures c.add_pointing_elsewhere.ensures in
    let objects = adds_more doc _ _ _ _ _ (adds_more doc _ _ _ _ _ c.add_stray_holders.ensures c.add_without_holder.ensures) c.add_further_holders.ensures in
    adds_first doc _ _ _ c.none-places.ensures
    (adds_more doc _ _ _ _ _ (adds_more doc _ _ _ _ _ (adds_more doc _ _ _ _ _ (adds_more doc _ _ _ _ _ objects second) nameless) pointless) elsewhere)
