use Rattle.std.proofs.Common.{◌≡◌, Bool, List, refl, sym, ◌∙◌, ap, codes, [], ◌∷◌, ◌++◌}
use Rattle.std.proofs.lemmas.List.{append-nil}
use Rattle.std.specs.Prelude.{if◌then◌else◌, drop, filter, flat_map, not}
use Rattle.document_model.specs.Characters.{is_empty}
use Rattle.document_model.specs.Tree.{Path}
use Rattle.doc_spans.specs.Seen.{document_in}
use Rattle.signature_model.specs.Parts.{is_typed, references, signed_properties, transforms}
use Rattle.signature_model.specs.Shape.{is_reaching_out, points_to_one}
use Rattle.signature_model.specs.Spots.{Spot, first, paths}
use Rattle.signature_model.specs.Vocabulary.{ds}
use Rattle.signature_elements.specs.Standing.{spot_of}
use Rattle.signature_parts.proofs.Adding.{adds_as, adds_more, adds_tested}
use Rattle.signature_parts.proofs.Named.{ds_name, part_in}
use Rattle.signature_parts.proofs.FromNone.{adds_part}
use Rattle.inner_lines.proofs.covered.add_faults.Goals as goal

-- the line by the References with the Type of signed properties
abbrev line_of : (Spot → Bool) → (Spot → List Spot) → List Spot → List Spot → List Path
line_of points inner all typed =
    (if is_empty typed then paths (first all) else [])
    ++ paths (drop 1 typed)
    ++ paths (filter (λ reference. not (points reference)) (first typed))
    ++ paths (filter is_reaching_out (flat_map inner (first typed)))

none_left : (places : List Path) → places ≡ places ++ [] ++ [] ++ []
none_left places = sym (append-nil ((places ++ []) ++ []) ∙ append-nil (places ++ []) ∙ append-nil places)

pub returns-in-Some : goal.returns-in-Some
returns-in-Some c =
    let document = document_in c.args.doc in
    let signature = spot_of c.args.doc c.args.signature in
    let spot = spot_of c.args.doc c.in-Some.reference in
    let points = points_to_one (signed_properties document signature) in
    let typed = ap (filter is_typed) (sym c.references-references.ensures.spots) ∙ c.in-Some.ensures.next.1 in
    let test = ap not (c.points_to_one-points.ensures ∙ ap (λ spots. points_to_one spots spot) c.signed_properties.ensures.spot) in
    adds_as c.args.doc _ _ _ _ (ap (line_of points (transforms document) (references document signature)) (sym typed))
    (adds_more c.args.doc _ (paths (filter is_reaching_out (flat_map (transforms document) (spot ∷ [])))) _ _ _
    (adds_more c.args.doc _ (paths (filter (λ reference. not (points reference)) (spot ∷ []))) _ _ _
    c.add_typed.ensures
    (adds_tested (λ reference. not (points reference)) c.args.doc c.in-Some.reference _ _ _ test c.add_where.ensures))
    (adds_as c.args.doc _ _ _ _ (ap (λ spots. paths (filter is_reaching_out spots)) (sym (append-nil (transforms document spot)))) c.add_reaching_out.ensures))

pub returns-in-None : goal.returns-in-None
returns-in-None c =
    let document = document_in c.args.doc in
    let signature = spot_of c.args.doc c.args.signature in
    let all = references document signature in
    let points = points_to_one (signed_properties document signature) in
    let typed = ap (filter is_typed) (sym c.references-references.ensures.spots) ∙ c.in-None.ensures.next in
    let part = part_in c.args.doc _ (ds (codes "Reference")) _ _ _ (ds_name _ (codes "Reference") refl c.ds.ensures) c.signed_info.ensures c.first_in.ensures.spot c.first_in.ensures.there in
    adds_as c.args.doc _ _ _ _ (none_left (paths (first all)) ∙ ap (line_of points (transforms document) all) (sym typed))
    (adds_part c.args.doc paths _ _ _ _ part.spot c.add_part.ensures)
