use Rattle.std.proofs.Common.{◌≡◌, List, sym, ◌∙◌, ap, [], ◌∷◌, ◌++◌}
use Rattle.std.proofs.lemmas.List.{append-nil}
use Rattle.document_model.specs.Tree.{Path}
use Rattle.doc_spans.specs.Seen.{document_in, path_in}
use Rattle.node_index.specs.declared.sightings.Sightings.{Sightings}
use Rattle.signature_model.specs.Spots.{paths}
use Rattle.signature_elements.specs.Standing.{spot_of, spot_or_none}
use Rattle.inner_lines.specs.DataObjects.{seen_in}
use Rattle.inner_lines.specs.LineParts.{faults_by_formats, format_text_faults}
use Rattle.signature_parts.proofs.Adding.{adds_as, adds_more}
use Rattle.inner_lines.proofs.formats.add_seen.Goals as goal

none_left : (places : List Path) → places ≡ places ++ [] ++ [] ++ [] ++ []
none_left places = sym (append-nil (((places ++ []) ++ []) ++ []) ∙ append-nil ((places ++ []) ++ []) ∙ append-nil (places ++ []) ∙ append-nil places)

pub returns-in-Absent : goal.returns-in-Absent
returns-in-Absent c =
    let faults = λ (seen : Sightings). faults_by_formats (document_in c.args.doc) (spot_or_none c.args.doc c.args.properties) (seen_in c.args.doc seen) in
    adds_as c.args.doc _ _ _ _ (none_left (paths (spot_or_none c.args.doc c.args.properties)) ∙ ap faults (sym c.in-Absent.is)) c.add_part.ensures

pub returns-in-Several : goal.returns-in-Several
returns-in-Several c =
    let faults = λ (seen : Sightings). faults_by_formats (document_in c.args.doc) (spot_or_none c.args.doc c.args.properties) (seen_in c.args.doc seen) in
    adds_as c.args.doc _ _ _ _ (ap faults (sym c.in-Several.is))
    (adds_more c.args.doc (path_in c.args.doc c.in-Several.second ∷ []) (format_text_faults (document_in c.args.doc) (spot_of c.args.doc c.in-Several.first ∷ [])) _ _ _ c.add.ensures c.add_format-in-Several.ensures)
