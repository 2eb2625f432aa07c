use Rattle.std.proofs.Common.{ℕ, List, map, sym, ap, subst, ◌∙◌}
use Rattle.std.specs.Prelude.{encode_utf8_all}
use Rattle.doc_spans.specs.Seen.{document_in, path_in}
use Rattle.doc_spans.specs.declared.documents.NodeId.{NodeId}
use Rattle.existence_times.specs.Shown.{Shown}
use Rattle.policy_rules.specs.Rules.{kind_of_uri}
use Rattle.policy_rules.specs.View.{rules}
use Rattle.reference_chains.specs.HandedIn.{handed_in}
use Rattle.references.specs.RefsOf.{references_in}
use Rattle.signature_elements.specs.Standing.{spot_of}
use Rattle.signature_objects.specs.Held.{objects}
use Rattle.signature_evidence.specs.Material.{material_of}
use Rattle.case_steps.specs.Built.{ShowsObjects}
use Rattle.signature_cases.specs.References.{row_of}
use Rattle.signature_cases.proofs.Assembled.{built}
use Rattle.signature_cases.proofs.building.fill.Goals as goal

pub put_stamps-requires-clause-shows : goal.put_stamps-requires-clause-shows
put_stamps-requires-clause-shows c =
    let found = c.in_ok-certificate.ensures.found c.args.doc (material_of c.requires.shows.0) c.requires.parts.1 c.requires.shows.1 in (
      material_of c.requires.shows.0,
      subst (λ (case : Shown). ShowsObjects (objects (document_in c.args.doc) (spot_of c.args.doc c.args.parts.now.signature) (material_of c.requires.shows.0)) case) (sym found.0) c.requires.shows.1,
    )

pub put_stamps-requires-clause-none : goal.put_stamps-requires-clause-none
put_stamps-requires-clause-none c =
    let found = c.in_ok-certificate.ensures.found c.args.doc (material_of c.requires.shows.0) c.requires.parts.1 c.requires.shows.1 in
    ap (λ (case : Shown). case.stamps) found.0 ∙ c.requires.none

pub returns : goal.returns
returns c bytes s =
    let doc = c.args.doc in
    let parts = c.args.parts.now in
    let document = document_in doc in
    let signature = spot_of doc parts.signature in
    let handed = handed_in c.args.externals.now in
    let found = c.in_ok-certificate.ensures.found doc (material_of bytes) c.requires.parts.1 s in
    let held = subst (λ (case : Shown). ShowsObjects (objects document signature (material_of bytes)) case) (sym found.0) s in
    let put = c.in_ok-stamps.ensures (material_of bytes) held in
    built (rules c.args.policy.now) handed doc parts (material_of bytes) _ c.requires.parts.1 put.0.0 put.0.1 put.1
    (c.in_ok-references.ensures ∙ ap (λ (node : NodeId). map (row_of handed document (path_in doc node)) (references_in doc node)) c.requires.refs.signature)
    c.cert_digest_kind.ensures found.1
    (c.kind_of-kind.ensures ∙ ap (λ (name : List ℕ). kind_of_uri (rules c.args.policy.now).kinds (encode_utf8_all name)) c.method.ensures)
    c.in_ok-key.ensures
