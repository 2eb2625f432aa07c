use Rattle.std.proofs.Common.{◌≡◌, ℕ, List, length, nat_le, sym, ap, ◌∙◌}
use Rattle.std.proofs.lemmas.List.{length-map}
use Rattle.acceptance.specs.Certificates.{Part}
use Rattle.doc_spans.specs.Seen.{document_in}
use Rattle.signature_elements.specs.Standing.{spot_of}
use Rattle.signature_model.specs.Spots.{Spot}
use Rattle.signature_objects.specs.Held.{objects}
use Rattle.signature_evidence.specs.Material.{material_of}
use Rattle.signature_evidence.specs.Pools.{part_of}
use Rattle.signature_cases.proofs.Counts.{small_is}
use Rattle.signature_cases.proofs.building.is_small.Goals as goal

pub returns : goal.returns
returns c = λ doc bytes is s.
    let parts = c.args.parts.now in
    let document = document_in doc in
    let signature = spot_of doc parts.signature in
    let many : c.objects-objects.result ≡ length (objects document signature (material_of bytes)) =
    c.objects-objects.ensures ∙ ap (λ (pool : List Part). length pool) (c.pool.ensures ∙ s.pool) ∙ length-map (objects document signature (material_of bytes)) part_of in
    ap (λ (n : ℕ). nat_le n 257) c.saturating_sub.ensures
    ∙ small_is document signature bytes c.objects-objects.result c.references.result many
    (c.references.ensures ∙ sym (length-map parts.references (spot_of doc)) ∙ ap (λ (spots : List Spot). length spots) is.1.references.are)
