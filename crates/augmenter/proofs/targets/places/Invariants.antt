use Rattle.std.proofs.Common.{◌≡◌, map, take}
use Rattle.std.specs.List.{All}
use Rattle.doc_spans.specs.Seen.{document_in}
use Rattle.reference_chains.specs.Places.{HasPlace, found, found_in}
use Rattle.signature_model.specs.Chains.{place_named}
use Rattle.augmenter.proofs.targets.places.Given as goal

abbrev pub invariant-loop-number : goal.invariant-loop-number
invariant-loop-number l =
    (map (found_in l.doc) l.places.items ≡ map (λ uri. found (document_in l.doc) (place_named uri)) (take l.number l.draft.references)) × All (HasPlace l.doc) l.places.items
