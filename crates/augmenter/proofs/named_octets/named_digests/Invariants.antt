use Rattle.std.proofs.Common.{◌≡◌, map, take}
use Rattle.doc_spans.specs.Seen.{document_in}
use Rattle.qualifying_props.specs.Digests.{digest}
use Rattle.reference_chains.specs.HandedIn.{handed_in}
use Rattle.signature_model.specs.Prepared.{named_octets}
use Rattle.augmenter.proofs.named_octets.named_digests.Given as goal

abbrev pub invariant-loop-number : goal.invariant-loop-number
invariant-loop-number l =
    l.digests.items ≡ map (λ uri. digest l.draft.digest (named_octets (handed_in l.externals) (document_in l.doc) uri)) (take l.number l.draft.references)
