use Rattle.std.proofs.Common.{ℕ, List, subst, take}
use Rattle.algorithms.specs.Digests.{digest_of}
use Rattle.tst_tokens.specs.Digests.{imprint_kind}
use Rattle.signature_evidence.specs.Soundness.{HasSoundness}
use Rattle.signature_cases.specs.Words.{soundness_in}
use Rattle.doc_spans.specs.Seen.{document_in}
use Rattle.reference_chains.specs.HandedIn.{handed_in}
use Rattle.signature_elements.specs.Standing.{spot_of}
use Rattle.signature_model.specs.Parts.{properties}
use Rattle.signature_objects.proofs.Numbered.{token_at_is}
use Rattle.signature_cases.proofs.Stamped.{judged_none, judged_some, no_token}
use Rattle.signature_cases.proofs.judging.judge_at.Goals as goal

pub returns-in_default : goal.returns-in_default
returns-in_default c = λ spot at.
    let signature = spot_of c.args.doc c.args.parts.now.signature in
    judged_none (handed_in c.args.externals.now) c.args.doc c.args.parts.now c.args.property spot (take c.args.property (properties (document_in c.args.doc) signature)) c.property_kind.result
    c.requires.parts at c.property_kind.ensures c.in_default.ensures

pub unreachable-requires : goal.unreachable-requires
unreachable-requires c =
    no_token c.args.doc c.args.parts.now c.args.property c.property_kind.result c.in-Some.kind c.requires.parts c.property_kind.ensures c.in-Some.ensures c.in_default-token.ensures

pub soundness-requires : goal.soundness-requires
soundness-requires c = record { whole = token_at_is c.args.parts.now c.args.property c.in-Some-token.token.now c.requires.whole c.in-Some-token.ensures }

pub returns : goal.returns
returns c = λ spot at.
    let signature = spot_of c.args.doc c.args.parts.now.signature in
    judged_some (handed_in c.args.externals.now) c.args.doc c.args.parts.now c.args.property spot (take c.args.property (properties (document_in c.args.doc) signature)) c.property_kind.result
    c.in-Some.kind c.in-Some-token.token c.in_ok-covered.covered c.in_ok-soundness.soundness c.requires.parts at c.property_kind.ensures c.in-Some.ensures c.in-Some-token.ensures
    (token_at_is c.args.parts.now c.args.property c.in-Some-token.token.now c.requires.whole c.in-Some-token.ensures) c.in_ok-covered.ensures
    (subst (λ (octets : List ℕ). HasSoundness (digest_of (imprint_kind c.in-Some-token.token.now) octets) c.in-Some-token.token.now (soundness_in c.in_ok-soundness.soundness))
    c.as_slice.ensures.value c.in_ok-soundness.ensures)
