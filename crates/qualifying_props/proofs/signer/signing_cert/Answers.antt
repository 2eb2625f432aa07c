use Rattle.std.proofs.Common.{[], ap, sym, ◌∙◌, arith}
use Rattle.std.proofs.lemmas.List.{get_or_read}
use Rattle.qualifying_props.specs.Digests.{has_digest}
use Rattle.qualifying_props.proofs.Positions.{place_found, no_place}
use Rattle.qualifying_props.proofs.signer.signing_cert.Goals as goal

pub returns-then-has_digest : goal.returns-then-has_digest
returns-then-has_digest c =
    let certs = c.args.certs.now in
    let test = has_digest c.args.kind c.args.digest.now in
    let read = get_or_read certs c.loop-number.number c.index-certs-number.result c.loop-number-test.true c.index-certs-number.is [] in
    place_found test certs c.loop-number.number [] c.loop-number-test.true c.loop-number.invariant
    (ap test (sym (c.as_slice.ensures.value ∙ read)) ∙ sym c.has_digest.ensures ∙ c.if-has_digest.true)

pub returns : goal.returns
returns c =
    no_place (has_digest c.args.kind c.args.digest.now) c.args.certs.now c.loop-number.number [] (omega arith) c.loop-number.invariant
