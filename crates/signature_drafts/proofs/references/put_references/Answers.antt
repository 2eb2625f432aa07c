use Rattle.std.proofs.Common.{◌+◌, ◌<◌, [], length, get_or, ◌∙◌, ap, arith}
use Rattle.std.proofs.lemmas.List.{get_or_read, get_or-map}
use Rattle.std.specs.Str.{chars}
use Rattle.signature_drafts.proofs.ReferenceOctets.{references_end, references_more}
use Rattle.signature_drafts.proofs.QuotedTexts.{found_is}
use Rattle.signature_drafts.proofs.references.put_references.Goals as goal

pub loop-number-preserved : goal.loop-number-preserved
loop-number-preserved c = λ digest_of are.
    let all = c.args.draft.now.references in
    let n = c.loop-number.number in
    let t = c.loop-number-test.true in
    let s = c.requires.same in
    let within : n < length all = omega (arith, t, s) in
    let read = get_or_read c.args.digests.now n c.index-digests-number.result c.loop-number-test.true c.index-digests-number.is [] in
    let told = c.as_slice-digest.ensures.value ∙ read ∙ ap (λ xs. get_or xs n []) are ∙ get_or-map digest_of all n [] [] within in
    references_more c.args.draft.now digest_of n all (chars c.uri.result.now) c.as_slice-digest.result.now _ _ _ within
    (found_is all n (chars c.uri.result.now) c.uri.ensures) told c.in_ok-put_reference.ensures (c.loop-number.invariant digest_of are)

pub returns : goal.returns
returns c = λ digest_of are.
    references_end c.args.draft.now digest_of (c.loop-number.number + 1) c.loop-number.number c.args.draft.now.references _ _
    (let t = c.loop-number-test.false in let s = c.requires.same in omega (arith, t, s)) (c.loop-number.invariant digest_of are)
