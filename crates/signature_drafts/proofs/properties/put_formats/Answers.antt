use Rattle.std.proofs.Common.{◌+◌, arith}
use Rattle.std.specs.Str.{chars}
use Rattle.signature_drafts.proofs.PropertyOctets.{formats_end, formats_more}
use Rattle.signature_drafts.proofs.QuotedTexts.{found_is}
use Rattle.signature_drafts.proofs.properties.put_formats.Goals as goal

pub loop-number-preserved : goal.loop-number-preserved
loop-number-preserved c =
    let all = c.args.draft.now.references in
    formats_more c.args.draft.now c.loop-number.number all (chars c.uri.result.now) _ _ _ (let t = c.loop-number-test.true in let e = c.refs-number-end.ensures in omega (arith, t, e))
    (found_is all c.loop-number.number (chars c.uri.result.now) c.uri.ensures) c.in_ok-put_format.ensures c.loop-number.invariant

pub returns : goal.returns
returns c =
    formats_end c.args.draft.now (c.loop-number.number + 1) c.loop-number.number c.args.draft.now.references _ _ (let t = c.loop-number-test.false in let e = c.refs-number-end.ensures in omega (arith, t, e)) c.loop-number.invariant
