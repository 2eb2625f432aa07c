use Rattle.canon_texts.proofs.Kept.{kept_through, kept_behind, on_err}
use Rattle.canon_texts.proofs.escapes.put_bytes.Goals as goal

pub returns-in_err-put_byte-clause-err : goal.returns-in_err-put_byte-clause-err
returns-in_err-put_byte-clause-err c =
    on_err _ _ (kept_through c.args.out.now c.push_all.new.self c.put_byte.new.out (rw c.in_ok-push_all.ensures.ok (kept_behind _ _ _ c.loop-at.invariant.kept)) c.in_err-put_byte.ensures.err)
