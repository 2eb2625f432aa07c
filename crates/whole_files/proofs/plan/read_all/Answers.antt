use Rattle.std.proofs.Common.{map, arith}
use Rattle.whole_files.specs.Wants.{want_of, held_of}
use Rattle.whole_files.proofs.PlanLemmas.{asks_one, all_read, all_held}
use Rattle.whole_files.proofs.plan.read_all.Goals as goal

pub returns-in_err-bytes-clause-asked : goal.returns-in_err-bytes-clause-asked
returns-in_err-bytes-clause-asked g c =
    c.loop-want.invariant.asked _ (asks_one c.args.wanted.now c.loop-want.want-index _ _ _ (omega arith) c.in_err-bytes.ensures.asked)

pub returns-then-is_err-clause-asked : goal.returns-then-is_err-clause-asked
returns-then-is_err-clause-asked g c =
    c.loop-want.invariant.asked _ (asks_one c.args.wanted.now c.loop-want.want-index _ _ _ (omega arith) c.in_ok-bytes.ensures.asked)

pub returns-clause-told : goal.returns-clause-told
returns-clause-told g c = λ files e.
    all_held files c.args.wanted.now c.loop-want.want-index (map want_of c.args.wanted.now) (map held_of c.loop-want.all.items) (omega arith) (c.loop-want.invariant.told files e)

pub returns-clause-read : goal.returns-clause-read
returns-clause-read g c =
    all_read c.args.wanted.now c.loop-want.want-index (map want_of c.args.wanted.now) (map held_of c.loop-want.all.items) (omega arith) c.loop-want.invariant.read
