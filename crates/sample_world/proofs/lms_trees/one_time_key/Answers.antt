use Rattle.std.proofs.Common.{◌≡◌, append_assoc}
use Rattle.std.proofs.lemmas.List.{append-nil}
use Rattle.lms_verify.specs.LmOts.{chain}
use Rattle.sample_world.specs.LmsKeys.{secret}
use Rattle.sample_world.proofs.Trees.{joined_none, joined_more}
use Rattle.sample_world.proofs.lms_trees.one_time_key.Goals as goal

pub chains-init : goal.chains-init
chains-init c =
    let held = c.update-3.ensures _ (c.update-2.ensures _ (c.update.ensures _ c.new-hasher.ensures)) in
    rw (joined_none, append-nil, ← c.to_be_bytes.ensures) held

pub chains-preserved : goal.chains-preserved
chains-preserved c =
    let more = c.update-in-chains.ensures _ c.chains.invariant in
    let is_end : c.chain.result ≡ chain c.args.id.now c.args.q c.chains.i 0 255 (secret c.args.seed.now c.args.id.now c.args.q c.chains.i) =
    rw c.secret-start.ensures at c.chain.ensures in
    rw (joined_more, ← append_assoc, ← is_end) more
