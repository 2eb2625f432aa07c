use Rattle.std.proofs.Common.{◌≡◌, ◌++◌}
use Rattle.xmssmt_verify.specs.XmssMt.{above}
use Rattle.sample_world.specs.Joined.{joined}
use Rattle.sample_world.specs.World.{xmssmt_secret, xmssmt_seed}
use Rattle.sample_world.specs.XmssMtKeys.{signed_by, layer_of}
use Rattle.sample_world.proofs.xmssmt_trees.put_layers.Given as goal

abbrev pub invariant-layers : goal.invariant-layers
invariant-layers l =
    (l.rest ≡ above 5 l.idx l.layer)
    × (l.signed ≡ signed_by (xmssmt_seed l.secret) (xmssmt_secret l.secret) l.idx l.digest l.layer)
    × (l.out ≡ l.fn.out ++ joined (layer_of (xmssmt_seed l.secret) (xmssmt_secret l.secret) l.idx l.digest) l.layer)
