use Rattle.std.proofs.Common.{◌≡◌}
use Rattle.xmssmt_verify.specs.XmssMt.{above, root_over}
use Rattle.xmssmt_verify.proofs.xmssmt.root_over.Given as goal

abbrev pub invariant-layers : goal.invariant-layers
invariant-layers l =
    (l.rest ≡ above l.height l.idx l.layer) × (l.value ≡ root_over l.height l.seed l.idx l.fn.digest l.layers l.layer)
