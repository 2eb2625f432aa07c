use Rattle.std.proofs.Common.{ap, ◌∙◌, Some}
use Rattle.std.specs.Prelude.{option_map}
use Rattle.qualifying_props.specs.Digests.{algorithm}
use Rattle.qualifying_props.proofs.Signing.{algorithm_is}
use Rattle.qualifying_props.proofs.nodes.cert_digest_kind.Goals as goal

pub returns : goal.returns
returns c = ap (option_map algorithm) c.named_kind.ensures ∙ ap Some (algorithm_is c.named_kind.result)
