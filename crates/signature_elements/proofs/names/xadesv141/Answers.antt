use Rattle.std.specs.Str.{chars}
use Rattle.signature_elements.proofs.Named.{xadesv141_text}
use Rattle.signature_elements.proofs.names.xadesv141.Goals as goal

pub returns : goal.returns
returns c = (λ i. record { space = xadesv141_text i; local = chars c.args.local.now })
