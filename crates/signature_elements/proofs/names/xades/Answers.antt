use Rattle.std.specs.Str.{chars}
use Rattle.signature_elements.proofs.Named.{xades_text}
use Rattle.signature_elements.proofs.names.xades.Goals as goal

pub returns : goal.returns
returns c = (λ i. record { space = xades_text i; local = chars c.args.local.now })
