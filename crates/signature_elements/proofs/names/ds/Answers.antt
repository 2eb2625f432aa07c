use Rattle.std.specs.Str.{chars}
use Rattle.signature_elements.proofs.Named.{ds_text}
use Rattle.signature_elements.proofs.names.ds.Goals as goal

pub returns : goal.returns
returns c = (λ i. record { space = ds_text i; local = chars c.args.local.now })
