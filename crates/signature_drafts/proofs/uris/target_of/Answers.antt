use Rattle.std.proofs.Common.{sym, ap}
use Rattle.signature_drafts.specs.Uris.{target_of}
use Rattle.signature_drafts.proofs.QuotedTexts.{no_characters}
use Rattle.signature_drafts.proofs.uris.target_of.Goals as goal

pub returns-in-None : goal.returns-in-None
returns-in-None c = sym (ap (λ cs. target_of cs) (no_characters c.args.uri.now c.in-None.ensures.chars))
