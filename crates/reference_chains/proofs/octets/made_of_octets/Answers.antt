use Rattle.std.proofs.Common.{sym, ◌∙◌, ap}
use Rattle.std.proofs.lemmas.Result.{IfOk-weaker}
use Rattle.signature_model.specs.Base64.{skipping}
use Rattle.signature_model.specs.Chains.{made_of_octets}
use Rattle.signature_model.specs.Octets.{octets_by}
use Rattle.reference_chains.specs.ChainsIn.{made_in}
use Rattle.reference_chains.proofs.Meanings.{decoded_octets}
use Rattle.reference_chains.proofs.octets.made_of_octets.Goals as goal

pub returns-in-Decoded : goal.returns-in-Decoded
returns-in-Decoded c = λ form document doc.
    IfOk-weaker c.or_none.result _ _
    (λ octets h. h ∙ decoded_octets form document (skipping c.args.given.now) ∙ ap (λ m. octets_by form document (made_of_octets c.args.given.now (made_in doc m))) (sym c.in-Decoded.is))
    (c.or_none.ensures c.args.given.now c.decode.ensures)
