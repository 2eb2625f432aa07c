use Rattle.std.proofs.Common.{ap, sym, subst}
use Rattle.base64.specs.GeneralPurpose.{IsBytes}
use Rattle.covered_items.specs.Whole.{EachBytes}
use Rattle.xades_cli.proofs.PrepareLemmas.{each_more}
use Rattle.xades_cli.proofs.drafting.add_if_certificate.Goals as goal

pub returns-clause-bytes : goal.returns-clause-bytes
returns-clause-bytes c = λ each.
    subst EachBytes (sym (ap (λ d. d.certificates) c.in_ok-add_cert.ensures.ok))
    (each_more c.args.draft.now.certificates c.as_slice.result.now each (subst IsBytes (sym c.as_slice.ensures.value) c.as_slice.ensures.bytes))
