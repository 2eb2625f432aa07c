use Rattle.std.proofs.Common.{◌∷◌, [], map, ap, ◌∙◌}
use Rattle.std.proofs.Math.ListN.{take}
use Rattle.whole_files.specs.Wants.{held_of}
use Rattle.xades_cli.specs.Prepare.{certificates_of, with_certificates}
use Rattle.xades_cli.proofs.PrepareLemmas.{certificates_more, next_files}
use Rattle.xades_cli.proofs.drafting.add_certificates.Goals as goal

pub loop-file-preserved : goal.loop-file-preserved
loop-file-preserved c = (
  c.in_ok-add_if_certificate.ensures.added ∙ ap (with_certificates (certificates_of (held_of c.file-item.result ∷ []))) c.loop-file.invariant.0
      ∙ certificates_more c.args.draft.now (map held_of (take c.loop-file.file-index c.args.files.now)) (held_of c.file-item.result)
      ∙ ap (λ fs. with_certificates (certificates_of fs) c.args.draft.now) (next_files c.args.files.now c.loop-file.file-index c.file-item.result c.loop-file-test.true c.file-item.is),
  λ each. c.in_ok-add_if_certificate.ensures.bytes (c.loop-file.invariant.1 each),
)
