use Rattle.std.proofs.Common.{sym, ap, subst, ◌∙◌, OnOk}
use Rattle.std.specs.Prelude.{is_ok}
use Rattle.signature_objects.specs.Objects.{Object, Certificate, RevocationList, with_object}
use Rattle.case_steps.specs.Built.{ShowsObjects}
use Rattle.case_objects.proofs.Walked.{certificate_in, list_in}
use Rattle.case_objects.proofs.adding.add_material.Goals as goal

pub returns-in-Ok-clause-objects : goal.returns-in-Ok-clause-objects
returns-in-Ok-clause-objects c objects s =
    let same = ap (λ octets. Certificate octets) c.in-Ok.ensures.ok ∙ sym (certificate_in c.args.octets.now (ap is_ok c.in-Ok.ensures.judged)) in
    subst (λ (object : Object). OnOk c.add.result (ShowsObjects (with_object objects object) c.add.new.case)) same (c.add.ensures.objects objects s)

pub returns-clause-objects : goal.returns-clause-objects
returns-clause-objects c objects s =
    let same = ap (λ octets. RevocationList octets) c.in-Ok-read_crl.ensures.ok ∙ sym (list_in c.args.octets.now (ap is_ok c.in_default.ensures.judged)) in
    subst (λ (object : Object). OnOk c.add-in-Ok-read_crl.result (ShowsObjects (with_object objects object) c.add-in-Ok-read_crl.new.case)) same
    (c.add-in-Ok-read_crl.ensures.objects objects s)
