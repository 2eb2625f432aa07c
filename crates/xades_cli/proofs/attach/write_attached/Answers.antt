use Rattle.std.proofs.Common.{refl, subst, to_z-of_z}
use Rattle.std.specs.Prelude.{Ok, Err}
use Rattle.augmenter.specs.Attaching.{IsAttachment}
use Rattle.policy_rules.specs.View.{rules}
use Rattle.reference_chains.specs.HandedIn.{handed_in}
use Rattle.xades_cli.specs.Outcomes.{RefusesItem, Writes}
use Rattle.xades_cli.proofs.AttachLemmas.{faulty_items}
use Rattle.xades_cli.proofs.attach.write_attached.Goals as goal

pub returns-in-Ok : goal.returns-in-Ok
returns-in-Ok c = record {
  outcome = Writes c.in-Ok.text;
  comes = subst (λ m. IsAttachment (rules c.args.policy.now) (handed_in c.args.externals.now) m c.args.items.now c.args.document.now (Ok c.in-Ok.text)) (to_z-of_z c.ranges.at) c.in-Ok.ensures.answer;
  gives = refl;
  says = record { extends = c.in-Ok.ensures.extends; hold = c.in-Ok.ensures.hold };
}

pub returns-in-Err-BadDocument : goal.returns-in-Err-BadDocument
returns-in-Err-BadDocument c =
    let answer = subst (λ m. IsAttachment (rules c.args.policy.now) (handed_in c.args.externals.now) m c.args.items.now c.args.document.now (Err c.in-Err-BadDocument.field-0)) (to_z-of_z c.ranges.at) c.in-Err-BadDocument.ensures.answer in
    faulty_items (rules c.args.policy.now) (handed_in c.args.externals.now) c.args.at c.args.items.now c.args.document.now c.in-Err-BadDocument.fault
    (subst (λ r. IsAttachment (rules c.args.policy.now) (handed_in c.args.externals.now) c.args.at c.args.items.now c.args.document.now (Err r)) c.in-Err-BadDocument.field-0-is answer)

pub returns-in-Err-Refused : goal.returns-in-Err-Refused
returns-in-Err-Refused c =
    let answer = subst (λ m. IsAttachment (rules c.args.policy.now) (handed_in c.args.externals.now) m c.args.items.now c.args.document.now (Err c.in-Err-Refused.field-0)) (to_z-of_z c.ranges.at) c.in-Err-Refused.ensures.answer in record {
      outcome = RefusesItem c.in-Err-Refused.item c.in-Err-Refused.code;
      comes = subst (λ r. IsAttachment (rules c.args.policy.now) (handed_in c.args.externals.now) c.args.at c.args.items.now c.args.document.now (Err r)) c.in-Err-Refused.field-0-is answer;
      refuses = (refl, refl);
    }
