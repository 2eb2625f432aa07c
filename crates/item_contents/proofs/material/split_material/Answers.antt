use Rattle.std.proofs.Common.{◌+◌, ℕ, List, arith, map, subst, sym}
use Rattle.base64.specs.GeneralPurpose.{IsBytes}
use Rattle.covered_items.specs.Whole.{AreWhole}
use Rattle.der_values.specs.Distinct.{octets}
use Rattle.qualifying_props.specs.Whole.{is_whole}
use Rattle.signature_model.specs.Parts.{Certificate, RevocationList}
use Rattle.x509_certs.specs.View.{is_certificate, part_bytes}
use Rattle.item_contents.proofs.Splitting.{SoFar, bad_at, certificates_whole, ended, goes_on, lists_whole}
use Rattle.item_contents.proofs.material.split_material.Goals as goal

pub returns-in-Err-clause-err : goal.returns-in-Err-clause-err
returns-in-Err-clause-err c = bad_at c.args.bytes.now c.loop-at.at c.in-Err.fault.at _ _ c.loop-at.invariant c.loop-at-test.true c.in-Err.ensures.value

pub loop-at-preserved : goal.loop-at-preserved
loop-at-preserved c =
    let certificates : List (List ℕ) = map octets c.push.new.self.certificates.items in
    let lists : List (List ℕ) = map octets c.push.new.self.lists.items in
    subst (λ (n : ℕ). SoFar c.args.bytes.now (c.loop-at.at + n) certificates lists) (sym c.size_of-at.ensures)
    (goes_on c.args.bytes.now (part_bytes c.in-Ok.part) c.loop-at.at (is_certificate c.in-Ok.part) _ _ certificates lists c.loop-at.invariant
    c.in-Ok.ensures.value.1 c.in-Ok.ensures.object c.in-Ok.ensures.value.2 c.in-Ok-push.ensures.certificates c.in-Ok-push.ensures.lists)

pub returns-clause-certificates : goal.returns-clause-certificates
returns-clause-certificates c =
    let all = ended c.args.bytes.now c.loop-at.at _ _ c.loop-at.invariant c.loop-at-test.false in
    subst (AreWhole is_whole Certificate) (sym all.certificates_are)
    (certificates_whole all.parts all.whole (subst IsBytes (sym all.joined) (λ i. let f = c.type_inv.bytes i in omega arith)))

pub returns-clause-lists : goal.returns-clause-lists
returns-clause-lists c =
    let all = ended c.args.bytes.now c.loop-at.at _ _ c.loop-at.invariant c.loop-at-test.false in
    subst (AreWhole is_whole RevocationList) (sym all.lists_are) (lists_whole all.parts all.whole (subst IsBytes (sym all.joined) (λ i. let f = c.type_inv.bytes i in omega arith)))
