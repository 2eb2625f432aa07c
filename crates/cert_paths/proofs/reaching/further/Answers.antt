use Rattle.std.proofs.Common.{List, Bool, Vec, Global, length, sym, subst}
use Rattle.cert_paths.specs.Reached.{IsSignedNext}
use Rattle.cert_paths.specs.Tables.{IsTableOf}
use Rattle.cert_paths.proofs.ReachLaws.{further_signed}
use Rattle.cert_paths.proofs.reaching.further.Goals as goal

pub returns-clause-table : goal.returns-clause-table
returns-clause-table c =
    let before = c.args.before.now in
    let Of : List (Vec Bool Global) → List Bool → List Bool → Type 0 = λ b k r.
    IsTableOf (IsSignedNext c.args.certs.now c.args.issuers.now b k r) (length c.args.certs.now) (length c.args.issuers.now) c.in_ok-signed.signed.items in
    let next : Of before.signed.items before.reached.items c.args.reached.items =
    subst (λ (b : List (Vec Bool Global)). Of b before.reached.items c.args.reached.items) c.as_slice.ensures.value
    (subst (λ (k : List Bool). Of c.as_slice.result.now k c.args.reached.items) c.as_slice-2.ensures.value
    (subst (λ (r : List Bool). Of c.as_slice.result.now c.as_slice-2.result.now r) c.as_slice-3.ensures.value c.in_ok-signed.ensures)) in
    further_signed c.args.certs.now c.args.issuers.now before.signed.items before.reached.items c.args.reached.items c.in_ok-signed.signed.items c.requires.table c.requires.stays next
