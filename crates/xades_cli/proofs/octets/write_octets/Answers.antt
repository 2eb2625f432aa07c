use Rattle.std.proofs.Common.{◌≡◌, refl, subst, sym}
use Rattle.std.specs.Prelude.{None, Some, Err}
use Rattle.asked_octets.specs.Asking.{IsAsked, octets_code}
use Rattle.doc_spans.specs.Seen.{bytes_in, document_in}
use Rattle.document_model.specs.Documents.{document_of, fault}
use Rattle.reference_chains.specs.HandedIn.{handed_in}
use Rattle.xades_cli.specs.Octets.{octets_outcome}
use Rattle.xades_cli.specs.Outcomes.{IsOf}
use Rattle.xades_cli.specs.Outcomes.{Refuses}
use Rattle.xades_cli.specs.declared.stop.Refusal.TheVariants.{Item}
use Rattle.xades_cli.proofs.OctetLemmas.{octets_refused}
use Rattle.xades_cli.proofs.octets.write_octets.Goals as goal

pub returns-in-Err-Found : goal.returns-in-Err-Found
returns-in-Err-Found c =
    let none : fault c.args.document.now ≡ None = c.in_ok-tree.ensures.tree.tree.spelled in
    let purpose = c.args.purpose in
    let handed = handed_in c.args.externals.now in
    let asked = subst (λ o. IsAsked purpose handed (bytes_in c.of.result) (document_in c.of.result) (Err o)) c.in-Err-Found.field-0-is c.in-Err-Found.ensures in
    let found : octets_code purpose handed c.args.document.now (document_of c.args.document.now) ≡ Some c.in-Err-Found.code
    = subst (λ bytes. octets_code purpose handed bytes (document_of bytes) ≡ Some c.in-Err-Found.code) c.of.ensures.bytes asked in
    let same = octets_refused c.args.purpose (handed_in c.args.externals.now) c.args.document.now c.in-Err-Found.code none found in
    subst (λ stop. IsOf (octets_outcome c.args.purpose (handed_in c.args.externals.now) c.args.document.now) (Err stop)) (sym c.refuse.ensures)
    (subst (λ outcome. Refuses outcome (Item 0 c.in-Err-Found.code)) (sym same) (refl, refl))
