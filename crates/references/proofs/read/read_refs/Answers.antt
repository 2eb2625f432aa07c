use Rattle.std.proofs.Common.{◌≡◌, [], ◌∷◌, Option, subst, sym, ap, ◌∙◌}
use Rattle.std.proofs.lemmas.Result.{err_from_is_err_and}
use Rattle.std.specs.Prelude.{IfErr, Result}
use Rattle.doc_spans.specs.declared.documents.NodeId.{NodeId}
use Rattle.doc_spans.specs.Seen.{document_in, path_in}
use Rattle.signature_model.specs.Chains.{Fault, first_of, no_chain, no_digest, not_base64, not_handed_in}
use Rattle.reference_chains.specs.HandedIn.{handed_in}
use Rattle.references.specs.declared.faults.RefFault.{RefFault}
use Rattle.references.specs.Answers.{fault_in, IsFault}
use Rattle.references.specs.Found.{reference_spots, sought_spots}
use Rattle.references.specs.RefsOf.{references_in}
use Rattle.references.specs.Shown.{Shown}
use Rattle.references.proofs.Firsts.{by_decoding}
use Rattle.references.proofs.read.read_refs.Goals as goal

pub returns-in_err-all-clause-err : goal.returns-in_err-all-clause-err
returns-in_err-all-clause-err c =
    let doc = c.args.doc in
    let document = document_in doc in
    let signature = c.args.parts.now.signature in
    let handed = handed_in c.args.externals.now in
    let P : RefFault → Type 0 = IsFault (fault_in handed doc signature) in
    let R : Result Shown RefFault → Type 0 = λ result. IfErr result P in
    let p = err_from_is_err_and c.from_residual.result c.from_residual.ensures.1 in
    subst R (sym p.1)
    (subst P (sym p.2)
    (c.in_err-all.ensures.err (no_chain document ∷ no_digest document ∷ not_handed_in handed ∷ not_base64 handed document (path_in doc signature) ∷ [])))

pub returns-in_err-refuse_undecoded-clause-err : goal.returns-in_err-refuse_undecoded-clause-err
returns-in_err-refuse_undecoded-clause-err c =
    let doc = c.args.doc in
    let document = document_in doc in
    let signature = c.args.parts.now.signature in
    let handed = handed_in c.args.externals.now in
    let spots = references_in doc signature in
    let P : RefFault → Type 0 = IsFault (fault_in handed doc signature) in
    let R : Result Shown RefFault → Type 0 = λ result. IfErr result P in
    let p = err_from_is_err_and c.from_residual-in_err-refuse_undecoded.result c.from_residual-in_err-refuse_undecoded.ensures.1 in
    let fault = c.in_err-refuse_undecoded.field-0.0 in
    let F : Option Fault → Type 0 = λ o. IsFault o fault in
    let sought : sought_spots doc c.deref.result.now ≡ spots = ap (sought_spots doc) c.deref.ensures.value ∙ c.in_ok-all.ensures.sought.same in
    let found : reference_spots doc c.in_ok-references.references.items ≡ spots = c.in_ok-references.ensures.references.same ∙ sought in
    let second : reference_spots doc c.deref-2.result.now ≡ spots = ap (reference_spots doc) c.deref-2.ensures.value ∙ found in
    let third : reference_spots doc c.deref-3.result.now ≡ spots = ap (reference_spots doc) c.deref-3.ensures.value ∙ found in
    let fourth : reference_spots doc c.deref-4.result.now ≡ spots = ap (reference_spots doc) c.deref-4.ensures.value ∙ found in
    subst R (sym p.1)
    (subst P (sym p.2)
    (by_decoding handed document (path_in doc signature) spots fault (record { missing = c.in_ok-all.ensures.missing; twice = c.in_ok-all.ensures.twice })
    (ap (first_of (no_chain document) 1) (sym sought) ∙ c.in_ok-references.ensures.none)
    (ap (first_of (no_digest document) 1) (sym second) ∙ c.in_ok-rows.ensures.none)
    (ap (first_of (not_handed_in handed) 1) (sym third) ∙ c.in_ok-refuse_wanting.ensures.none)
    (subst F
    (ap (first_of (not_base64 handed document (path_in doc c.signature-signature.result)) 1) fourth
    ∙ ap (λ (n : NodeId). first_of (not_base64 handed document (path_in doc n)) 1 spots) c.signature-signature.ensures)
    c.in_err-refuse_undecoded.ensures.err)))
