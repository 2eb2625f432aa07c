use Rattle.std.proofs.Common.{subst, sym, ap}
use Rattle.std.proofs.lemmas.Result.{err_from_is_err_and}
use Rattle.std.specs.Prelude.{IfErr, Result}
use Rattle.doc_spans.specs.Seen.{document_in}
use Rattle.signature_elements.specs.Standing.{spot_of}
use Rattle.signature_model.specs.Faults.{first_place}
use Rattle.signature_model.specs.Parts.{includes}
use Rattle.signature_model.specs.Readable.{Answer, by_data, by_include, by_shape, bad_data, read_parts}
use Rattle.signature_model.specs.Spots.{paths}
use Rattle.qualifying_props.specs.declared.faults.PartFault.{PartFault}
use Rattle.qualifying_props.specs.Answers.{IsFault}
use Rattle.qualifying_props.specs.Shown.{Shown}
use Rattle.qualifying_props.specs.Whole.{is_whole}
use Rattle.qualifying_props.proofs.read.read_parts.Goals as goal

pub returns-in_err-judge_shape-clause-err : goal.returns-in_err-judge_shape-clause-err
returns-in_err-judge_shape-clause-err c =
    let doc = c.args.doc in
    let document = document_in doc in
    let spot = spot_of doc c.args.signature in
    let P : PartFault → Type 0 = IsFault doc (read_parts is_whole document spot) in
    let R : Result Shown PartFault → Type 0 = λ result. IfErr result P in
    let p = err_from_is_err_and c.from_residual.result c.from_residual.ensures.1 in
    let next = by_include (by_data spot (first_place (bad_data is_whole document spot))) (first_place (paths (includes document spot))) in
    subst R (sym p.1) (subst P (sym p.2) (c.in_err-judge_shape.ensures.err next))

pub returns-in_err-judge_includes-clause-err : goal.returns-in_err-judge_includes-clause-err
returns-in_err-judge_includes-clause-err c =
    let doc = c.args.doc in
    let document = document_in doc in
    let spot = spot_of doc c.args.signature in
    let P : PartFault → Type 0 = IsFault doc (read_parts is_whole document spot) in
    let R : Result Shown PartFault → Type 0 = λ result. IfErr result P in
    let p = err_from_is_err_and c.from_residual-in_err-judge_includes.result c.from_residual-in_err-judge_includes.ensures.1 in
    let next = by_data spot (first_place (bad_data is_whole document spot)) in
    let found = by_include next (first_place (paths (includes document spot))) in
    let fault = c.in_err-judge_includes.field-0.0 in
    let F : Answer → Type 0 = λ answer. IsFault doc answer fault in
    subst R (sym p.1) (subst P (sym p.2) (subst F (sym (ap (by_shape found) c.in_ok-judge_shape.ensures.ok.none)) (c.in_err-judge_includes.ensures.err next)))
