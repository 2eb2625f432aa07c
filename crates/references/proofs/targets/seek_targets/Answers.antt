use Rattle.std.proofs.Common.{◌+◌, ap, sym, arith, ◌∙◌}
use Rattle.std.specs.Prelude.{◌∷◌, option_map}
use Rattle.std.specs.List.{position_from}
use Rattle.doc_spans.specs.Seen.{document_in}
use Rattle.signature_model.specs.Chains.{TargetMissing, TargetTwice, target_missing, target_twice}
use Rattle.references.specs.declared.targets.Sought.{Sought}
use Rattle.references.specs.Found.{names_none, names_several}
use Rattle.references.specs.RefsOf.{references_in}
use Rattle.references.proofs.Firsts.{code_found, code_passed}
use Rattle.references.proofs.Judging.{position_within}
use Rattle.references.proofs.Sought.{missing_at, twice_at}
use Rattle.references.proofs.targets.seek_targets.Goals as goal

pub overflow_cast-result : goal.overflow_cast-result
overflow_cast-result c =
    let all = c.in_ok-all.all.items in
    let within = position_within (λ (s : Sought). names_none s.place) 0 all c.in-Some.number
    (ap (position_from (λ (s : Sought). names_none s.place) 0) (sym c.deref.ensures.value) ∙ sym c.first_missing.ensures ∙ c.in-Some.is) in
    omega (arith, within, c.in_ok-all.ensures.few)

pub overflow_add-result : goal.overflow_add-result
overflow_add-result c =
    let all = c.in_ok-all.all.items in
    let within = position_within (λ (s : Sought). names_none s.place) 0 all c.in-Some.number
    (ap (position_from (λ (s : Sought). names_none s.place) 0) (sym c.deref.ensures.value) ∙ sym c.first_missing.ensures ∙ c.in-Some.is) in
    omega (arith, within, c.in_ok-all.ensures.few)

pub returns-in-Some-clause-err : goal.returns-in-Some-clause-err
returns-in-Some-clause-err c tests =
    let doc = c.args.doc in
    let spots = references_in doc c.args.parts.now.signature in
    let all = c.in_ok-all.all.items in
    code_found (target_missing (document_in doc)) (target_twice (document_in doc) ∷ tests) spots (TargetMissing (c.in-Some.number + 1))
    (missing_at doc spots all c.in_ok-all.ensures
    ∙ ap (option_map (λ n. TargetMissing (n + 1)))
    (ap (position_from (λ (s : Sought). names_none s.place) 0) (sym c.deref.ensures.value) ∙ sym c.first_missing.ensures ∙ c.in-Some.is))

pub overflow_cast-result-in-Some-first_double : goal.overflow_cast-result-in-Some-first_double
overflow_cast-result-in-Some-first_double c =
    let all = c.in_ok-all.all.items in
    let within = position_within (λ (s : Sought). names_several s.place) 0 all c.in-Some-first_double.number
    (ap (position_from (λ (s : Sought). names_several s.place) 0) (sym c.deref-2.ensures.value) ∙ sym c.first_double.ensures ∙ c.in-Some-first_double.is) in
    omega (arith, within, c.in_ok-all.ensures.few)

pub overflow_add-result-in-Some-first_double : goal.overflow_add-result-in-Some-first_double
overflow_add-result-in-Some-first_double c =
    let all = c.in_ok-all.all.items in
    let within = position_within (λ (s : Sought). names_several s.place) 0 all c.in-Some-first_double.number
    (ap (position_from (λ (s : Sought). names_several s.place) 0) (sym c.deref-2.ensures.value) ∙ sym c.first_double.ensures ∙ c.in-Some-first_double.is) in
    omega (arith, within, c.in_ok-all.ensures.few)

pub returns-in-Some-first_double-clause-err : goal.returns-in-Some-first_double-clause-err
returns-in-Some-first_double-clause-err c tests =
    let doc = c.args.doc in
    let document = document_in doc in
    let spots = references_in doc c.args.parts.now.signature in
    let all = c.in_ok-all.all.items in
    code_passed (target_missing document) (target_twice document ∷ tests) spots
    (missing_at doc spots all c.in_ok-all.ensures
    ∙ ap (option_map (λ n. TargetMissing (n + 1)))
    (ap (position_from (λ (s : Sought). names_none s.place) 0) (sym c.deref.ensures.value) ∙ sym c.first_missing.ensures ∙ c.in_default.is))
    ∙ code_found (target_twice document) tests spots (TargetTwice (c.in-Some-first_double.number + 1))
    (twice_at doc spots all c.in_ok-all.ensures
    ∙ ap (option_map (λ n. TargetTwice (n + 1)))
    (ap (position_from (λ (s : Sought). names_several s.place) 0) (sym c.deref-2.ensures.value) ∙ sym c.first_double.ensures ∙ c.in-Some-first_double.is))

pub returns-clause-missing : goal.returns-clause-missing
returns-clause-missing c =
    let doc = c.args.doc in
    missing_at doc (references_in doc c.args.parts.now.signature) c.in_ok-all.all.items c.in_ok-all.ensures
    ∙ ap (option_map (λ n. TargetMissing (n + 1)))
    (ap (position_from (λ (s : Sought). names_none s.place) 0) (sym c.deref.ensures.value) ∙ sym c.first_missing.ensures ∙ c.in_default.is)

pub returns-clause-twice : goal.returns-clause-twice
returns-clause-twice c =
    let doc = c.args.doc in
    twice_at doc (references_in doc c.args.parts.now.signature) c.in_ok-all.all.items c.in_ok-all.ensures
    ∙ ap (option_map (λ n. TargetTwice (n + 1)))
    (ap (position_from (λ (s : Sought). names_several s.place) 0) (sym c.deref-2.ensures.value) ∙ sym c.first_double.ensures ∙ c.in_default-first_double.is)
