use Rattle.std.proofs.Common.{◌≡◌, ◌∙◌, ◌++◌, sym, ap, nat_eq}
use Rattle.std.specs.List.{starts_with}
use Rattle.std.specs.Str.{chars}
use Rattle.doc_spans.proofs.SameTexts.{not_begun, begun, run_boundary}
use Rattle.doc_spans.proofs.texts.behind_run.Goals as goal

pub returns-then-not-starts_with-clause-found : goal.returns-then-not-starts_with-clause-found
returns-then-not-starts_with-clause-found c = λ cs h.
    let test : starts_with nat_eq c.args.text.now c.args.run.now ≡ c.starts_with.result =
    sym (c.starts_with.ensures.value ∙ (λ i. starts_with nat_eq (c.as_bytes.ensures.value i) (c.as_bytes-2.ensures.value i))) in
    not_begun c.args.text.now c.args.run.now cs c.utf8.text c.utf8.run (test ∙ c.if-not-starts_with.true) h

pub split_at-requires : goal.split_at-requires
split_at-requires c =
    let test : starts_with nat_eq c.args.text.now c.args.run.now ≡ c.starts_with.result =
    sym (c.starts_with.ensures.value ∙ (λ i. starts_with nat_eq (c.as_bytes.ensures.value i) (c.as_bytes-2.ensures.value i))) in
    run_boundary c.args.text.now c.args.run.now c.utf8.text c.utf8.run (test ∙ c.if-not-starts_with.false)

pub returns-clause-found : goal.returns-clause-found
returns-clause-found c =
    let test : starts_with nat_eq c.args.text.now c.args.run.now ≡ c.starts_with.result =
    sym (c.starts_with.ensures.value ∙ (λ i. starts_with nat_eq (c.as_bytes.ensures.value i) (c.as_bytes-2.ensures.value i))) in
    begun c.args.text.now c.args.run.now c.utf8.run (test ∙ c.if-not-starts_with.false) ∙ ap (λ xs. chars c.args.run.now ++ chars xs) (sym c.split_at.ensures.back)
