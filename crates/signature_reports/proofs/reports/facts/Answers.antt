use Rattle.std.proofs.Common.{List, map, refl, sym, ◌∙◌, subst, to_z-of_z}
use Rattle.cert_paths.specs.Pool.{part_numbers}
use Rattle.signature_cases.specs.Built.{AreWords}
use Rattle.signature_cases.specs.declared.cases.StampWord.{StampWord}
use Rattle.signature_verdicts.specs.Seen.{answers_in}
use Rattle.signature_reports.specs.Said.{object_said, tokens_said}
use Rattle.signature_reports.proofs.Gathered.{gathered}
use Rattle.signature_reports.proofs.References.{said_from}
use Rattle.signature_reports.proofs.reports.facts.Goals as goal

pub returns : goal.returns
returns c policy evidence built =
    let times = c.args.answers.now.times in
    let rows = c.as_slice-rows.ensures.value in
    let words = c.as_slice-words.ensures.value in
    let pool = c.pool-pool.ensures in
    let level = c.level.ensures evidence (answers_in c.args.answers.now) (subst (λ (words : List StampWord). AreWords evidence.objects evidence.stamps words) (sym words) built.words) refl in
    gathered policy evidence c.args.shown.now c.args.answers.now c.args.now _ c.level.result c.in_ok-references.references c.certificate_fact.result c.value_fact.result
    c.in_ok-tokens.tokens c.in_ok-objects.objects built c.requires.times (to_z-of_z c.ranges.now) level
    (c.in_ok-references.ensures ∙ (λ i. said_from times 0 (rows i) (c.as_slice.ensures.value i))) c.certificate_fact.ensures c.value_fact.ensures
    (c.in_ok-tokens.ensures ∙ (λ i. tokens_said times (words i) (c.as_slice-2.ensures.value i)))
    (c.in_ok-objects.ensures ∙ (λ i. map (object_said (pool i) times) (part_numbers (pool i))))
