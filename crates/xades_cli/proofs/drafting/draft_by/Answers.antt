use Rattle.std.proofs.Common.{◌≡◌, map, sym, ap, ◌∙◌, to_z, of_z, w64}
use Rattle.std.specs.Prelude.{Some}
use Rattle.std.specs.Str.{chars}
use Rattle.signature_drafts.specs.Drafts.{begun}
use Rattle.signature_elements.specs.DigestKinds.{kind_in}
use Rattle.utc_times.specs.TimeText.{time_of}
use Rattle.whole_files.specs.Wants.{held_of}
use Rattle.word_patterns.specs.Grammar.{text_now}
use Rattle.xades_cli.specs.Prepare.{certificates_of, with_certificates, with_references}
use Rattle.time_texts.proofs.TextsOfTimes.{time_back, time_once, time_within}
use Rattle.xades_cli.proofs.drafting.draft_by.Goals as goal

pub new-requires : goal.new-requires
new-requires c =
    let named : time_of c.args.asked.now.time.now ≡ Some c.in-Some.seconds = ap time_of (sym c.as_bytes.ensures.value) ∙ sym c.read_time.ensures ∙ c.in-Some.is in
    rw (time_back c.args.asked.now.time.now c.in-Some.seconds named) (time_within c.args.asked.now.time.now c.in-Some.seconds named)

pub returns-clause-draft : goal.returns-clause-draft
returns-clause-draft c =
    let named : time_of c.args.asked.now.time.now ≡ Some c.in-Some.seconds = ap time_of (sym c.as_bytes.ensures.value) ∙ sym c.read_time.ensures ∙ c.in-Some.is in
    let back : to_z w64 (of_z w64 c.in-Some.seconds) ≡ c.in-Some.seconds = time_back c.args.asked.now.time.now c.in-Some.seconds named in
    let time = time_once c.in_ok-draft.draft.time c.args.asked.now.time.now c.in-Some.seconds (c.in_ok-draft.ensures.time ∙ ap Some back) named in
    c.in_ok-add_references.ensures ∙ ap (λ us. with_references (map chars (map text_now us)) c.add_certificates.new.draft) c.as_slice.ensures.value
    ∙ ap (with_references (map chars (map text_now c.args.asked.now.references.items))) (c.in_ok-add_certificates.ensures.added ∙ ap (with_certificates (certificates_of (map held_of c.args.files.now))) c.in_ok-draft.ensures.draft)
    ∙ ap (λ t. with_references (map chars (map text_now c.args.asked.now.references.items)) (with_certificates (certificates_of (map held_of c.args.files.now)) (begun t (chars c.args.asked.now.id.now) (chars c.args.asked.now.method.now) (kind_in c.args.asked.now.digest)))) time
