use Rattle.std.proofs.Common.{◌≡◌, ◌↔◌, Bool, List, Option, IsTrue, ℤ, arith, refl, sym, ap, subst, ◌∙◌, to_z, of_z, to_z-of_z, w64, SFits}
use Rattle.std.specs.Prelude.{IfSome, length}
use Rattle.doc_spans.specs.Seen.{document_in}
use Rattle.signature_elements.specs.Standing.{spot_of}
use Rattle.acceptance.specs.Certificates.{Part}
use Rattle.acceptance.specs.Walks.{HasCertificate, time}
use Rattle.cert_paths.specs.Origin.{Origin}
use Rattle.policy_rules.specs.Rules.{kind_of_uri}
use Rattle.policy_rules.specs.View.{rules}
use Rattle.algorithms.specs.declared.signature_kinds.SignatureKind.{SignatureKind}
use Rattle.acceptance.specs.Verdict.{AreEarliest, DigestUse, IsInOrder}
use Rattle.signature_evidence.specs.Answers.{AreAccepted, AreAllComplete}
use Rattle.signature_objects.specs.Objects.{Value, number_of}
use Rattle.signature_verdicts.specs.Seen.{IsSignerAccepted}
use Rattle.completeness.specs.Complete.{IsFirstIncomplete}
use Rattle.completeness.specs.Signers.{signers}
use Rattle.completeness.proofs.Agreed.{none_is_all_complete}
use Rattle.signature_cases.specs.Built.{AreWords, case_of, member_of, uses_from}
use Rattle.signature_cases.specs.declared.cases.ReferenceDigest.{ReferenceDigest}
use Rattle.signature_cases.specs.declared.cases.StampWord.{StampWord}
use Rattle.signature_evidence.specs.Evidence.{Evidence, evidence_of}
use Rattle.signature_evidence.proofs.InRange.{evidence_is_in_range}
use Rattle.signature_verdicts.proofs.Built.{certificate_is, complete_is, kind_is, member_there, none_answer, rows_within, signer_same, signer_within, walk_is}
use Rattle.signature_verdicts.proofs.OnTokens.{as_many}
use Rattle.signature_verdicts.proofs.answering.answer.Goals as goal

pub reference_answers-requires-clause-rows : goal.reference_answers-requires-clause-rows
reference_answers-requires-clause-rows c =
    let b = c.requires.built in
    let document = document_in b.0 in
    let signature = spot_of b.0 c.args.parts.now.signature in
    let evidence : Evidence = evidence_of b.1 document signature b.2 in
    let most = rows_within (rules c.args.policy.now) evidence c.args.shown.now (evidence_is_in_range b.1 document signature b.2 b.3.material) b.3.built in
    let rows = ap (λ (l : List ReferenceDigest). length l) c.as_slice-rows.ensures.value in
    let pool = ap (λ (l : List Part). length l) c.pool-2.ensures in
    omega (arith, most, rows, pool)

pub token_answers-requires-clause-words : goal.token_answers-requires-clause-words
token_answers-requires-clause-words c =
    let b = c.requires.built in
    let evidence : Evidence = evidence_of b.1 (document_in b.0) (spot_of b.0 c.args.parts.now.signature) b.2 in
    ap (λ (l : List StampWord). length l) c.as_slice.ensures.value
    ∙ as_many evidence.objects evidence.stamps c.args.shown.now.case.stamps c.args.shown.now.stamps.items b.3.built.shows.stamps b.3.built.words

pub walk_answer-requires-clause-signer : goal.walk_answer-requires-clause-signer
walk_answer-requires-clause-signer c =
    let b = c.requires.built in
    let document = document_in b.0 in
    let signature = spot_of b.0 c.args.parts.now.signature in
    let there = member_there (rules c.args.policy.now) (evidence_of b.1 document signature b.2) c.args.shown.now (evidence_is_in_range b.1 document signature b.2 b.3.material) b.3.built in
    subst (λ (pool : List Part). IfSome c.args.shown.now.certificate (λ signer. HasCertificate pool (member_of signer)))
    (sym (ap (λ (o : Origin). o.pool) c.in_ok-links.ensures ∙ c.pool.ensures)) there

pub first_incomplete_by-requires-clause-pool : goal.first_incomplete_by-requires-clause-pool
first_incomplete_by-requires-clause-pool c =
    let b = c.requires.built in
    (b.0, b.2, b.3.read.1, ap (λ (o : Origin). o.pool) c.in_ok-links.ensures ∙ c.pool.ensures ∙ b.3.built.shows.objects.pool)

pub certificate_answer-certificate-requires : goal.certificate_answer-certificate-requires
certificate_answer-certificate-requires c =
    let b = c.requires.built in
    let document = document_in b.0 in
    let signature = spot_of b.0 c.args.parts.now.signature in
    let long = c.in_ok-times.ensures.closed.each in
    signer_within (rules c.args.policy.now) (evidence_of b.1 document signature b.2) c.args.shown.now (length c.in_ok-times.times) (evidence_is_in_range b.1 document signature b.2 b.3.material) b.3.built
    (omega (arith, long))

pub returns : goal.returns
returns c doc handed more b =
    let policy = rules c.args.policy.now in
    let shown = c.args.shown.now in
    let document = document_in doc in
    let signature = spot_of doc c.args.parts.now.signature in
    let evidence : Evidence = evidence_of handed document signature more in
    let times = c.in_ok-times.times in
    let now : to_z w64 (of_z w64 c.args.now) ≡ c.args.now = to_z-of_z c.ranges.now in
    let at : SFits w64 c.time-value.result = record { sfits = c.time-value.type_inv } in
    let moment : ℤ = to_z w64 (of_z w64 c.time-value.result) in
    let at_value : to_z w64 (of_z w64 c.time-value.result) ≡ time times (number_of evidence.objects Value) =
    to_z-of_z at ∙ c.time-value.ensures ∙ ap (time times) (c.value.ensures.number ∙ b.built.shows.objects.value) in
    let links : c.in_ok-links.links ≡ record { pool = shown.case.pool; policy = policy } =
    c.in_ok-links.ensures ∙ ap (λ (p : List Part). let o : Origin = record { pool = p; policy = policy } in o) c.pool.ensures in
    let same = signer_same policy evidence shown b.built in
    let asked : Option SignatureKind = kind_of_uri policy.kinds evidence.method in
    record {
      earliest = subst (λ (z : ℤ). AreEarliest policy (case_of shown) z times) now c.in_ok-times.ensures;
      references = subst (λ (uses : List DigestUse). AreAccepted policy times uses c.in_ok-references.references.items) b.built.references
          (subst (λ (rows : List ReferenceDigest). AreAccepted policy times (uses_from 0 rows) c.in_ok-references.references.items) c.as_slice-rows.ensures.value c.in_ok-references.ensures);
      certificate = certificate_is policy evidence times shown.certificate_kind c.certificate_answer-certificate.result shown.certificate evidence.certificate b.built.certificate_kind same
          c.certificate_answer-certificate.ensures;
      good = b.built.verifies;
      keyed = b.built.keyed;
      kind = kind_is policy evidence times moment c.is_kind_accepted-kind.result shown.kind asked b.built.kind at_value c.is_kind_accepted-kind.ensures;
      walk = walk_is policy evidence shown times moment c.in_ok-walk.walk shown.certificate evidence.certificate at_value same
          (subst (λ (o : Origin). IsTrue c.in_ok-walk.walk ↔ IsSignerAccepted o.pool o.policy times moment shown.certificate) links c.in_ok-walk.ensures);
      tokens = c.in_ok-tokens.ensures evidence (case_of shown) refl b.built.shows
          (subst (λ (words : List StampWord). AreWords evidence.objects evidence.stamps words) (sym c.as_slice.ensures.value) b.built.words);
      in_order = subst (λ (z : ℤ). IsTrue c.in_ok-in_order.in_order ↔ IsInOrder (case_of shown) z) now (c.in_ok-in_order.ensures (case_of shown) refl);
      complete = subst (λ (answer : Bool). IsTrue answer ↔ AreAllComplete policy evidence (case_of shown)) (sym (none_answer c.is_none-complete.result c.in_ok-first_incomplete_by.field-0 (sym c.is_none-complete.ensures)))
          (complete_is shown.case.pool policy (signers document signature) c.in_ok-first_incomplete_by.field-0 (AreAllComplete policy evidence (case_of shown))
          (subst (λ (o : Origin). IsFirstIncomplete o.pool o.policy (signers document signature) c.in_ok-first_incomplete_by.field-0) links (c.in_ok-first_incomplete_by.ensures doc b.read.1))
          (none_is_all_complete policy handed document signature more (case_of shown) b.built.is_case));
    }
