use Rattle.std.proofs.Common.{List, [], ap, subst, ◌∙◌}
use Rattle.doc_spans.specs.Seen.{document_in}
use Rattle.signature_elements.specs.Standing.{spot_of}
use Rattle.acceptance.specs.Certificates.{Part}
use Rattle.cert_paths.specs.Origin.{Origin}
use Rattle.policy_rules.specs.View.{rules}
use Rattle.completeness.specs.Complete.{IsFirstIncomplete}
use Rattle.completeness.specs.Signers.{signers}
use Rattle.completeness.proofs.walks.first_incomplete.Goals as goal

pub first_incomplete_by-requires-clause-whole : goal.first_incomplete_by-requires-clause-whole
first_incomplete_by-requires-clause-whole c = c.requires.read.1.2

pub first_incomplete_by-requires-clause-pool : goal.first_incomplete_by-requires-clause-pool
first_incomplete_by-requires-clause-pool c =
    let doc = c.requires.read.0 in
    let answer = c.requires.read.1 in
    (doc, [], answer.1, ap (λ (o : Origin). o.pool) c.in_ok-links.ensures ∙ c.pool.ensures ∙ (c.in_ok-case.ensures.objects doc answer).pool)

pub returns : goal.returns
returns c doc h =
    let document = document_in doc in
    let signature = spot_of doc c.args.parts.now.signature in
    let of : Origin → Type 0 = λ o. IsFirstIncomplete o.pool o.policy (signers document signature) c.in_ok-found.found in
    let in_pool : List Part → Type 0 = λ pool. IsFirstIncomplete pool (rules c.args.policy.now) (signers document signature) c.in_ok-found.found in
    subst in_pool (c.pool.ensures ∙ (c.in_ok-case.ensures.objects doc h).pool) (subst of c.in_ok-links.ensures (c.in_ok-found.ensures doc h.1))
