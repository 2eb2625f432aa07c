-- The answers in memory, as the answers on what a signature shows. Which questions there are is this project's own.
use Rattle.std.specs.Prelude.{List, map, Option, Some, None, Ok, ℤ}
use Rattle.algorithms.specs.declared.digest_kinds.DigestKind.{DigestKind}
use Rattle.doc_spans.specs.declared.documents.Doc.{Doc}
use Rattle.doc_spans.specs.Seen.{document_in}
use Rattle.policy_rules.specs.Rules.{Rules, AcceptsDigest}
use Rattle.qualifying_props.specs.Answers.{IsAnswer}
use Rattle.qualifying_props.specs.Shown.{Shown}
use Rattle.signature_elements.specs.Standing.{spot_of}
use Rattle.signature_model.specs.Chains.{Handed}
use Rattle.acceptance.specs.Certificates.{Part}
use Rattle.acceptance.specs.Walks.{time, IsAccepted}
use Rattle.signature_objects.specs.Objects.{Object}
use Rattle.signature_evidence.specs.Answers as evidence
use Rattle.signature_evidence.specs.Evidence.{evidence_of}
use Rattle.signature_evidence.specs.Renewal.{HasNoTokens}
use Rattle.signature_cases.specs.Built.{IsBuilt, member_of}
use Rattle.signature_cases.specs.Words.{soundness_in}
use Rattle.signature_cases.specs.declared.cases.SignatureCase.{SignatureCase}
use Rattle.signature_cases.specs.declared.cases.SigningCert.{SigningCert}
use Rattle.signature_verdicts.specs.declared.answers.Answers.{Answers}
use Rattle.signature_verdicts.specs.declared.answers.TokenAnswer.{TokenAnswer}

abbrev pub token_answer_in : TokenAnswer → evidence.TokenAnswer
token_answer_in answer = record { soundness = soundness_in answer.soundness; accepted = answer.accepted }

abbrev pub answers_in : Answers → evidence.Answers
answers_in answers = record {
  references = answers.references.items;
  certificate = answers.certificate;
  good = answers.good;
  keyed = answers.keyed;
  kind = answers.kind;
  walk = answers.walk;
  tokens = map token_answer_in answers.tokens.items;
  in_order = answers.in_order;
  complete = answers.complete;
}

-- what is in memory is built of the signature that is read in a document, with certificates and revocation lists that are handed in
pub record IsBuiltOf (policy : Rules) (doc : Doc) (handed : Handed) (more : List Object) (parts : Shown) (shown : SignatureCase) : Type 0 where
  pub read : IsAnswer doc (Ok parts)
  pub material : HasNoTokens more
  pub built : IsBuilt policy (evidence_of handed (document_in doc) (spot_of doc parts.signature) more) shown

-- the digest of the signing certificate is accepted at the certificate's time, where there is one
abbrev pub IsSignerDigestAccepted : Rules → DigestKind → List ℤ → Option SigningCert → Type 0
IsSignerDigestAccepted policy kind times None = ⊥
IsSignerDigestAccepted policy kind times (Some signer) = AcceptsDigest policy kind (time times signer.object.number)

-- the signing certificate is accepted with a time as both, where there is one
abbrev pub IsSignerAccepted : List Part → Rules → List ℤ → ℤ → Option SigningCert → Type 0
IsSignerAccepted pool policy times at None = ⊥
IsSignerAccepted pool policy times at (Some signer) = IsAccepted pool policy times (member_of signer) at at
