-- What `prepare` comes to: the document with an unsigned signature, or the first thing that stands against it. XML Signature 1.1, "Core
-- Generation"; EN 319 132-1, clauses 4 and 5; RFC 5280, section 4.1. What is judged before what is this project's own.
use Rattle.std.specs.Prelude.{ℕ, List, [], ◌∷◌, ◌++◌, map, Option, None, Some, Result, Ok, Err, if◌then◌else◌}
use Rattle.std.specs.Str.{chars}
use Rattle.der_values.specs.Layout.{read_object}
use Rattle.document_model.specs.Documents.{fault, document_of}
use Rattle.document_model.specs.Insertion.{Extends}
use Rattle.document_model.specs.Items.{or_else}
use Rattle.policy_rules.specs.Rules.{Rules}
use Rattle.policy_rules.specs.Text as texts
use Rattle.prepared_documents.specs.Bytes.{IsPreparedFrom}
use Rattle.qualifying_props.specs.Digests.{digest}
use Rattle.qualifying_props.specs.Whole.{is_whole}
use Rattle.signature_elements.specs.DigestKinds.{kind_in}
use Rattle.signature_model.specs.Chains.{Handed}
use Rattle.signature_model.specs.Prepared.{Draft}
use Rattle.whole_files.specs.Roles.{is_certificate}
use Rattle.whole_files.specs.Wants as files
use Rattle.whole_files.specs.Wants.{Held, policy_of}
use Rattle.x509_certs.specs.Layouts as layout
use Rattle.augmenter.specs.Preparing.{draft_code, drafted_bytes}
use Rattle.xades_cli.specs.Outcomes.{Outcome, RefusesData}
use Rattle.command_words.specs.Preparing.{Prepares}
use Rattle.xades_cli.specs.Handing.{handed_by}
use Rattle.xades_cli.specs.Stages.{by_policy, unless_against, unless_faulty}
use Rattle.xades_cli.specs.declared.answers.Answer.{Answer}
use Rattle.xades_cli.specs.declared.answers.Answer.TheVariants.{Text, Report}
use Rattle.xades_cli.specs.declared.prepare.BadFile as code
use Rattle.xades_cli.specs.declared.stop.Stop.{Stop}

-- The certificate files.

-- the bytes of each, in their order
abbrev pub certificates_of : List Held → List (List ℕ)
certificates_of [] = []
certificates_of (file ∷ files) = if is_certificate file.role then file.bytes ∷ certificates_of files else certificates_of files

-- a file that isn't what it has to be: its name, and the place of the first bad element
pub record BadFile : Type 0 where
  pub name : List ℕ
  pub at : ℕ

-- by what comes of it to read the file with this name as one whole certificate
abbrev pub bad_by : List ℕ → Result ℕ ℕ → Option BadFile
bad_by name (Ok end) = None
bad_by name (Err at) = Some (record { name = name; at = at })

abbrev pub bad_in : Held → Option BadFile
bad_in file = if is_certificate file.role then bad_by file.name (read_object layout.certificate file.bytes) else None

-- the first that isn't one whole certificate, with nothing behind it
abbrev pub bad_certificate : List Held → Option BadFile
bad_certificate [] = None
bad_certificate (file ∷ files) = or_else (bad_in file) (bad_certificate files)

-- as it is seen in memory
abbrev pub bad_seen : code.BadFile → BadFile
bad_seen bad = record { name = bad.name.now; at = bad.at }

-- the draft that the words give, with these certificates
abbrev pub draft_of : Prepares → List (List ℕ) → Draft
draft_of asked certificates = record {
  time = asked.time;
  id = chars asked.id;
  method = chars asked.method;
  digest = kind_in asked.digest;
  certificates = certificates;
  references = map chars asked.references;
}

-- a draft with further certificates, and with further References
abbrev pub with_certificates : List (List ℕ) → Draft → Draft
with_certificates certificates draft = record draft { certificates = draft.certificates ++ certificates }

abbrev pub with_references : List (List ℕ) → Draft → Draft
with_references uris draft = record draft { references = draft.references ++ uris }

-- the document in some bytes with the signature that a draft gives, by the rules of a policy and the octets that are handed in
abbrev pub draft_outcome : Rules → Handed → Draft → List ℕ → Outcome
draft_outcome rules handed draft bytes =
    unless_against (drafted_bytes handed (document_of bytes) draft bytes) (draft_code rules handed (document_of bytes) draft bytes)

-- a certificate file that isn't one whole certificate is refused
abbrev pub unless_partial : Option BadFile → Outcome → Outcome
unless_partial (Some bad) later = RefusesData bad.name bad.at
unless_partial None later = later

-- the document, the certificate files, and then the draft
abbrev pub by_rules : Prepares → List Held → Rules → Outcome
by_rules asked held rules =
    unless_faulty (files.document_of held) (fault (files.document_of held))
    (unless_partial (bad_certificate held) (draft_outcome rules (handed_by held) (draft_of asked (certificates_of held)) (files.document_of held)))

-- and the policy before them
abbrev pub prepare_outcome : Prepares → List Held → Outcome
prepare_outcome asked held = by_policy (texts.policy_of (policy_of held)) (by_rules asked held)

-- New bytes that hold a document's, and spell a document that is read with the signature of a draft, which is unsigned and takes a value,
-- covers what the URIs name in the document as it was or what is handed in for them, and has the draft's method and first certificate.
pub record IsPreparedOf (handed : Handed) (draft : Draft) (bytes new : List ℕ) : Type 0 where
  pub extends : Extends bytes new
  pub prepared : IsPreparedFrom is_whole digest handed (document_of bytes) draft (document_of new)

-- so are those that are given out, of the document, the draft of the words and the files that were read
abbrev pub IsPrepared : Prepares → List Held → List ℕ → Type 0
IsPrepared asked held new = IsPreparedOf (handed_by held) (draft_of asked (certificates_of held)) (files.document_of held) new

-- an answer is a text of which something holds
abbrev pub TextSays : (List ℕ → Type 0) → Result Answer Stop → Type 0
TextSays Says (Ok (Text text)) = Says text
TextSays Says (Ok (Report text verdict)) = ⊥
TextSays Says (Err stop) = Unit {0}
