-- The report on the signature of a document, line by line. This project's own.
use Rattle.std.specs.Prelude.{ℕ, suc, Bool, true, false, ◌&&◌, if◌then◌else◌, List, [], ◌∷◌, ◌++◌, Option, Some, None, codes, decimal, ℤ}
use Rattle.std.specs.List.{list_any}
use Rattle.hex.specs.Hex.{encode_lower}
use Rattle.algorithms.specs.DigestKind as digests
use Rattle.algorithms.specs.Digests.{digest_of}
use Rattle.algorithms.specs.SignatureKind as signatures
use Rattle.algorithms.specs.declared.signature_kinds.SignatureKind.{SignatureKind}
use Rattle.policy_rules.specs.Rules.{Rules, kind_of_uri}
use Rattle.signature_model.specs.Parts.{PropertyKind, SignatureStamp, ArchiveStamp, Material, Passed}
use Rattle.tst_tokens.specs.Tokens.{gen_time}
use Rattle.acceptance.specs.Verdict.{DigestUse}
use Rattle.acceptance.specs.Walks.{time}
use Rattle.signature_objects.specs.Objects.{Object, Value, Certificate, RevocationList, Token}
use Rattle.signature_evidence.specs.Evidence.{Evidence, Stamped}
use Rattle.signature_evidence.specs.Soundness.{Soundness, Sound, ImprintDiffers, ContentDigestDiffers, NoSigner, CertHashDiffers, Purpose, UnknownKind, Fails}
use Rattle.signature_evidence.specs.Answers.{TokenAnswer, Answers, time_of, is_yes}

-- Words.

abbrev pub either : Bool → (first second : List ℕ) → List ℕ
either b first second = if b then first else second

abbrev pub verdict_word : Bool → List ℕ
verdict_word b = either b (codes "yes") (codes "no")

abbrev pub match_word : Bool → List ℕ
match_word b = either b (codes "match") (codes "differ")

abbrev pub accepted_word : Bool → List ℕ
accepted_word b = either b (codes "accepted") (codes "withdrawn")

abbrev pub walk_word : Bool → List ℕ
walk_word b = either b (codes "accepted") (codes "refused")

-- a token's fault by its number
abbrev pub soundness_word : Soundness → List ℕ
soundness_word Sound = codes "sound"
soundness_word ImprintDiffers = codes "fault-2"
soundness_word ContentDigestDiffers = codes "fault-3"
soundness_word NoSigner = codes "fault-4"
soundness_word CertHashDiffers = codes "fault-5"
soundness_word Purpose = codes "fault-6"
soundness_word UnknownKind = codes "fault-7"
soundness_word Fails = codes "fault-8"

abbrev pub kind_word : Option SignatureKind → List ℕ
kind_word None = codes "unknown"
kind_word (Some kind) = signatures.word_of kind

-- of a time-stamp
abbrev pub stamp_word : PropertyKind → List ℕ
stamp_word SignatureStamp = codes "signature"
stamp_word ArchiveStamp = codes "archive"
stamp_word Material = []
stamp_word Passed = []

-- whether the kind of the value is accepted; refused where the method is unknown, or the key is of another kind, or there is none
abbrev pub value_word : Answers → List ℕ
value_word answers = if answers.keyed then accepted_word answers.kind else codes "refused"

abbrev pub is_archive : Stamped → Bool
is_archive stamped = is_archive_kind stamped.kind
  where
    is_archive_kind : PropertyKind → Bool
    is_archive_kind ArchiveStamp = true
    is_archive_kind SignatureStamp = false
    is_archive_kind Material = false
    is_archive_kind Passed = false

abbrev pub is_signature_stamp : Stamped → Bool
is_signature_stamp stamped = is_signature_kind stamped.kind
  where
    is_signature_kind : PropertyKind → Bool
    is_signature_kind ArchiveStamp = false
    is_signature_kind SignatureStamp = true
    is_signature_kind Material = false
    is_signature_kind Passed = false

abbrev pub level_word : Evidence → Answers → List ℕ
level_word evidence answers =
    if list_any is_archive evidence.stamps then codes "B-LTA"
    else (if list_any is_signature_stamp evidence.stamps && answers.complete then codes "B-LT"
    else (if list_any is_signature_stamp evidence.stamps then codes "B-T" else codes "B-B"))

-- Lines. Times are written by a clock.

abbrev pub Clock : Type 0
Clock = ℤ → List ℕ

-- words one after another, with a space between them, and the end of a line
abbrev pub line : List (List ℕ) → List ℕ
line [] = codes "\n"
line (word ∷ []) = word ++ codes "\n"
line (word ∷ next ∷ words) = word ++ codes " " ++ line (next ∷ words)

abbrev pub digest_words : Clock → List ℤ → DigestUse → List ℕ → Bool → List (List ℕ)
digest_words clock times digest computed accepted =
    digests.word_of digest.kind ∷ encode_lower computed ∷ match_word digest.matches ∷ accepted_word accepted ∷ clock (time times digest.object) ∷ []

-- the References from the k-th on
abbrev pub reference_lines : Clock → List ℤ → ℕ → List DigestUse → List (List ℕ) → List Bool → List ℕ
reference_lines clock times k (digest ∷ digests) (computed ∷ others) (accepted ∷ answers) =
    line (codes "reference" ∷ (decimal k ++ codes ":") ∷ digest_words clock times digest computed accepted)
    ++ reference_lines clock times (suc k) digests others answers
reference_lines clock times k _ _ _ = []

abbrev pub certificate_line : Clock → List ℤ → Evidence → Answers → Option (List ℕ) → List ℕ
certificate_line clock times evidence answers None = codes "certificate: missing\n"
certificate_line clock times evidence answers (Some bytes) =
    line (codes "certificate:" ∷ digests.word_of evidence.certificate_kind ∷ encode_lower (digest_of evidence.certificate_kind bytes) ∷ match_word true
    ∷ accepted_word answers.certificate ∷ clock (time_of evidence times (Certificate bytes)) ∷ [])

abbrev pub value_line : Clock → List ℤ → Rules → Evidence → Answers → List ℕ
value_line clock times policy evidence answers =
    line (codes "value:" ∷ kind_word (kind_of_uri policy.kinds evidence.method) ∷ either answers.good (codes "good") (codes "bad")
    ∷ value_word answers ∷ clock (time_of evidence times Value) ∷ [])

abbrev pub token_lines : Clock → List ℤ → Evidence → ℕ → List Stamped → List TokenAnswer → List ℕ
token_lines clock times evidence k (stamped ∷ shown) (answer ∷ answers) =
    line (codes "token" ∷ (decimal k ++ codes ":") ∷ stamp_word stamped.kind ∷ clock (gen_time stamped.token) ∷ soundness_word answer.soundness
    ∷ walk_word answer.accepted ∷ clock (time_of evidence times (Token stamped.token)) ∷ [])
    ++ token_lines clock times evidence (suc k) shown answers
token_lines clock times evidence k _ _ = []

-- certificates and revocation lists, numbered from k on, among objects whose times these are
abbrev pub object_lines : Clock → ℕ → List Object → List ℤ → List ℕ
object_lines clock k (Certificate bytes ∷ objects) (at ∷ times) =
    line (codes "object" ∷ (decimal k ++ codes ":") ∷ codes "certificate" ∷ clock at ∷ []) ++ object_lines clock (suc k) objects times
object_lines clock k (RevocationList bytes ∷ objects) (at ∷ times) =
    line (codes "object" ∷ (decimal k ++ codes ":") ∷ codes "crl" ∷ clock at ∷ []) ++ object_lines clock (suc k) objects times
object_lines clock k (object ∷ objects) (at ∷ times) = object_lines clock k objects times
object_lines clock k _ _ = []

-- The report: its first line, and what is behind it.

abbrev pub report_rest : Clock → Rules → Evidence → ℤ → List ℤ → Answers → List ℕ
report_rest clock policy evidence now times answers =
    line (codes "moment:" ∷ clock now ∷ [])
    ++ line (codes "level:" ∷ level_word evidence answers ∷ [])
    ++ reference_lines clock times 1 evidence.references evidence.computed answers.references
    ++ certificate_line clock times evidence answers evidence.certificate
    ++ value_line clock times policy evidence answers
    ++ line (codes "walk:" ∷ walk_word answers.walk ∷ [])
    ++ token_lines clock times evidence 1 evidence.stamps answers.tokens
    ++ line (codes "order:" ∷ either answers.in_order (codes "kept") (codes "broken") ∷ [])
    ++ object_lines clock 1 evidence.objects times

abbrev pub report : Clock → Rules → Evidence → ℤ → List ℤ → Answers → List ℕ
report clock policy evidence now times answers =
    line (codes "verdict:" ∷ verdict_word (is_yes evidence answers) ∷ []) ++ report_rest clock policy evidence now times answers

-- The report on a document with a fault against its judgement, by the fault's code.
abbrev pub fault_report : Clock → ℤ → List ℕ → List ℕ
fault_report clock now code = codes "verdict: no\n" ++ line (codes "moment:" ∷ clock now ∷ []) ++ line (codes "fault:" ∷ code ∷ [])
