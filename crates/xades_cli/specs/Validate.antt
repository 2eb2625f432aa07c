-- What `validate` comes to: the report on the signature of a document, or the first thing that stands against it. XML Signature 1.1, "Core
-- Validation"; RFC 5280, sections 4.1 and 5.1. What is judged before what is this project's own.
use Rattle.std.specs.Prelude.{◌≡◌, ◌⊎◌, ◌↔◌, ℕ, ℤ, Bool, true, false, IsSome, IsTrue, if◌then◌else◌, List, [], ◌∷◌, ◌++◌, Option, None, Some, Result, Ok, Err}
use Rattle.document_model.specs.Documents.{document_of, fault}
use Rattle.item_contents.specs.Materials.{IsBadAt}
use Rattle.policy_rules.specs.Faults as policies
use Rattle.policy_rules.specs.Rules.{Rules}
use Rattle.policy_rules.specs.Text as texts
use Rattle.qualifying_props.specs.Whole.{is_whole}
use Rattle.signature_cases.specs.Handed.{IsMaterial}
use Rattle.signature_evidence.specs.Judging.{Judged, IsYesBy, judged}
use Rattle.signature_evidence.specs.Material.{material_of}
use Rattle.signature_evidence.specs.Reporting.{IsReportOn}
use Rattle.time_texts.specs.Clock.{clock}
use Rattle.whole_files.specs.Wants as files
use Rattle.whole_files.specs.Wants.{Held, policy_of}
use Rattle.whole_files.specs.declared.role.Role.{Role}
use Rattle.whole_files.specs.declared.role.Role.TheVariants.{Document, Policy, Certificate, Value, Stamp, Data, Archive, External, More}
use Rattle.xades_cli.specs.Handing.{handed_by}
use Rattle.xades_cli.specs.Outcomes.{Outcome, Reports, RefusesDocument, RefusesPolicy, RefusesData}
use Rattle.xades_cli.specs.Stages.{policy_fault}
use Rattle.xades_cli.specs.declared.prepare.BadFile.{BadFile}

-- Further certificates and revocation lists.

abbrev pub is_more : Role → Bool
is_more More = true
is_more Document = false
is_more Policy = false
is_more Certificate = false
is_more Value = false
is_more Stamp = false
is_more Data = false
is_more Archive = false
is_more External = false

-- their bytes, one file behind the other
abbrev pub more_of : List Held → List ℕ
more_of [] = []
more_of (file ∷ files) = (if is_more file.role then file.bytes else []) ++ more_of files

-- such a file is whole certificates and revocation lists one after another
abbrev pub IsWhole : Held → Type 0
IsWhole file = IsTrue (is_more file.role) → IsMaterial file.bytes

-- or a bad element stands in it at a place, behind whole ones
pub record IsBad (file : Held) (name : List ℕ) (at : ℕ) : Type 0 where
  pub more : IsTrue (is_more file.role)
  pub named : name ≡ file.name
  pub bad : IsBadAt file.bytes at

abbrev pub AreWhole : List Held → Type 0
AreWhole [] = Unit {0}
AreWhole (file ∷ files) = IsWhole file × AreWhole files

-- the first such file that isn't whole has this name, and its first bad element this place
abbrev pub IsFirstBad : List Held → List ℕ → ℕ → Type 0
IsFirstBad [] name at = ⊥
IsFirstBad (file ∷ files) name at = IsBad file name at ⊎ (IsWhole file × IsFirstBad files name at)

-- what is told of a file, and of files
abbrev pub IsJudged : Held → Option BadFile → Type 0
IsJudged file None = IsWhole file
IsJudged file (Some bad) = IsBad file bad.name.now bad.at

abbrev pub AreJudged : List Held → Option BadFile → Type 0
AreJudged files None = AreWhole files
AreJudged files (Some bad) = IsFirstBad files bad.name.now bad.at

-- The judgement.

-- of a document in some bytes, by the rules of a policy, at a moment and with what is handed in: the report and the verdict on its signature; a
-- document that has a fault is refused
abbrev pub IsJudgementOf : Rules → Judged → (now : ℤ) → List ℕ → Outcome → Type 0
IsJudgementOf rules found now bytes (Reports verdict text) =
    (fault bytes ≡ None) × IsReportOn clock rules found now text × (IsTrue verdict ↔ IsYesBy rules found now)
IsJudgementOf rules found now bytes (RefusesDocument document) = (document ≡ bytes) × IsSome (fault bytes)
IsJudgementOf rules found now bytes outcome = ⊥

-- what is found of the signature of the document, with what is handed in
abbrev pub found_of : List Held → Judged
found_of held = judged is_whole (handed_by held) (document_of (files.document_of held)) (material_of (more_of held))

-- the judgement by the rules of a policy, at a moment, and a file that isn't whole behind a document that has a fault
abbrev pub IsVerdictOutcome : Rules → (now : ℤ) → List Held → Outcome → Type 0
IsVerdictOutcome rules now held (RefusesData name at) = (fault (files.document_of held) ≡ None) × IsFirstBad held name at
IsVerdictOutcome rules now held (Reports verdict text) = AreWhole held × IsJudgementOf rules (found_of held) now (files.document_of held) (Reports verdict text)
IsVerdictOutcome rules now held outcome = IsJudgementOf rules (found_of held) now (files.document_of held) outcome

-- and the policy before them
abbrev pub IsReportedBy : Result Rules policies.Fault → (now : ℤ) → List Held → Outcome → Type 0
IsReportedBy (Err fault) now held outcome = outcome ≡ RefusesPolicy (policy_fault fault)
IsReportedBy (Ok rules) now held outcome = IsVerdictOutcome rules now held outcome

abbrev pub IsValidateOutcome : (now : ℤ) → List Held → Outcome → Type 0
IsValidateOutcome now held outcome = IsReportedBy (texts.policy_of (policy_of held)) now held outcome

-- The verdict is yes: by the policy, at the moment, all covered digests and signatures verify, and each certificate and algorithm is accepted
-- at the earliest time that is proved of its use.
pub record IsYes (now : ℤ) (held : List Held) : Type 0 where
  pub rules : Rules
  pub read : texts.policy_of (policy_of held) ≡ Ok rules
  pub yes : IsYesBy rules (found_of held) now
