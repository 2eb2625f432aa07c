-- The time-stamps of a signature by their properties: EN 319 132-1, clauses 5.3 and 5.5.2.
use Rattle.std.specs.Prelude.{◌≡◌, ◌<◌, ℕ, if◌then◌else◌, List, [], ◌∷◌, length, slice_get, take, Option, Some, None}
use Rattle.algorithms.specs.Digests.{digest_of}
use Rattle.archive_octets.specs.Kinds.{kind_in}
use Rattle.archive_octets.specs.declared.kinds.StampKind.{StampKind}
use Rattle.archive_octets.specs.declared.kinds.StampKind.TheVariants as stamps
use Rattle.der_values.specs.Fits.{IsObject}
use Rattle.document_model.specs.Tree.{Nodes}
use Rattle.signature_model.specs.Chains.{Handed}
use Rattle.signature_model.specs.Parts.{is_stamp, properties}
use Rattle.signature_model.specs.Spots.{Spot}
use Rattle.tst_tokens.specs.Digests.{imprint_kind}
use Rattle.tst_tokens.specs.Layouts as layout
use Rattle.signature_objects.specs.Held.{objects_to}
use Rattle.signature_objects.specs.Objects.{numbers_below}
use Rattle.signature_evidence.specs.Evidence.{Stamped, stamp_of}
use Rattle.signature_evidence.specs.Soundness.{HasSoundness}
use Rattle.signature_cases.specs.Words.{soundness_in}
use Rattle.signature_cases.specs.declared.judging.JudgedStamp.{JudgedStamp}

-- a property that stands behind others, where it is a time-stamp
abbrev pub stamped_at : Handed → Nodes → Spot → List Spot → Spot → Option Stamped
stamped_at handed document signature before property = if is_stamp property then Some (stamp_of handed document signature before property) else None

-- a time-stamp that was judged is one that is shown, and its token is whole
pub record IsJudged (stamped : Stamped) (judged : JudgedStamp) : Type 0 where
  pub kind : kind_in judged.kind ≡ stamped.kind
  pub token : judged.token.now ≡ stamped.token
  pub whole : IsObject layout.token judged.token.now
  pub soundness : HasSoundness (digest_of (imprint_kind stamped.token) stamped.octets) stamped.token (soundness_in judged.soundness)

-- where there is one
abbrev pub IsJudgedAs : Option Stamped → Option JudgedStamp → Type 0
IsJudgedAs None None = Unit {0}
IsJudgedAs None (Some judged) = ⊥
IsJudgedAs (Some stamped) None = ⊥
IsJudgedAs (Some stamped) (Some judged) = IsJudged stamped judged

-- what one of a kind covers, by the number of the value and how many objects are before it
abbrev pub covered_by : StampKind → (value before : ℕ) → List ℕ
covered_by stamps.Signature value before = value ∷ []
covered_by stamps.Archive value before = numbers_below before

-- for each property, how many objects are before it
abbrev pub AreMarks : Nodes → Spot → List ℕ → Type 0
AreMarks document signature marks = (n : ℕ) → n < length (properties document signature)
    → slice_get marks n ≡ Some (length (objects_to document signature (take n (properties document signature))))
