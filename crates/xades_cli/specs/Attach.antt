-- What `attach` comes to: the document with its items, or the first thing that stands against it. XML Signature 1.1, "Core Generation";
-- EN 319 132-1, clause 5. What is judged before what is this project's own.
use Rattle.std.specs.Prelude.{◌≡◌, ℕ, ℤ, List, [], ◌∷◌, ◌++◌, IsSome, Option, None, Some, Result, Ok, Err}
use Rattle.augmenter.specs.Attaching.{FilesHold, IsAttachment}
use Rattle.augmenter.specs.declared.items.Item.{Item}
use Rattle.augmenter.specs.declared.items.ItemKind.{ItemKind}
use Rattle.augmenter.specs.declared.items.ItemKind.TheVariants as kinds
use Rattle.document_model.specs.Documents.{fault}
use Rattle.document_model.specs.Insertion.{Extends}
use Rattle.augmenter.specs.declared.refusals.Refusal.TheVariants.{Refused}
use Rattle.policy_rules.specs.Faults as policies
use Rattle.policy_rules.specs.Rules.{Rules}
use Rattle.policy_rules.specs.Text as texts
use Rattle.signature_model.specs.Chains.{Handed}
use Rattle.whole_files.specs.Wants as files
use Rattle.whole_files.specs.Wants.{Held, policy_of}
use Rattle.whole_files.specs.declared.role.Role.{Role}
use Rattle.whole_files.specs.declared.role.Role.TheVariants.{Document, Policy, Certificate, Value, Stamp, Data, Archive, External, More}
use Rattle.xades_cli.specs.Outcomes.{Outcome, Writes, RefusesDocument, RefusesItem, RefusesPolicy}
use Rattle.xades_cli.specs.Handing.{handed_by}
use Rattle.xades_cli.specs.Stages.{policy_fault}

-- the kind of the item that a file is
abbrev pub kind_of : Role → Option ItemKind
kind_of Value = Some kinds.Value
kind_of Document = None
kind_of Policy = None
kind_of Certificate = None
kind_of Stamp = Some kinds.Stamp
kind_of Data = Some kinds.Material
kind_of Archive = Some kinds.Archive
kind_of External = None
kind_of More = None

abbrev pub item_by : Option ItemKind → List ℕ → List Item
item_by None bytes = []
item_by (Some kind) bytes = record { kind = kind; bytes = bytes } ∷ []

-- the items among files, in their order
abbrev pub items_of : List Held → List Item
items_of [] = []
items_of (file ∷ files) = item_by (kind_of file.role) file.bytes ++ items_of files

-- What items on the document in some bytes come to, by the rules of a policy, the octets that are handed in and a moment: the bytes with the
-- items, or the first item that is refused with its first code; a document that has a fault is refused before.
abbrev pub IsItemsOutcome : Rules → Handed → (at : ℤ) → List Item → List ℕ → Outcome → Type 0
IsItemsOutcome rules handed at items bytes (Writes new) = IsAttachment rules handed at items bytes (Ok new)
IsItemsOutcome rules handed at items bytes (RefusesItem number code) = IsAttachment rules handed at items bytes (Err (Refused number code))
IsItemsOutcome rules handed at items bytes (RefusesDocument document) = (document ≡ bytes) × IsSome (fault bytes)
IsItemsOutcome rules handed at items bytes outcome = ⊥

-- and the policy before them
abbrev pub IsOutcomeBy : Result Rules policies.Fault → (at : ℤ) → List Held → Outcome → Type 0
IsOutcomeBy (Err fault) at held outcome = outcome ≡ RefusesPolicy (policy_fault fault)
IsOutcomeBy (Ok rules) at held outcome = IsItemsOutcome rules (handed_by held) at (items_of held) (files.document_of held) outcome

abbrev pub IsAttachOutcome : (at : ℤ) → List Held → Outcome → Type 0
IsAttachOutcome at held outcome = IsOutcomeBy (texts.policy_of (policy_of held)) at held outcome

-- New bytes that hold a document's. Of any two files that the items give one after another, both are read with the same free signature, and
-- what it covers in the earlier one is a front of what it covers in the later one; and a time-stamp on the archive keeps the yes of the file
-- that it is put into, by the octets that are handed in.
pub record IsAttachedOf (handed : Handed) (items : List Item) (bytes new : List ℕ) : Type 0 where
  pub extends : Extends bytes new
  pub hold : FilesHold handed items bytes

abbrev pub IsAttached : List Held → List ℕ → Type 0
IsAttached held new = IsAttachedOf (handed_by held) (items_of held) (files.document_of held) new
