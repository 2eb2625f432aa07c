-- What is found of one item, step by step. This project's own.
use Rattle.std.specs.Prelude.{◌≡◌, ℕ, ℤ, ◌≤◌, List, length, None, Result, Ok, Err}
use Rattle.document_model.specs.Documents.{document_of, fault}
use Rattle.document_model.specs.Tree.{Nodes}
use Rattle.doc_spans.specs.declared.documents.Doc.{Doc}
use Rattle.doc_spans.specs.Seen.{bytes_in, document_in}
use Rattle.insertions.specs.Live.{longest}
use Rattle.policy_rules.specs.Rules.{Rules}
use Rattle.qualifying_props.specs.Whole.{is_whole}
use Rattle.signature_checks.specs.Codes.{first_code}
use Rattle.signature_checks.specs.Opening.{IsOpened}
use Rattle.signature_checks.specs.Validity.{validity_tests}
use Rattle.signature_checks.specs.declared.objections.Objection.{Objection}
use Rattle.signature_checks.specs.declared.objections.Objection.TheVariants.{Found, OutOfMemory}
use Rattle.signature_checks.specs.declared.opening.Opened.{Opened}
use Rattle.signature_elements.specs.Standing.{spot_of}
use Rattle.signature_model.specs.Chains.{Handed}
use Rattle.signature_model.specs.Fragments as model
use Rattle.signature_model.specs.Fragments.{bytes_with_item}
use Rattle.signature_model.specs.Parts.{value_octets}
use Rattle.signature_model.specs.Readable.{Read, answer}
use Rattle.signature_model.specs.Spots.{Spot}
use Rattle.stamp_checks.specs.Laws.{IsOfOctets}
use Rattle.stamp_checks.specs.declared.faults.StampFault.{StampFault}
use Rattle.stamp_checks.specs.declared.faults.StampFault.TheVariants as faults
use Rattle.tst_tokens.specs.declared.fault.TokenFault.TheVariants as tokens
use Rattle.augmenter.specs.Findings.{IsFoundIn, exactly}
use Rattle.augmenter.specs.Items.{IsItemCode, IsMaterial, item_test, size_test, stamp_code}
use Rattle.augmenter.specs.declared.items.Item.{Item}
use Rattle.augmenter.specs.declared.items.ItemKind.{ItemKind}
use Rattle.augmenter.specs.declared.items.ItemKind.TheVariants.{Value, Stamp, Material, Archive}
use Rattle.augmenter.specs.declared.refusals.Refusal.{Refusal}
use Rattle.augmenter.specs.declared.refusals.Refusal.TheVariants as refusals

-- Nothing stands against what the signature that is read says, by the value that it has.
abbrev pub IsValid : Rules → Handed → Nodes → Type 0
IsValid rules handed document = (signature : Spot) → answer is_whole document ≡ Read signature
    → first_code (validity_tests rules handed document signature (value_octets document signature)) ≡ None

-- the item with a number is refused for it
abbrev pub refusal_by : ℕ → Objection → Refusal
refusal_by number (Found code) = refusals.Refused number code
refusal_by number OutOfMemory = refusals.OutOfMemory

-- before the item is put in: the signature was opened and no test stands against the item, or the item's code was found
abbrev pub IsJudged : Rules → Handed → ℤ → Item → Doc → Result Opened Objection → Type 0
IsJudged rules handed moment item doc (Ok opened) =
    IsOpened handed doc opened × item_test rules handed moment item (document_in doc) (spot_of doc opened.parts.signature) None
IsJudged rules handed moment item doc (Err objection) = IsFoundIn (IsItemCode rules handed moment item (bytes_in doc)) objection

-- the objection to a time-stamp by what stands against it
abbrev pub IsObjectionBy : StampFault → Objection → Type 0
IsObjectionBy fault (Found code) = IsOfOctets fault × (code ≡ stamp_code fault)
IsObjectionBy fault OutOfMemory = fault ≡ faults.Token tokens.OutOfMemory

-- octets that are validation data are such
abbrev pub IsSplit : ItemKind → List ℕ → Type 0
IsSplit Value octets = Unit {0}
IsSplit Stamp octets = Unit {0}
IsSplit Material octets = IsMaterial octets
IsSplit Archive octets = Unit {0}

-- a content was put into the document in some bytes, which then are new ones and pass no limit; or a limit that the new ones pass was found
abbrev pub IsPut : {A : Type 0} → Spot → model.Item → (old new : List ℕ) → Result A Objection → Type 0
IsPut signature item old new (Ok done) =
    (new ≡ bytes_with_item (document_of old) signature item old) × (length new ≤ longest) × (fault new ≡ None) × (size_test new signature ≡ None)
IsPut signature item old new (Err objection) = IsFoundIn (exactly (size_test (bytes_with_item (document_of old) signature item old) signature)) objection
