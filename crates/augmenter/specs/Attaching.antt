-- What an attachment of items answers: each is judged on the bytes that the earlier ones give. This project's own.
use Rattle.std.specs.Prelude.{◌≡◌, ℕ, ℤ, suc, ◌<◌, ◌≤◌, List, [], ◌∷◌, ◌++◌, length, take, slice_get, Option, None, Some, Result, Ok, Err}
use Rattle.attached_lists.specs.Files.{Holds}
use Rattle.covered_items.specs.Entries.{IsSomething, entries_of}
use Rattle.document_model.specs.Documents.{document_of, fault}
use Rattle.policy_rules.specs.Rules.{Rules}
use Rattle.qualifying_props.specs.Whole.{is_whole}
use Rattle.renewed_documents.specs.OnBytes.{Renews}
use Rattle.signature_checks.specs.declared.codes.Code.{Code}
use Rattle.signature_model.specs.Chains.{Handed}
use Rattle.signature_model.specs.Covers.{covers}
use Rattle.signature_model.specs.Spots.{Spot}
use Rattle.augmenter.specs.Answers.{IsFaultyDocument}
use Rattle.augmenter.specs.Items.{IsItemCode, item_in, with_one}
use Rattle.augmenter.specs.declared.items.Item.{Item}
use Rattle.augmenter.specs.declared.items.ItemKind.TheVariants.{Archive}
use Rattle.augmenter.specs.declared.refusals.Refusal.{Refusal}
use Rattle.augmenter.specs.declared.refusals.Refusal.TheVariants.{BadDocument, Refused, OutOfMemory}

-- the bytes with items put in, one after another
abbrev pub with_all : List Item → List ℕ → List ℕ
with_all [] bytes = bytes
with_all (item ∷ items) bytes = with_all items (with_one item bytes)

-- the bytes with the first i items
abbrev pub file_at : List Item → List ℕ → ℕ → List ℕ
file_at items bytes i = with_all (take i items) bytes

-- the code of the item with a number, counted from 0, on the bytes with the earlier ones
abbrev pub IsCodeAt : Rules → Handed → ℤ → List Item → List ℕ → ℕ → Option Code → Type 0
IsCodeAt rules handed moment items bytes i told = (item : Item) × (slice_get items i ≡ Some item) × IsItemCode rules handed moment item (file_at items bytes i) told

-- no test stands against the first n items
abbrev pub ArePassed : Rules → Handed → ℤ → List Item → List ℕ → ℕ → Type 0
ArePassed rules handed moment items bytes n = (i : ℕ) → i < n → IsCodeAt rules handed moment items bytes i None

-- the item with a number, counted from 1, is the first against which a test stands, and this is its first code
pub record IsFirstRefused (rules : Rules) (handed : Handed) (moment : ℤ) (items : List Item) (bytes : List ℕ) (number : ℕ) (code : Code) : Type 0 where
  pub i : ℕ
  pub counted : number ≡ suc i
  pub earlier : ArePassed rules handed moment items bytes i
  pub refused : IsCodeAt rules handed moment items bytes i (Some code)

-- The bytes with all items come exactly where the document has no fault and no test stands against an item; else the fault, or the first
-- item against which one does, with its first code. Want of memory is free.
abbrev pub IsAttachment : Rules → Handed → ℤ → List Item → List ℕ → (result : Result (List ℕ) Refusal) → Type 0
IsAttachment rules handed moment items bytes (Ok new) =
    (fault bytes ≡ None) × ArePassed rules handed moment items bytes (length items) × (new ≡ with_all items bytes)
IsAttachment rules handed moment items bytes (Err (BadDocument found)) = IsFaultyDocument bytes found
IsAttachment rules handed moment items bytes (Err (Refused number code)) =
    (fault bytes ≡ None) × IsFirstRefused rules handed moment items bytes number code
IsAttachment rules handed moment items bytes (Err OutOfMemory) = Unit {0}

-- The law: at most one answer fits, want of memory aside.
abbrev pub AnswersAreOne : Type 0
AnswersAreOne = (rules : Rules) (handed : Handed) (moment : ℤ) (items : List Item) (bytes : List ℕ) (result other : Result (List ℕ) Refusal)
    → ¬ (result ≡ Err OutOfMemory) → ¬ (other ≡ Err OutOfMemory)
    → IsAttachment rules handed moment items bytes result → IsAttachment rules handed moment items bytes other → result ≡ other

-- What the files have that the items give one after another, of which the one with number 0 is the first document, by the octets that are
-- handed in.
pub record AreFiles (handed : Handed) (items : List Item) (bytes : List ℕ) (signature : Spot) : Type 0 where
  -- Of each two of them: both are read with the same signature, which is free; what it covers in the later one is what it covers in the
  -- earlier one and more behind; and the later one is the earlier one with bytes put in.
  pub hold : (i j : ℕ) → i ≤ j → Holds is_whole signature (file_at items bytes i) (file_at items bytes j)
  -- And in the next one it covers more just what the item is over in the file that it is put into: a time-stamp what the next one of its kind
  -- covers. Whatever is handed in.
  pub add : (any : Handed) (i : ℕ) (item : Item) → slice_get items i ≡ Some item → IsSomething (item_in item)
      → covers any (document_of (file_at items bytes (suc i))) signature
      ≡ covers any (document_of (file_at items bytes i)) signature ++ entries_of any (document_of (file_at items bytes i)) signature (item_in item)
  -- A time-stamp on the archive renews the file that it is put into: by each policy, what is yes there at the time that its token proves is
  -- yes in the next one at each moment from then on at which the token is accepted.
  pub renew : (i : ℕ) (item : Item) → slice_get items i ≡ Some item → item.kind ≡ Archive
      → Renews is_whole handed (file_at items bytes i) (file_at items bytes (suc i)) signature item.bytes

-- so it is with one signature, where there is an item
abbrev pub FilesHold : Handed → List Item → List ℕ → Type 0
FilesHold handed items bytes = 1 ≤ length items → (signature : Spot) × AreFiles handed items bytes signature
