-- Accepted items, one after another.
use Rattle.std.proofs.Common.{◌≡◌, ℕ, zero, suc, Bool, List, [], ◌∷◌, ◌++◌, None, take, arith, refl, sym, ◌∙◌, ap, subst, inl, inr, append_assoc}
use Rattle.std.proofs.lemmas.List.{append-nil}
use Rattle.std.proofs.lemmas.Option.{none-some}
use Rattle.document_model.specs.Tree.{Nodes, Path}
use Rattle.document_model.specs.Documents.{fault, document_of}
use Rattle.document_model.specs.Insertion.{Extends}
use Rattle.document_model.proofs.Extending.{extends_itself, extends_through, only_adds}
use Rattle.signature_model.specs.Spots.{Spot, paths}
use Rattle.signature_model.specs.Parts.{DatumKind}
use Rattle.signature_model.specs.Covers.{Entry, covers}
use Rattle.signature_model.specs.Fragments.{Item, Value, Stamp, Data, Archive, place_of, content_of, with_item, bytes_with_item, put_octets, written_octets}
use Rattle.signature_model.specs.Keeping.{TakesItem, GoesOn, with_items}
use Rattle.signature_model.proofs.ReadTakes.{read_takes_item}
use Rattle.signature_model.proofs.ItemKept.{item_keeps_covers}
use Rattle.insertions.specs.Content.{SpellsWithin}
use Rattle.insertion_fragments.proofs.ItemFragments.{items_spelled}
use Rattle.covered_items.specs.Entries.{entries_of}
use Rattle.covered_items.proofs.WholeBytes.{item_bytes}
use Rattle.covered_items.proofs.ItemCovers.{item_covers_the_next_octets}
use Rattle.attached_items.specs.ReadAgain.{IsReadFree}
use Rattle.attached_items.proofs.PlacesAreElements.{places_are_elements}
use Rattle.attached_items.proofs.AllItems.{item_is_read_again}
use Rattle.attached_lists.specs.Accepted.{IsReadFile, IsAccepted, bytes_with_items, AreAccepted}
use Rattle.attached_lists.specs.Files.{Holds, ItemsHold, FilesAreSpelled, CallsCompose}
use Rattle.attached_lists.specs.Covering.{FilesCover, entries_of_items}

-- The place of an item.

place_there : (document : Nodes) (signature : Spot) (item : Item) → TakesItem document signature item
    → (path : Path) × (place_of document signature item ≡ path ∷ [])
place_there document signature (Value octets) t = (t.value_place.0.path, ap paths t.value_place.1)
place_there document signature (Stamp token) t = (t.property_place.0.path, ap paths t.property_place.1)
place_there document signature (Data certificates lists) t = (t.property_place.0.path, ap paths t.property_place.1)
place_there document signature (Archive token) t = (t.property_place.0.path, ap paths t.property_place.1)

-- One item.

no_limit : (bytes : List ℕ) (tree : Nodes) → fault bytes ≡ None → SpellsWithin bytes tree → document_of bytes ≡ tree
no_limit bytes tree e s = elim s [
  | inl spells ↦ spells.2
  | inr passed ↦ absurd (elim passed.1 [
    | inl deep ↦ none-some _ (sym e ∙ deep.0)
    | inr many ↦ none-some _ (sym e ∙ many.0)
  ])
]

pub item_spelled : (is_whole : DatumKind → List ℕ → Bool) (signature : Spot) (bytes : List ℕ) (item : Item) → IsReadFile is_whole signature bytes → IsAccepted is_whole signature bytes item
    → document_of (bytes_with_item (document_of bytes) signature item bytes) ≡ with_item (document_of bytes) signature item
item_spelled is_whole signature bytes item r a =
    let document : Nodes = document_of bytes in
    let takes = read_takes_item is_whole document signature item r.is_read.read r.is_read.free a.may in
    let place = place_there document signature item takes in
    no_limit (bytes_with_item document signature item bytes) (with_item document signature item) a.fits
    (items_spelled bytes signature item place.0 [] r.right (item_bytes is_whole item a.whole) place.1
    (places_are_elements document signature item place.0 [] takes.is_signature.stands place.1))

item_extends : (bytes : List ℕ) (signature : Spot) (item : Item) → Extends bytes (bytes_with_item (document_of bytes) signature item bytes)
item_extends bytes signature item = by_place (place_of (document_of bytes) signature item)
  where
    by_place : (all : List Path) → Extends bytes (put_octets (written_octets (content_of (document_of bytes) signature item)) all bytes)
    by_place [] = extends_itself bytes
    by_place (path ∷ others) = only_adds (written_octets (content_of (document_of bytes) signature item)) bytes path

pub item_holds : (is_whole : DatumKind → List ℕ → Bool) (signature : Spot) (bytes : List ℕ) (item : Item) → IsReadFile is_whole signature bytes → IsAccepted is_whole signature bytes item
    → Holds is_whole signature bytes (bytes_with_item (document_of bytes) signature item bytes)
item_holds is_whole signature bytes item r a =
    let document : Nodes = document_of bytes in
    let spelled = item_spelled is_whole signature bytes item r a in
    let takes = read_takes_item is_whole document signature item r.is_read.read r.is_read.free a.may in
    record {
      earlier_read = r;
      later_read = record {
        right = a.fits;
        is_read = subst (λ (d : Nodes). IsReadFree is_whole d signature) (sym spelled) (item_is_read_again is_whole document signature item a.whole r.is_read a.may);
      };
      covered = λ handed. subst (λ (d : Nodes). GoesOn (covers handed document signature) (covers handed d signature)) (sym spelled) (item_keeps_covers handed document signature item takes);
      extends = item_extends bytes signature item;
    }

-- Several.

goes_through : (a b c : List Entry) → GoesOn a b → GoesOn b c → GoesOn a c
goes_through a b c p q = (p.0 ++ q.0, q.1 ∙ ap (λ entries. entries ++ q.0) p.1 ∙ append_assoc a p.0 q.0)

holds_itself : (is_whole : DatumKind → List ℕ → Bool) (signature : Spot) (bytes : List ℕ) → IsReadFile is_whole signature bytes → Holds is_whole signature bytes bytes
holds_itself is_whole signature bytes r = record {
  earlier_read = r;
  later_read = r;
  covered = λ handed. ([], sym (append-nil (covers handed (document_of bytes) signature)));
  extends = extends_itself bytes;
}

holds_through : (is_whole : DatumKind → List ℕ → Bool) (signature : Spot) (a b c : List ℕ) → Holds is_whole signature a b → Holds is_whole signature b c → Holds is_whole signature a c
holds_through is_whole signature a b c p q = record {
  earlier_read = p.earlier_read;
  later_read = q.later_read;
  covered = λ handed. goes_through (covers handed (document_of a) signature) (covers handed (document_of b) signature) (covers handed (document_of c) signature) (p.covered handed) (q.covered handed);
  extends = extends_through a b c p.extends q.extends;
}

pub all_hold : (is_whole : DatumKind → List ℕ → Bool) (signature : Spot) (bytes : List ℕ) (items : List Item) → IsReadFile is_whole signature bytes → AreAccepted is_whole signature bytes items
    → Holds is_whole signature bytes (bytes_with_items signature items bytes)
all_hold is_whole signature bytes [] r a = holds_itself is_whole signature bytes r
all_hold is_whole signature bytes (item ∷ items) r a =
    let next : List ℕ = bytes_with_item (document_of bytes) signature item bytes in
    let one = item_holds is_whole signature bytes item r a.0 in
    holds_through is_whole signature bytes next (bytes_with_items signature items next) one (all_hold is_whole signature next items one.later_read a.1)

-- the first of accepted items are accepted
first_accepted : (is_whole : DatumKind → List ℕ → Bool) (signature : Spot) (bytes : List ℕ) (items : List Item) (j : ℕ) → AreAccepted is_whole signature bytes items → AreAccepted is_whole signature bytes (take j items)
first_accepted is_whole signature bytes [] zero a = tt
first_accepted is_whole signature bytes [] (suc j) a = tt
first_accepted is_whole signature bytes (item ∷ items) zero a = tt
first_accepted is_whole signature bytes (item ∷ items) (suc j) a =
    (a.0, first_accepted is_whole signature (bytes_with_item (document_of bytes) signature item bytes) items j a.1)

pub items_hold : ItemsHold
items_hold is_whole signature bytes items zero j l r a = all_hold is_whole signature bytes (take j items) r (first_accepted is_whole signature bytes items j a)
items_hold is_whole signature bytes items (suc i) zero l r a = absurd (omega (arith, l))
items_hold is_whole signature bytes [] (suc i) (suc j) l r a = holds_itself is_whole signature bytes r
items_hold is_whole signature bytes (item ∷ items) (suc i) (suc j) l r a =
    let next : List ℕ = bytes_with_item (document_of bytes) signature item bytes in
    items_hold is_whole signature next items i j (omega (arith, l)) (item_holds is_whole signature bytes item r a.0).later_read a.1

pub files_are_spelled : FilesAreSpelled
files_are_spelled is_whole signature bytes [] r a = refl
files_are_spelled is_whole signature bytes (item ∷ items) r a =
    let next : List ℕ = bytes_with_item (document_of bytes) signature item bytes in
    files_are_spelled is_whole signature next items (item_holds is_whole signature bytes item r a.0).later_read a.1
    ∙ ap (λ d. with_items d signature items) (item_spelled is_whole signature bytes item r a.0)

pub calls_compose : CallsCompose
calls_compose signature bytes [] second = refl
calls_compose signature bytes (item ∷ first) second = calls_compose signature (bytes_with_item (document_of bytes) signature item bytes) first second

pub files_cover : FilesCover
files_cover is_whole handed signature bytes [] r a some = sym (append-nil (covers handed (document_of bytes) signature))
files_cover is_whole handed signature bytes (item ∷ items) r a some =
    let document : Nodes = document_of bytes in
    let next : List ℕ = bytes_with_item document signature item bytes in
    let takes = read_takes_item is_whole document signature item r.is_read.read r.is_read.free a.0.may in
    let here : covers handed (document_of next) signature ≡ covers handed document signature ++ entries_of handed document signature item =
    ap (λ d. covers handed d signature) (item_spelled is_whole signature bytes item r a.0)
    ∙ item_covers_the_next_octets handed document signature item (item_bytes is_whole item a.0.whole) some.0 takes in
    files_cover is_whole handed signature next items (item_holds is_whole signature bytes item r a.0).later_read a.1 some.1
    ∙ ap (λ entries. entries ++ entries_of_items handed signature items next) here
    ∙ append_assoc (covers handed document signature) (entries_of handed document signature item) (entries_of_items handed signature items next)
