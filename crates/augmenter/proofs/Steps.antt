-- Items that have passed, one after another.
use Rattle.std.proofs.Common.{◌≡◌, ℕ, ℤ, zero, suc, ◌+◌, ◌<◌, ◌≤◌, List, [], ◌∷◌, ◌++◌, length, map, take, get_or, Some, None, Err, refl, sym, ◌∙◌, ap, subst, arith, append-nil}
use Rattle.std.proofs.lemmas.List.{take_more}
use Rattle.std.specs.Prelude.{slice_get}
use Rattle.base64.specs.GeneralPurpose.{IsBytes}
use Rattle.attached_lists.specs.Accepted.{IsReadFile, IsAccepted, AreAccepted}
use Rattle.attached_lists.specs.Files.{Holds, file_after}
use Rattle.attached_lists.proofs.Files.{files_cover, item_holds, items_hold}
use Rattle.covered_items.specs.Entries.{IsSomething, entries_of}
use Rattle.document_model.specs.Documents.{document_of, fault}
use Rattle.document_model.specs.Insertion.{Extends}
use Rattle.document_model.specs.Tree.{Path}
use Rattle.document_model.proofs.Extending.{extends_itself, extends_through, only_adds}
use Rattle.policy_rules.specs.Rules.{Rules}
use Rattle.qualifying_props.specs.Whole.{is_whole}
use Rattle.signature_checks.specs.declared.codes.Code.{Code}
use Rattle.signature_model.specs.Chains.{Handed}
use Rattle.signature_model.specs.Covers.{covers}
use Rattle.signature_model.specs.Fragments.{bytes_with_item, content_of, place_of, put_octets, written_octets}
use Rattle.signature_model.specs.Readable.{Answer, Read, NoSignature, Several, Shape, Include, PropertyData, answer}
use Rattle.signature_model.specs.Spots.{Spot}
use Rattle.signature_checks.specs.declared.objections.Objection.{Objection}
use Rattle.signature_checks.specs.declared.objections.Objection.TheVariants.{Found, OutOfMemory}
use Rattle.augmenter.specs.Attaching.{ArePassed, IsAttachment, IsFirstRefused, file_at, with_all}
use Rattle.augmenter.specs.Findings.{IsFoundIn}
use Rattle.augmenter.specs.Items.{IsItemCode, item_in, by_signature, with_one}
use Rattle.augmenter.specs.Judging.{IsValid, refusal_by}
use Rattle.augmenter.specs.declared.items.Item.{Item}
use Rattle.augmenter.proofs.OneItem.{gives, may_take, passed_tests, whole_item}
use Rattle.augmenter.proofs.ValidityStays.{validity_stays}

-- one item has passed on some bytes
pub record IsStep (rules : Rules) (handed : Handed) (moment : ℤ) (item : Item) (bytes : List ℕ) : Type 0 where
  pub code : IsItemCode rules handed moment item bytes None
  pub octets : IsBytes item.bytes
  pub fits : fault (with_one item bytes) ≡ None

abbrev pub AreSteps : Rules → Handed → ℤ → List Item → List ℕ → Type 0
AreSteps rules handed moment [] bytes = Unit {0}
AreSteps rules handed moment (item ∷ items) bytes = IsStep rules handed moment item bytes × AreSteps rules handed moment items (with_one item bytes)

-- one more

pub all_with_one : (items : List Item) (item : Item) (bytes : List ℕ) → with_all (items ++ item ∷ []) bytes ≡ with_one item (with_all items bytes)
all_with_one [] item bytes = refl
all_with_one (first ∷ items) item bytes = all_with_one items item (with_one first bytes)

pub steps_with_one : (rules : Rules) (handed : Handed) (moment : ℤ) (items : List Item) (item : Item) (bytes : List ℕ) → AreSteps rules handed moment items bytes
    → IsStep rules handed moment item (with_all items bytes) → AreSteps rules handed moment (items ++ item ∷ []) bytes
steps_with_one rules handed moment [] item bytes all one = (one, tt)
steps_with_one rules handed moment (first ∷ items) item bytes all one = (all.0, steps_with_one rules handed moment items item (with_one first bytes) all.1 one)

-- what the loop keeps: the items so far have passed, and the document is that with them in
pub record Attached (rules : Rules) (handed : Handed) (moment : ℤ) (items : List Item) (bytes live : List ℕ) (n : ℕ) : Type 0 where
  pub steps : AreSteps rules handed moment (take n items) bytes
  pub same : live ≡ file_at items bytes n
  pub none : fault live ≡ None
  pub small : length live ≤ 16777216
  pub right : fault bytes ≡ None
  pub valid : 0 < n → IsValid rules handed (document_of live)

pub attached_starts : (rules : Rules) (handed : Handed) (moment : ℤ) (items : List Item) (bytes live : List ℕ) → live ≡ bytes → fault live ≡ None → length bytes ≤ 16777216
    → Attached rules handed moment items bytes live 0
attached_starts rules handed moment items bytes live e none small = record {
  steps = tt;
  same = e;
  none = none;
  small = subst (λ b. length b ≤ 16777216) (sym e) small;
  right = subst (λ b. fault b ≡ None) e none;
  valid = λ l. absurd (omega (arith, l));
}

pub attached_on : (rules : Rules) (handed : Handed) (moment : ℤ) (items : List Item) (bytes live new : List ℕ) (n : ℕ) (d item : Item) → n < length items → item ≡ get_or items n d
    → IsItemCode rules handed moment item live None → new ≡ with_one item live → length new ≤ 16777216 → fault new ≡ None → IsBytes item.bytes
    → Attached rules handed moment items bytes live n → Attached rules handed moment items bytes new (n + 1)
attached_on rules handed moment items bytes live new n d item within is code put small none octets h =
    let more : take (n + 1) items ≡ take n items ++ item ∷ [] = take_more items n d within ∙ ap (λ x. take n items ++ x ∷ []) (sym is) in
    let step : IsStep rules handed moment item (with_all (take n items) bytes) = record {
      code = subst (λ b. IsItemCode rules handed moment item b None) h.same code;
      octets = octets;
      fits = ap (λ b. fault (with_one item b)) (sym h.same) ∙ ap fault (sym put) ∙ none;
    } in record {
      steps = subst (λ all. AreSteps rules handed moment all bytes) (sym more) (steps_with_one rules handed moment (take n items) item bytes h.steps step);
      same = put ∙ ap (with_one item) h.same ∙ sym (all_with_one (take n items) item bytes) ∙ ap (λ all. with_all all bytes) (sym more);
      none = none;
      small = small;
      right = h.right;
      valid = λ l. subst (λ b. IsValid rules handed (document_of b)) (sym put)
          (validity_stays rules handed moment item live h.none code octets (ap fault (sym put) ∙ none));
    }

-- No test stands against those that have passed.

pub front_passed : (rules : Rules) (handed : Handed) (moment : ℤ) (items : List Item) (bytes : List ℕ) (n : ℕ) → n ≤ length items → AreSteps rules handed moment (take n items) bytes
    → ArePassed rules handed moment items bytes n
front_passed rules handed moment [] bytes n w s i l = absurd (omega (arith, w, l))
front_passed rules handed moment (item ∷ items) bytes zero w s i l = absurd (omega (arith, l))
front_passed rules handed moment (item ∷ items) bytes (suc n) w s zero l = (item, refl, s.0.code)
front_passed rules handed moment (item ∷ items) bytes (suc n) w s (suc i) l = front_passed rules handed moment items (with_one item bytes) n (omega (arith, w)) s.1 i (omega (arith, l))

at_place : (items : List Item) (n : ℕ) (d : Item) → n < length items → slice_get items n ≡ Some (get_or items n d)
at_place [] n d l = absurd (omega (arith, l))
at_place (item ∷ items) zero d l = refl
at_place (item ∷ items) (suc n) d l = at_place items n d (omega (arith, l))

first_refused : (rules : Rules) (handed : Handed) (moment : ℤ) (items : List Item) (bytes live : List ℕ) (n : ℕ) (d item : Item) (code : Code) → n < length items → item ≡ get_or items n d
    → IsItemCode rules handed moment item live (Some code) → Attached rules handed moment items bytes live n → IsFirstRefused rules handed moment items bytes (n + 1) code
first_refused rules handed moment items bytes live n d item code within is found h = record {
  i = n;
  counted = omega arith;
  earlier = front_passed rules handed moment items bytes n (omega (arith, within)) h.steps;
  refused = (item, at_place items n d within ∙ ap Some (sym is), subst (λ b. IsItemCode rules handed moment item b (Some code)) h.same found);
}

pub refused_answer : (rules : Rules) (handed : Handed) (moment : ℤ) (items : List Item) (bytes live : List ℕ) (n : ℕ) (d item : Item) (objection : Objection) → n < length items
    → item ≡ get_or items n d → IsFoundIn (IsItemCode rules handed moment item live) objection → Attached rules handed moment items bytes live n
    → IsAttachment rules handed moment items bytes (Err (refusal_by (n + 1) objection))
refused_answer rules handed moment items bytes live n d item (Found code) within is found h =
    (h.right, first_refused rules handed moment items bytes live n d item code within is found h)
refused_answer rules handed moment items bytes live n d item OutOfMemory within is found h = tt

-- The new document holds the old one.

extends_one : (item : Item) (bytes : List ℕ) → Extends bytes (with_one item bytes)
extends_one item bytes = by_answer (answer is_whole (document_of bytes))
  where
    by_place : (signature : Spot) (all : List Path) → Extends bytes (put_octets (written_octets (content_of (document_of bytes) signature (item_in item))) all bytes)
    by_place signature [] = extends_itself bytes
    by_place signature (path ∷ others) = only_adds (written_octets (content_of (document_of bytes) signature (item_in item))) bytes path

    by_answer : (a : Answer) → Extends bytes (by_signature (λ signature. bytes_with_item (document_of bytes) signature (item_in item) bytes) bytes a)
    by_answer NoSignature = extends_itself bytes
    by_answer Several = extends_itself bytes
    by_answer (Shape path line) = extends_itself bytes
    by_answer (Include path) = extends_itself bytes
    by_answer (PropertyData path) = extends_itself bytes
    by_answer (Read signature) = by_place signature (place_of (document_of bytes) signature (item_in item))

pub extends_all : (items : List Item) (bytes : List ℕ) → Extends bytes (with_all items bytes)
extends_all [] bytes = extends_itself bytes
extends_all (item ∷ items) bytes = extends_through bytes (with_one item bytes) (with_all items (with_one item bytes)) (extends_one item bytes) (extends_all items (with_one item bytes))

-- What an item that has passed has shown of the signature that is read.

pub accepted : (rules : Rules) (handed : Handed) (moment : ℤ) (signature : Spot) (item : Item) (bytes : List ℕ) → IsReadFile is_whole signature bytes → IsStep rules handed moment item bytes
    → IsAccepted is_whole signature bytes (item_in item)
accepted rules handed moment signature item bytes r s =
    let tests = passed_tests rules handed moment item bytes signature r.is_read.read s.code in record {
      may = may_take rules handed moment item (document_of bytes) signature tests;
      whole = whole_item rules handed moment (document_of bytes) signature item.kind item.bytes tests.1 s.octets;
      fits = ap fault (sym (gives item bytes signature r.is_read.read)) ∙ s.fits;
    }

pub read_on : (rules : Rules) (handed : Handed) (moment : ℤ) (signature : Spot) (item : Item) (bytes : List ℕ) → IsReadFile is_whole signature bytes → IsStep rules handed moment item bytes
    → IsReadFile is_whole signature (with_one item bytes)
read_on rules handed moment signature item bytes r s =
    subst (IsReadFile is_whole signature) (sym (gives item bytes signature r.is_read.read))
    (item_holds is_whole signature bytes (item_in item) r (accepted rules handed moment signature item bytes r s)).later_read

-- the same files, with the signature that is read of the first one
record AreSame (signature : Spot) (items : List Item) (bytes : List ℕ) : Type 0 where
  pub all : AreAccepted is_whole signature bytes (map item_in items)
  pub files : (i : ℕ) → file_at items bytes i ≡ file_after signature (map item_in items) bytes i

are_same : (rules : Rules) (handed : Handed) (moment : ℤ) (signature : Spot) (items : List Item) (bytes : List ℕ) → IsReadFile is_whole signature bytes → AreSteps rules handed moment items bytes
    → AreSame signature items bytes
are_same rules handed moment signature [] bytes r s = record { all = tt; files = nothing }
  where
    nothing : (i : ℕ) → file_at [] bytes i ≡ file_after signature [] bytes i
    nothing zero = refl
    nothing (suc i) = refl
are_same rules handed moment signature (item ∷ items) bytes r s =
    let here = accepted rules handed moment signature item bytes r s.0 in
    let next = bytes_with_item (document_of bytes) signature (item_in item) bytes in
    let given : with_one item bytes ≡ next = gives item bytes signature r.is_read.read in
    let later = (item_holds is_whole signature bytes (item_in item) r here).later_read in
    let rest = are_same rules handed moment signature items next later (subst (AreSteps rules handed moment items) given s.1) in
    record { all = (here, rest.all); files = by_number given rest.files }
  where
    by_number : with_one item bytes ≡ bytes_with_item (document_of bytes) signature (item_in item) bytes
        → ((i : ℕ) → file_at items (bytes_with_item (document_of bytes) signature (item_in item) bytes) i ≡ file_after signature (map item_in items) (bytes_with_item (document_of bytes) signature (item_in item) bytes) i)
        → (i : ℕ) → file_at (item ∷ items) bytes i ≡ file_after signature (map item_in (item ∷ items)) bytes i
    by_number given rest zero = refl
    by_number given rest (suc i) = ap (with_all (take i items)) given ∙ rest i

pub each_two : (rules : Rules) (handed : Handed) (moment : ℤ) (signature : Spot) (items : List Item) (bytes : List ℕ) → IsReadFile is_whole signature bytes → AreSteps rules handed moment items bytes
    → (i j : ℕ) → i ≤ j → Holds is_whole signature (file_at items bytes i) (file_at items bytes j)
each_two rules handed moment signature items bytes r s i j l =
    let same = are_same rules handed moment signature items bytes r s in
    let h = items_hold is_whole signature bytes (map item_in items) i j l r same.all in
    subst (λ b. Holds is_whole signature b (file_at items bytes j)) (sym (same.files i))
    (subst (Holds is_whole signature (file_after signature (map item_in items) bytes i)) (sym (same.files j)) h)

-- what one item adds
one_adds : (handed : Handed) (signature : Spot) (item : Item) (bytes : List ℕ) → IsReadFile is_whole signature bytes → IsAccepted is_whole signature bytes (item_in item) → IsSomething (item_in item)
    → covers handed (document_of (with_one item bytes)) signature ≡ covers handed (document_of bytes) signature ++ entries_of handed (document_of bytes) signature (item_in item)
one_adds handed signature item bytes r a some =
    ap (λ b. covers handed (document_of b) signature) (gives item bytes signature r.is_read.read)
    ∙ files_cover is_whole handed signature bytes (item_in item ∷ []) r (a, tt) (some, tt)
    ∙ ap (λ entries. covers handed (document_of bytes) signature ++ entries) (append-nil (entries_of handed (document_of bytes) signature (item_in item)))

pub each_adds : (rules : Rules) (by : Handed) (moment : ℤ) (handed : Handed) (signature : Spot) (items : List Item) (bytes : List ℕ) → IsReadFile is_whole signature bytes
    → AreSteps rules by moment items bytes → (i : ℕ) (item : Item) → slice_get items i ≡ Some item → IsSomething (item_in item)
    → covers handed (document_of (file_at items bytes (suc i))) signature
    ≡ covers handed (document_of (file_at items bytes i)) signature ++ entries_of handed (document_of (file_at items bytes i)) signature (item_in item)
each_adds rules by moment handed signature [] bytes r s zero item e some = cc
each_adds rules by moment handed signature [] bytes r s (suc i) item e some = cc
each_adds rules by moment handed signature (first ∷ items) bytes r s zero item e some =
    subst (λ (x : Item). covers handed (document_of (with_one first bytes)) signature ≡ covers handed (document_of bytes) signature ++ entries_of handed (document_of bytes) signature (item_in x))
    (same_item e) (one_adds handed signature first bytes r (accepted rules by moment signature first bytes r s.0) (subst (λ (x : Item). IsSomething (item_in x)) (sym (same_item e)) some))
  where
    same_item : {x y : Item} → Some x ≡ Some y → x ≡ y
    same_item e = cc
each_adds rules by moment handed signature (first ∷ items) bytes r s (suc i) item e some =
    each_adds rules by moment handed signature items (with_one first bytes) (read_on rules by moment signature first bytes r s.0) s.1 i item e some
