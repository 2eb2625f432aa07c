-- One item: its tests one behind another, and what it gives where none stands against it.
use Rattle.std.proofs.Common.{◌≡◌, inl, inr, ℕ, ℤ, Bool, true, false, not, ◌||◌, nat_lt, List, [], ◌∷◌, length, Option, Some, None, Result, Ok, Err, refl, sym, ◌∙◌, ap, subst, ◌≤◌}
use Rattle.std.specs.Prelude.{IfErr, OnOk, is_ok}
use Rattle.attached_items.specs.ReadAgain.{IsReadFree}
use Rattle.base64.specs.GeneralPurpose.{IsBytes}
use Rattle.covered_items.specs.Whole.{IsWholeItem}
use Rattle.der_values.proofs.FitsLaws.{read_object-fits}
use Rattle.document_model.specs.Documents.{document_of, fault}
use Rattle.document_model.specs.Tree.{Nodes}
use Rattle.doc_spans.specs.declared.documents.Doc.{Doc}
use Rattle.doc_spans.specs.Seen.{bytes_in, document_in, shown_in}
use Rattle.doc_spans.specs.Shown as trees
use Rattle.insertions.specs.Live.{longest}
use Rattle.item_contents.specs.Kept.{spot_in}
use Rattle.item_contents.specs.Materials.{IsMaterialOf, certificates_in, lists_in}
use Rattle.item_contents.proofs.MaterialElements.{certificates_are_whole, lists_are_whole, material_is_elements}
use Rattle.policy_rules.specs.Rules.{Rules}
use Rattle.qualifying_props.specs.Whole.{is_whole}
use Rattle.signature_checks.specs.Codes.{first_code}
use Rattle.signature_checks.specs.Opening.{IsFound, IsOpened, code_by, place_test, reference_test, signature_code, unsigned_test}
use Rattle.signature_checks.specs.Validity.{validity_tests}
use Rattle.signature_checks.specs.declared.codes.Code.{Code}
use Rattle.signature_checks.specs.declared.codes.Code.TheVariants.{AlreadySigned, NotSigned, TooLarge}
use Rattle.signature_checks.specs.declared.objections.Objection.{Objection}
use Rattle.signature_checks.specs.declared.objections.Objection.TheVariants.{Found, OutOfMemory}
use Rattle.signature_checks.specs.declared.opening.Opened.{Opened}
use Rattle.signature_elements.specs.Standing.{spot_of}
use Rattle.signature_model.specs.Chains.{Handed, when}
use Rattle.signature_model.specs.Fragments as model
use Rattle.signature_model.specs.Fragments.{bytes_with_item}
use Rattle.signature_model.specs.Keeping.{MayTake}
use Rattle.signature_model.specs.Parts.{is_signed, value_octets}
use Rattle.signature_model.specs.Readable as read
use Rattle.signature_model.specs.Readable.{Answer, Read, answer}
use Rattle.signature_model.specs.Spots.{Spot}
use Rattle.signature_objects.specs.Held.{objects}
use Rattle.signature_objects.specs.Objects.{limited, most_objects}
use Rattle.tst_tokens.specs.Layouts as tokens
use Rattle.augmenter.specs.Findings.{IsFoundIn, exactly, first_of}
use Rattle.augmenter.specs.Items.{IsItemCode, IsMaterial, item_in, item_test, octets_test, of_read, opening_code, passes_any_limit, put_by, signature_tests, signed_test, size_test, by_signature, with_one}
use Rattle.augmenter.specs.Judging.{IsPut, IsSplit}
use Rattle.augmenter.specs.declared.items.Item.{Item}
use Rattle.augmenter.specs.declared.items.ItemKind.{ItemKind}
use Rattle.augmenter.specs.declared.items.ItemKind.TheVariants.{Value, Stamp, Material, Archive}
use Rattle.augmenter.proofs.Preparation.{no_number, nothing_there}

-- Where something was found before the item's own tests.
pub found_opening : (rules : Rules) (handed : Handed) (moment : ℤ) (item : Item) (bytes : List ℕ) (objection : Objection) → IsFound (signature_code handed bytes (document_of bytes)) objection
    → IsFoundIn (IsItemCode rules handed moment item bytes) objection
found_opening rules handed moment item bytes (Found code) h = inl (sym (h (λ signature. [])))
found_opening rules handed moment item bytes OutOfMemory h = tt

-- Where the first of two tests finds nothing, the second decides.
pub second_decides : (first second : Option Code → Type 0) → first None → (told : Option Code) → second told → first_of first second told
second_decides first second none None h = (none, h)
second_decides first second none (Some code) h = inr (none, h)

-- all tests on an item and a signature of a document in some bytes
abbrev pub all_tests : Rules → Handed → ℤ → Item → List ℕ → Spot → Option Code → Type 0
all_tests rules handed moment item bytes signature =
    first_of (item_test rules handed moment item (document_of bytes) signature) (exactly (size_test (bytes_with_item (document_of bytes) signature (item_in item) bytes) signature))

-- Where the signature was opened, the item's tests decide.
pub opened_code : (rules : Rules) (handed : Handed) (moment : ℤ) (item : Item) (doc : Doc) (opened : Opened) → IsOpened handed doc opened → (told : Option Code)
    → all_tests rules handed moment item (bytes_in doc) (spot_of doc opened.parts.signature) told → IsItemCode rules handed moment item (bytes_in doc) told
opened_code rules handed moment item doc opened is told h =
    let bytes = bytes_in doc in
    let find = all_tests rules handed moment item bytes in
    let none : opening_code handed bytes ≡ None =
    ap (λ a. code_by (λ s. reference_test handed (document_in doc) s ∷ place_test (document_in doc) s ∷ []) bytes a) is.read
    ∙ (λ i. first_code (is.references i ∷ is.places i ∷ [])) in
    second_decides (exactly (opening_code handed bytes)) (of_read find (answer is_whole (document_of bytes))) (sym none) told
    (subst (λ a. of_read find a told) (sym is.read) h)

pub found_judging : (rules : Rules) (handed : Handed) (moment : ℤ) (item : Item) (doc : Doc) (opened : Opened) (objection : Objection) → IsOpened handed doc opened
    → IsFoundIn (item_test rules handed moment item (document_in doc) (spot_of doc opened.parts.signature)) objection
    → IsFoundIn (IsItemCode rules handed moment item (bytes_in doc)) objection
found_judging rules handed moment item doc opened (Found code) is h = opened_code rules handed moment item doc opened is (Some code) (inl h)
found_judging rules handed moment item doc opened OutOfMemory is h = tt

-- an objection by the first of two tests, and by the second one
pub objected_first : (first second : Option Code → Type 0) (objection : Objection) → IsFoundIn first objection → IsFoundIn (first_of first second) objection
objected_first first second (Found code) h = inl h
objected_first first second OutOfMemory h = tt

pub objected_later : (first second : Option Code → Type 0) (objection : Objection) → first None → IsFoundIn second objection → IsFoundIn (first_of first second) objection
objected_later first second (Found code) none h = inr (none, h)
objected_later first second OutOfMemory none h = tt

-- The size of the new document.

pub too_large : (new : List ℕ) (signature : Spot) → passes_any_limit new signature ≡ true → size_test new signature ≡ Some TooLarge
too_large new signature e = ap (λ b. when b TooLarge) e

pub not_large : (new : List ℕ) (signature : Spot) → passes_any_limit new signature ≡ false → size_test new signature ≡ None
not_large new signature e = ap (λ b. when b TooLarge) e

pub either_true : (a b : Bool) → b ≡ true → (a || b) ≡ true
either_true true b e = refl
either_true false b e = e

pub neither : (a b : Bool) → a ≡ false → b ≡ false → (a || b) ≡ false
neither a b e f = (λ i. e i || f i)

-- the objects of the new document, as they were counted
pub counted_large : (new kept : List ℕ) (signature : Spot) (many b : Bool) → new ≡ kept → many ≡ nat_lt most_objects (limited (objects (document_of new) signature []))
    → many ≡ b → nat_lt most_objects (limited (objects (document_of kept) signature [])) ≡ b
counted_large new kept signature many b e f g = ap (λ x. nat_lt most_objects (limited (objects (document_of x) signature []))) (sym e) ∙ sym f ∙ g

-- What an item has shown against which no test stands.

pub first_none : (a : Option Code) (b : List (Option Code)) → None ≡ first_code (a ∷ b) → a ≡ None
first_none None b e = refl
first_none (Some code) b e = cc

not_not : (b : Bool) → not b ≡ false → b ≡ true
not_not true e = refl
not_not false e = cc

has_value : (rules : Rules) (handed : Handed) (document : Nodes) (signature : Spot)
    → None ≡ first_code (signed_test document signature ∷ validity_tests rules handed document signature (value_octets document signature)) → is_signed document signature ≡ true
has_value rules handed document signature e =
    not_not (is_signed document signature) (nothing_there (not (is_signed document signature)) NotSigned
    (first_none (signed_test document signature) (validity_tests rules handed document signature (value_octets document signature)) e))

-- The signature may take it.
pub may_take : (rules : Rules) (handed : Handed) (moment : ℤ) (item : Item) (document : Nodes) (signature : Spot) → item_test rules handed moment item document signature None
    → MayTake document signature (item_in item)
may_take rules handed moment item document signature h = by_kind item.kind h.0
  where
    by_kind : (kind : ItemKind) → None ≡ first_code (signature_tests kind item.bytes rules handed document signature) → MayTake document signature (put_by kind item.bytes)
    by_kind Value e = nothing_there (is_signed document signature) AlreadySigned (first_none (unsigned_test document signature) (validity_tests rules handed document signature item.bytes) e)
    by_kind Stamp e = has_value rules handed document signature e
    by_kind Material e = has_value rules handed document signature e
    by_kind Archive e = has_value rules handed document signature e

pub whole_item : (rules : Rules) (handed : Handed) (moment : ℤ) (document : Nodes) (signature : Spot) (kind : ItemKind) (octets : List ℕ) → octets_test kind octets rules handed moment document signature None → IsBytes octets
    → IsWholeItem is_whole (put_by kind octets)
whole_item rules handed moment document signature Value octets t h = h
whole_item rules handed moment document signature Stamp octets t h = (h, ap is_ok ((read_object-fits tokens.token octets).1 t.0.0))
whole_item rules handed moment document signature Archive octets t h = (h, ap is_ok ((read_object-fits tokens.token octets).1 t.0.0.0))
whole_item rules handed moment document signature Material octets t h = (
  certificates_are_whole octets (certificates_in octets) (lists_in octets) t.1.0 h,
  lists_are_whole octets (certificates_in octets) (lists_in octets) t.1.0 h,
)

pub is_material : (octets : List ℕ) (certificates lists : List (List ℕ)) → IsMaterialOf octets certificates lists → IsMaterial octets
is_material octets certificates lists is =
    let same = material_is_elements octets certificates lists is in
    subst (λ c. IsMaterialOf octets c (lists_in octets)) same.0 (subst (IsMaterialOf octets certificates) same.1 is)

pub is_split : (rules : Rules) (handed : Handed) (moment : ℤ) (document : Nodes) (signature : Spot) (kind : ItemKind) (octets : List ℕ) → octets_test kind octets rules handed moment document signature None → IsSplit kind octets
is_split rules handed moment document signature Value octets t = tt
is_split rules handed moment document signature Stamp octets t = tt
is_split rules handed moment document signature Material octets t = t.1.0
is_split rules handed moment document signature Archive octets t = tt

pub is_free : (handed : Handed) (doc : Doc) (opened : Opened) → IsOpened handed doc opened → IsReadFree is_whole (document_in doc) (spot_of doc opened.parts.signature)
is_free handed doc opened is = record { read = is.read; free = no_number _ _ is.places }

-- The signature that is read, and what was tested of it.

no_such : {A : Type 0} {x : A} → None ≡ Some x → ⊥
no_such e = cc

pub passed_all : (rules : Rules) (handed : Handed) (moment : ℤ) (item : Item) (bytes : List ℕ) (signature : Spot) → answer is_whole (document_of bytes) ≡ Read signature
    → IsItemCode rules handed moment item bytes None → all_tests rules handed moment item bytes signature None
passed_all rules handed moment item bytes signature is code = subst (λ a. of_read (all_tests rules handed moment item bytes) a None) is code.1

pub passed_tests : (rules : Rules) (handed : Handed) (moment : ℤ) (item : Item) (bytes : List ℕ) (signature : Spot) → answer is_whole (document_of bytes) ≡ Read signature
    → IsItemCode rules handed moment item bytes None → item_test rules handed moment item (document_of bytes) signature None
passed_tests rules handed moment item bytes signature is code = (passed_all rules handed moment item bytes signature is code).0

pub record IsReadBy (document : Nodes) : Type 0 where
  pub signature : Spot
  pub free : IsReadFree is_whole document signature

pub read_by : (rules : Rules) (handed : Handed) (moment : ℤ) (item : Item) (bytes : List ℕ) → IsItemCode rules handed moment item bytes None → IsReadBy (document_of bytes)
read_by rules handed moment item bytes code = by_answer (answer is_whole (document_of bytes)) refl code.0
  where
    tests : Spot → List (Option Code)
    tests s = reference_test handed (document_of bytes) s ∷ place_test (document_of bytes) s ∷ []

    behind : (a b : Option Code) → None ≡ first_code (a ∷ b ∷ []) → b ≡ None
    behind None None e = refl
    behind None (Some code) e = cc
    behind (Some code) b e = cc

    by_answer : (a : Answer) → answer is_whole (document_of bytes) ≡ a → None ≡ code_by tests bytes a → IsReadBy (document_of bytes)
    by_answer read.NoSignature q e = absurd (no_such e)
    by_answer read.Several q e = absurd (no_such e)
    by_answer (read.Shape path line) q e = absurd (no_such e)
    by_answer (read.Include path) q e = absurd (no_such e)
    by_answer (read.PropertyData path) q e = absurd (no_such e)
    by_answer (Read signature) q e = record { signature = signature; free = record { read = q; free = no_number _ _ (behind (reference_test handed (document_of bytes) signature) (place_test (document_of bytes) signature) e) } }

-- what is found of a document that is kept
pub along : (P : List ℕ → trees.Shown → Type 0) (a b : List ℕ) (s t : trees.Shown) → a ≡ b → s ≡ t → P a s → P b t
along P a b s t e f h = subst (P b) f (subst (λ x. P x s) e h)

-- The file that the item gives.
pub gives : (item : Item) (bytes : List ℕ) (signature : Spot) → answer is_whole (document_of bytes) ≡ Read signature
    → with_one item bytes ≡ bytes_with_item (document_of bytes) signature (item_in item) bytes
gives item bytes signature is = ap (by_signature (λ s. bytes_with_item (document_of bytes) s (item_in item) bytes) bytes) is

-- What is known of an item that is put into a document that is kept: its octets, the signature that was opened, and that no test stands against it
-- so far.
pub record IsKnown (rules : Rules) (handed : Handed) (moment : ℤ) (item : Item) (doc : Doc) (opened : Opened) (octets bytes : List ℕ) (tree : trees.Shown) : Type 0 where
  pub same : octets ≡ item.bytes
  pub bytes_are : bytes_in doc ≡ bytes
  pub tree_is : shown_in doc ≡ tree
  pub is : IsOpened handed doc opened
  pub tests : item_test rules handed moment item (document_in doc) (spot_of doc opened.parts.signature) None

module _ (rules : Rules) (handed : Handed) (moment : ℤ) (item : Item) (doc : Doc) (opened : Opened) (octets bytes : List ℕ) (tree : trees.Shown)
    (k : IsKnown rules handed moment item doc opened octets bytes tree) where
  pub may_in : MayTake (document_of bytes) (spot_in bytes tree opened.parts.signature) (put_by item.kind octets)
  may_in =
      along (λ b t. MayTake (document_of b) (spot_in b t opened.parts.signature) (put_by item.kind octets)) (bytes_in doc) bytes (shown_in doc) tree k.bytes_are k.tree_is
      (subst (λ o. MayTake (document_in doc) (spot_of doc opened.parts.signature) (put_by item.kind o)) (sym k.same)
      (may_take rules handed moment item (document_in doc) (spot_of doc opened.parts.signature) k.tests))

  pub whole_in : IsBytes item.bytes → IsWholeItem is_whole (put_by item.kind octets)
  whole_in h =
      subst (λ o. IsWholeItem is_whole (put_by item.kind o)) (sym k.same)
      (whole_item rules handed moment (document_in doc) (spot_of doc opened.parts.signature) item.kind item.bytes k.tests.1 h)

  pub split_in : IsSplit item.kind octets
  split_in = subst (IsSplit item.kind) (sym k.same) (is_split rules handed moment (document_in doc) (spot_of doc opened.parts.signature) item.kind item.bytes k.tests.1)

  -- the code that is left for the size
  left_in : (told : Option Code) → told ≡ size_test (bytes_with_item (document_of bytes) (spot_in bytes tree opened.parts.signature) (put_by item.kind octets) bytes) (spot_in bytes tree opened.parts.signature)
      → IsItemCode rules handed moment item bytes told
  left_in told =
      along (λ b t. told ≡ size_test (bytes_with_item (document_of b) (spot_in b t opened.parts.signature) (put_by item.kind octets) b) (spot_in b t opened.parts.signature)
      → IsItemCode rules handed moment item b told) (bytes_in doc) bytes (shown_in doc) tree k.bytes_are k.tree_is
      (λ h.
      let signature = spot_of doc opened.parts.signature in
      let size : Option Code = size_test (bytes_with_item (document_in doc) signature (item_in item) (bytes_in doc)) signature in
      opened_code rules handed moment item doc opened k.is told
      (second_decides (item_test rules handed moment item (document_in doc) signature) (exactly size) k.tests told
      (h ∙ ap (λ o. size_test (bytes_with_item (document_in doc) signature (put_by item.kind o) (bytes_in doc)) signature) k.same)))

  -- It was put in, or a limit was found.

  pub code_passed : {A : Type 0} (new : List ℕ) (result : Result A Objection) → IsPut (spot_in bytes tree opened.parts.signature) (put_by item.kind octets) bytes new result
      → OnOk result (IsItemCode rules handed moment item bytes None)
  code_passed new (Ok done) p = left_in None (sym p.3 ∙ ap (λ b. size_test b (spot_in bytes tree opened.parts.signature)) p.0)
  code_passed new (Err objection) p = tt

  pub code_refused : {A : Type 0} (new : List ℕ) (result : Result A Objection) → IsPut (spot_in bytes tree opened.parts.signature) (put_by item.kind octets) bytes new result
      → IfErr result (IsFoundIn (IsItemCode rules handed moment item bytes))
  code_refused new (Ok done) p = tt
  code_refused new (Err (Found code)) p = left_in (Some code) p
  code_refused new (Err OutOfMemory) p = tt

  pub put_gives : {A : Type 0} (new : List ℕ) (result : Result A Objection) → IsPut (spot_in bytes tree opened.parts.signature) (put_by item.kind octets) bytes new result
      → OnOk result (new ≡ with_one item bytes)
  put_gives new (Ok done) p =
      p.0 ∙ ap (λ o. bytes_with_item (document_of bytes) (spot_in bytes tree opened.parts.signature) (put_by item.kind o) bytes) k.same
      ∙ sym (gives item bytes (spot_in bytes tree opened.parts.signature)
      (along (λ b t. answer is_whole (document_of b) ≡ Read (spot_in b t opened.parts.signature)) (bytes_in doc) bytes (shown_in doc) tree k.bytes_are k.tree_is k.is.read))
  put_gives new (Err objection) p = tt

pub put_small : {A : Type 0} (signature : Spot) (item : model.Item) (old new : List ℕ) (result : Result A Objection) → IsPut signature item old new result
    → OnOk result ((length new ≤ longest) × (fault new ≡ None))
put_small signature item old new (Ok done) p = (p.1, p.2)
put_small signature item old new (Err objection) p = tt
