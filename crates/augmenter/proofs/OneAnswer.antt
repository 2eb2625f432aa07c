-- What is found of an item is one, and so is the first item that is refused.
use Rattle.std.proofs.Common.{◌≡◌, inl, inr, ℕ, zero, suc, ℤ, ◌<◌, true, false, nat_lt, List, [], ◌∷◌, length, Option, Some, None, Ok, Err, refl, sym, ◌∙◌, ap, subst, arith}
use Rattle.std.proofs.lemmas.Bool.{ltb-true, ltb-false}
use Rattle.std.specs.Prelude.{slice_get}
use Rattle.archive_octets.specs.Kinds.{kind_in}
use Rattle.archive_octets.specs.declared.kinds.StampKind.{StampKind}
use Rattle.archive_octets.specs.declared.kinds.StampKind.TheVariants as stamps
use Rattle.completeness.specs.Signers.{signers}
use Rattle.completeness.proofs.Single.{one_answer_fits}
use Rattle.document_model.specs.Characters.{is_empty}
use Rattle.document_model.specs.Documents as documents
use Rattle.document_model.specs.Documents.{document_of, fault}
use Rattle.doc_spans.specs.declared.faults.DocFault.{DocFault}
use Rattle.doc_spans.specs.declared.faults.DocFault.TheVariants as told
use Rattle.document_model.specs.Tree.{Nodes}
use Rattle.item_contents.specs.Materials.{certificates_in, lists_in}
use Rattle.item_contents.proofs.OneMaterial.{material_is_one}
use Rattle.policy_rules.specs.Rules.{Rules}
use Rattle.qualifying_props.specs.Whole.{is_whole}
use Rattle.signature_checks.specs.Codes.{first_code}
use Rattle.signature_checks.specs.declared.codes.Code.{Code}
use Rattle.signature_checks.specs.declared.codes.Code.TheVariants as codes
use Rattle.signature_evidence.specs.Pools.{pool_of}
use Rattle.signature_model.specs.Chains.{Handed, when}
use Rattle.signature_model.specs.Fragments.{bytes_with_item}
use Rattle.signature_model.specs.Octets.{next_octets}
use Rattle.signature_model.specs.Readable as read
use Rattle.signature_model.specs.Readable.{Answer, Read, answer}
use Rattle.signature_model.specs.Spots.{Spot}
use Rattle.signature_objects.specs.Held.{objects}
use Rattle.stamp_checks.specs.Faults.{order_fault}
use Rattle.stamp_checks.proofs.OneFault.{stamp_faults_are_one}
use Rattle.augmenter.specs.Answers.{IsFaultyDocument}
use Rattle.augmenter.specs.Attaching.{AnswersAreOne, ArePassed, IsCodeAt, IsFirstRefused, file_at}
use Rattle.augmenter.specs.Findings.{IsOne, exactly, first_of, tested}
use Rattle.augmenter.specs.Items.{IsItemCode, complete_test, item_in, item_test, material_test, octets_test, of_read, opening_code, shape_test, signature_tests, size_test, stamp_code, stamp_test, stamped_test}
use Rattle.augmenter.specs.declared.items.Item.{Item}
use Rattle.augmenter.specs.declared.refusals.Refusal.TheVariants.{BadDocument, Refused, OutOfMemory}
use Rattle.augmenter.specs.declared.items.ItemKind.{ItemKind}
use Rattle.augmenter.specs.declared.items.ItemKind.TheVariants.{Value, Stamp, Material, Archive}

-- Tests that find one thing at most.

one_exactly : (found : Option Code) → IsOne (exactly found)
one_exactly found told other a b = a ∙ sym b

no_such : {A : Type 0} {x : A} → None ≡ Some x → ⊥
no_such e = cc

some_is_one : {A : Type 0} {x y : A} → Some x ≡ Some y → x ≡ y
some_is_one e = cc

one_of_two : (first second : Option Code → Type 0) → IsOne first → IsOne second → IsOne (first_of first second)
one_of_two first second f s None None a b = refl
one_of_two first second f s None (Some code) a (inl here) = f None (Some code) a.0 here
one_of_two first second f s None (Some code) a (inr later) = s None (Some code) a.1 later.1
one_of_two first second f s (Some code) None (inl here) b = f (Some code) None here b.0
one_of_two first second f s (Some code) None (inr later) b = s (Some code) None later.1 b.1
one_of_two first second f s (Some code) (Some other) (inl here) (inl there) = f (Some code) (Some other) here there
one_of_two first second f s (Some code) (Some other) (inl here) (inr later) = absurd (no_such (f None (Some code) later.0 here))
one_of_two first second f s (Some code) (Some other) (inr later) (inl there) = absurd (no_such (f None (Some other) later.0 there))
one_of_two first second f s (Some code) (Some other) (inr later) (inr last) = s (Some code) (Some other) later.1 last.1

one_tested : {A : Type 0} (holds : Type 0) (code_of : A → Code) (stands : A → Type 0) → ((fault other : A) → stands fault → stands other → fault ≡ other)
    → ((fault : A) → holds → stands fault → ⊥) → IsOne (tested holds code_of stands)
one_tested holds code_of stands one none None None a b = refl
one_tested holds code_of stands one none None (Some code) a b = absurd (none b.0 a b.2)
one_tested holds code_of stands one none (Some code) None a b = absurd (none a.0 b a.2)
one_tested holds code_of stands one none (Some code) (Some other) a b = ap Some (a.1 ∙ ap code_of (one a.0 b.0 a.2 b.2) ∙ sym b.1)

-- Those on octets.

one_stamp : (kind : StampKind) (handed : Handed) (moment : ℤ) (document : Nodes) (signature : Spot) (octets : List ℕ) → IsOne (stamp_test kind handed moment document signature octets)
one_stamp kind handed moment document signature octets =
    let law = stamp_faults_are_one (next_octets (kind_in kind) handed document signature) octets (order_fault kind moment document signature octets) in
    one_tested _ stamp_code _ (λ fault other f g. law.0 fault other f.0 g.0 f.1 g.1) (λ fault t f. law.1 fault f.0 t f.1)

one_material : (document : Nodes) (signature : Spot) (octets : List ℕ) → IsOne (material_test document signature octets)
one_material document signature octets =
    let law = material_is_one octets in
    one_of_two (exactly (stamped_test document signature)) (first_of (shape_test octets) (exactly (when (is_empty octets) codes.MaterialEmpty))) (one_exactly (stamped_test document signature))
    (one_of_two (shape_test octets) (exactly (when (is_empty octets) codes.MaterialEmpty))
    (one_tested _ codes.MaterialShape _ (λ at place a b. law.1 at place a b) (λ at m b. law.2 (certificates_in octets) (lists_in octets) at m b))
    (one_exactly (when (is_empty octets) codes.MaterialEmpty)))

one_complete : (rules : Rules) (document : Nodes) (signature : Spot) → IsOne (complete_test rules document signature)
one_complete rules document signature =
    let law = one_answer_fits (pool_of (objects document signature [])) rules (signers document signature) in
    one_tested _ codes.NotComplete _ (λ number other a b. some_is_one (law (Some number) (Some other) a b)) (λ number none a. no_such (law None (Some number) none a))

one_octets : (kind : ItemKind) (octets : List ℕ) (rules : Rules) (handed : Handed) (moment : ℤ) (document : Nodes) (signature : Spot) → IsOne (octets_test kind octets rules handed moment document signature)
one_octets Value octets rules handed moment document signature = one_exactly None
one_octets Stamp octets rules handed moment document signature = one_stamp stamps.Signature handed moment document signature octets
one_octets Material octets rules handed moment document signature = one_material document signature octets
one_octets Archive octets rules handed moment document signature =
    one_of_two (stamp_test stamps.Archive handed moment document signature octets) (complete_test rules document signature) (one_stamp stamps.Archive handed moment document signature octets)
    (one_complete rules document signature)

-- And on an item.

one_of_read : (find : Spot → Option Code → Type 0) → ((signature : Spot) → IsOne (find signature)) → (a : Answer) → IsOne (of_read find a)
one_of_read find one read.NoSignature = one_exactly None
one_of_read find one read.Several = one_exactly None
one_of_read find one (read.Shape path line) = one_exactly None
one_of_read find one (read.Include path) = one_exactly None
one_of_read find one (read.PropertyData path) = one_exactly None
one_of_read find one (Read signature) = one signature

pub item_code_is_one : (rules : Rules) (handed : Handed) (moment : ℤ) (item : Item) (bytes : List ℕ) → IsOne (IsItemCode rules handed moment item bytes)
item_code_is_one rules handed moment item bytes =
    let document = document_of bytes in
    let size : Spot → Option Code = λ signature. size_test (bytes_with_item document signature (item_in item) bytes) signature in
    let find : Spot → Option Code → Type 0 = λ signature. first_of (item_test rules handed moment item document signature) (exactly (size signature)) in
    one_of_two (exactly (opening_code handed bytes)) (of_read find (answer is_whole document)) (one_exactly (opening_code handed bytes))
    (one_of_read find (λ signature.
    one_of_two (item_test rules handed moment item document signature) (exactly (size signature))
    (one_of_two (exactly (first_code (signature_tests item.kind item.bytes rules handed document signature))) (octets_test item.kind item.bytes rules handed moment document signature)
    (one_exactly (first_code (signature_tests item.kind item.bytes rules handed document signature))) (one_octets item.kind item.bytes rules handed moment document signature))
    (one_exactly (size signature))) (answer is_whole document))

-- The first item that is refused.

code_at_is_one : (rules : Rules) (handed : Handed) (moment : ℤ) (items : List Item) (bytes : List ℕ) (i : ℕ) → IsOne (IsCodeAt rules handed moment items bytes i)
code_at_is_one rules handed moment items bytes i told other a b =
    let same : a.0 ≡ b.0 = some_is_one (sym a.1 ∙ b.1) in
    item_code_is_one rules handed moment b.0 (file_at items bytes i) told other (subst (λ (item : Item). IsItemCode rules handed moment item (file_at items bytes i) told) same a.2) b.2

module _ (rules : Rules) (handed : Handed) (moment : ℤ) (items : List Item) (bytes : List ℕ) where
  not_earlier : (i j : ℕ) (code : Code) → i < j → ArePassed rules handed moment items bytes j → IsCodeAt rules handed moment items bytes i (Some code) → ⊥
  not_earlier i j code l passed refused = no_such (code_at_is_one rules handed moment items bytes i None (Some code) (passed i l) refused)

  same_number : (number other : ℕ) (code another : Code) (a : IsFirstRefused rules handed moment items bytes number code) (b : IsFirstRefused rules handed moment items bytes other another) → a.i ≡ b.i
  same_number number other code another a b =
      elim (nat_lt a.i b.i) as (λ t. nat_lt a.i b.i ≡ t → a.i ≡ b.i) [
        | true ↦ λ e. absurd (not_earlier a.i b.i code (ltb-true a.i b.i e) b.earlier a.refused)
        | false ↦ λ e. elim (nat_lt b.i a.i) as (λ t. nat_lt b.i a.i ≡ t → a.i ≡ b.i) [
          | true ↦ λ f. absurd (not_earlier b.i a.i another (ltb-true b.i a.i f) a.earlier b.refused)
          | false ↦ λ f. let l = ltb-false a.i b.i e in let m = ltb-false b.i a.i f in omega (arith, l, m)
        ] refl
      ] refl

  one_refused : (number other : ℕ) (code another : Code) → IsFirstRefused rules handed moment items bytes number code → IsFirstRefused rules handed moment items bytes other another
      → (number ≡ other) × (code ≡ another)
  one_refused number other code another a b =
      let same = same_number number other code another a b in
      let found = code_at_is_one rules handed moment items bytes b.i (Some code) (Some another)
      (subst (λ (i : ℕ). IsCodeAt rules handed moment items bytes i (Some code)) same a.refused) b.refused in
      (a.counted ∙ ap suc same ∙ sym b.counted, let same_code : code ≡ another = cc in same_code)

  within : (i : ℕ) (item : Item) → slice_get items i ≡ Some item → i < length items
  within i item e = by_list items i e
    where
      by_list : (all : List Item) (i : ℕ) → slice_get all i ≡ Some item → i < length all
      by_list [] zero e = absurd (no_such e)
      by_list [] (suc i) e = absurd (no_such e)
      by_list (first ∷ others) zero e = omega arith
      by_list (first ∷ others) (suc i) e = let l = by_list others i e in omega (arith, l)

  none_refused : (number : ℕ) (code : Code) → ArePassed rules handed moment items bytes (length items) → IsFirstRefused rules handed moment items bytes number code → ⊥
  none_refused number code passed a = not_earlier a.i (length items) code (within a.i a.refused.0 a.refused.1) passed a.refused

-- The fault of the document.

abbrev fault_from : Option documents.Fault → DocFault
fault_from None = told.OutOfMemory
fault_from (Some (documents.BadItem at)) = told.Item at
fault_from (Some (documents.Doctype at)) = told.Doctype at
fault_from (Some (documents.Depth at)) = told.Depth at
fault_from (Some (documents.TooMany at)) = told.Nodes at
fault_from (Some documents.End) = told.End

-- it is told in one way
record IsTold (bytes : List ℕ) (found : DocFault) : Type 0 where
  pub is : found ≡ fault_from (fault bytes)
  pub some : ¬ (fault bytes ≡ None)

is_told : (bytes : List ℕ) (found : DocFault) → IsFaultyDocument bytes found → IsTold bytes found
is_told bytes (told.Item at) h = record { is = ap fault_from (sym h); some = λ e. no_such (sym e ∙ h) }
is_told bytes (told.Doctype at) h = record { is = ap fault_from (sym h); some = λ e. no_such (sym e ∙ h) }
is_told bytes (told.Depth at) h = record { is = ap fault_from (sym h); some = λ e. no_such (sym e ∙ h) }
is_told bytes (told.Nodes at) h = record { is = ap fault_from (sym h); some = λ e. no_such (sym e ∙ h) }
is_told bytes told.End h = record { is = ap fault_from (sym h); some = λ e. no_such (sym e ∙ h) }
is_told bytes told.OutOfMemory h = absurd h

-- All answers.

refused_as : (number other : ℕ) (code another : Code) → (number ≡ other) × (code ≡ another) → Refused number code ≡ Refused other another
refused_as number other code another e = (λ i. Refused (e.0 i) (e.1 i))

pub answers_are_one : AnswersAreOne
answers_are_one rules handed moment items bytes (Ok new) (Ok other) r q a b = ap Ok (a.2 ∙ sym b.2)
answers_are_one rules handed moment items bytes (Ok new) (Err (BadDocument found)) r q a b = absurd ((is_told bytes found b).some a.0)
answers_are_one rules handed moment items bytes (Ok new) (Err (Refused number code)) r q a b = absurd (none_refused rules handed moment items bytes number code a.1 b.1)
answers_are_one rules handed moment items bytes (Ok new) (Err OutOfMemory) r q a b = absurd (q refl)
answers_are_one rules handed moment items bytes (Err (BadDocument found)) (Ok new) r q a b = absurd ((is_told bytes found a).some b.0)
answers_are_one rules handed moment items bytes (Err (BadDocument found)) (Err (BadDocument other)) r q a b =
    ap (λ fault. Err (BadDocument fault)) ((is_told bytes found a).is ∙ sym (is_told bytes other b).is)
answers_are_one rules handed moment items bytes (Err (BadDocument found)) (Err (Refused number code)) r q a b = absurd ((is_told bytes found a).some b.0)
answers_are_one rules handed moment items bytes (Err (BadDocument found)) (Err OutOfMemory) r q a b = absurd (q refl)
answers_are_one rules handed moment items bytes (Err (Refused number code)) (Ok new) r q a b = absurd (none_refused rules handed moment items bytes number code b.1 a.1)
answers_are_one rules handed moment items bytes (Err (Refused number code)) (Err (BadDocument found)) r q a b = absurd ((is_told bytes found b).some a.0)
answers_are_one rules handed moment items bytes (Err (Refused number code)) (Err (Refused other another)) r q a b =
    ap Err (refused_as number other code another (one_refused rules handed moment items bytes number other code another a.1 b.1))
answers_are_one rules handed moment items bytes (Err (Refused number code)) (Err OutOfMemory) r q a b = absurd (q refl)
answers_are_one rules handed moment items bytes (Err OutOfMemory) other r q a b = absurd (r refl)
