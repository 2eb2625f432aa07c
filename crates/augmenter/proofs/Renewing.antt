-- A time-stamp on the archive that has passed keeps the verdict.
use Rattle.std.proofs.Common.{◌≡◌, ℕ, ℤ, zero, suc, Bool, true, false, ◌||◌, nat_lt, nat_le, cond, List, [], ◌∷◌, ◌++◌, Contains, Option, Some, None, refl, sym, ◌∙◌, ap, subst, arith, ◌≤ℤ◌, int_lt, ◌⊎◌, inl, inr}
use Rattle.std.proofs.lemmas.Int.{ints}
use Rattle.std.proofs.lemmas.List.Elements.{Contains-append_cases}
use Rattle.std.specs.List.{find}
use Rattle.std.specs.Option.{option_or}
use Rattle.std.specs.Prelude.{filter, map, option_map, slice_get}
use Rattle.acceptance.specs.Objects.{token_of}
use Rattle.attached_lists.specs.Accepted.{IsReadFile, IsAccepted}
use Rattle.attached_lists.proofs.Files.{item_spelled}
use Rattle.archive_octets.specs.declared.kinds.StampKind.TheVariants as stamps
use Rattle.document_model.specs.Documents.{document_of}
use Rattle.document_model.specs.Tree.{Nodes}
use Rattle.policy_rules.specs.Rules.{Rules}
use Rattle.qualifying_props.specs.Whole.{is_whole}
use Rattle.renewed_documents.specs.OnBytes.{Renews}
use Rattle.renewed_documents.specs.Renewing.{IsRenewal}
use Rattle.renewed_documents.proofs.Renewed.{files_renew}
use Rattle.signature_evidence.specs.Evidence.{Stamped, evidence_of, stamp_of, stamps_from}
use Rattle.signature_evidence.specs.Renewal.{IsLast}
use Rattle.signature_model.specs.Chains.{Handed}
use Rattle.signature_model.specs.Fragments as model
use Rattle.signature_model.specs.Fragments.{bytes_with_item, with_item}
use Rattle.signature_model.specs.Parts as parts
use Rattle.signature_model.specs.Spots.{Spot}
use Rattle.signature_objects.specs.Held.{objects}
use Rattle.signature_objects.specs.Objects.{limited, most_objects}
use Rattle.signature_checks.specs.declared.codes.Code.TheVariants.{TooLarge}
use Rattle.stamp_checks.specs.Faults.{from_future, not_stamped, order_fault, out_of_order}
use Rattle.stamp_checks.specs.Times.{later_time}
use Rattle.stamp_checks.specs.declared.faults.OrderFault.{OrderFault}
use Rattle.tst_tokens.specs.Tokens.{gen_time}
use Rattle.augmenter.specs.Attaching.{file_at}
use Rattle.augmenter.specs.Items.{octets_test, put_by, size_test, passes_any_limit, with_one}
use Rattle.augmenter.specs.Preparing.{is_too_large}
use Rattle.augmenter.specs.declared.items.Item.{Item}
use Rattle.augmenter.specs.declared.items.ItemKind.TheVariants.{Archive}
use Rattle.augmenter.proofs.OneItem.{all_tests, gives, passed_all}
use Rattle.augmenter.proofs.Preparation.{nothing_there}
use Rattle.augmenter.proofs.Steps.{AreSteps, IsStep, accepted, read_on}

-- No time-stamp is later than the token, where none was found that is.

time_of_token : (whole : List ℕ) → (token_of whole).gen_time ≡ gen_time whole
unfolding token_of
time_of_token whole = refl

first_not : {A : Type 0} (b : Bool) (x : A) (rest : Option A) → cond b (Some x) rest ≡ None → (b ≡ false) × (rest ≡ None)
first_not true x rest e = cc
first_not false x rest e = (refl, e)

not_below : (a b : ℤ) → int_lt a b ≡ false → b ≤ℤ a
not_below a b e = grind (arith, ints)

one_only : {A : Type 0} (x y : A) → Contains (x ∷ []) y → x ≡ y
one_only x y (zero, l, e) = e
one_only x y (suc k, l, e) = absurd (omega (arith, l))

-- the times of the time-stamps among properties
abbrev times : Nodes → List Spot → List ℤ
times document list = map (λ stamp. gen_time (parts.token document stamp)) list

none_later : (time : ℤ) (handed : Handed) (document : Nodes) (signature : Spot) (before list : List Spot) → find (int_lt time) (times document (filter parts.is_stamp list)) ≡ None
    → (stamped : Stamped) → Contains (stamps_from handed document signature before list) stamped → gen_time stamped.token ≤ℤ time
none_later time handed document signature before [] e stamped h = let l = h.1 in absurd (omega (arith, l))
none_later time handed document signature before (property ∷ list) e stamped h =
    by_kind (λ f more. none_later time handed document signature (before ++ property ∷ []) list f stamped more) (parts.is_stamp property) e
    (Contains-append_cases (cond (parts.is_stamp property) (stamp_of handed document signature before property ∷ []) []) (stamps_from handed document signature (before ++ property ∷ []) list) stamped h)
  where
    by_kind : (find (int_lt time) (times document (filter parts.is_stamp list)) ≡ None → Contains (stamps_from handed document signature (before ++ property ∷ []) list) stamped
        → gen_time stamped.token ≤ℤ time)
        → (b : Bool) → find (int_lt time) (times document (cond b (property ∷ filter parts.is_stamp list) (filter parts.is_stamp list))) ≡ None
        → Contains (cond b (stamp_of handed document signature before property ∷ []) []) stamped ⊎ Contains (stamps_from handed document signature (before ++ property ∷ []) list) stamped → gen_time stamped.token ≤ℤ time
    by_kind others true f (inl this) =
        let first = first_not (int_lt time (gen_time (parts.token document property))) _ _ f in
        subst (λ (s : Stamped). gen_time s.token ≤ℤ time) (one_only (stamp_of handed document signature before property) stamped this) (not_below time (gen_time (parts.token document property)) first.0)
    by_kind others true f (inr more) = others (first_not (int_lt time (gen_time (parts.token document property))) _ _ f).1 more
    by_kind others false f (inl this) = let l = this.1 in absurd (omega (arith, l))
    by_kind others false f (inr more) = others f more

no_order : (a b : Option OrderFault) → option_or a b ≡ None → (a ≡ None) × (b ≡ None)
no_order None b e = (refl, e)
no_order (Some x) b e = cc

no_time : (make : ℤ → OrderFault) (o : Option ℤ) → option_map make o ≡ None → o ≡ None
no_time make None e = refl
no_time make (Some at) e = cc

is_last : (handed : Handed) (moment : ℤ) (document : Nodes) (signature : Spot) (token : List ℕ) → order_fault stamps.Archive moment document signature token ≡ None
    → IsLast (evidence_of handed document signature []) token
is_last handed moment document signature token e stamped h =
    let ordered = (no_order (out_of_order document signature token) (not_stamped document signature) (no_order (from_future moment token) _ e).1).0 in
    let none = no_time _ (later_time (gen_time token) document signature) ordered in
    subst (λ (z : ℤ). z ≤ℤ (token_of token).gen_time) (sym (time_of_token stamped.token))
    (subst (λ (z : ℤ). gen_time stamped.token ≤ℤ z) (sym (time_of_token token))
    (none_later (gen_time token) handed document signature [] (parts.properties document signature) none stamped h))

-- The new document has few objects, where its size was no fault.

second_off : (a b : Bool) → (a || b) ≡ false → b ≡ false
second_off true b e = cc
second_off false b e = e

not_more : (a b : ℕ) → nat_lt a b ≡ false → nat_le b a ≡ true
not_more a b e = grind arith

few : (new : List ℕ) (signature : Spot) → None ≡ size_test new signature → nat_le (limited (objects (document_of new) signature [])) most_objects ≡ true
few new signature e =
    not_more most_objects (limited (objects (document_of new) signature []))
    (second_off (is_too_large new) (nat_lt most_objects (limited (objects (document_of new) signature []))) (nothing_there (passes_any_limit new signature) TooLarge (sym e)))

-- One time-stamp.

module _ (rules : Rules) (handed : Handed) (moment : ℤ) (signature : Spot) (item : Item) (bytes : List ℕ) (r : IsReadFile is_whole signature bytes) (s : IsStep rules handed moment item bytes)
    (is : item.kind ≡ Archive) where
  put : put_by item.kind item.bytes ≡ model.Archive item.bytes
  put = ap (λ kind. put_by kind item.bytes) is

  taken : IsAccepted is_whole signature bytes (model.Archive item.bytes)
  taken = subst (IsAccepted is_whole signature bytes) put (accepted rules handed moment signature item bytes r s)

  all : all_tests rules handed moment item bytes signature None
  all = passed_all rules handed moment item bytes signature r.is_read.read s.code

  tested : octets_test Archive item.bytes rules handed moment (document_of bytes) signature None
  tested = subst (λ kind. octets_test kind item.bytes rules handed moment (document_of bytes) signature None) is all.0.1

  renewal : IsRenewal is_whole handed (document_of bytes) signature item.bytes
  renewal = record {
    read = r.is_read.read;
    free = r.is_read.free;
    signed = taken.may;
    bytes = taken.whole.0;
    whole = taken.whole.1;
    sound = tested.0.0.1;
    last = is_last handed moment (document_of bytes) signature item.bytes tested.0.1;
    few = subst (λ (new : Nodes). nat_le (limited (objects new signature [])) most_objects ≡ true) (item_spelled is_whole signature bytes (model.Archive item.bytes) r taken)
        (few (bytes_with_item (document_of bytes) signature (model.Archive item.bytes) bytes) signature
        (subst (λ (x : model.Item). None ≡ size_test (bytes_with_item (document_of bytes) signature x bytes) signature) put all.1));
  }

  one_renews : Renews is_whole handed bytes (with_one item bytes) signature item.bytes
  one_renews =
      subst (λ (new : List ℕ). Renews is_whole handed bytes new signature item.bytes)
      (sym (gives item bytes signature r.is_read.read ∙ ap (λ x. bytes_with_item (document_of bytes) signature x bytes) put))
      (files_renew is_whole handed bytes signature item.bytes r.right renewal taken.fits)

pub each_renews : (rules : Rules) (handed : Handed) (moment : ℤ) (signature : Spot) (items : List Item) (bytes : List ℕ) → IsReadFile is_whole signature bytes
    → AreSteps rules handed moment items bytes → (i : ℕ) (item : Item) → slice_get items i ≡ Some item → item.kind ≡ Archive
    → Renews is_whole handed (file_at items bytes i) (file_at items bytes (suc i)) signature item.bytes
each_renews rules handed moment signature [] bytes r s zero item e k = cc
each_renews rules handed moment signature [] bytes r s (suc i) item e k = cc
each_renews rules handed moment signature (first ∷ items) bytes r s zero item e k =
    subst (λ (x : Item). Renews is_whole handed bytes (with_one first bytes) signature x.bytes) (same_item e)
    (one_renews rules handed moment signature first bytes r s.0 (subst (λ (x : Item). x.kind ≡ Archive) (sym (same_item e)) k))
  where
    same_item : {x y : Item} → Some x ≡ Some y → x ≡ y
    same_item e = cc
each_renews rules handed moment signature (first ∷ items) bytes r s (suc i) item e k =
    each_renews rules handed moment signature items (with_one first bytes) (read_on rules handed moment signature first bytes r s.0) s.1 i item e k
