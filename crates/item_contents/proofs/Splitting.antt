-- Objects that are read one after another.
use Rattle.std.proofs.Common.{◌≡◌, ℕ, zero, suc, ◌+◌, ◌<◌, ◌≤◌, Bool, true, false, cond, not, List, [], ◌∷◌, ◌++◌, length, take, drop, None, Some, Err, refl, sym, ◌∙◌, ap, subst, arith, append-nil, length-append}
use Rattle.std.proofs.Math.Seq.{take-add, take-append_seam}
use Rattle.std.proofs.lemmas.List.{length-take-le, length-drop, take-append-drop, take_all}
use Rattle.std.proofs.lemmas.List.Elements.{All-append, All-cons, All-head, All-nil, All-tail, filter-append}
use Rattle.std.proofs.lemmas.List.Folds.{concat-append}
use Rattle.std.specs.List.{All, concat}
use Rattle.std.specs.Prelude.{filter, is_ok, option_map, slice_index}
use Rattle.base64.specs.GeneralPurpose.{IsBytes}
use Rattle.covered_items.specs.Whole.{AreWhole}
use Rattle.der_values.specs.Element.{Element, element_at}
use Rattle.der_values.specs.Fits.{IsObject}
use Rattle.der_values.proofs.ElementLaws.{element_front}
use Rattle.der_values.proofs.FitsLaws.{read_object-fits}
use Rattle.qualifying_props.specs.Whole.{is_whole}
use Rattle.signature_model.specs.Parts.{Certificate, RevocationList}
use Rattle.x509_certs.specs.Data.{begins_with_0, object_in}
use Rattle.x509_certs.specs.Layouts as layouts
use Rattle.item_contents.specs.Materials.{IsWholePart, is_list, IsMaterialOf, IsBadAt}

-- The bytes in front of a place are whole objects, which have been told apart.
pub record SoFar (bytes : List ℕ) (at : ℕ) (certificates lists : List (List ℕ)) : Type 0 where
  pub parts : List (List ℕ)
  pub whole : All IsWholePart parts
  pub joined : concat parts ≡ take at bytes
  pub certificates_are : certificates ≡ filter begins_with_0 parts
  pub lists_are : lists ≡ filter is_list parts
  pub within : at ≤ length bytes

pub none_yet : (bytes : List ℕ) → SoFar bytes 0 [] []
none_yet bytes = record { parts = []; whole = All-nil IsWholePart; joined = refl; certificates_are = refl; lists_are = refl; within = omega arith }

-- the next object stands in front of what is left
front : (left part : List ℕ) → option_map (λ e. e.whole) (element_at left) ≡ Some part → (rest : List ℕ) × (left ≡ part ++ rest)
front left part is = elim (element_at left) as (λ o. element_at left ≡ o → option_map (λ e. e.whole) o ≡ Some part → (rest : List ℕ) × (left ≡ part ++ rest)) [
  | None ↦ λ q f. absurd cc
  | Some e ↦ λ q f. found e q (let same : e.whole ≡ part = cc in same)
] refl is
  where
    found : (e : Element) → element_at left ≡ Some e → e.whole ≡ part → (rest : List ℕ) × (left ≡ part ++ rest)
    found e q same = let split = element_front left e q in (split.rest, split.split ∙ ap (λ x. x ++ split.rest) same)

turned : {A : Type 0} (b : Bool) (x y : A) → cond b x y ≡ cond (not b) y x
turned true x y = refl
turned false x y = refl

pub goes_on : (bytes part : List ℕ) (at : ℕ) (is : Bool) (certificates lists certificates_now lists_now : List (List ℕ)) → SoFar bytes at certificates lists
    → option_map (λ e. e.whole) (element_at (drop at bytes)) ≡ Some part → IsWholePart part → is ≡ begins_with_0 part
    → certificates_now ≡ certificates ++ cond is (part ∷ []) [] → lists_now ≡ lists ++ cond is [] (part ∷ [])
    → SoFar bytes (at + length part) certificates_now lists_now
goes_on bytes part at is certificates lists certificates_now lists_now s there w e c l =
    let next = front (drop at bytes) part there in
    let within = s.within in
    let long : length (drop at bytes) ≡ length part + length next.0 = ap length next.1 ∙ length-append part next.0 in
    record {
      parts = s.parts ++ part ∷ [];
      whole = All-append IsWholePart s.parts (part ∷ []) s.whole (All-cons IsWholePart part [] w (All-nil IsWholePart));
      joined = concat-append s.parts (part ∷ []) ∙ (λ i. s.joined i ++ append-nil part i)
          ∙ ap (λ x. take at bytes ++ x) (sym (ap (take (length part)) next.1 ∙ take-append_seam part next.0)) ∙ sym (take-add at (length part) bytes);
      certificates_are = c ∙ (λ i. s.certificates_are i ++ cond (e i) (part ∷ []) []) ∙ sym (filter-append begins_with_0 s.parts (part ∷ []));
      lists_are = l ∙ (λ i. s.lists_are i ++ cond (e i) [] (part ∷ [])) ∙ ap (λ x. filter is_list s.parts ++ x) (turned (begins_with_0 part) [] (part ∷ [])) ∙ sym (filter-append is_list s.parts (part ∷ []));
      within = omega (arith, length-drop at bytes);
    }

pub ended : (bytes : List ℕ) (at : ℕ) (certificates lists : List (List ℕ)) → SoFar bytes at certificates lists → length bytes ≤ at → IsMaterialOf bytes certificates lists
ended bytes at certificates lists s h = record {
  parts = s.parts;
  whole = s.whole;
  joined = s.joined ∙ take_all at bytes h;
  certificates_are = s.certificates_are;
  lists_are = s.lists_are;
}

pub bad_at : (bytes : List ℕ) (at place : ℕ) (certificates lists : List (List ℕ)) → SoFar bytes at certificates lists → at < length bytes
    → object_in at (element_at (drop at bytes)) ≡ Err place → IsBadAt bytes place
bad_at bytes at place certificates lists s h e = record {
  parts = s.parts;
  whole = s.whole;
  rest = drop at bytes;
  some = omega (arith, length-drop at bytes);
  joined = ap (λ x. x ++ drop at bytes) s.joined ∙ take-append-drop at bytes;
  bad = ap (λ n. object_in n (element_at (drop at bytes))) (ap length s.joined ∙ length-take-le at bytes s.within) ∙ e;
}

-- They are whole objects of their kinds.

front_bytes : (a b : List ℕ) → IsBytes (a ++ b) → IsBytes a
front_bytes [] b h = λ i. omega arith
front_bytes (x ∷ a) b h = by_place (h 0) (front_bytes a b (λ j. h (suc j)))
  where
    by_place : x < 256 → IsBytes a → (i : ℕ) → slice_index (x ∷ a) i < 256
    by_place first others zero = first
    by_place first others (suc i) = others i

back_bytes : (a b : List ℕ) → IsBytes (a ++ b) → IsBytes b
back_bytes [] b h = h
back_bytes (x ∷ a) b h = back_bytes a b (λ i. h (suc i))

certificate_whole : (part : List ℕ) → IsWholePart part → begins_with_0 part ≡ true → is_whole Certificate part ≡ true
certificate_whole part w e = ap is_ok ((read_object-fits layouts.certificate part).1 (subst (λ b. IsObject (cond b layouts.certificate layouts.revocation_list) part) e w))

list_whole : (part : List ℕ) → IsWholePart part → begins_with_0 part ≡ false → is_whole RevocationList part ≡ true
list_whole part w e = ap is_ok ((read_object-fits layouts.revocation_list part).1 (subst (λ b. IsObject (cond b layouts.certificate layouts.revocation_list) part) e w))

pub certificates_whole : (parts : List (List ℕ)) → All IsWholePart parts → IsBytes (concat parts) → AreWhole is_whole Certificate (filter begins_with_0 parts)
certificates_whole [] w h = tt
certificates_whole (part ∷ parts) w h =
    let others = certificates_whole parts (All-tail IsWholePart part parts w) (back_bytes part (concat parts) h) in
    elim (begins_with_0 part) as (λ b. begins_with_0 part ≡ b → AreWhole is_whole Certificate (cond b (part ∷ filter begins_with_0 parts) (filter begins_with_0 parts))) [
      | true ↦ λ e. (front_bytes part (concat parts) h, certificate_whole part (All-head IsWholePart part parts w) e, others)
      | false ↦ λ e. others
    ] refl

pub lists_whole : (parts : List (List ℕ)) → All IsWholePart parts → IsBytes (concat parts) → AreWhole is_whole RevocationList (filter is_list parts)
lists_whole [] w h = tt
lists_whole (part ∷ parts) w h =
    let others = lists_whole parts (All-tail IsWholePart part parts w) (back_bytes part (concat parts) h) in
    elim (begins_with_0 part) as (λ b. begins_with_0 part ≡ b → AreWhole is_whole RevocationList (cond (not b) (part ∷ filter is_list parts) (filter is_list parts))) [
      | true ↦ λ e. others
      | false ↦ λ e. (front_bytes part (concat parts) h, list_whole part (All-head IsWholePart part parts w) e, others)
    ] refl
