-- What the calls on a pool do to what it shows.
use Rattle.std.proofs.Common.{◌≡◌, ℕ, zero, suc, ◌+◌, ◌≤◌, Bool, true, false, List, [], ◌∷◌, ◌++◌, length, map, slice_get, Some, None, arith, refl, sym, ap, subst, ◌∙◌, true≢false, Vec, Global, if◌then◌else◌, length-append}
use Rattle.std.specs.Map.{lookup, keys_of}
use Rattle.indexmap.specs.IndexMap.{insert_entry}
use Rattle.std.specs.Str.{bytes_eq}
use Rattle.std.specs.List.{position}
use Rattle.std.proofs.lemmas.List.{length-map}
use Rattle.std.proofs.lemmas.List.Quantifiers.{position-Some}
use Rattle.std.proofs.lemmas.Option.{slice_get_within, get_or_from_slice_get}
use Rattle.std.proofs.lemmas.Slice.Eq.{bytes_eq-Decides}
use Rattle.der_values.specs.Fits.{IsObject}
use Rattle.acceptance.specs.Certificates.{Part, Certificate, Member, certificate, crl, other}
use Rattle.acceptance.specs.Objects.{certificate_of, crl_of}
use Rattle.cert_paths.specs.declared.place.Place.{Place}
use Rattle.cert_paths.specs.Pool.{Keeps, numbers_from, part_numbers, AreDistinct, is_crl, is_list_at}
use Rattle.cert_paths.specs.Held.{Entry, part_of, held_part, parts_below, layout_of, IsHeld, IsFresh, IsPlaceOf, IsLonger}
use Rattle.cert_paths.proofs.HeldLaws.{get_before, is_held, stands_there, added, IsHeld-added, length-parts_below}
use Rattle.x509_certs.proofs.NotBoth.{not_both}

-- the bytes of a part
abbrev whole_of : Part → List ℕ
whole_of (certificate c) = c.whole
whole_of (crl l) = l.whole
whole_of other = []

whole_of-part : (is_list : Bool) (bytes : List ℕ) → whole_of (part_of is_list bytes) ≡ bytes
unfolding certificate_of crl_of
whole_of-part true bytes = refl
whole_of-part false bytes = refl

is_some_part : (is_list : Bool) (bytes : List ℕ) → part_of is_list bytes ≡ other → ⊥
is_some_part true bytes e = cc
is_some_part false bytes e = cc

-- equal bytes are one part, whatever is said of them
same_part : (a b : Bool) (x y : List ℕ) → x ≡ y → IsObject (layout_of a) x → IsObject (layout_of b) y → part_of a x ≡ part_of b y
same_part true true x y e p q = ap (part_of true) e
same_part false false x y e p q = ap (part_of false) e
same_part true false x y e p q = absurd (not_both y q (subst (IsObject (layout_of true)) e p))
same_part false true x y e p q = absurd (not_both y (subst (IsObject (layout_of false)) e p) q)

pub there_already : (objects : ℕ) (es : List Entry) (bytes : List ℕ) (is_list : Bool) (place : Place) → IsHeld objects es → IsObject (layout_of is_list) bytes → IsPlaceOf bytes es place →
    slice_get (parts_below objects es) place.number ≡ Some (part_of is_list bytes)
there_already objects es bytes is_list place held whole (k, e, at, same, is) =
    ap (λ n. slice_get (parts_below objects es) n) (sym (ap (λ (p : Place). p.number) is))
    ∙ stands_there objects es k e held at
    ∙ ap Some (same_part e.1.is_list is_list e.0.items bytes same (held.whole k e at) whole)

pub not_there : (objects : ℕ) (es : List Entry) (bytes : List ℕ) (is_list : Bool) (n : ℕ) → IsHeld objects es → IsFresh bytes es →
    slice_get (parts_below objects es) n ≡ Some (part_of is_list bytes) → ⊥
not_there objects es bytes is_list n held fresh at =
    let h = is_held objects es n (part_of is_list bytes) (is_some_part is_list bytes) at in
    fresh h.k h.e h.at (sym (whole_of-part h.e.1.is_list h.e.0.items) ∙ ap whole_of h.part ∙ whole_of-part is_list bytes)

pub longer_shows : (objects : ℕ) (es longer : List Entry) (bytes : List ℕ) (place : Place) → IsHeld objects es → place.number ≡ objects → IsLonger bytes place es longer →
    parts_below (objects + 1) longer ≡ parts_below objects es ++ part_of place.is_list bytes ∷ []
longer_shows objects es longer bytes place held is (copy, same, longer_is) =
    ap (parts_below (objects + 1)) longer_is ∙ added objects es (copy, place) held is
    ∙ ap (λ b. parts_below objects es ++ part_of place.is_list b ∷ []) same

pub longer_held : (objects : ℕ) (es longer : List Entry) (bytes : List ℕ) (place : Place) → IsHeld objects es → place.number ≡ objects → IsObject (layout_of place.is_list) bytes →
    IsFresh bytes es → IsLonger bytes place es longer → IsHeld (objects + 1) longer
longer_held objects es longer bytes place held is whole fresh (copy, same, longer_is) =
    subst (IsHeld (objects + 1)) (sym longer_is)
    (IsHeld-added objects es (copy, place) held is (subst (IsObject (layout_of place.is_list)) (sym same) whole) (λ k d at q. fresh k d at (q ∙ same)))

same_member : (m n : Member) → m.number ≡ n.number → m.certificate ≡ n.certificate → m ≡ n
same_member m n e f =
    ap (λ k. let r : Member = record { number = k; certificate = m.certificate } in r) e
    ∙ ap (λ c. let r : Member = record { number = n.number; certificate = c } in r) f

is_certificate_part : (c : Certificate) → certificate c ≡ other → ⊥
is_certificate_part c e = cc

inside_certificate : (c d : Certificate) → certificate c ≡ certificate d → c ≡ d
inside_certificate c d e = cc

pub are_distinct : (objects : ℕ) (es : List Entry) → IsHeld objects es → AreDistinct (parts_below objects es)
are_distinct objects es held m n at_m at_n same =
    let a = is_held objects es m.number (certificate m.certificate) (is_certificate_part m.certificate) at_m in
    let b = is_held objects es n.number (certificate n.certificate) (is_certificate_part n.certificate) at_n in
    let bytes : a.e.0.items ≡ b.e.0.items =
    sym (whole_of-part a.e.1.is_list a.e.0.items) ∙ ap whole_of a.part ∙ same ∙ sym (sym (whole_of-part b.e.1.is_list b.e.0.items) ∙ ap whole_of b.part) in
    let k : a.k ≡ b.k = held.distinct a.k b.k a.e b.e a.at b.at bytes in
    let e : Some a.e ≡ Some b.e = sym a.at ∙ ap (slice_get es) k ∙ b.at in
    let entry : a.e ≡ b.e = inside_some a.e b.e e in
    same_member m n
    (sym a.number ∙ ap (λ (x : Entry). x.1.number) entry ∙ b.number)
    (inside_certificate m.certificate n.certificate (sym a.part ∙ ap held_part entry ∙ b.part))
  where
    inside_some : {A : Type 0} (x y : A) → Some x ≡ Some y → x ≡ y
    inside_some x y e = cc

numbers_few : (n : ℕ) (pool : List Part) → length (numbers_from n pool) ≤ length pool
numbers_few n [] = omega arith
numbers_few n (other ∷ pool) = let h = numbers_few (suc n) pool in omega arith
numbers_few n (certificate c ∷ pool) = let h = numbers_few (suc n) pool in omega arith
numbers_few n (crl l ∷ pool) = let h = numbers_few (suc n) pool in omega arith

pub entries_few : (objects : ℕ) (es : List Entry) → IsHeld objects es → length es ≤ objects
unfolding part_numbers
entries_few objects es held =
    let few = numbers_few 0 (parts_below objects es) in
    let long = length-parts_below objects es in
    let same : length (numbers_from 0 (parts_below objects es)) ≡ length (map (λ (e : Entry). e.1.number) es) = ap length held.order in
    let l = length-map es (λ (e : Entry). e.1.number) in
    omega arith

-- look-ups by bytes
abbrev pub with_bytes : List ℕ → Vec ℕ Global → Bool
with_bytes bytes k = bytes_eq bytes k.items

first_fresh : (bytes : List ℕ) (d : Entry) (es : List Entry) → bytes_eq bytes d.0.items ≡ false → IsFresh bytes es → IsFresh bytes (d ∷ es)
first_fresh bytes d es differs rest zero e at same =
    let is : d ≡ e = cc in
    true≢false (sym ((bytes_eq-Decides bytes d.0.items).1 (sym same ∙ ap (λ (x : Entry). x.0.items) (sym is))) ∙ differs)
first_fresh bytes d es differs rest (suc k) e at same = rest k e at same

not_found : (bytes : List ℕ) (d : Entry) (es : List Entry) → lookup (with_bytes bytes) (d ∷ es) ≡ None → (bytes_eq bytes d.0.items ≡ false) × (lookup (with_bytes bytes) es ≡ None)
not_found bytes d es none =
    elim (bytes_eq bytes d.0.items) as (λ b. (if b then Some d.1 else lookup (with_bytes bytes) es) ≡ None → (b ≡ false) × (lookup (with_bytes bytes) es ≡ None)) [
      | true ↦ λ found. cc
      | false ↦ λ rest. (refl, rest)
    ] none

pub fresh_from : (bytes : List ℕ) (es : List Entry) → lookup (with_bytes bytes) es ≡ None → IsFresh bytes es
fresh_from bytes [] none k e at same = cc
fresh_from bytes (d ∷ es) none k e at same =
    let (differs, rest) = not_found bytes d es none in first_fresh bytes d es differs (fresh_from bytes es rest) k e at same

pub none_held : (es : List Entry) → es ≡ [] → IsHeld 0 es
unfolding parts_below part_numbers
none_held es is =
    subst (IsHeld 0) (sym is)
    (record {
      below = λ k e at. cc;
      apart = λ j k d e at. cc;
      distinct = λ j k d e at. cc;
      whole = λ k e at. cc;
      order = refl;
    })

pub none_shown : (es : List Entry) → parts_below 0 es ≡ []
unfolding parts_below
none_shown es = refl

-- the number of a part's entry, and what stands there
number_at : (es : List Entry) (k : ℕ) (e : Entry) → slice_get es k ≡ Some e → slice_get (map (λ (x : Entry). x.1.number) es) k ≡ Some e.1.number
number_at [] k e at = cc
number_at (d ∷ es) zero e at = let is : d ≡ e = cc in ap (λ (x : Entry). Some x.1.number) is
number_at (d ∷ es) (suc k) e at = number_at es k e at

pub part_number_at : (objects : ℕ) (es : List Entry) (k : ℕ) (e : Entry) → IsHeld objects es → slice_get es k ≡ Some e → slice_get (part_numbers (parts_below objects es)) k ≡ Some e.1.number
part_number_at objects es k e held at = ap (λ (ns : List ℕ). slice_get ns k) held.order ∙ number_at es k e at

inside_number : (m n : ℕ) → Some m ≡ Some n → m ≡ n
inside_number m n e = cc

pub read_there : (objects : ℕ) (es : List Entry) (k : ℕ) (e : Entry) → IsHeld objects es → slice_get es k ≡ Some e → (n : ℕ) → slice_get (part_numbers (parts_below objects es)) k ≡ Some n →
    slice_get (parts_below objects es) n ≡ Some (held_part e)
read_there objects es k e held at n is =
    let same : n ≡ e.1.number = inside_number n e.1.number (sym is ∙ part_number_at objects es k e held at) in
    ap (slice_get (parts_below objects es)) same ∙ stands_there objects es k e held at

is_crl_part : (is_list : Bool) (bytes : List ℕ) → is_crl (Some (part_of is_list bytes)) ≡ is_list
is_crl_part true bytes = refl
is_crl_part false bytes = refl

pub list_there : (objects : ℕ) (es : List Entry) (k : ℕ) (e : Entry) → IsHeld objects es → slice_get es k ≡ Some e →
    e.1.is_list ≡ is_list_at (parts_below objects es) (slice_get (part_numbers (parts_below objects es)) k)
list_there objects es k e held at =
    sym (ap (is_list_at (parts_below objects es)) (part_number_at objects es k e held at) ∙ ap is_crl (stands_there objects es k e held at) ∙ is_crl_part e.1.is_list e.0.items)

key_at : (es : List Entry) (i : ℕ) (e : Entry) → slice_get es i ≡ Some e → slice_get (keys_of es) i ≡ Some e.0
key_at [] i e at = cc
key_at (d ∷ es) zero e at = let is : d ≡ e = cc in ap (λ (x : Entry). Some x.0) is
key_at (d ∷ es) (suc i) e at = key_at es i e at

pub place_from : (bytes : List ℕ) (es : List Entry) (i : ℕ) (e : Entry) → position (with_bytes bytes) (keys_of es) ≡ Some i → slice_get es i ≡ Some e → IsPlaceOf bytes es e.1
place_from bytes es i e is at =
    let s = position-Some (with_bytes bytes) (keys_of es) i e.0 is in
    let key = get_or_from_slice_get (keys_of es) i e.0 e.0 (key_at es i e at) in
    let test : bytes_eq bytes e.0.items ≡ true = ap (with_bytes bytes) (sym key) ∙ s.1 in
    (i, e, at, sym ((bytes_eq-Decides bytes e.0.items).0 test), refl)

-- what isn't there is put behind all that is
pub put_behind : (eq : Vec ℕ Global → Vec ℕ Global → Bool) → ((a b : Vec ℕ Global) → eq a b ≡ bytes_eq a.items b.items) → (bytes : List ℕ) (es : List Entry) (copy : Vec ℕ Global) (place : Place) →
    copy.items ≡ bytes → IsFresh bytes es → insert_entry eq es copy place ≡ es ++ (copy, place) ∷ []
put_behind eq laws bytes [] copy place same fresh = refl
put_behind eq laws bytes (d ∷ es) copy place same fresh =
    let rest = put_behind eq laws bytes es copy place same (λ k e at q. fresh (suc k) e at q) in
    let differs : eq copy d.0 ≡ false = false_unless (eq copy d.0) (λ t. fresh 0 d refl (sym ((bytes_eq-Decides copy.items d.0.items).0 (sym (laws copy d.0) ∙ t)) ∙ same)) in
    ap (λ (b : Bool). if b then (d.0, place) ∷ es else d ∷ insert_entry eq es copy place) differs ∙ ap (λ (l : List Entry). d ∷ l) rest
  where
    false_unless : (b : Bool) → (b ≡ true → ⊥) → b ≡ false
    false_unless true h = absurd (h refl)
    false_unless false h = refl

pub keeps_same : (pool : List Part) → Keeps pool pool
keeps_same pool = record { larger = omega arith; kept = λ n p at. at }

pub keeps_before : (pool grown : List Part) (p : Part) → grown ≡ pool ++ p ∷ [] → Keeps pool grown
keeps_before pool grown p is = record {
  larger = let l = length-append pool (p ∷ []) in let e = ap length is in omega arith;
  kept = λ n q at. ap (λ (ps : List Part). slice_get ps n) is ∙ get_before pool p n (slice_get_within pool n q at) ∙ at;
}
