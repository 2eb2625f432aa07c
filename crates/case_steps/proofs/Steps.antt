-- A case in memory comes to show the evidence of a signature.
use Rattle.std.proofs.Common.{◌≡◌, ℕ, zero, suc, Bool, true, false, cond, ◌||◌, List, [], ◌∷◌, ◌++◌, length, Some, slice_get, arith, refl, sym, ◌∙◌, ap, subst, ⊎_elim, ◌⊎◌, inl, inr}
use Rattle.std.proofs.lemmas.List.{map-append, length-map}
use Rattle.std.proofs.lemmas.Option.{none-some}
use Rattle.std.specs.Prelude.{map}
use Rattle.std.specs.Option.{option_map_or}
use Rattle.acceptance.specs.Certificates.{Part, certificate, crl, other}
use Rattle.acceptance.specs.Objects.{certificate_of, crl_of, token_of}
use Rattle.acceptance.specs.Stamping.{IsTokenAccepted, proof_time}
use Rattle.acceptance.specs.Times.{Stamp, IsEarliest}
use Rattle.acceptance.specs.Tokens as acceptance
use Rattle.existence_times.specs.Shown.{Shown, ShownToken, ShownStamp, HasToken, stamp_of, stamps_of}
use Rattle.existence_times.specs.Kept.{with_pool, with_token}
use Rattle.signature_objects.specs.Objects.{Object, Octets, Value, Certificate, RevocationList, Token, is_same, has, with_object, number_of}
use Rattle.signature_evidence.specs.Pools.{part_of, pool_of}
use Rattle.signature_evidence.specs.Evidence.{Stamped}
use Rattle.signature_evidence.specs.Cases.{AreStampsOf}
use Rattle.signature_evidence.proofs.Numbers.{not_both, same_is, same_self, first_had, has_front, has_behind, number_there, number_stays, number_behind}
use Rattle.case_steps.specs.Built.{ShowsObjects, ShowsStamps, IsPart, PartIsAdded, TokenIsAdded, EarliestAreThose}

some_same : {A : Type 0} (a b : A) → Some a ≡ Some b → a ≡ b
some_same a b e = ap (λ o. option_map_or (λ x. x) o b) e

-- What a pool reads has the bytes of its object.

abbrev whole_of : Part → List ℕ
whole_of (certificate c) = c.whole
whole_of (crl l) = l.whole
whole_of other = []

certificate_bytes : (bytes : List ℕ) → whole_of (certificate (certificate_of bytes)) ≡ bytes
unfolding certificate_of
certificate_bytes bytes = refl

list_bytes : (bytes : List ℕ) → whole_of (crl (crl_of bytes)) ≡ bytes
unfolding crl_of
list_bytes bytes = refl

abbrev SameShape : Part → Part → Bool
SameShape (certificate c) (certificate d) = true
SameShape (crl l) (crl m) = true
SameShape (certificate c) (crl m) = false
SameShape (certificate c) other = false
SameShape (crl l) (certificate d) = false
SameShape (crl l) other = false
SameShape other p = true

no_shape : (a b : Part) → SameShape b b ≡ true → SameShape b a ≡ false → a ≡ b → ⊥
no_shape a b self e same = not_both (sym self ∙ ap (SameShape b) (sym same) ∙ e)

-- an object with the part of a certificate or list is that
part_same : (a b : Object) → IsPart b → part_of a ≡ part_of b → a ≡ b
part_same (Certificate x) (Certificate y) p e = ap (λ bytes. Certificate bytes) (sym (certificate_bytes x) ∙ ap whole_of e ∙ certificate_bytes y)
part_same (RevocationList x) (RevocationList y) p e = ap (λ bytes. RevocationList bytes) (sym (list_bytes x) ∙ ap whole_of e ∙ list_bytes y)
part_same (Octets k) (Certificate y) p e = absurd (no_shape other (certificate (certificate_of y)) refl refl e)
part_same Value (Certificate y) p e = absurd (no_shape other (certificate (certificate_of y)) refl refl e)
part_same (Token x) (Certificate y) p e = absurd (no_shape other (certificate (certificate_of y)) refl refl e)
part_same (RevocationList x) (Certificate y) p e = absurd (no_shape (crl (crl_of x)) (certificate (certificate_of y)) refl refl e)
part_same (Octets k) (RevocationList y) p e = absurd (no_shape other (crl (crl_of y)) refl refl e)
part_same Value (RevocationList y) p e = absurd (no_shape other (crl (crl_of y)) refl refl e)
part_same (Token x) (RevocationList y) p e = absurd (no_shape other (crl (crl_of y)) refl refl e)
part_same (Certificate x) (RevocationList y) p e = absurd (no_shape (certificate (certificate_of x)) (crl (crl_of y)) refl refl e)
part_same a (Octets k) p e = absurd p
part_same a Value p e = absurd p
part_same a (Token y) p e = absurd p

pub had_in_pool : (objects : List Object) (object : Object) → IsPart object → (n : ℕ) → slice_get (pool_of objects) n ≡ Some (part_of object) → has objects object ≡ true
had_in_pool [] object p n e = absurd (none-some _ e)
had_in_pool (first ∷ objects) object p zero e =
    subst (λ o. has (o ∷ objects) object ≡ true) (sym (part_same first object p (some_same (part_of first) (part_of object) e))) (first_had object objects)
had_in_pool (first ∷ objects) object p (suc n) e = has_behind (first ∷ []) objects object (had_in_pool objects object p n e)

-- One more object.

there_already : (objects : List Object) (object : Object) → has objects object ≡ true → with_object objects object ≡ objects
there_already objects object e = ap (λ b. cond b objects (objects ++ object ∷ [])) e

pub put_behind : (objects : List Object) (object : Object) → has objects object ≡ false → with_object objects object ≡ objects ++ object ∷ []
put_behind objects object e = ap (λ b. cond b objects (objects ++ object ∷ [])) e

decided : (b : Bool) → (b ≡ true → ⊥) → b ≡ false
decided true no_ = absurd (no_ refl)
decided false no_ = refl

has_cases : (front : List Object) (last object : Object) → has (front ++ last ∷ []) object ≡ true → (has front object ≡ true) ⊎ (is_same object last ≡ true)
has_cases [] last object e = inr (or_nothing (is_same object last) e)
  where
    or_nothing : (b : Bool) → (b || false) ≡ true → b ≡ true
    or_nothing true e = refl
    or_nothing false e = e
has_cases (first ∷ front) last object e = by_bool (is_same object first) (has_cases front last object) e
  where
    by_bool : (b : Bool) → (has (front ++ last ∷ []) object ≡ true → (has front object ≡ true) ⊎ (is_same object last ≡ true)) → (b || has (front ++ last ∷ []) object) ≡ true
        → ((b || has front object) ≡ true) ⊎ (is_same object last ≡ true)
    by_bool true more e = inl refl
    by_bool false more e = more e

not_token : (object : Object) (bytes : List ℕ) → IsPart object → is_same (Token bytes) object ≡ true → ⊥
not_token (Octets k) bytes p e = absurd p
not_token Value bytes p e = absurd p
not_token (Certificate x) bytes p e = not_both (sym e)
not_token (RevocationList x) bytes p e = not_both (sym e)
not_token (Token x) bytes p e = absurd p

part_behind : (objects : List Object) (shown : Shown) (object : Object) → IsPart object → ShowsObjects objects shown
    → ShowsObjects (objects ++ object ∷ []) (with_pool shown (shown.pool ++ part_of object ∷ []))
part_behind objects shown object p s = record {
  pool = ap (λ (pool : List Part). pool ++ part_of object ∷ []) s.pool ∙ sym (map-append part_of objects (object ∷ []));
  has_value = has_front objects (object ∷ []) Value s.has_value;
  value = s.value ∙ sym (number_stays objects (object ∷ []) Value s.has_value);
  tokens = λ n bytes h.
      let t = s.tokens n bytes h in
      (has_front objects (object ∷ []) (Token bytes) t.0, t.1 ∙ sym (number_stays objects (object ∷ []) (Token bytes) t.0));
  every = λ bytes e.
      ⊎_elim
      (λ old. subst (λ (n : ℕ). HasToken shown n bytes) (sym (number_stays objects (object ∷ []) (Token bytes) old)) (s.every bytes old))
      (λ same. absurd (not_token object bytes p same))
      (has_cases objects object (Token bytes) e);
}

pub part_is_added : PartIsAdded
part_is_added objects shown object p s = (
  λ n e.
      let had = had_in_pool objects object p n (sym (ap (λ (pool : List Part). slice_get pool n) s.pool) ∙ e) in
      subst (λ (all : List Object). ShowsObjects all shown) (sym (there_already objects object had)) s,
  λ none.
      let new = decided (has objects object) (λ had. none (number_of objects object)
      (ap (λ (pool : List Part). slice_get pool (number_of objects object)) s.pool ∙ number_there objects object had)) in
      subst (λ (all : List Object). ShowsObjects all (with_pool shown (shown.pool ++ part_of object ∷ []))) (sym (put_behind objects object new)) (part_behind objects shown object p s),
)

-- Tokens.

get_front : {X : Type 0} (xs : List X) (y : X) (k : ℕ) (x : X) → slice_get xs k ≡ Some x → slice_get (xs ++ y ∷ []) k ≡ Some x
get_front [] y k x e = absurd (none-some x e)
get_front (z ∷ xs) y zero x e = e
get_front (z ∷ xs) y (suc k) x e = get_front xs y k x e

get_last : {X : Type 0} (xs : List X) (y : X) → slice_get (xs ++ y ∷ []) (length xs) ≡ Some y
get_last [] y = refl
get_last (z ∷ xs) y = get_last xs y

get_cases : {X : Type 0} (xs : List X) (y : X) (k : ℕ) (x : X) → slice_get (xs ++ y ∷ []) k ≡ Some x → (slice_get xs k ≡ Some x) ⊎ (y ≡ x)
get_cases [] y zero x e = inr (some_same y x e)
get_cases [] y (suc k) x e = absurd (none-some x e)
get_cases (z ∷ xs) y zero x e = inl e
get_cases (z ∷ xs) y (suc k) x e = get_cases xs y k x e

abbrev bytes_of_token : Object → List ℕ
bytes_of_token (Octets k) = []
bytes_of_token Value = []
bytes_of_token (Certificate bytes) = []
bytes_of_token (RevocationList bytes) = []
bytes_of_token (Token bytes) = bytes

token_behind : (objects : List Object) (shown : Shown) (bytes : List ℕ) → has objects (Token bytes) ≡ false → ShowsObjects objects shown
    → ShowsObjects (objects ++ Token bytes ∷ []) (with_token shown bytes)
token_behind objects shown bytes new s =
    let long : length shown.pool ≡ length objects = ap (λ (pool : List Part). length pool) s.pool ∙ length-map objects part_of in
    let first : number_of (Token bytes ∷ []) (Token bytes) ≡ 0 = ap (λ b. cond b 0 (suc 0)) (same_self (Token bytes)) in
    let place : number_of (objects ++ Token bytes ∷ []) (Token bytes) ≡ length shown.pool =
    (let n = number_behind objects (Token bytes ∷ []) (Token bytes) new in omega (arith, n, first, long)) in
    record {
      pool = ap (λ (pool : List Part). pool ++ other ∷ []) s.pool ∙ sym (map-append part_of objects (Token bytes ∷ []));
      has_value = has_front objects (Token bytes ∷ []) Value s.has_value;
      value = s.value ∙ sym (number_stays objects (Token bytes ∷ []) Value s.has_value);
      tokens = λ n b h.
          ⊎_elim
          (λ old. let t = s.tokens n b (h.0, old) in (has_front objects (Token bytes ∷ []) (Token b) t.0, t.1 ∙ sym (number_stays objects (Token bytes ∷ []) (Token b) t.0)))
          (λ is.
          let b_is : bytes ≡ b = ap (λ (t : ShownToken). t.bytes) is in
          let n_is : length shown.pool ≡ n = ap (λ (t : ShownToken). t.number) is in (
            subst (λ (c : List ℕ). has (objects ++ Token bytes ∷ []) (Token c) ≡ true) b_is (has_behind objects (Token bytes ∷ []) (Token bytes) (first_had (Token bytes) [])),
            sym n_is ∙ sym place ∙ ap (λ (c : List ℕ). number_of (objects ++ Token bytes ∷ []) (Token c)) b_is,
          ))
          (get_cases shown.tokens (record { number = length shown.pool; bytes = bytes }) h.0 (record { number = n; bytes = b }) h.1);
      every = λ b e.
          ⊎_elim
          (λ old. subst (λ (n : ℕ). HasToken (with_token shown bytes) n b) (sym (number_stays objects (Token bytes ∷ []) (Token b) old))
          (let t = s.every b old in (t.0, get_front shown.tokens (record { number = length shown.pool; bytes = bytes }) t.0 _ t.1)))
          (λ is.
          let b_is : bytes ≡ b = ap bytes_of_token (sym (same_is (Token b) (Token bytes) is)) in
          subst (λ (c : List ℕ). HasToken (with_token shown bytes) (number_of (objects ++ Token bytes ∷ []) (Token c)) c) b_is
          (subst (λ (n : ℕ). HasToken (with_token shown bytes) n bytes) (sym place) (length shown.tokens, get_last shown.tokens (record { number = length shown.pool; bytes = bytes }))))
          (has_cases objects (Token bytes) (Token b) e);
    }

pub token_is_added : TokenIsAdded
token_is_added objects shown bytes s = (
  λ n h. subst (λ (all : List Object). ShowsObjects all shown) (sym (there_already objects (Token bytes) (s.tokens n bytes h).0)) s,
  λ none.
      let new = decided (has objects (Token bytes)) (λ had. none (number_of objects (Token bytes)) (s.every bytes had)) in
      subst (λ (all : List Object). ShowsObjects all (with_token shown bytes)) (sym (put_behind objects (Token bytes) new)) (token_behind objects shown bytes new s),
)

-- The case of the evidence.

stamps_shown : (objects : List Object) (evidence : List Stamped) (stamps : List ShownStamp) → ShowsStamps objects evidence stamps → AreStampsOf objects evidence (map stamp_of stamps)
stamps_shown objects [] [] h = tt
stamps_shown objects [] (stamp ∷ stamps) h = absurd h
stamps_shown objects (stamped ∷ evidence) [] h = absurd h
stamps_shown objects (stamped ∷ evidence) (stamp ∷ stamps) h =
    (record { object = h.0.object; token = ap token_of h.0.token; sound = h.0.sound; covers = h.0.covers }, stamps_shown objects evidence stamps h.1)

pub earliest_are_those : EarliestAreThose
earliest_are_those policy evidence shown case now times s pool stamps = (
  subst (λ (all : List (Stamp acceptance.Token)). AreStampsOf evidence.objects evidence.stamps all) (sym stamps) (stamps_shown evidence.objects evidence.stamps shown.stamps s.stamps),
  λ e.
      let pools : shown.pool ≡ case.pool = s.objects.pool ∙ sym pool in
      let all : stamps_of shown ≡ case.stamps = sym stamps in
      subst (λ (x : List (Stamp acceptance.Token)). IsEarliest (IsTokenAccepted case.pool policy) (proof_time policy) x (length case.pool) now times) all
      (subst (λ (p : List Part). IsEarliest (IsTokenAccepted p policy) (proof_time policy) (stamps_of shown) (length p) now times) pools e),
)
