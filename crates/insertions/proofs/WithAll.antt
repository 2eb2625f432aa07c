-- Bytes with others put in at rising places.
use Rattle.std.proofs.Common.{◌≡◌, ℕ, ◌+◌, ◌-◌, ◌≤◌, List, [], ◌∷◌, ◌++◌, length, take, drop, refl, sym, ◌∙◌, ap, subst, arith, append_assoc, Bool, true, false, cond, get_or, ◌<◌}
use Rattle.std.proofs.lemmas.List.{take-append-drop, drop-take, length-take-le, drop_more, take_all, length-drop}
use Rattle.std.proofs.Math.Seq.{take-append_seam, drop-append_seam, take-take}
use Rattle.document_model.specs.Insertion.{Extends}
use Rattle.document_model.proofs.Extending.{extends_itself, extends_through, extends_with, extends_both}
use Rattle.insertions.specs.declared.pieces.Placed.{Placed}
use Rattle.insertions.specs.Placed.{with_one, with_all, RiseFrom, last_from}
use Rattle.std.proofs.Math.ListN.{drop_of_length-le}

pub with_both : (a b : List Placed) (bytes : List ℕ) → with_all (a ++ b) bytes ≡ with_all a (with_all b bytes)
with_both [] b bytes = refl
with_both (one ∷ a) b bytes = ap (with_one one) (with_both a b bytes)

pub rise_next : (from : ℕ) (all : List Placed) (one : Placed) → RiseFrom from all → last_from from all ≤ one.at → RiseFrom from (all ++ one ∷ [])
rise_next from [] one h l = (l, tt)
rise_next from (first ∷ all) one h l = (h.0, rise_next first.at all one h.1 l)

-- where one more may have been put in
pub rises_still : (old new : List Placed) (one : Placed) (ok : Bool) → RiseFrom 0 old → last_from 0 old ≤ one.at → new ≡ cond ok (old ++ one ∷ []) old → RiseFrom 0 new
rises_still old new one true h l e = subst (RiseFrom 0) (sym e) (rise_next 0 old one h l)
rises_still old new one false h l e = subst (RiseFrom 0) (sym e) h

pub last_next : (from : ℕ) (all : List Placed) (one : Placed) → last_from from (all ++ one ∷ []) ≡ one.at
last_next from [] one = refl
last_next from (first ∷ all) one = last_next first.at all one

-- bytes put in between others
pub one_between : (front behind : List ℕ) (one : Placed) → one.at ≡ length front → with_one one (front ++ behind) ≡ front ++ (one.bytes ++ behind)
one_between front behind one e =
    (λ i. take (e i) (front ++ behind) ++ (one.bytes ++ drop (e i) (front ++ behind)))
    ∙ (λ i. take-append_seam front behind i ++ (one.bytes ++ drop-append_seam front behind i))

-- each byte stays
pub all_extends : (all : List Placed) (bytes : List ℕ) → Extends bytes (with_all all bytes)
all_extends [] bytes = extends_itself bytes
all_extends (one ∷ more) bytes = extends_through bytes (with_all more bytes) (with_one one (with_all more bytes)) (all_extends more bytes) (one_extends one (with_all more bytes))
  where
    one_extends : (one : Placed) (x : List ℕ) → Extends x (with_one one x)
    one_extends one x =
        let P : List ℕ → Type 0 = λ old. Extends old (with_one one x) in
        subst P (take-append-drop one.at x)
        (extends_both (drop one.at x) (one.bytes ++ drop one.at x) (extends_itself (take one.at x))
        (extends_with (drop one.at x) (drop one.at x) one.bytes (extends_itself (drop one.at x))))

-- From the first byte to the last.

-- the bytes from a place on, with what is put in behind it
abbrev pub copied : ℕ → List Placed → List ℕ → List ℕ
copied from [] bytes = drop from bytes
copied from (one ∷ more) bytes = take (one.at - from) (drop from bytes) ++ (one.bytes ++ copied one.at more bytes)

front_and_next : (from at : ℕ) (bytes : List ℕ) → from ≤ at → take from bytes ++ take (at - from) (drop from bytes) ≡ take at bytes
front_and_next from at bytes l =
    let n : from + (at - from) ≡ at = omega (arith, l) in
    let whole : List ℕ = take at bytes in
    let front : take from whole ≡ take from bytes = take-take from at bytes l in
    let next : drop from whole ≡ take (at - from) (drop from bytes) = ap (λ m. drop from (take m bytes)) (sym n) ∙ drop-take from (at - from) bytes in
    (λ i. sym front i ++ sym next i) ∙ take-append-drop from whole

first_within : (from n : ℕ) (all : List Placed) → RiseFrom from all → last_from from all ≤ n → from ≤ n
first_within from n [] h l = l
first_within from n (first ∷ all) h l = let later = first_within first.at n all h.1 l in let now : from ≤ first.at = h.0 in omega (arith, later, now)

pub all_copied : (from : ℕ) (all : List Placed) (bytes : List ℕ) → RiseFrom from all → last_from from all ≤ length bytes → take from bytes ++ copied from all bytes ≡ with_all all bytes
all_copied from [] bytes h l = take-append-drop from bytes
all_copied from (one ∷ more) bytes h l =
    let front : List ℕ = take one.at bytes in
    let rest : List ℕ = copied one.at more bytes in
    let behind : front ++ rest ≡ with_all more bytes = all_copied one.at more bytes h.1 l in
    let size : length front ≡ one.at = length-take-le one.at bytes (first_within one.at (length bytes) more h.1 l) in
    let here : with_one one (front ++ rest) ≡ front ++ (one.bytes ++ rest) = one_between front rest one (sym size) in
    sym (append_assoc (take from bytes) (take (one.at - from) (drop from bytes)) (one.bytes ++ rest))
    ∙ ap (λ x. x ++ (one.bytes ++ rest)) (front_and_next from one.at bytes h.0)
    ∙ sym here ∙ ap (with_one one) behind

-- where one more is next
pub next_within : (from k n : ℕ) (all : List Placed) (one : Placed) → k < length all → one ≡ get_or all k one → RiseFrom from (drop k all) → last_from from (drop k all) ≤ n → one.at ≤ n
next_within from k n all one l is h within =
    let step : drop k all ≡ one ∷ drop (k + 1) all = drop_more all k one l ∙ ap (λ x. x ∷ drop (k + 1) all) (sym is) in
    first_within one.at n (drop (k + 1) all) (subst (RiseFrom from) step h).1 (subst (λ x. last_from from x ≤ n) step within)

-- where none is left
pub none_left : (from k : ℕ) (all : List Placed) (bytes new : List ℕ) → length all ≤ k → RiseFrom 0 all → last_from 0 all ≤ length bytes
    → new ++ copied from (drop k all) bytes ≡ copied 0 all bytes → new ++ take (length bytes - from) (drop from bytes) ≡ with_all all bytes
none_left from k all bytes new done h l e =
    let whole : take (length bytes - from) (drop from bytes) ≡ drop from bytes =
    take_all (length bytes - from) (drop from bytes) (let n = length-drop from bytes in let m : length (drop from bytes) ≤ length bytes - from = omega (arith, n) in m) in
    ap (λ x. new ++ x) whole ∙ ap (λ x. new ++ copied from x bytes) (sym (drop_of_length-le all done)) ∙ e ∙ all_copied 0 all bytes h l
