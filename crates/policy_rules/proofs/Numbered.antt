-- Anchors, one after the other, as a loop reads them.
use Rattle.std.proofs.Common.{◌≡◌, ℕ, ◌+◌, ◌≤◌, ◌<◌, length, drop, get_or, map, subst, List, [], ◌∷◌, ◌++◌, Result, Ok, Err, Bor, refl, sym, ap, ◌∙◌, append_assoc}
use Rattle.std.proofs.lemmas.List.{append-nil, drop_all, drop_more}
use Rattle.policy_rules.specs.declared.fault.PolicyFault.{PolicyFault}
use Rattle.policy_rules.specs.declared.fault.PolicyFault.TheVariants as told
use Rattle.policy_rules.specs.Faults.{Fault, IsTold}
use Rattle.policy_rules.specs.Text.{anchors_from, of_number, anchor_of, ◌>>=◌}

abbrev pub Bytes : Type 0
Bytes = List ℕ

-- the texts from a place on
abbrev pub left : ℕ → List (Bor Bytes) → List Bytes
left i texts = map (λ s. s.now) (drop i texts)

-- what was read before, and what is still read
abbrev pub with_front : List Bytes → Result (List Bytes) Fault → Result (List Bytes) Fault
with_front front (Err f) = Err f
with_front front (Ok rest) = Ok (front ++ rest)

regroup : (front : List Bytes) (a : Bytes) (rest : Result (List Bytes) Fault) → with_front front (rest >>= λ others. Ok (a ∷ others)) ≡ with_front (front ++ a ∷ []) rest
regroup front a (Err f) = refl
regroup front a (Ok rest) = ap Ok (simp append_assoc)

pub starts : (rest : Result (List Bytes) Fault) → with_front [] rest ≡ rest
starts (Err f) = refl
starts (Ok rest) = refl

pub goes_on : (front : List Bytes) (texts : List (Bor Bytes)) (i : ℕ) (d : Bor Bytes) (a : Bytes) (number : ℕ) (total : Result (List Bytes) Fault) → i < length texts
    → of_number number (anchor_of (get_or texts i d).now) ≡ Ok a
    → with_front front (anchors_from number (left i texts)) ≡ total → with_front (front ++ a ∷ []) (anchors_from (number + 1) (left (i + 1) texts)) ≡ total
goes_on front texts i d a number total lt h so_far =
    let one : with_front front (anchors_from number (left i texts)) ≡ with_front (front ++ a ∷ []) (anchors_from (number + 1) (left (i + 1) texts)) =
    rw (drop_more texts i d lt, h) (regroup front a (anchors_from (number + 1) (left (i + 1) texts))) in
    sym one ∙ so_far

told_again : (e : PolicyFault) (front : List Bytes) (read : Result Bytes Fault) (more : Bytes → Result (List Bytes) Fault) → IsTold e read → IsTold e (with_front front (read >>= more))
told_again told.Toml front read more h = rw h refl
told_again (told.Field name) front read more h = rw h refl
told_again (told.Anchor index) front read more h = rw h refl
told_again told.OutOfMemory front read more h = tt

retold : (e : PolicyFault) (a b : Result (List Bytes) Fault) → a ≡ b → IsTold e a → IsTold e b
retold e a b p h = subst (IsTold e) p h

pub stops : (e : PolicyFault) (front : List Bytes) (texts : List (Bor Bytes)) (i : ℕ) (d : Bor Bytes) (number : ℕ) (total : Result (List Bytes) Fault) → i < length texts
    → IsTold e (of_number number (anchor_of (get_or texts i d).now))
    → with_front front (anchors_from number (left i texts)) ≡ total → IsTold e total
stops e front texts i d number total lt h so_far =
    let t = told_again e front (of_number number (anchor_of (get_or texts i d).now)) (λ bytes. anchors_from (number + 1) (left (i + 1) texts) >>= λ rest. Ok (bytes ∷ rest)) h in
    let one : with_front front (of_number number (anchor_of (get_or texts i d).now) >>= (λ bytes. anchors_from (number + 1) (left (i + 1) texts) >>= λ rest. Ok (bytes ∷ rest))) ≡ with_front front (anchors_from number (left i texts)) =
    rw (drop_more texts i d lt) refl in
    retold e _ _ (one ∙ so_far) t

pub is_done : (front : List Bytes) (texts : List (Bor Bytes)) (i number : ℕ) (total : Result (List Bytes) Fault) → length texts ≤ i
    → with_front front (anchors_from number (left i texts)) ≡ total → total ≡ Ok front
is_done front texts i number total le so_far =
    let one : with_front front (anchors_from number (left i texts)) ≡ Ok front = rw (drop_all i texts le) (ap Ok (append-nil front)) in
    sym so_far ∙ one
