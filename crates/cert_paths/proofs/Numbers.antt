-- Walks among numbers are walks among the certificates of a pool.
use Rattle.std.proofs.Common.{◌≡◌, ℕ, suc, zero, ◌+◌, ◌-◌, ◌<◌, Bool, true, false, List, [], ◌∷◌, ◌++◌, length, map, slice_get, Some, Contains, ◌↔◌, if◌then◌else◌, arith, true≢false, sym, ◌∙◌, subst, ap, refl, ⊎_elim, ◌⊎◌, inl, inr, length-append}
use Rattle.std.proofs.lemmas.List.{length-map}
use Rattle.std.proofs.lemmas.List.Elements.{Contains-get_or}
use Rattle.std.proofs.lemmas.Option.{slice_get_within, slice_get-get_or, get_or_from_slice_get}
use Rattle.acceptance.specs.Certificates.{Certificate, Part, Member}
use Rattle.acceptance.specs.Walks.{IsSelfIssued, Counts, LeadsUp, HasWalk}
use Rattle.cert_paths.specs.Numbered.{Issuing, next_count, IsRooted, LeadsOn, HasNumberedWalk}
use Rattle.cert_paths.specs.Speaks.{AreMembers, SpeaksOf}

true_unless : (b : Bool) → (b ≡ false → ⊥) → b ≡ true
true_unless true h = refl
true_unless false h = absurd (h refl)

pub get_map : {A B : Type 0} (f : A → B) (xs : List A) (i : ℕ) (x : A) → slice_get xs i ≡ Some x → slice_get (map f xs) i ≡ Some (f x)
get_map f [] i x e = cc
get_map f (y ∷ xs) zero x e = let same : y ≡ x = cc in ap (λ z. Some (f z)) same
get_map f (y ∷ xs) (suc i) x e = get_map f xs i x e

pub got_map : {A B : Type 0} (f : A → B) (xs : List A) (i : ℕ) (y : B) → slice_get (map f xs) i ≡ Some y → (x : A) × (slice_get xs i ≡ Some x) × (f x ≡ y)
got_map f [] i y e = cc
got_map f (x ∷ xs) zero y e = (x, refl, cc)
got_map f (x ∷ xs) (suc i) y e = got_map f xs i y e

get_front : {A : Type 0} (xs ys : List A) (i : ℕ) → i < length xs → slice_get (xs ++ ys) i ≡ slice_get xs i
get_front [] ys i lt = absurd (omega arith)
get_front (x ∷ xs) ys zero lt = refl
get_front (x ∷ xs) ys (suc i) lt = get_front xs ys i (omega arith)

get_back : {A : Type 0} (xs ys : List A) (i k : ℕ) → i ≡ length xs + k → slice_get (xs ++ ys) i ≡ slice_get ys k
get_back [] ys i k e = ap (slice_get ys) (omega arith)
get_back (x ∷ xs) ys zero k e = absurd (omega arith)
get_back (x ∷ xs) ys (suc i) k e = get_back xs ys i k (omega arith)

pub contains_at : {A : Type 0} (xs : List A) (i : ℕ) (x : A) → slice_get xs i ≡ Some x → Contains xs x
contains_at {A} xs i x e =
    subst (Contains xs) (get_or_from_slice_get xs i x x e) (Contains-get_or xs i x (slice_get_within xs i x e))

pub at_some : {A : Type 0} (xs : List A) (i : ℕ) → i < length xs → (x : A) × (slice_get xs i ≡ Some x)
at_some [] i lt = absurd (omega arith)
at_some (x ∷ xs) zero lt = (x, refl)
at_some (x ∷ xs) (suc i) lt = at_some xs i (omega arith)

pub contained_at : {A : Type 0} (xs : List A) (x : A) → Contains xs x → (i : ℕ) × (slice_get xs i ≡ Some x)
contained_at xs x (i, lt, is) = (i, slice_get-get_or xs i x lt ∙ ap Some is)

module _ (issuing : Issuing) (link : ℕ → Member → Certificate → Type 0) (Reached : ℕ → Type 0) (pool : List Part) (members : List Member) (anchors : List Certificate)
    (are : AreMembers pool members) (speaks : SpeaksOf issuing link Reached members anchors) where
  counted_next : (counted k : ℕ) (c : Member) (next : ℕ) → slice_get members k ≡ Some c → Counts counted c.certificate next → next ≡ next_count issuing counted k
  counted_next counted k c next at counts =
      ⊎_elim
      (λ p.
      let no : issuing.counts k ≡ false = (speaks.counts k c at).1 p.0 in
      p.1 ∙ sym (ap (λ b. if b then counted + 1 else counted) no))
      (λ p.
      let is : issuing.counts k ≡ true = true_unless (issuing.counts k) (λ no. p.0 ((speaks.counts k c at).0 no)) in
      p.1 ∙ sym (ap (λ b. if b then counted + 1 else counted) is))
      counts

  next_counted : (counted k : ℕ) (c : Member) → slice_get members k ≡ Some c → Counts counted c.certificate (next_count issuing counted k)
  next_counted counted k c at =
      let Goal : Bool → Type 0 = λ b. (IsSelfIssued c.certificate × ((if b then counted + 1 else counted) ≡ counted))
      ⊎ ((IsSelfIssued c.certificate → ⊥) × ((if b then counted + 1 else counted) ≡ counted + 1)) in
      let split : (b : Bool) → issuing.counts k ≡ b → Goal b = λ b. elim b as (λ v. issuing.counts k ≡ v → Goal v) [
        | true ↦ λ e. inr (λ self. true≢false (sym e ∙ (speaks.counts k c at).1 self), refl)
        | false ↦ λ e. inl ((speaks.counts k c at).0 e, refl)
      ] in
      split (issuing.counts k) refl

  -- the issuer of a number below the members is a member, and each other is an anchor
  issuer_in_front : (i : ℕ) (m : Member) → slice_get members i ≡ Some m → slice_get (map (λ (n : Member). n.certificate) members ++ anchors) i ≡ Some m.certificate
  issuer_in_front i m at =
      let certs = map (λ (n : Member). n.certificate) members in
      let lt : i < length certs = let l = length-map members (λ (n : Member). n.certificate) in let w = slice_get_within members i m at in omega arith in
      get_front certs anchors i lt ∙ get_map (λ (n : Member). n.certificate) members i m at

  issuer_behind : (k i : ℕ) (anchor : Certificate) → i ≡ length members + k → slice_get anchors k ≡ Some anchor →
      slice_get (map (λ (n : Member). n.certificate) members ++ anchors) i ≡ Some anchor
  issuer_behind k i anchor e at =
      let certs = map (λ (n : Member). n.certificate) members in
      let l = length-map members (λ (n : Member). n.certificate) in
      get_back certs anchors i k (omega arith) ∙ at

  rooted_to : (counted k : ℕ) (c : Member) → slice_get members k ≡ Some c → ((anchor : Certificate) × Contains anchors anchor × link counted c anchor) → IsRooted issuing counted k
  rooted_to counted k c at (anchor, has, holds) =
      let (j, at_j) = contained_at anchors anchor has in
      let within = slice_get_within anchors j anchor at_j in
      let size = speaks.size in
      let reach = speaks.reach in
      let l = length-append (map (λ (n : Member). n.certificate) members) anchors in
      let m = length-map members (λ (n : Member). n.certificate) in
      let inside : length members + j < issuing.reach = omega arith in (
        length members + j,
        omega arith,
        inside,
        (speaks.linked counted k (length members + j) c anchor at (issuer_behind j (length members + j) anchor refl at_j)).1
            (speaks.anchored (length members + j) (omega arith) inside, holds),
      )

  rooted_from : (counted k : ℕ) (c : Member) → slice_get members k ≡ Some c → IsRooted issuing counted k → (anchor : Certificate) × Contains anchors anchor × link counted c anchor
  rooted_from counted k c at (i, from, below, holds) =
      let size = speaks.size in
      let reach = speaks.reach in
      let l = length-append (map (λ (n : Member). n.certificate) members) anchors in
      let m = length-map members (λ (n : Member). n.certificate) in
      let j = i - length members in
      let lt : j < length anchors = omega arith in
      let (anchor, at_j) = at_some anchors j lt in (
        anchor,
        contains_at anchors j anchor at_j,
        ((speaks.linked counted k i c anchor at (issuer_behind j i anchor (omega arith) at_j)).0 holds).1,
      )

  -- what leads on is reached
  leads_reached : (counted k : ℕ) (numbers : List ℕ) → k < issuing.size → LeadsOn issuing counted k numbers → Reached k
  leads_reached counted k [] lt (i, from, below, holds) = speaks.above counted k i lt below holds
  leads_reached counted k (i ∷ numbers) lt (below, holds, on) =
      let size = speaks.size in
      let reach = speaks.reach in
      let l = length-append (map (λ (n : Member). n.certificate) members) anchors in
      let m = length-map members (λ (n : Member). n.certificate) in
      speaks.above counted k i lt (omega arith) holds

  to_numbers : (counted k : ℕ) (c : Member) (above : List Member) → slice_get members k ≡ Some c → LeadsUp link pool anchors counted c above →
      (numbers : List ℕ) × (length numbers ≡ length above) × LeadsOn issuing counted k numbers
  to_numbers counted k c [] at up = ([], refl, rooted_to counted k c at up)
  to_numbers counted k c (issuer ∷ above) at (has, holds, (next, counts, up)) =
      let (i, at_i) = are.each issuer has in
      let size = speaks.size in
      let within = slice_get_within members i issuer at_i in
      let (numbers, long, on) = to_numbers next i issuer above at_i up in
      let P : ℕ → Type 0 = λ n. LeadsOn issuing n i numbers in
      let below : i < issuing.size = omega arith in
      let reached = leads_reached next i numbers below on in (
        i ∷ numbers,
        omega arith,
        (below, (speaks.linked counted k i c issuer.certificate at (issuer_in_front i issuer at_i)).1 (reached, holds), subst P (counted_next counted i issuer next at_i counts) on),
      )

  to_members : (counted k : ℕ) (c : Member) (numbers : List ℕ) → slice_get members k ≡ Some c → LeadsOn issuing counted k numbers →
      (above : List Member) × (length above ≡ length numbers) × LeadsUp link pool anchors counted c above
  to_members counted k c [] at on = ([], refl, rooted_from counted k c at on)
  to_members counted k c (i ∷ numbers) at (lt, holds, on) =
      let size = speaks.size in
      let within : i < length members = omega arith in
      let (issuer, at_i) = at_some members i within in
      let (above, long, up) = to_members (next_count issuing counted i) i issuer numbers at_i on in (
        issuer ∷ above,
        omega arith,
        (
          are.there i issuer at_i,
          ((speaks.linked counted k i c issuer.certificate at (issuer_in_front i issuer at_i)).0 holds).1,
          (next_count issuing counted i, next_counted counted i issuer at_i, up),
        ),
      )

  pub numbered_walks : (k : ℕ) (leaf : Member) → slice_get members k ≡ Some leaf → (HasNumberedWalk issuing k ↔ HasWalk link pool anchors leaf)
  numbered_walks k leaf at = (
    λ h.
        let (numbers, few, on) = h in
        let (above, long, up) = to_members 0 k leaf numbers at on in
        (above, omega arith, up),
    λ h.
        let (above, few, up) = h in
        let (numbers, long, on) = to_numbers 0 k leaf above at up in
        (numbers, omega arith, on),
  )
