-- A last stamp over all of a case keeps its verdict.
use Rattle.std.proofs.Common.{◌≡◌, ℕ, zero, suc, ◌-◌, ◌<◌, ◌≤◌, true, false, if◌then◌else◌, ◌==◌, ◌⊎◌, List, [], ◌∷◌, ◌++◌, length, take, replicate, All, Contains, slice_index_or, ℤ, pos, ◌+ℤ◌, ◌≤ℤ◌, arith, sym, subst, ◌∙◌, inl, inr, ⊎_elim, IsTrue, Some, length-append, length-take-le, get_or-take}
use Rattle.std.proofs.lemmas.Int.{ints}
use Rattle.std.proofs.lemmas.Bool.{cases_lt}
use Rattle.std.proofs.lemmas.List.{get_or_append_left, get_or-append_right, get_or-replicate, length-replicate}
use Rattle.std.proofs.lemmas.List.Elements.{All-contains, Contains-append_left, Contains-push, Contains-get_or}
use Rattle.policy_rules.specs.Rules.{Rules, AcceptsKind, AcceptsDigest}
use Rattle.acceptance.specs.Walks.{time, IsAccepted}
use Rattle.acceptance.specs.Tokens.{Token}
use Rattle.acceptance.specs.Stamping.{IsTokenAccepted, proof_time}
use Rattle.acceptance.specs.Times.{Stamp, IsNoLater}
use Rattle.acceptance.specs.Verdict.{Case, IsWhole, AreClosed, AreEarliest, IsIntact, IsInOrder, Holds, IsYes, DigestUse}
use Rattle.acceptance.specs.Laws.{IsRenewed, RenewalKeepsYes}
use Rattle.acceptance.proofs.Downwards.{acceptance_is_kept, token_acceptance_is_kept}
use Rattle.acceptance.proofs.Lowering.{≤ℤ_same, ≤ℤ_over}

pub Contains-last : {X : Type 0} (xs : List X) (x y : X) → Contains (xs ++ x ∷ []) y → Contains xs y ⊎ (x ≡ y)
Contains-last [] x y (zero, lt, is) = inr is
Contains-last [] x y (suc k, lt, is) = absurd (omega arith)
Contains-last (z ∷ xs) x y (zero, lt, is) = inl (zero, omega arith, is)
Contains-last (z ∷ xs) x y (suc k, lt, is) =
    ⊎_elim (λ h. inl (suc h.0, (let l = h.1 in omega arith), h.2)) (λ e. inr e) (Contains-last xs x y (k, omega arith, is))

not_before_gen_time : (policy : Rules) (token : Token) → token.gen_time ≤ℤ proof_time policy token
not_before_gen_time policy token =
    elim (policy.version == 2) as (λ b. token.gen_time ≤ℤ (if b then token.gen_time +ℤ pos token.accuracy else token.gen_time))
    [ true ↦ omega (arith, ints) | false ↦ ≤ℤ_same token.gen_time ]

no_later-same : (objects : ℕ) (s t : List ℤ) → ((x : ℕ) → x < objects → time s x ≡ time t x) → IsNoLater objects s t
no_later-same objects s t same x lt = rw (same x lt) (≤ℤ_same (time t x))

-- the first times of a longer list
time-take : (n : ℕ) (times : List ℤ) (x : ℕ) → x < n → time (take n times) x ≡ time times x
time-take n times x lt = get_or-take n times x (pos 0) lt

All-same-times : (covers : List ℕ) (bound : ℤ) (n : ℕ) (s t : List ℤ) → All (λ y. y < n) covers → ((x : ℕ) → x < n → time s x ≡ time t x) →
    All (λ y. time t y ≤ℤ bound) covers → All (λ y. time s y ≤ℤ bound) covers
All-same-times covers bound n s t inside same h k d lt = rw (same _ (inside k d lt)) (h k d lt)

module _ (policy : Rules) (case renewed : Case) (stamp : Stamp Token) (now : ℤ) (times : List ℤ)
    (whole : IsWhole case) (renewal : IsRenewed case renewed stamp) (yes : IsYes policy case (proof_time policy stamp.token))
    (after : proof_time policy stamp.token ≤ℤ now) (earliest : AreEarliest policy renewed now times)
    (accepted : IsTokenAccepted renewed.pool policy times stamp.token (time times stamp.object)) where
  old_stamp : (s : Stamp Token) → Contains case.stamps s → Contains renewed.stamps s
  old_stamp s has = let P : List (Stamp Token) → Type 0 = λ l. Contains l s in subst P (sym renewal.stamps) (Contains-append_left case.stamps (stamp ∷ []) s has)

  new_stamp : Contains renewed.stamps stamp
  new_stamp = let P : List (Stamp Token) → Type 0 = λ l. Contains l stamp in subst P (sym renewal.stamps) (Contains-push case.stamps stamp)

  which : (s : Stamp Token) → Contains renewed.stamps s → Contains case.stamps s ⊎ (stamp ≡ s)
  which s has = let P : List (Stamp Token) → Type 0 = λ l. Contains l s in Contains-last case.stamps stamp s (subst P renewal.stamps has)

  -- the new stamp proves its time of all that was there
  by_proof : (x : ℕ) → x < length case.pool → time times x ≤ℤ proof_time policy stamp.token
  by_proof x lt =
      All-contains (λ y. time times y ≤ℤ proof_time policy stamp.token) stamp.covers x
      (earliest.closed.by_stamps stamp new_stamp renewal.sound accepted) (renewal.covers x lt)

  -- what the renewed case's times say of the old objects is closed in the old case
  first_times : AreClosed policy case (proof_time policy stamp.token) (take (length case.pool) times)
  first_times =
      let n = length case.pool in
      let larger = renewal.larger in
      let each = earliest.closed.each in
      let long : n ≤ length times = omega arith in
      record {
        each = length-take-le n times long;
        by_now = λ x lt. rw (time-take n times x lt) (by_proof x lt);
        by_stamps = λ s has sound old.
            let is_of = whole.stamps s has in
            let same = time-take n times s.object is_of.0 in
            let kept : IsTokenAccepted renewed.pool policy times s.token (time times s.object) =
            token_acceptance_is_kept case.pool renewed.pool policy (take n times) times s.token (time (take n times) s.object) (time times s.object) renewal.pool
            (no_later-same n times (take n times) (λ x lt. sym (time-take n times x lt))) (rw same (≤ℤ_same (time times s.object))) old in
            All-same-times s.covers (proof_time policy s.token) n (take n times) times is_of.1 (time-take n times)
            (earliest.closed.by_stamps s (old_stamp s has) sound kept);
      }

  -- the old case's times, and the moment for what is new
  abbrev pub longer : List ℤ
  longer = yes.times ++ replicate (length renewed.pool - length case.pool) now

  longer-old : (x : ℕ) → x < length case.pool → time longer x ≡ time yes.times x
  longer-old x lt =
      let each = yes.earliest.closed.each in
      get_or_append_left yes.times (replicate (length renewed.pool - length case.pool) now) (pos 0) x (omega arith)

  longer-new : (x : ℕ) → length case.pool ≤ x → x < length renewed.pool → time longer x ≡ now
  longer-new x le lt =
      get_or-append_right yes.times (replicate (length renewed.pool - length case.pool) now) (length case.pool) x (pos 0) yes.earliest.closed.each le
      ∙ get_or-replicate (length renewed.pool - length case.pool) (x - length case.pool) now (pos 0) (omega arith)

  longer_closed : AreClosed policy renewed now longer
  longer_closed = record {
    each =
        let each = yes.earliest.closed.each in
        let larger = renewal.larger in
        let more = length-replicate (length renewed.pool - length case.pool) now in
        let sum = length-append yes.times (replicate (length renewed.pool - length case.pool) now) in
        omega arith;
    by_now = λ x lt.
        ⊎_elim
        (λ old. rw (longer-old x old) (≤ℤ_over _ _ _ (yes.earliest.closed.by_now x old) after))
        (λ new. rw (longer-new x new lt) (≤ℤ_same now))
        (cases_lt x (length case.pool));
    by_stamps = λ s has sound any.
        ⊎_elim
        (λ old.
        All-same-times s.covers (proof_time policy s.token) (length case.pool) longer yes.times (whole.stamps s old).1 longer-old
        (yes.earliest.closed.by_stamps s old sound (yes.holds.tokens s old)))
        (λ e.
        let P : Stamp Token → Type 0 = λ r. All (λ y. time longer y ≤ℤ proof_time policy r.token) r.covers in
        subst P e (λ k d lt.
        let y = slice_index_or stamp.covers k d in
        let there : y < length case.pool = renewal.only y (Contains-get_or stamp.covers k d lt) in
        rw (longer-old y there) (yes.earliest.closed.by_now y there)))
        (which s has);
  }

  same_times : (x : ℕ) → x < length case.pool → time times x ≡ time yes.times x
  same_times x lt =
      let larger = renewal.larger in
      let within : x < length renewed.pool = omega arith in
      let low : time (take (length case.pool) times) x ≤ℤ time yes.times x = yes.earliest.greatest (take (length case.pool) times) first_times x lt in
      let high : time longer x ≤ℤ time times x = earliest.greatest longer longer_closed x within in
      let a = time-take (length case.pool) times x lt in
      let b = longer-old x lt in
      let low' : time times x ≤ℤ time yes.times x = rw a at low in
      let high' : time yes.times x ≤ℤ time times x = rw b at high in
      omega (arith, ints)

  no_later : IsNoLater (length case.pool) times yes.times
  no_later = no_later-same (length case.pool) times yes.times same_times

  old_kept : (s : Stamp Token) → Contains case.stamps s → IsTokenAccepted renewed.pool policy times s.token (time times s.object)
  old_kept s has =
      let same = same_times s.object (whole.stamps s has).0 in
      token_acceptance_is_kept case.pool renewed.pool policy yes.times times s.token (time yes.times s.object) (time times s.object) renewal.pool no_later
      (rw same (≤ℤ_same (time yes.times s.object))) (yes.holds.tokens s has)

  intact : IsIntact renewed
  intact = record {
    signing = yes.intact.signing;
    named = renewal.signing ∙ yes.intact.named;
    value = yes.intact.value;
    digests = let P : List DigestUse → Type 0 = λ l. (digest : DigestUse) → Contains l digest → IsTrue digest.matches in subst P (sym renewal.digests) yes.intact.digests;
    stamps = λ s has. ⊎_elim (yes.intact.stamps s) (λ e. let P : Stamp Token → Type 0 = λ r. IsTrue r.sound in subst P e renewal.sound) (which s has);
  }

  -- no old stamp covers a token that is later than it
  new_covered : (s : Stamp Token) → Contains case.stamps s → Contains s.covers stamp.object → stamp.token.gen_time ≤ℤ s.token.gen_time
  new_covered s has covers =
      let inside = All-contains (λ y. y < length case.pool) s.covers stamp.object (whole.stamps s has).1 covers in
      let (old, has_old, object, token) = renewal.again inside in
      let P : ℕ → Type 0 = λ y. Contains s.covers y in
      let Q : Token → Type 0 = λ t. t.gen_time ≤ℤ s.token.gen_time in
      subst Q token (yes.in_order.covered s old has has_old (subst P (sym object) covers))

  in_order : IsInOrder renewed now
  in_order = record {
    by_now = λ s has.
        let P : Stamp Token → Type 0 = λ r. r.token.gen_time ≤ℤ now in
        ⊎_elim
        (λ old. ≤ℤ_over _ _ _ (yes.in_order.by_now s old) after)
        (λ e. subst P e (≤ℤ_over _ _ _ (not_before_gen_time policy stamp.token) after))
        (which s has);
    covered = λ s r has_s has_r covers.
        let Late : Stamp Token → Type 0 = λ q. r.token.gen_time ≤ℤ q.token.gen_time in
        ⊎_elim
        (λ old_s. ⊎_elim
        (λ old_r. yes.in_order.covered s r old_s old_r covers)
        (λ e.
        let P : Stamp Token → Type 0 = λ q. Contains s.covers q.object in
        let Q : Stamp Token → Type 0 = λ q. q.token.gen_time ≤ℤ s.token.gen_time in
        subst Q e (new_covered s old_s (subst P (sym e) covers)))
        (which r has_r))
        (λ e. subst Late e
        (⊎_elim
        (λ old_r. renewal.later r old_r)
        (λ same. let Q : Stamp Token → Type 0 = λ q. q.token.gen_time ≤ℤ stamp.token.gen_time in subst Q same (≤ℤ_same stamp.token.gen_time))
        (which r has_r)))
        (which s has_s);
  }

  holds : Holds policy renewed times
  holds = record {
    digests =
        let P : List DigestUse → Type 0 = λ l. (digest : DigestUse) → Contains l digest → AcceptsDigest policy digest.kind (time times digest.object) in
        subst P (sym renewal.digests) (λ digest has.
        let Q : ℤ → Type 0 = λ u. AcceptsDigest policy digest.kind u in
        subst Q (sym (same_times digest.object (whole.digests digest has))) (yes.holds.digests digest has));
    value = λ signing named.
        let named' : case.signing ≡ Some signing = sym renewal.signing ∙ named in
        let Q : ℤ → Type 0 = λ u. AcceptsKind policy signing.kind u in
        subst Q (sym (same_times signing.value (whole.value signing named'))) (yes.holds.value signing named');
    signer = λ signing named.
        let named' : case.signing ≡ Some signing = sym renewal.signing ∙ named in
        let at = time yes.times signing.value in
        let Q : ℤ → Type 0 = λ u. IsAccepted renewed.pool policy times signing.signer u u in
        subst Q (sym (same_times signing.value (whole.value signing named')))
        (acceptance_is_kept case.pool renewed.pool policy yes.times times signing.signer at at at renewal.pool no_later (≤ℤ_same at)
        (whole.signer signing named') (yes.holds.signer signing named'));
    tokens = λ s has.
        let P : Stamp Token → Type 0 = λ r. IsTokenAccepted renewed.pool policy times r.token (time times r.object) in
        ⊎_elim (old_kept s) (λ e. subst P e accepted) (which s has);
  }

pub renewal_keeps_yes : RenewalKeepsYes
renewal_keeps_yes policy case renewed stamp now times whole renewal was after earliest accepted = record {
  intact = intact policy case renewed stamp now times whole renewal was after earliest accepted;
  in_order = in_order policy case renewed stamp now times whole renewal was after earliest accepted;
  times = times;
  earliest = earliest;
  holds = holds policy case renewed stamp now times whole renewal was after earliest accepted;
}
