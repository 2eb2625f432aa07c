-- A case that holds at a moment holds at each earlier one from the latest proof time on, and it doesn't hold for ever.
use Rattle.std.proofs.Common.{◌≡◌, ℕ, ◌<◌, ◌⊎◌, List, [], ◌∷◌, length, map, Contains, slice_index_or, ℤ, pos, ◌≤ℤ◌, arith, refl, sym, subst, ◌∙◌, inl, inr, ⊎_elim, Some}
use Rattle.std.proofs.lemmas.Int.{ints}
use Rattle.std.proofs.lemmas.List.{length-map, get_or-map}
use Rattle.std.proofs.lemmas.List.Elements.{All-contains}
use Rattle.std.specs.Int.{int_min}
use Rattle.acceptance.specs.Certificates.{Certificate, Part, Member}
use Rattle.policy_rules.specs.Rules.{Rules}
use Rattle.acceptance.specs.Policy.{anchors_of}
use Rattle.acceptance.specs.Walks.{time, HasCertificate, IsIssued, LeadsUp, IsAccepted}
use Rattle.acceptance.specs.Tokens.{Token}
use Rattle.acceptance.specs.Stamping.{IsTokenAccepted, proof_time}
use Rattle.acceptance.specs.Times.{Stamp, IsNoLater, Proved, at_the_moment, by_a_stamp}
use Rattle.acceptance.specs.Verdict.{Case, IsWhole, AreClosed, AreEarliest, Holds, Signing}
use Rattle.acceptance.specs.Last.{HoldsAt, IsStamped, HoldingIsClosedDownwards, HoldingEnds}
use Rattle.acceptance.proofs.Downwards.{acceptance_is_kept, token_acceptance_is_kept, AcceptsDigest-earlier, AcceptsKind-earlier, IsGrown-same}
use Rattle.acceptance.proofs.Lowering.{≤ℤ_same, ≤ℤ_over, int_min-left, int_min-right, int_min-is}
use Rattle.acceptance.proofs.Cases.{cases_have_earliest_times, times_are_proved}

-- the times where none is after a moment
capped : ℤ → List ℤ → List ℤ
capped moment times = map (λ z. int_min z moment) times

length-capped : (moment : ℤ) (times : List ℤ) → length (capped moment times) ≡ length times
unfolding capped
length-capped moment times = length-map times (λ z. int_min z moment)

time-capped : (moment : ℤ) (times : List ℤ) (x : ℕ) → x < length times → time (capped moment times) x ≡ int_min (time times x) moment
unfolding capped
time-capped moment times x lt = get_or-map (λ z. int_min z moment) times x (pos 0) (pos 0) lt

module _ (policy : Rules) (case : Case) (early late : ℤ) (whole : IsWhole case) (stamped : IsStamped case)
    (proofs : (stamp : Stamp Token) → Contains case.stamps stamp → proof_time policy stamp.token ≤ℤ early) (le : early ≤ℤ late) (held : HoldsAt policy case late) where
  capped_closed : AreClosed policy case early (capped early held.times)
  capped_closed =
      let each = held.earliest.closed.each in
      record {
        each = length-capped early held.times ∙ each;
        by_now = λ x lt. rw (time-capped early held.times x (rw each lt)) (int_min-right (time held.times x) early);
        by_stamps = λ stamp has sound accepted k d lt.
            let inside = (whole.stamps stamp has).1 k d lt in
            rw (time-capped early held.times (slice_index_or stamp.covers k d) (rw each inside))
            (≤ℤ_over _ _ _ (int_min-left _ _) (held.earliest.closed.by_stamps stamp has sound (held.holds.tokens stamp has) k d lt));
      }

  module _ (times : List ℤ) (earliest : AreEarliest policy case early times) where
    no_later : IsNoLater (length case.pool) times held.times
    no_later x lt =
        held.earliest.greatest times
        (record {
          each = earliest.closed.each;
          by_now = λ y ok. ≤ℤ_over _ _ _ (earliest.closed.by_now y ok) le;
          by_stamps = earliest.closed.by_stamps;
        }) x lt

    same_value : (signing : Signing) → case.signing ≡ Some signing → time times signing.value ≡ time held.times signing.value
    same_value signing named =
        let (stamp, has, covers) = stamped signing named in
        let lt = whole.value signing named in
        let proved : time held.times signing.value ≤ℤ early =
        ≤ℤ_over _ _ _
        (All-contains (λ y. time held.times y ≤ℤ proof_time policy stamp.token) stamp.covers signing.value
        (held.earliest.closed.by_stamps stamp has (held.sound stamp has) (held.holds.tokens stamp has)) covers)
        (proofs stamp has) in
        let each = held.earliest.closed.each in
        let cap : time (capped early held.times) signing.value ≡ time held.times signing.value =
        time-capped early held.times signing.value (rw each lt) ∙ int_min-is _ _ proved in
        let low : time (capped early held.times) signing.value ≤ℤ time times signing.value = earliest.greatest (capped early held.times) capped_closed signing.value lt in
        let low' : time held.times signing.value ≤ℤ time times signing.value = rw cap at low in
        let high : time times signing.value ≤ℤ time held.times signing.value = no_later signing.value lt in
        omega (arith, ints)

    still_holds : Holds policy case times
    still_holds = record {
      digests = λ digest has. AcceptsDigest-earlier policy digest.kind _ _ (no_later digest.object (whole.digests digest has)) (held.holds.digests digest has);
      value = λ signing named. AcceptsKind-earlier policy signing.kind _ _ (no_later signing.value (whole.value signing named)) (held.holds.value signing named);
      signer = λ signing named.
          let at = time held.times signing.value in
          let Q : ℤ → Type 0 = λ u. IsAccepted case.pool policy times signing.signer u u in
          subst Q (sym (same_value signing named))
          (acceptance_is_kept case.pool case.pool policy held.times times signing.signer at at at (IsGrown-same case.pool) no_later (≤ℤ_same at)
          (whole.signer signing named) (held.holds.signer signing named));
      tokens = λ stamp has.
          token_acceptance_is_kept case.pool case.pool policy held.times times stamp.token (time held.times stamp.object) (time times stamp.object) (IsGrown-same case.pool) no_later
          (no_later stamp.object (whole.stamps stamp has).0) (held.holds.tokens stamp has);
    }

pub holding_is_closed_downwards : HoldingIsClosedDownwards
holding_is_closed_downwards policy case early late whole stamped proofs le held =
    let (times, earliest) = cases_have_earliest_times policy case early whole.stamps in
    record {
      times = times;
      earliest = earliest;
      sound = held.sound;
      holds = still_holds policy case early late whole stamped proofs le held times earliest;
    }

-- each proof but the moment begins with a token that is accepted at the moment
begins : {T : Type 0} {accepts : T → ℤ → Type 0} {proves : T → ℤ} {stamps : List (Stamp T)} {now : ℤ} {x : ℕ} {u : ℤ} → Proved accepts proves stamps now x u →
    (u ≡ now) ⊎ ((stamp : Stamp T) × Contains stamps stamp × accepts stamp.token now)
begins (at_the_moment x) = inl refl
begins {accepts = accepts} (by_a_stamp stamp at x has sound proved accepted covers) =
    ⊎_elim (λ e. let P = λ (u : ℤ). accepts stamp.token u in inr (stamp, has, subst P e accepted)) (λ q. inr q) (begins proved)

leaf_lasts : (pool : List Part) (policy : Rules) (times : List ℤ) (low at : ℤ) (anchors : List Certificate) (counted : ℕ) (c : Member) (above : List Member) →
    LeadsUp (IsIssued pool policy times low at) pool anchors counted c above → at ≤ℤ c.certificate.not_after
leaf_lasts pool policy times low at anchors counted c [] (anchor, has, holds) = holds.lasts
leaf_lasts pool policy times low at anchors counted c (issuer ∷ above) (has, holds, up) = holds.lasts

signer_lasts : (policy : Rules) (pool : List Part) (times : List ℤ) (token : Token) (at : ℤ) → IsTokenAccepted pool policy times token at →
    (c : Member) × HasCertificate pool c × (at ≤ℤ c.certificate.not_after)
signer_lasts policy pool times token at accepted =
    let (above, short, up) = accepted.signer.accepted in
    (accepted.signer.signer, accepted.signer.there, leaf_lasts pool policy times token.gen_time at (anchors_of policy) 0 accepted.signer.signer above up)

pub holding_ends : HoldingEnds
holding_ends policy case now stamp whole has held =
    let proved = times_are_proved policy case now held.times whole.stamps held.earliest stamp.object (whole.stamps stamp has).0 in
    ⊎_elim
    (λ e. let P : ℤ → Type 0 = λ u. IsTokenAccepted case.pool policy held.times stamp.token u in
    signer_lasts policy case.pool held.times stamp.token now (subst P e (held.holds.tokens stamp has)))
    (λ q. let (other, has_other, accepted) = q in signer_lasts policy case.pool held.times other.token now accepted)
    (begins proved)
