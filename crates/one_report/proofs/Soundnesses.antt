-- A token has one soundness over a digest.
use Rattle.std.proofs.Common.{◌≡◌, ℕ, zero, suc, List, Option, refl, sym, ◌∙◌, ap}
use Rattle.std.specs.Prelude.{None, IsSome}
use Rattle.algorithms.specs.declared.signature_kinds.SignatureKind.{SignatureKind}
use Rattle.tst_tokens.specs.Sound.{HasContent, HasImprint, HasKind, HasPurpose, HasSigner, IsSound, NamesSigner}
use Rattle.signature_evidence.specs.Soundness.{Soundness, Sound, ImprintDiffers, ContentDigestDiffers, NoSigner, CertHashDiffers, Purpose, UnknownKind, Fails, HasSoundness}
use Rattle.signature_evidence.proofs.Answered.{sound_is}
use Rattle.signature_evidence.proofs.Numbers.{not_both}

-- what makes a token sound, in the order in which it is asked
abbrev so_far : (covered token : List ℕ) → ℕ → Type 0
so_far covered token zero = Unit {0}
so_far covered token (suc zero) = HasImprint covered token
so_far covered token (suc (suc zero)) = HasContent covered token
so_far covered token (suc (suc (suc zero))) = HasSigner covered token
so_far covered token (suc (suc (suc (suc zero)))) = NamesSigner covered token
so_far covered token (suc (suc (suc (suc (suc zero))))) = HasPurpose covered token
so_far covered token (suc (suc (suc (suc (suc (suc zero)))))) = (kind : SignatureKind) × HasKind covered token kind
so_far covered token (suc (suc (suc (suc (suc (suc (suc zero))))))) = IsSound covered token
so_far covered token (suc (suc (suc (suc (suc (suc (suc (suc n)))))))) = ⊥

one_less : (covered token : List ℕ) (n : ℕ) → so_far covered token (suc n) → so_far covered token n
one_less covered token zero h = tt
one_less covered token (suc zero) h = h.0
one_less covered token (suc (suc zero)) h = h.0
one_less covered token (suc (suc (suc zero))) h = h.0
one_less covered token (suc (suc (suc (suc zero)))) h = h.0
one_less covered token (suc (suc (suc (suc (suc zero))))) h = h.1.0
one_less covered token (suc (suc (suc (suc (suc (suc zero)))))) h = (h.0, h.1.0)
one_less covered token (suc (suc (suc (suc (suc (suc (suc n))))))) h = absurd h

-- how many of them a token has
abbrev place_of : Soundness → ℕ
place_of ImprintDiffers = 0
place_of ContentDigestDiffers = 1
place_of NoSigner = 2
place_of CertHashDiffers = 3
place_of Purpose = 4
place_of UnknownKind = 5
place_of Fails = 6
place_of Sound = 7

abbrev soundness_at : ℕ → Soundness
soundness_at zero = ImprintDiffers
soundness_at (suc zero) = ContentDigestDiffers
soundness_at (suc (suc zero)) = NoSigner
soundness_at (suc (suc (suc zero))) = CertHashDiffers
soundness_at (suc (suc (suc (suc zero)))) = Purpose
soundness_at (suc (suc (suc (suc (suc zero))))) = UnknownKind
soundness_at (suc (suc (suc (suc (suc (suc zero)))))) = Fails
soundness_at (suc (suc (suc (suc (suc (suc (suc n))))))) = Sound

at_place : (s : Soundness) → soundness_at (place_of s) ≡ s
at_place ImprintDiffers = refl
at_place ContentDigestDiffers = refl
at_place NoSigner = refl
at_place CertHashDiffers = refl
at_place Purpose = refl
at_place UnknownKind = refl
at_place Fails = refl
at_place Sound = refl

reached : (covered token : List ℕ) (s : Soundness) → HasSoundness covered token s → so_far covered token (place_of s)
reached covered token ImprintDiffers h = tt
reached covered token ContentDigestDiffers h = h.0
reached covered token NoSigner h = h.0
reached covered token CertHashDiffers h = h.0
reached covered token Purpose h = h.0
reached covered token UnknownKind h = h.0
reached covered token Fails h = (h.0, h.1.0)
reached covered token Sound h = h

no_signer : {A : Type 0} (found : Option A) → found ≡ None → IsSome found → ⊥
no_signer found none some = cc

no_further : (covered token : List ℕ) (s : Soundness) → HasSoundness covered token s → so_far covered token (suc (place_of s)) → ⊥
no_further covered token ImprintDiffers h more = h more
no_further covered token ContentDigestDiffers h more = h.1 more.1
no_further covered token NoSigner h more = no_signer _ h.1 more.1
no_further covered token CertHashDiffers h more = h.1 more.1
no_further covered token Purpose h more = h.1 more.1
no_further covered token UnknownKind h more = h.1 more.0 more.1.1
no_further covered token Fails h more = not_both (sym (sound_is covered token Fails h more))
no_further covered token Sound h more = more

-- Of properties of which each has those before it, the first that isn't so is one.
same_place : (P : ℕ → Type 0) → ((n : ℕ) → P (suc n) → P n) → (n m : ℕ) → P n → (P (suc n) → ⊥) → P m → (P (suc m) → ⊥) → n ≡ m
same_place P low zero zero a na b nb = refl
same_place P low zero (suc m) a na b nb = absurd (na (first_of m b))
  where
    first_of : (m : ℕ) → P (suc m) → P 1
    first_of zero p = p
    first_of (suc m) p = first_of m (low (suc m) p)
same_place P low (suc n) zero a na b nb = absurd (nb (first_of n a))
  where
    first_of : (n : ℕ) → P (suc n) → P 1
    first_of zero p = p
    first_of (suc n) p = first_of n (low (suc n) p)
same_place P low (suc n) (suc m) a na b nb = ap suc (same_place (λ k. P (suc k)) (λ k. low (suc k)) n m a na b nb)

pub soundness_once : (covered token : List ℕ) (s r : Soundness) → HasSoundness covered token s → HasSoundness covered token r → s ≡ r
soundness_once covered token s r has also =
    let same = same_place (so_far covered token) (one_less covered token) (place_of s) (place_of r)
    (reached covered token s has) (no_further covered token s has) (reached covered token r also) (no_further covered token r also) in
    sym (at_place s) ∙ ap soundness_at same ∙ at_place r
