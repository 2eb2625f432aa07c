-- At most one fault of a token is the first, and then the token isn't sound.
use Rattle.std.proofs.Common.{◌≡◌, ℕ, zero, suc, List, Option, Some, None, Err, get_or, refl, sym, ◌∙◌, ap, subst, arith}
use Rattle.std.specs.Prelude.{IsSome}
use Rattle.algorithms.specs.SignatureKind.{oid_of}
use Rattle.algorithms.specs.declared.signature_kinds.SignatureKind.{SignatureKind}
use Rattle.algorithms.specs.declared.signature_kinds.SignatureKind.TheVariants.{Hss, Xmss, XmssMt}
use Rattle.der_values.specs.Fits.{IsObject}
use Rattle.der_values.specs.Layout.{read_object}
use Rattle.der_values.proofs.FitsLaws.{read_object-fits}
use Rattle.tst_tokens.specs.Digests.{imprint, message_digest, cert_hash}
use Rattle.tst_tokens.specs.Layouts as layouts
use Rattle.tst_tokens.specs.Sound.{HasContent, HasImprint, HasKind, HasPurpose, HasSigner, HoldsBy, IsFirst, IsSound, NamesSigner, content_digest, signer_digest}
use Rattle.tst_tokens.specs.declared.fault.TokenFault.{TokenFault}
use Rattle.tst_tokens.specs.declared.fault.TokenFault.TheVariants as tokens
use Rattle.stamp_checks.specs.declared.faults.StampFault.{StampFault}
use Rattle.stamp_checks.specs.declared.faults.StampFault.TheVariants as faults
use Rattle.stamp_checks.specs.Faults.{IsTaken, StandsAgainst}
use Rattle.stamp_checks.specs.Laws.{IsOfOctets, StampFaultsAreOne}
use Rattle.stamp_checks.specs.Sound.{covered_digest, IsFirstOver, IsFirstOfWhole, IsStampOver}

-- Of properties of which each has those before it, the first that isn't so is one.
same_place : (P : ℕ → Type 0) → ((n : ℕ) → P (suc n) → P n) → (n m : ℕ) → P n → ¬ (P (suc n)) → P m → ¬ (P (suc m)) → n ≡ m
same_place P low zero zero a na b nb = refl
same_place P low zero (suc m) a na b nb = absurd (na (first_of m b))
  where
    first_of : (m : ℕ) → P (suc m) → P 1
    first_of zero p = p
    first_of (suc m) p = first_of m (low (suc m) p)
same_place P low (suc n) zero a na b nb = absurd (nb (first_of n a))
  where
    first_of : (n : ℕ) → P (suc n) → P 1
    first_of zero p = p
    first_of (suc n) p = first_of n (low (suc n) p)
same_place P low (suc n) (suc m) a na b nb = ap suc (same_place (λ k. P (suc k)) (λ k. low (suc k)) n m a na b nb)

-- What makes a token sound, in the order in which it is asked.
abbrev so_far : (covered whole : List ℕ) → ℕ → Type 0
so_far covered whole zero = Unit {0}
so_far covered whole (suc zero) = HasImprint covered whole
so_far covered whole (suc (suc zero)) = HasContent covered whole
so_far covered whole (suc (suc (suc zero))) = HasSigner covered whole
so_far covered whole (suc (suc (suc (suc zero)))) = NamesSigner covered whole
so_far covered whole (suc (suc (suc (suc (suc zero))))) = HasPurpose covered whole
so_far covered whole (suc (suc (suc (suc (suc (suc zero)))))) = (kind : SignatureKind) × HasKind covered whole kind
so_far covered whole (suc (suc (suc (suc (suc (suc (suc n))))))) = IsSound covered whole

one_less : (covered whole : List ℕ) (n : ℕ) → so_far covered whole (suc n) → so_far covered whole n
one_less covered whole zero h = tt
one_less covered whole (suc zero) h = h.0
one_less covered whole (suc (suc zero)) h = h.0
one_less covered whole (suc (suc (suc zero))) h = h.0
one_less covered whole (suc (suc (suc (suc zero)))) h = h.0
one_less covered whole (suc (suc (suc (suc (suc zero))))) h = h.1.0
one_less covered whole (suc (suc (suc (suc (suc (suc zero)))))) h = (h.0, h.1.0)
one_less covered whole (suc (suc (suc (suc (suc (suc (suc n))))))) h = h

sound_at : (covered whole : List ℕ) → IsSound covered whole → (n : ℕ) → so_far covered whole n
sound_at covered whole s zero = tt
sound_at covered whole s (suc zero) = s.1.0.0.0.0.0.0
sound_at covered whole s (suc (suc zero)) = s.1.0.0.0.0.0
sound_at covered whole s (suc (suc (suc zero))) = s.1.0.0.0.0
sound_at covered whole s (suc (suc (suc (suc zero)))) = s.1.0.0.0
sound_at covered whole s (suc (suc (suc (suc (suc zero))))) = s.1.0.0
sound_at covered whole s (suc (suc (suc (suc (suc (suc zero)))))) = (s.0, s.1.0)
sound_at covered whole s (suc (suc (suc (suc (suc (suc (suc n))))))) = s

abbrev place_of : TokenFault → ℕ
place_of (tokens.Shape at) = 0
place_of (tokens.ImprintDiffers got want) = 0
place_of (tokens.ContentDigestDiffers got want) = 1
place_of tokens.NoSigner = 2
place_of (tokens.CertHashDiffers got want) = 3
place_of tokens.Purpose = 4
place_of tokens.UnknownKind = 5
place_of tokens.Fails = 6
place_of tokens.OutOfMemory = 7

-- the fault that is the first at a place
abbrev fault_at : (covered whole : List ℕ) → ℕ → TokenFault
fault_at covered whole zero = tokens.ImprintDiffers covered (imprint whole)
fault_at covered whole (suc zero) = tokens.ContentDigestDiffers (content_digest whole) (message_digest whole)
fault_at covered whole (suc (suc zero)) = tokens.NoSigner
fault_at covered whole (suc (suc (suc zero))) = tokens.CertHashDiffers (signer_digest whole) (cert_hash whole)
fault_at covered whole (suc (suc (suc (suc zero)))) = tokens.Purpose
fault_at covered whole (suc (suc (suc (suc (suc zero))))) = tokens.UnknownKind
fault_at covered whole (suc (suc (suc (suc (suc (suc n)))))) = tokens.Fails

one_kind : (oid : List ℕ) (a b : SignatureKind) → oid ≡ oid_of a → oid ≡ oid_of b → a ≡ b
one_kind oid Hss Hss p q = refl
one_kind oid Xmss Xmss p q = refl
one_kind oid XmssMt XmssMt p q = refl
one_kind oid Hss Xmss p q = let e : oid_of Hss ≡ oid_of Xmss = sym p ∙ q in cc
one_kind oid Hss XmssMt p q = let e : oid_of Hss ≡ oid_of XmssMt = sym p ∙ q in cc
one_kind oid Xmss Hss p q = let e : oid_of Xmss ≡ oid_of Hss = sym p ∙ q in cc
one_kind oid Xmss XmssMt p q = let e : 34 ≡ 35 = ap (λ octets. get_or octets 7 0) (sym p ∙ q) in absurd (omega (arith, e))
one_kind oid XmssMt Hss p q = let e : oid_of XmssMt ≡ oid_of Hss = sym p ∙ q in cc
one_kind oid XmssMt Xmss p q = let e : 35 ≡ 34 = ap (λ octets. get_or octets 7 0) (sym p ∙ q) in absurd (omega (arith, e))

-- What is first stands where all before is so, and it isn't.
record Stands (covered whole : List ℕ) (fault : TokenFault) : Type 0 where
  pub before : so_far covered whole (place_of fault)
  pub not_so : ¬ (so_far covered whole (suc (place_of fault)))
  pub is : fault ≡ fault_at covered whole (place_of fault)

stands : (covered whole : List ℕ) (fault : TokenFault) → ¬ (fault ≡ tokens.OutOfMemory) → IsFirst covered whole fault → Stands covered whole fault
stands covered whole (tokens.Shape at) r f = absurd f
stands covered whole (tokens.ImprintDiffers got want) r f =
    record { before = tt; not_so = λ h. f.0 h; is = (λ i. tokens.ImprintDiffers (f.1 i) (f.2 i)) }
stands covered whole (tokens.ContentDigestDiffers got want) r f =
    record { before = f.0; not_so = λ h. f.1 h.1; is = (λ i. tokens.ContentDigestDiffers (f.2 i) (f.3 i)) }
stands covered whole tokens.NoSigner r f = record { before = f.0; not_so = λ h. no_some f.1 h.1; is = refl }
  where
    no_some : {A : Type 0} {o : Option A} → o ≡ None → IsSome o → ⊥
    no_some e h = cc
stands covered whole (tokens.CertHashDiffers got want) r f =
    record { before = f.0; not_so = λ h. f.1 h.1; is = (λ i. tokens.CertHashDiffers (f.2 i) (f.3 i)) }
stands covered whole tokens.Purpose r f = record { before = f.0; not_so = λ h. f.1 h.1; is = refl }
stands covered whole tokens.UnknownKind r f = record { before = f.0; not_so = λ h. f.1 h.0 h.1.1; is = refl }
stands covered whole tokens.Fails r f = record {
  before = (f.0, f.1.0);
  not_so = λ s. f.1.1 (subst (HoldsBy whole) (one_kind _ s.0 f.0 s.1.0.1.0 f.1.0.1.0) s.1.1);
  is = refl;
}
stands covered whole tokens.OutOfMemory r f = absurd (r refl)

one_first : (covered whole : List ℕ) (fault other : TokenFault) → ¬ (fault ≡ tokens.OutOfMemory) → ¬ (other ≡ tokens.OutOfMemory) → IsFirst covered whole fault → IsFirst covered whole other
    → fault ≡ other
one_first covered whole fault other r q f g =
    let a = stands covered whole fault r f in
    let b = stands covered whole other q g in
    let same = same_place (so_far covered whole) (one_less covered whole) (place_of fault) (place_of other) a.before a.not_so b.before b.not_so in
    a.is ∙ ap (fault_at covered whole) same ∙ sym b.is

not_sound : (covered whole : List ℕ) (fault : TokenFault) → ¬ (fault ≡ tokens.OutOfMemory) → IsFirst covered whole fault → IsSound covered whole → ⊥
not_sound covered whole fault r f s = (stands covered whole fault r f).not_so (sound_at covered whole s (suc (place_of fault)))

-- The same of octets, which may be no token.

data Read (covered token : List ℕ) (fault : TokenFault) : Type 0 where
  NotWhole : (at : ℕ) → fault ≡ tokens.Shape at → read_object layouts.token token ≡ Err at → Read covered token fault
  Whole : IsFirstOfWhole covered token fault → Read covered token fault

read_as : (covered token : List ℕ) (fault : TokenFault) → ¬ (fault ≡ tokens.OutOfMemory) → IsFirstOver covered token fault → Read covered token fault
read_as covered token (tokens.Shape at) r f = NotWhole at refl f
read_as covered token (tokens.ImprintDiffers got want) r f = Whole f
read_as covered token (tokens.ContentDigestDiffers got want) r f = Whole f
read_as covered token tokens.NoSigner r f = Whole f
read_as covered token (tokens.CertHashDiffers got want) r f = Whole f
read_as covered token tokens.Purpose r f = Whole f
read_as covered token tokens.UnknownKind r f = Whole f
read_as covered token tokens.Fails r f = Whole f
read_as covered token tokens.OutOfMemory r f = absurd (r refl)

not_whole : (token : List ℕ) (at : ℕ) → read_object layouts.token token ≡ Err at → IsObject layouts.token token → ⊥
not_whole token at e w = let right = (read_object-fits layouts.token token).1 w in cc

same_at : (token : List ℕ) (at place : ℕ) → read_object layouts.token token ≡ Err at → read_object layouts.token token ≡ Err place → at ≡ place
same_at token at place e f = cc

pub one_over : (covered token : List ℕ) (fault other : TokenFault) → ¬ (fault ≡ tokens.OutOfMemory) → ¬ (other ≡ tokens.OutOfMemory) → IsFirstOver covered token fault → IsFirstOver covered token other
    → fault ≡ other
one_over covered token fault other r q f g = by_read (read_as covered token fault r f) (read_as covered token other q g)
  where
    by_read : Read covered token fault → Read covered token other → fault ≡ other
    by_read (NotWhole at e h) (NotWhole place i k) = e ∙ ap tokens.Shape (same_at token at place h k) ∙ sym i
    by_read (NotWhole at e h) (Whole w) = absurd (not_whole token at h w.0)
    by_read (Whole w) (NotWhole at e h) = absurd (not_whole token at h w.0)
    by_read (Whole w) (Whole v) = one_first (covered_digest covered token) token fault other r q w.1 v.1

pub not_both : (covered token : List ℕ) (fault : TokenFault) → ¬ (fault ≡ tokens.OutOfMemory) → IsFirstOver covered token fault → IsStampOver covered token → ⊥
not_both covered token fault r f s = by_read (read_as covered token fault r f)
  where
    by_read : Read covered token fault → ⊥
    by_read (NotWhole at e h) = not_whole token at h s.0
    by_read (Whole w) = not_sound (covered_digest covered token) token fault r w.1 s.1

-- And with what else stands against it.

pub stamp_faults_are_one : StampFaultsAreOne
stamp_faults_are_one covered token besides = (one, none)
  where
    not_wanting : (fault : TokenFault) → IsOfOctets (faults.Token fault) → ¬ (fault ≡ tokens.OutOfMemory)
    not_wanting fault r e = r (ap faults.Token e)

    one : (fault other : StampFault) → IsOfOctets fault → IsOfOctets other → StandsAgainst covered token besides fault → StandsAgainst covered token besides other → fault ≡ other
    one (faults.Token fault) (faults.Token other) r q f g = ap faults.Token (one_over covered token fault other (not_wanting fault r) (not_wanting other q) f g)
    one (faults.Token fault) (faults.Order other) r q f g = absurd (not_both covered token fault (not_wanting fault r) f g.0)
    one (faults.Order fault) (faults.Token other) r q f g = absurd (not_both covered token other (not_wanting other q) g f.0)
    one (faults.Order fault) (faults.Order other) r q f g = same_order (sym f.1 ∙ g.1)
      where
        same_order : Some fault ≡ Some other → faults.Order fault ≡ faults.Order other
        same_order e = cc

    none : (fault : StampFault) → IsOfOctets fault → IsTaken covered token besides → StandsAgainst covered token besides fault → ⊥
    none (faults.Token fault) r t f = not_both covered token fault (not_wanting fault r) f t.0
    none (faults.Order fault) r t f = no_such (sym t.1 ∙ f.1)
      where
        no_such : None ≡ Some fault → ⊥
        no_such e = cc
