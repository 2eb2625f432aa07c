-- A token is accepted where its kinds are and its signer is.
use Rattle.std.proofs.Common.{◌≡◌, ℕ, Bool, List, Some, None, option_map, IsTrue, ◌↔◌, ℤ, sym, ap, subst, ◌∙◌}
use Rattle.policy_rules.specs.Rules.{Rules}
use Rattle.acceptance.specs.Certificates.{Part, Member}
use Rattle.tst_tokens.specs.Tokens as tokens
use Rattle.acceptance.specs.Objects.{token_of}
use Rattle.acceptance.specs.Tokens.{Token}
use Rattle.acceptance.specs.Walks.{HasCertificate, IsAccepted}
use Rattle.acceptance.specs.Stamping.{IsTokenAccepted}
use Rattle.existence_times.specs.Judged.{AreKindsAccepted}

inside_some : (a b : List ℕ) → Some a ≡ Some b → a ≡ b
inside_some a b e = cc

pub kinds_of : (pool : List Part) (policy : Rules) (times : List ℤ) (token : Token) (at : ℤ) → IsTokenAccepted pool policy times token at → AreKindsAccepted policy token at
kinds_of pool policy times token at h = record { imprint = h.imprint; content = h.content; cert_hash = h.cert_hash; kind = h.kind }

pub accepted_by : (pool : List Part) (policy : Rules) (times : List ℤ) (token : Token) (at : ℤ) (answer : Bool) (whole : List ℕ) (low : ℤ) → AreKindsAccepted policy token at →
    token.signer ≡ Some whole → low ≡ token.gen_time → ((m : Member) × HasCertificate pool m × (m.certificate.whole ≡ whole)) →
    ((m : Member) → HasCertificate pool m → m.certificate.whole ≡ whole → (IsTrue answer ↔ IsAccepted pool policy times m low at)) →
    (IsTrue answer ↔ IsTokenAccepted pool policy times token at)
accepted_by pool policy times token at answer whole low kinds signer low_is (m, there, same) both = (
  λ h. record {
    imprint = kinds.imprint;
    content = kinds.content;
    cert_hash = kinds.cert_hash;
    kind = kinds.kind;
    signer = record {
      signer = m;
      named = signer ∙ ap Some (sym same);
      there = there;
      accepted = subst (λ (z : ℤ). IsAccepted pool policy times m z at) low_is ((both m there same).0 h);
    };
  },
  λ h.
      let s = h.signer in
      let is : s.signer.certificate.whole ≡ whole = inside_some _ _ (sym s.named ∙ signer) in
      (both s.signer s.there is).1 (subst (λ (z : ℤ). IsAccepted pool policy times s.signer z at) (sym low_is) s.accepted),
)

-- the signer that a token's bytes name
pub signer_is : (bytes whole signer : List ℕ) → whole ≡ bytes → Some signer ≡ option_map (λ e. e.whole) (tokens.signer_of whole) → (token_of bytes).signer ≡ Some signer
unfolding token_of
signer_is bytes whole signer same is = ap (λ (b : List ℕ). option_map (λ e. e.whole) (tokens.signer_of b)) (sym same) ∙ sym is

pub unsigned : (bytes whole : List ℕ) → whole ≡ bytes → None ≡ option_map (λ e. e.whole) (tokens.signer_of whole) → (token_of bytes).signer ≡ None
unfolding token_of
unsigned bytes whole same is = ap (λ (b : List ℕ). option_map (λ e. e.whole) (tokens.signer_of b)) (sym same) ∙ sym is

pub not_unsigned : (pool : List Part) (policy : Rules) (times : List ℤ) (token : Token) (at : ℤ) → token.signer ≡ None → IsTokenAccepted pool policy times token at → ⊥
not_unsigned pool policy times token at none h = let named = h.signer.named in cc

pub time_is : (bytes whole : List ℕ) (z : ℤ) → whole ≡ bytes → z ≡ tokens.gen_time whole → z ≡ (token_of bytes).gen_time
unfolding token_of
time_is bytes whole z same is = is ∙ ap tokens.gen_time same
