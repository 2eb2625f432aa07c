use Rattle.std.proofs.Common.{◌≡◌, ℕ, List, ◌∷◌, map, sym, ap, subst, ◌∙◌}
use Rattle.std.proofs.lemmas.List.Elements.{All-same, All-tail}
use Rattle.der_values.specs.Elements.{elements}
use Rattle.der_values.specs.Fits.{IsObject}
use Rattle.tst_tokens.specs.Tokens.{certificates_field, certificates_of}
use Rattle.tst_tokens.specs.View.{certificates_left}
use Rattle.x509_certs.specs.Layouts.{certificate}
use Rattle.x509_certs.specs.View.{certificate_bytes}
use Rattle.signature_objects.specs.Held.{objects_of_token}
use Rattle.signature_objects.specs.Objects.{Object, Certificate, Token}
use Rattle.case_objects.proofs.Added.{Adds, adds_on, adds_starts, listed, listed_whole}
use Rattle.case_objects.proofs.adding.add_token.Goals as goal

pub loop-certificate-init : goal.loop-certificate-init
loop-certificate-init c =
    let token = c.args.token.now in
    let left : List (List ℕ) = certificates_left c.into_iter-certificate-iterator.result in
    let is : left ≡ map (λ element. element.whole) (certificates_of token) =
    ap certificates_left c.into_iter-certificate-iterator.ensures.into_iter_gives ∙ c.certificates-certificate-items.ensures
    ∙ ap (λ (whole : List ℕ). map (λ element. element.whole) (certificates_of whole)) c.whole_token.ensures.value in
    let all : Token token ∷ map (λ octets. Certificate octets) left ≡ objects_of_token token =
    ap (λ (bytes : List (List ℕ)). Token token ∷ map (λ octets. Certificate octets) bytes) is ∙ ap (λ certs. Token token ∷ certs) (listed (certificates_of token)) in (
      subst (λ (them : List Object). Adds (map (λ octets. Certificate octets) left) them c.args.case.now c.add_bytes.new.case) all
          (adds_on (Token token) (map (λ octets. Certificate octets) left) (Token token ∷ map (λ octets. Certificate octets) left) c.args.case.now c.args.case.now c.add_bytes.new.case
          c.in_ok-add_bytes.ensures.objects c.in_ok-add_bytes.ensures.stamps
          (adds_starts (Token token ∷ map (λ octets. Certificate octets) left) c.args.case.now)),
      All-same (IsObject certificate) _ _ is (listed_whole (elements (certificates_field token))),
    )

pub loop-certificate-preserved : goal.loop-certificate-preserved
loop-certificate-preserved c =
    let left : List (List ℕ) = certificates_left c.next.new.self in
    let item = certificate_bytes c.in-Some.certificate in
    let steps = c.in-Some.ensures.steps in (
      adds_on (Certificate item) (map (λ octets. Certificate octets) left) (objects_of_token c.args.token.now) c.args.case.now c.loop-certificate.case c.add.new.case
          c.in_ok-add.ensures.objects c.in_ok-add.ensures.stamps
          (subst (λ (bytes : List (List ℕ)). Adds (map (λ octets. Certificate octets) bytes) (objects_of_token c.args.token.now) c.args.case.now c.loop-certificate.case) steps
          c.loop-certificate.invariant.0),
      All-tail (IsObject certificate) item left (All-same (IsObject certificate) _ _ (sym steps) c.loop-certificate.invariant.1),
    )
