use Rattle.std.proofs.Common.{◌≡◌, List, ℕ, Option, Some, None, option_map, ap, sym, ◌∙◌}
use Rattle.der_values.specs.Element.{Element}
use Rattle.der_values.specs.Rules.{whole_of}
use Rattle.x509_certs.specs.View.{certificate_bytes}
use Rattle.tst_tokens.specs.View.{token_bytes}
use Rattle.tst_tokens.specs.Sound.{signer}
use Rattle.tst_tokens.proofs.check.check_token.Goals as goal

signer_is : (o : Option Element) (bytes : List ℕ) → option_map (λ (e : Element). e.whole) o ≡ Some bytes → whole_of o ≡ bytes
signer_is None bytes h = cc
signer_is (Some e) bytes h = cc

-- a token that is sound has a kind of both
pub returns-in_default-kind_of_both-clause-exact : goal.returns-in_default-kind_of_both-clause-exact
returns-in_default-kind_of_both-clause-exact c = λ sound.
    let named : signer (token_bytes c.args.token.now) ≡ certificate_bytes c.in-Some.signer =
    signer_is _ _ (sym c.signer.ensures ∙ ap (option_map certificate_bytes) c.in-Some.is) in
    let none = rw (c.sign_oid.ensures, c.key_oid.ensures, ← named) at c.in_default-kind_of_both.ensures in
    absurd (none sound.0 sound.1.0.1)
