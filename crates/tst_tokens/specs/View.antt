-- What a token shows, all its bytes, and what an iterator over its certificates is still to give.
use Rattle.std.specs.Prelude.{ℕ, List, map, filter}
use Rattle.der_values.specs.View.{elements_left}
use Rattle.tst_tokens.specs.Tokens.{is_certificate}
use Rattle.tst_tokens.specs.declared.certificates.Certificates.{Certificates}
use Rattle.tst_tokens.specs.declared.token.Token.{Token}

abbrev pub token_bytes : Token → List ℕ
token_bytes t = t.whole.now

-- all the bytes of each
abbrev pub certificates_left : Certificates → List (List ℕ)
certificates_left s = map (λ e. e.whole) (filter is_certificate (elements_left s.listed))
