-- What a policy keeps true of its anchors.
use Rattle.std.specs.Prelude.{List, All, Vec, ℕ, IsTrue, is_ok}
use Rattle.std.specs.declared.alloc.Global.{Global}
use Rattle.der_values.specs.Layout.{read_object}
use Rattle.x509_certs.specs.Layouts as layout

-- the bytes are one whole certificate
abbrev pub IsWhole : List ℕ → Type 0
IsWhole bytes = IsTrue (is_ok (read_object layout.certificate bytes))

abbrev pub AreWhole : List (Vec ℕ Global) → Type 0
AreWhole anchors = All (λ a. IsWhole a.items) anchors
