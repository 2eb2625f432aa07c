-- What a policy says: its trust anchors, and which algorithms it accepts until when.
use Rattle.std.specs.Prelude.{◌≡◌, ℕ, ℤ, ◌<ℤ◌, Bool, true, ◌&&◌, not, List, [], ◌∷◌, ◌++◌, Contains, Option, Some, None, if◌then◌else◌}
use Rattle.std.specs.List.{list_any}
use Rattle.std.specs.Str.{bytes_eq}
use Rattle.algorithms.specs.declared.signature_kinds.SignatureKind.{SignatureKind}
use Rattle.algorithms.specs.declared.digest_kinds.DigestKind.{DigestKind}

-- a kind of signatures, the URIs of the signature methods that are of this kind, and the second from which it isn't accepted
pub record KindRule : Type 0 where
  pub kind : SignatureKind
  pub uris : List (List ℕ)
  pub until : Option ℤ

pub record DigestRule : Type 0 where
  pub kind : DigestKind
  pub until : Option ℤ

-- an anchor is the bytes of a certificate
pub record Rules : Type 0 where
  pub version : ℕ
  pub anchors : List (List ℕ)
  pub kinds : List KindRule
  pub digests : List DigestRule

-- before the end, or there is no end
abbrev pub IsBefore : ℤ → Option ℤ → Type 0
IsBefore at None = Unit {0}
IsBefore at (Some end) = at <ℤ end

-- the rule is for the kind, and the time is before its end
abbrev pub IsKindRule : SignatureKind → ℤ → KindRule → Type 0
IsKindRule kind at rule = (rule.kind ≡ kind) × IsBefore at rule.until

abbrev pub IsDigestRule : DigestKind → ℤ → DigestRule → Type 0
IsDigestRule kind at rule = (rule.kind ≡ kind) × IsBefore at rule.until

-- the kind is listed, and the time is before its end, or it has none
abbrev pub AcceptsKind : Rules → SignatureKind → ℤ → Type 0
AcceptsKind rules kind at = (rule : KindRule) × Contains rules.kinds rule × IsKindRule kind at rule

abbrev pub AcceptsDigest : Rules → DigestKind → ℤ → Type 0
AcceptsDigest rules kind at = (rule : DigestRule) × Contains rules.digests rule × IsDigestRule kind at rule

-- the text is one of these
abbrev pub is_among : List ℕ → List (List ℕ) → Bool
is_among text texts = list_any (λ other. bytes_eq text other) texts

-- the kind of the signature method with this URI
abbrev pub kind_of_uri : List KindRule → List ℕ → Option SignatureKind
kind_of_uri [] uri = None
kind_of_uri (rule ∷ rules) uri = if is_among uri rule.uris then Some rule.kind else kind_of_uri rules uri

-- all URIs that the rules name, in order
abbrev pub uris_of : List KindRule → List (List ℕ)
uris_of [] = []
uris_of (rule ∷ rules) = rule.uris ++ uris_of rules

-- each text differs from all before it, which are the texts seen and those that stand before it in the list
abbrev pub are_new : (seen texts : List (List ℕ)) → Bool
are_new seen [] = true
are_new seen (text ∷ texts) = not (is_among text seen) && are_new (text ∷ seen) texts
