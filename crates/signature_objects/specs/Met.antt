-- The bytes of certificates, revocation lists and tokens that were met, each once: EN 319 132-1, clauses 5.3 to 5.5.
use Rattle.std.specs.Prelude.{◌≡◌, ℕ, if◌then◌else◌, List, [], ◌∷◌, ◌++◌, flat_map, length, map}
use Rattle.std.specs.BTreeSet.{BTreeSet, btree_set_len, contains_by}
use Rattle.std.specs.Cmp.Lexicographic.{slice_cmp}
use Rattle.std.specs.List.{list_any}
use Rattle.std.specs.Option.{option_map_or}
use Rattle.std.specs.Ordering.{nat_cmp}
use Rattle.std.specs.Str.{bytes_eq}
use denote.Ref.{Bor}
use Rattle.qualifying_props.specs.Shown.{Shown, ShownProperty}
use Rattle.tst_tokens.specs.Tokens.{certificates_of}

-- some bytes behind those that were met, unless they were
abbrev pub with_bytes : List (List ℕ) → List ℕ → List (List ℕ)
with_bytes met bytes = if list_any (bytes_eq bytes) met then met else met ++ bytes ∷ []

abbrev pub with_all : List (List ℕ) → List (List ℕ) → List (List ℕ)
with_all met [] = met
with_all met (bytes ∷ more) = with_all (with_bytes met bytes) more

-- the set has exactly these bytes, and as many
pub record HasMet (set : BTreeSet (Bor (List ℕ))) (met : List (List ℕ)) : Type 0 where
  pub has : (q : List ℕ) → contains_by (λ k. slice_cmp nat_cmp q k.now) set ≡ list_any (bytes_eq q) met
  pub many : btree_set_len set ≡ length met

-- What is met in a signature: the certificates of KeyInfo, and in each property a token with its certificates, or certificates and lists.

abbrev pub bytes_of_token : List ℕ → List (List ℕ)
bytes_of_token token = token ∷ map (λ element. element.whole) (certificates_of token)

abbrev pub bytes_in : ShownProperty → List (List ℕ)
bytes_in property = option_map_or bytes_of_token property.token property.parts

abbrev pub all_bytes : Shown → List (List ℕ)
all_bytes parts = parts.key_certs ++ flat_map bytes_in parts.properties
