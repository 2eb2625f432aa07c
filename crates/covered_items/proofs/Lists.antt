-- Facts on each of a list, and filters that keep nothing.
use Rattle.std.proofs.Common.{◌≡◌, Bool, true, false, cond, List, [], ◌∷◌, ◌++◌, refl}
use Rattle.std.proofs.lemmas.List.{map-append}
use Rattle.std.specs.Prelude.{filter, map}
use Rattle.signature_model.specs.Spots.{Spot, paths}
use Rattle.signature_model.specs.Parts as parts
use Rattle.signature_model.specs.Parts.{DatumKind, Datum}
use Rattle.signature_model.proofs.Standing.{Each}
use Rattle.signature_model.proofs.ShapeLines.{not_nothing}

pub none_of_each : {A : Type 0} (f : A → Bool) (xs : List A) → Each (λ x. f x ≡ false) xs → filter f xs ≡ []
none_of_each f [] h = refl
none_of_each f (x ∷ xs) h = λ i. cond (h.0 i) (x ∷ none_of_each f xs h.1 i) (none_of_each f xs h.1 i)

pub each_of_none : {A : Type 0} (f : A → Bool) (xs : List A) → filter f xs ≡ [] → Each (λ x. f x ≡ false) xs
each_of_none f [] e = tt
each_of_none f (x ∷ xs) e = by_bool (f x) refl (each_of_none f xs) e
  where
    by_bool : (b : Bool) → f x ≡ b → (filter f xs ≡ [] → Each (λ y. f y ≡ false) xs) → cond b (x ∷ filter f xs) (filter f xs) ≡ [] → (f x ≡ false) × Each (λ y. f y ≡ false) xs
    by_bool true is more e = absurd (not_nothing x (filter f xs) e)
    by_bool false is more e = (is, more e)

pub each_front : {A : Type 0} (P : A → Type 0) (xs ys : List A) → Each P (xs ++ ys) → Each P xs
each_front P [] ys h = tt
each_front P (x ∷ xs) ys h = (h.0, each_front P xs ys h.1)

pub each_behind : {A : Type 0} (P : A → Type 0) (xs ys : List A) → Each P (xs ++ ys) → Each P ys
each_behind P [] ys h = h
each_behind P (x ∷ xs) ys h = each_behind P xs ys h.1

-- Lists joined.

pub paths_both : (xs ys : List Spot) → paths (xs ++ ys) ≡ paths xs ++ paths ys
paths_both xs ys = map-append (λ spot. spot.path) xs ys

-- Data.

pub spots_of : (P : Spot → Type 0) (all : List Datum) → Each (λ (datum : Datum). P datum.spot) all → Each P (map (λ (datum : Datum). datum.spot) all)
spots_of P [] h = tt
spots_of P (datum ∷ all) h = (h.0, spots_of P all h.1)

pub kinds_of : (P : Spot → Type 0) (kind : DatumKind) (spots : List Spot) → Each P spots → Each (λ (datum : Datum). P datum.spot) (parts.as_kind kind spots)
kinds_of P kind [] h = tt
kinds_of P kind (spot ∷ spots) h = (h.0, kinds_of P kind spots h.1)

-- Equal lists have equal heads and tails.

pub heads : {A : Type 0} {a b : A} {xs ys : List A} → a ∷ xs ≡ b ∷ ys → a ≡ b
heads e = cc

pub tails : {A : Type 0} {a b : A} {xs ys : List A} → a ∷ xs ≡ b ∷ ys → xs ≡ ys
tails e = cc
