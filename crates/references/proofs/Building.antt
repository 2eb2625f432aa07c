-- What is made of all of a list, one after another.
use Rattle.std.proofs.Common.{◌≡◌, ◌<◌, ◌≤◌, ℕ, ◌+◌, List, [], ◌∷◌, ◌++◌, length, get_or, take, sym, ◌∙◌, ap, take_all}
use Rattle.std.proofs.lemmas.List.{length-map, map_push, map_more}
use Rattle.std.proofs.lemmas.List.Elements.{All-nil, All-push, All-same}
use Rattle.std.specs.Prelude.{map}
use Rattle.std.specs.List.{All}
use Rattle.signature_model.specs.Spots.{Spot}

-- what was made is sound, and stands for those so far
pub record Building {X Y : Type 0} (P : Y → Type 0) (f : X → Spot) (g : Y → Spot) (all : List X) (i : ℕ) (made : List Y) : Type 0 where
  pub spots : map g made ≡ map f (take i all)
  pub each : All P made

pub building_starts : {X Y : Type 0} (P : Y → Type 0) (f : X → Spot) (g : Y → Spot) (all : List X) (made : List Y) → made ≡ [] → Building P f g all 0 made
building_starts P f g all made e = record { spots = ap (map g) e; each = All-same P made [] e (All-nil P) }

pub building_on : {X Y : Type 0} (P : Y → Type 0) (f : X → Spot) (g : Y → Spot) (all : List X) (i : ℕ) (made now : List Y) (x : X) (y : Y) → i < length all → x ≡ get_or all i x
    → now ≡ made ++ y ∷ [] → g y ≡ f x → P y → Building P f g all i made → Building P f g all (i + 1) now
building_on P f g all i made now x y within is e same sound h = record {
  spots = ap (map g) e ∙ map_push g made y ∙ ap (λ ss. ss ++ g y ∷ []) h.spots ∙ ap (λ s. map f (take i all) ++ s ∷ []) (same ∙ ap f is) ∙ sym (map_more f all i x within);
  each = All-same P now (made ++ y ∷ []) e (All-push P made y h.each sound);
}

pub building_ends : {X Y : Type 0} (P : Y → Type 0) (f : X → Spot) (g : Y → Spot) (all : List X) (i : ℕ) (made : List Y) → length all ≤ i → Building P f g all i made
    → map g made ≡ map f all
building_ends P f g all i made past h = h.spots ∙ ap (map f) (take_all i all past)

-- they are as many
pub as_many : {X Y : Type 0} (f : X → Spot) (g : Y → Spot) (all : List X) (made : List Y) → map g made ≡ map f all → length made ≡ length all
as_many f g all made e = sym (length-map made g) ∙ ap length e ∙ length-map all f
