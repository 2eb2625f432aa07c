-- Places of several elements are those of one element after another.
use Rattle.std.proofs.Common.{◌≡◌, Bool, true, false, cond, List, [], ◌∷◌, ◌++◌, refl, sym, ◌∙◌, ap, append_assoc}
use Rattle.std.proofs.lemmas.List.{append-nil}
use Rattle.std.specs.Prelude.{filter, flat_map}
use Rattle.document_model.specs.Tree.{Path}
use Rattle.signature_model.specs.Spots.{Spot, paths}
use Rattle.signature_parts.proofs.AnyOrder.{Alike, alike_as, alike_on, alike_back, alike_joined, alike_crossed}

-- the places of each one
abbrev pub one_each : (List Spot → List Path) → List Spot → List Path
one_each F spots = flat_map (λ spot. F (spot ∷ [])) spots

pub record Each (F : List Spot → List Path) : Type 0 where
  pub same : (spots : List Spot) → Alike (F spots) (one_each F spots)

pub record Spread (H : List Spot → List Spot) : Type 0 where
  pub none : H [] ≡ []
  pub more : (spot : Spot) (spots : List Spot) → H (spot ∷ spots) ≡ H (spot ∷ []) ++ H spots

-- Elements.

pub spread_filter : (p : Spot → Bool) → Spread (filter p)
spread_filter p = record { none = refl; more = λ spot spots. by (p spot) spot (filter p spots) }
  where
    by : (b : Bool) (spot : Spot) (rest : List Spot) → cond b (spot ∷ rest) rest ≡ cond b (spot ∷ []) [] ++ rest
    by true spot rest = refl
    by false spot rest = refl

pub spread_flat : (h : Spot → List Spot) → Spread (flat_map h)
spread_flat h = record { none = refl; more = λ spot spots. ap (λ a. a ++ flat_map h spots) (sym (append-nil (h spot))) }

-- Places.

tested_each : (p : Spot → Bool) (spots : List Spot) → paths (filter p spots) ≡ one_each (λ xs. paths (filter p xs)) spots
tested_each p [] = refl
tested_each p (spot ∷ spots) = by (p spot) spot (filter p spots) ∙ ap (λ rest. paths (filter p (spot ∷ [])) ++ rest) (tested_each p spots)
  where
    by : (b : Bool) (spot : Spot) (rest : List Spot) → paths (cond b (spot ∷ rest) rest) ≡ paths (cond b (spot ∷ []) []) ++ paths rest
    by true spot rest = refl
    by false spot rest = refl

pub each_tested : (p : Spot → Bool) → Each (λ spots. paths (filter p spots))
each_tested p = record { same = λ spots. alike_as _ _ (tested_each p spots) }

flat_each : (f : Spot → List Path) (spots : List Spot) → flat_map f spots ≡ one_each (flat_map f) spots
flat_each f [] = refl
flat_each f (spot ∷ spots) = (λ i. sym (append-nil (f spot)) i ++ flat_each f spots i)

pub each_flat : (f : Spot → List Path) → Each (flat_map f)
each_flat f = record { same = λ spots. alike_as _ _ (flat_each f spots) }

zipped : (f g : Spot → List Path) (spots : List Spot) → Alike (flat_map f spots ++ flat_map g spots) (flat_map (λ spot. f spot ++ g spot) spots)
zipped f g [] = alike_as _ _ refl
zipped f g (spot ∷ spots) =
    alike_on _ _ _ (alike_crossed (f spot) (flat_map f spots) (g spot) (flat_map g spots))
    (alike_joined (f spot ++ g spot) (f spot ++ g spot) _ _ (alike_as _ _ refl) (zipped f g spots))

pub each_joined : (F G : List Spot → List Path) → Each F → Each G → Each (λ spots. F spots ++ G spots)
each_joined F G h k = record {
  same = λ spots. alike_on _ _ _ (alike_joined _ _ _ _ (h.same spots) (k.same spots)) (zipped (λ spot. F (spot ∷ [])) (λ spot. G (spot ∷ [])) spots);
}

none_each : (F : List Spot → List Path) → Each F → Alike (F []) []
none_each F h = h.same []

more_each : (F : List Spot → List Path) → Each F → (a b : List Spot) → Alike (F (a ++ b)) (F a ++ F b)
more_each F h a b =
    alike_on _ _ _ (h.same (a ++ b)) (alike_on _ _ _ (alike_as _ _ (split a)) (alike_joined _ _ _ _ (back a) (back b)))
  where
    split : (a : List Spot) → one_each F (a ++ b) ≡ one_each F a ++ one_each F b
    split [] = refl
    split (spot ∷ a) = ap (λ rest. F (spot ∷ []) ++ rest) (split a) ∙ sym (append_assoc (F (spot ∷ [])) (one_each F a) (one_each F b))

    back : (a : List Spot) → Alike (one_each F a) (F a)
    back a = alike_back _ _ (h.same a)

pub each_of : (F : List Spot → List Path) (H : List Spot → List Spot) → Each F → Spread H → Each (λ spots. F (H spots))
each_of F H h s = record { same = by }
  where
    by : (spots : List Spot) → Alike (F (H spots)) (one_each (λ xs. F (H xs)) spots)
    by [] = alike_on _ _ _ (alike_as _ _ (ap F s.none)) (none_each F h)
    by (spot ∷ spots) =
        alike_on _ _ _ (alike_as _ _ (ap F (s.more spot spots)))
        (alike_on _ _ _ (more_each F h (H (spot ∷ [])) (H spots)) (alike_joined _ _ _ _ (alike_as (F (H (spot ∷ []))) _ refl) (by spots)))

-- Places of elements of two lists.
pub tested_more : (p : Spot → Bool) (a b : List Spot) → paths (filter p (a ++ b)) ≡ paths (filter p a) ++ paths (filter p b)
tested_more p [] b = refl
tested_more p (spot ∷ a) b = by (p spot) (tested_more p a b)
  where
    by : (t : Bool) → paths (filter p (a ++ b)) ≡ paths (filter p a) ++ paths (filter p b)
        → paths (cond t (spot ∷ filter p (a ++ b)) (filter p (a ++ b))) ≡ paths (cond t (spot ∷ filter p a) (filter p a)) ++ paths (filter p b)
    by true e = ap (λ rest. spot.path ∷ rest) e
    by false e = e
