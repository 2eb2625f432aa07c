-- A chain that is read one transform after another is that of the whole list.
use Rattle.std.proofs.Common.{◌≡◌, Bool, true, false, List, [], ◌∷◌, ◌++◌, Option, Some, None, refl, sym, ◌∙◌, ap}
use Rattle.std.specs.Prelude.{map, flat_map, option_and_then}
use Rattle.signature_model.specs.Spots.{Spot}
use Rattle.signature_model.specs.Chains.{Transform, Enveloped, Canonical, Base64, Other, Nothing, OwnSignature, NodesAlone, Chain, made_by, chain_with, chain_within, chain_outside, chain_on}
use Rattle.document_model.specs.Tree.{Nodes}
use Rattle.signature_model.specs.Chains.{Place, Document, Named, External, is_external}
use Rattle.reference_chains.specs.Places.{Found, found, is_outside}
use Rattle.reference_chains.specs.ChainSteps.{more, more_all}

pub none_stays : (external : Bool) (list : List Transform) → more_all external None list ≡ None
none_stays external [] = refl
none_stays external (transform ∷ list) = none_stays external list

pub one_then : (external : Bool) (chain : Option Chain) (first rest : List Transform) → more_all external chain (first ++ rest) ≡ more_all external (more_all external chain first) rest
one_then external chain [] rest = refl
one_then external chain (transform ∷ first) rest = one_then external (option_and_then (λ c. more external c transform) chain) first rest

pub map_joined : {A B : Type 0} (f : A → B) (xs ys : List A) → map f (xs ++ ys) ≡ map f xs ++ map f ys
map_joined f [] ys = refl
map_joined f (x ∷ xs) ys = ap (λ zs. f x ∷ zs) (map_joined f xs ys)

-- behind the enveloped signature transform
behind_enveloped : (list : List Transform) → more_all false (Some (record { taken = OwnSignature; made = NodesAlone })) list ≡ chain_with OwnSignature (made_by list)
behind_enveloped [] = refl
behind_enveloped (Enveloped ∷ list) = none_stays false list
behind_enveloped (Canonical form ∷ []) = refl
behind_enveloped (Canonical form ∷ next ∷ list) = none_stays false list
behind_enveloped (Base64 ∷ []) = refl
behind_enveloped (Base64 ∷ next ∷ list) = none_stays false list
behind_enveloped (Other ∷ list) = none_stays false list

within : (list : List Transform) → more_all false (Some (record { taken = Nothing; made = NodesAlone })) list ≡ chain_within list
within [] = refl
within (Enveloped ∷ list) = behind_enveloped list
within (Canonical form ∷ []) = refl
within (Canonical form ∷ next ∷ list) = none_stays false list
within (Base64 ∷ []) = refl
within (Base64 ∷ next ∷ list) = none_stays false list
within (Other ∷ list) = none_stays false list

outside : (list : List Transform) → more_all true (Some (record { taken = Nothing; made = NodesAlone })) list ≡ chain_outside list
outside [] = refl
outside (Enveloped ∷ list) = none_stays true list
outside (Canonical form ∷ list) = none_stays true list
outside (Base64 ∷ []) = refl
outside (Base64 ∷ next ∷ list) = none_stays true list
outside (Other ∷ list) = none_stays true list

pub all_steps : (external : Bool) (list : List Transform) → more_all external (Some (record { taken = Nothing; made = NodesAlone })) list ≡ chain_on external list
all_steps true list = outside list
all_steps false list = within list

-- one transform, and all of one list
pub one_step : (external : Bool) (f : Spot → Transform) (chain : Chain) (transform : Transform) (spot : Spot) (before now : List Spot) (next : Option Chain)
    → next ≡ more external chain transform → transform ≡ f spot → before ≡ spot ∷ now → more_all external next (map f now) ≡ more_all external (Some chain) (map f before)
one_step external f chain transform spot before now next n e b =
    ap (λ o. more_all external o (map f now)) (n ∙ ap (more external chain) e) ∙ ap (λ spots. more_all external (Some chain) (map f spots)) (sym b)

pub list_step : (external : Bool) (f : Spot → Transform) (g : Spot → List Spot) (chain : Chain) (spot : Spot) (before now : List Spot) (next : Option Chain)
    → next ≡ more_all external (Some chain) (map f (g spot)) → before ≡ spot ∷ now
    → more_all external next (map f (flat_map g now)) ≡ more_all external (Some chain) (map f (flat_map g before))
list_step external f g chain spot before now next n b =
    ap (λ o. more_all external o (map f (flat_map g now))) n
    ∙ sym (one_then external (Some chain) (map f (g spot)) (map f (flat_map g now)))
    ∙ ap (more_all external (Some chain)) (sym (map_joined f (g spot) (flat_map g now)))
    ∙ ap (λ spots. more_all external (Some chain) (map f (flat_map g spots))) (sym b)

-- what is found is outside where the place is
pub external_is : (document : Nodes) (p : Place) (f : Found) → f ≡ found document p → is_outside f ≡ is_external p
external_is document p f e = ap is_outside e ∙ by_place p
  where
    by_place : (q : Place) → is_outside (found document q) ≡ is_external q
    by_place Document = refl
    by_place (Named identifier) = refl
    by_place External = refl
