-- Whether there are any, one element after another.
use Rattle.std.proofs.Common.{◌≡◌, Bool, true, false, cond, not, List, [], ◌∷◌, ◌++◌, refl, sym, ◌∙◌, ap}
use Rattle.std.specs.Prelude.{filter, flat_map}
use Rattle.document_model.specs.Characters.{is_empty}
use Rattle.signature_model.specs.Spots.{Spot}

pub none_of : (spots : List Spot) → not (is_empty spots) ≡ false → spots ≡ []
none_of [] e = refl
none_of (spot ∷ spots) e = cc

pub none_in : (h : Spot → List Spot) (before now all : List Spot) (x : Spot) → before ≡ x ∷ now → not (is_empty (h x)) ≡ false → flat_map h before ≡ all → flat_map h now ≡ all
none_in h before now all x e f g = sym (ap (λ spots. spots ++ flat_map h now) (none_of (h x) f)) ∙ sym (ap (flat_map h) e) ∙ g

some_among : (a b : List Spot) → not (is_empty a) ≡ true → not (is_empty (a ++ b)) ≡ true
some_among [] b e = cc
some_among (x ∷ a) b e = refl

pub some_in : (h : Spot → List Spot) (before now all : List Spot) (x : Spot) → before ≡ x ∷ now → not (is_empty (h x)) ≡ true → flat_map h before ≡ all → true ≡ not (is_empty all)
some_in h before now all x e f g = sym (some_among (h x) (flat_map h now) f) ∙ ap (λ (spots : List Spot). not (is_empty spots)) (sym (ap (flat_map h) e) ∙ g)

pub nothing_in : (h : Spot → List Spot) (before all : List Spot) → before ≡ [] → flat_map h before ≡ all → false ≡ not (is_empty all)
nothing_in h before all e g = ap (λ (spots : List Spot). not (is_empty spots)) (sym (ap (flat_map h) e) ∙ g)

-- Elements that pass a test.

pub one_passed : (p : Spot → Bool) (before now all : List Spot) (x : Spot) → before ≡ x ∷ now → p x ≡ false → filter p before ≡ all → filter p now ≡ all
one_passed p before now all x e f g = sym (ap (λ b. cond b (x ∷ filter p now) (filter p now)) f) ∙ sym (ap (filter p) e) ∙ g

pub one_kept : (p : Spot → Bool) (before now all : List Spot) (x : Spot) → before ≡ x ∷ now → p x ≡ true → filter p before ≡ all → x ∷ filter p now ≡ all
one_kept p before now all x e f g = sym (ap (λ b. cond b (x ∷ filter p now) (filter p now)) f) ∙ sym (ap (filter p) e) ∙ g

pub none_kept : (p : Spot → Bool) (before all : List Spot) → before ≡ [] → filter p before ≡ all → all ≡ []
none_kept p before all e g = sym g ∙ ap (filter p) e
