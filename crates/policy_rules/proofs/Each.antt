-- The values of a list's items, one after the other, as a loop reads them.
use Rattle.std.proofs.Common.{◌≡◌, ℕ, ◌+◌, ◌≤◌, ◌<◌, length, drop, get_or, List, [], ◌∷◌, ◌++◌, Option, Some, None, refl, sym, ap, ◌∙◌, append_assoc}
use Rattle.std.proofs.lemmas.List.{append-nil, drop_all}
use Rattle.toml.specs.Data.{Data}
use Rattle.toml.specs.View.{view, items_view}
use Rattle.toml.proofs.Views.{items_view-drop}
use Rattle.toml.specs.declared.value.Value.{Value}
use Rattle.policy_rules.specs.declared.fault.FieldError.{FieldError}
use Rattle.policy_rules.specs.declared.fault.FieldError.TheVariants as errors
use Rattle.policy_rules.specs.Faults.{IsRefused}
use Rattle.policy_rules.specs.Fields.{each, ◌>>=◌}

-- what was read before, and what is still read
abbrev pub with_front : {A : Type 0} → List A → Option (List A) → Option (List A)
with_front front None = None
with_front front (Some rest) = Some (front ++ rest)

regroup : {A : Type 0} (front : List A) (a : A) (rest : Option (List A)) → with_front front (rest >>= λ values. Some (a ∷ values)) ≡ with_front (front ++ a ∷ []) rest
regroup front a None = refl
regroup front a (Some rest) = ap Some (simp append_assoc)

pub starts : {A : Type 0} (rest : Option (List A)) → with_front [] rest ≡ rest
starts None = refl
starts (Some rest) = refl

pub goes_on : {A : Type 0} (f : Data → Option A) (front : List A) (vs : List Value) (i : ℕ) (d : Value) (a : A) (total : Option (List A)) → i < length vs → f (view (get_or vs i d)) ≡ Some a
    → with_front front (each f (items_view (drop i vs))) ≡ total → with_front (front ++ a ∷ []) (each f (items_view (drop (i + 1) vs))) ≡ total
goes_on f front vs i d a total lt h so_far =
    let one : with_front front (each f (items_view (drop i vs))) ≡ with_front (front ++ a ∷ []) (each f (items_view (drop (i + 1) vs))) =
    rw (items_view-drop vs i d lt, h) (regroup front a (each f (items_view (drop (i + 1) vs)))) in
    sym one ∙ so_far

pub stops : {A : Type 0} (e : FieldError) (f : Data → Option A) (front : List A) (vs : List Value) (i : ℕ) (d : Value) (total : Option (List A)) → i < length vs → IsRefused e (f (view (get_or vs i d)))
    → with_front front (each f (items_view (drop i vs))) ≡ total → IsRefused e total
stops errors.OutOfMemory f front vs i d total lt h so_far = tt
stops errors.Refused f front vs i d total lt h so_far =
    let one : with_front front (each f (items_view (drop i vs))) ≡ None = rw (items_view-drop vs i d lt, h) refl in
    sym so_far ∙ one

pub is_done : {A : Type 0} (f : Data → Option A) (front : List A) (vs : List Value) (i : ℕ) (total : Option (List A)) → length vs ≤ i
    → with_front front (each f (items_view (drop i vs))) ≡ total → total ≡ Some front
is_done f front vs i total le so_far =
    let one : with_front front (each f (items_view (drop i vs))) ≡ Some front = rw (drop_all i vs le) (ap Some (append-nil front)) in
    sym so_far ∙ one
