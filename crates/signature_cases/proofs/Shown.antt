-- The time-stamps that are shown, one property after another.
use Rattle.std.proofs.Common.{◌≡◌, ℕ, ◌+◌, cond, List, [], ◌∷◌, ◌++◌, take, Some, slice_get, sym, ◌∙◌, ap, append_assoc, append-nil}
use Rattle.std.proofs.lemmas.List.{take_more}
use Rattle.std.proofs.lemmas.Option.{slice_get_within, get_or_from_slice_get}
use Rattle.document_model.specs.Tree.{Nodes}
use Rattle.signature_model.specs.Chains.{Handed}
use Rattle.signature_model.specs.Parts.{is_stamp}
use Rattle.signature_model.specs.Spots.{Spot}
use Rattle.signature_evidence.specs.Evidence.{Stamped, stamp_of, stamps_from}

pub taken : {X : Type 0} (xs : List X) (i : ℕ) (x : X) → slice_get xs i ≡ Some x → take (i + 1) xs ≡ take i xs ++ x ∷ []
taken xs i x e = take_more xs i x (slice_get_within xs i x e) ∙ ap (λ y. take i xs ++ y ∷ []) (get_or_from_slice_get xs i x x e)

-- the time-stamp that a property is
abbrev pub one_stamp : Handed → Nodes → Spot → List Spot → Spot → List Stamped
one_stamp handed document signature before property = cond (is_stamp property) (stamp_of handed document signature before property ∷ []) []

last_stamp : (handed : Handed) (document : Nodes) (signature : Spot) (before list : List Spot) (property : Spot)
    → stamps_from handed document signature before (list ++ property ∷ [])
    ≡ stamps_from handed document signature before list ++ one_stamp handed document signature (before ++ list) property
last_stamp handed document signature before [] property =
    append-nil (one_stamp handed document signature before property)
    ∙ ap (λ front. one_stamp handed document signature front property) (sym (append-nil before))
last_stamp handed document signature before (first ∷ list) property =
    ap (λ more. one_stamp handed document signature before first ++ more) (last_stamp handed document signature (before ++ first ∷ []) list property)
    ∙ sym (append_assoc (one_stamp handed document signature before first) (stamps_from handed document signature (before ++ first ∷ []) list)
    (one_stamp handed document signature ((before ++ first ∷ []) ++ list) property))
    ∙ ap (λ front. (one_stamp handed document signature before first ++ stamps_from handed document signature (before ++ first ∷ []) list) ++ one_stamp handed document signature front property)
    (append_assoc before (first ∷ []) list)

pub stamps_more : (handed : Handed) (document : Nodes) (signature : Spot) (spots : List Spot) (i : ℕ) (spot : Spot) → slice_get spots i ≡ Some spot
    → stamps_from handed document signature [] (take (i + 1) spots)
    ≡ stamps_from handed document signature [] (take i spots) ++ one_stamp handed document signature (take i spots) spot
stamps_more handed document signature spots i spot e =
    ap (stamps_from handed document signature []) (taken spots i spot e) ∙ last_stamp handed document signature [] (take i spots) spot
