-- Octets that are appended for one of a list after another.
use Rattle.std.proofs.Common.{◌≡◌, ◌≤◌, ℕ, ◌+◌, List, [], ◌∷◌, ◌++◌, take, length, Some, sym, ◌∙◌, ap, append-nil, take_all}
use Rattle.std.proofs.lemmas.List.{flat_map_more, take_more}
use Rattle.std.proofs.lemmas.Option.{slice_get_within, get_or_from_slice_get}
use Rattle.std.specs.Prelude.{flat_map, slice_get}

-- so many of the list are appended
pub record Joined {X : Type 0} (f : X → List ℕ) (xs : List X) (i : ℕ) (before now : List ℕ) : Type 0 where
  pub is : now ≡ before ++ flat_map f (take i xs)

pub joined_starts : {X : Type 0} (f : X → List ℕ) (xs : List X) (before : List ℕ) → Joined f xs 0 before before
joined_starts f xs before = record { is = sym (append-nil before) }

taken : {X : Type 0} (xs : List X) (i : ℕ) (x : X) → slice_get xs i ≡ Some x → take (i + 1) xs ≡ take i xs ++ x ∷ []
taken xs i x e = take_more xs i x (slice_get_within xs i x e) ∙ ap (λ y. take i xs ++ y ∷ []) (get_or_from_slice_get xs i x x e)

pub joined_on : {X : Type 0} (f : X → List ℕ) (xs : List X) (i : ℕ) (x : X) (before now later : List ℕ) → slice_get xs i ≡ Some x → later ≡ now ++ f x
    → Joined f xs i before now → Joined f xs (i + 1) before later
joined_on f xs i x before now later at e h = record {
  is = e ∙ ap (λ os. os ++ f x) h.is ∙ flat_map_more f before (take i xs) x ∙ ap (λ ys. before ++ flat_map f ys) (sym (taken xs i x at));
}

pub joined_ends : {X : Type 0} (f : X → List ℕ) (xs : List X) (i : ℕ) (before now : List ℕ) → length xs ≤ i → Joined f xs i before now → now ≡ before ++ flat_map f xs
joined_ends f xs i before now past h = h.is ∙ ap (λ ys. before ++ flat_map f ys) (take_all i xs past)

-- four lists that are appended to nothing, of which the first is told in two ways
pub four_joined : (a same b c d nothing one two three four : List ℕ) → nothing ≡ [] → one ≡ nothing ++ a → two ≡ one ++ b → three ≡ two ++ c → four ≡ three ++ d → a ≡ same
    → four ≡ same ++ b ++ c ++ d
four_joined a same b c d nothing one two three four e f g h i s =
    i ∙ ap (λ os. os ++ d) (h ∙ ap (λ os. os ++ c) (g ∙ ap (λ os. os ++ b) (f ∙ ap (λ os. os ++ a) e ∙ s)))
