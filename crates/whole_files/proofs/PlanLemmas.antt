-- Files read in their order: what holds of none that is left holds of all.
use Rattle.std.proofs.Common.{◌≡◌, ℕ, ◌+◌, ◌<◌, ◌≤◌, List, [], ◌∷◌, ◌++◌, length, drop, map, refl, inl, inr, add-one, drop-cons, slice_index_or, subst}
use Rattle.std.proofs.lemmas.List.{append-nil, drop_all}
use Rattle.xa_io.specs.Shelf.{Files}
use Rattle.whole_files.specs.Asking.{Asked, AsksInOrder, asked_times}
use Rattle.whole_files.specs.Wants.{Want, Held, want_of, names_of, AreFor, AreHeld}
use Rattle.whole_files.specs.declared.file.Wanted.{Wanted}

-- none is asked for
pub asks_none : (names : List (List ℕ)) (before : Asked) → AsksInOrder names before before
asks_none [] before = refl
asks_none (name ∷ names) before = inl refl

-- the first that is left is asked for, and none behind it
pub asks_one : (items : List Wanted) (i : ℕ) (d : Wanted) (before now : Asked) → i < length items → ((n : ℕ) × (now ≡ asked_times before ((slice_index_or items i d).name.now) n)) → AsksInOrder (names_of (map want_of (drop i items))) before now
asks_one items i d before now lt (n, e) =
    let rest : drop i items ≡ slice_index_or items i d ∷ drop (i + 1) items = rw (add-one, drop-cons items i d) refl in
    rw rest (inr (n, subst (λ a. AsksInOrder (names_of (map want_of (drop (i + 1) items))) a now) e (asks_none (names_of (map want_of (drop (i + 1) items))) now)))

-- all were read
pub all_read : (items : List Wanted) (i : ℕ) (wants : List Want) (held : List Held) → length items ≤ i → ((others : List Held) → AreFor (map want_of (drop i items)) others → AreFor wants (held ++ others)) → AreFor wants held
all_read items i wants held le read =
    let none : drop i items ≡ [] = drop_all i items le in
    subst (AreFor wants) (append-nil held) (read [] (rw none tt))

-- and held
pub all_held : (files : Files) (items : List Wanted) (i : ℕ) (wants : List Want) (held : List Held) → length items ≤ i → ((others : List Held) → AreHeld files (map want_of (drop i items)) others → AreHeld files wants (held ++ others)) → AreHeld files wants held
all_held files items i wants held le read =
    let none : drop i items ≡ [] = drop_all i items le in
    subst (AreHeld files wants) (append-nil held) (read [] (rw none tt))
