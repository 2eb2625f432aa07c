-- Texts in order, each once.
use Rattle.std.proofs.Common.{◌≡◌, ℕ, Bool, true, false, ◌&&◌, ◌||◌, cond, List, [], ◌∷◌, refl, sym, ◌∙◌, ap}
use Rattle.std.proofs.lemmas.Bool.{true≢false, false≢true, and_parts}
use Rattle.std.specs.Prelude.{filter}
use Rattle.std.specs.List.{list_all}
use Rattle.xml_items.proofs.AsciiTexts.{same_from}
use Rattle.document_model.specs.Characters.{◌is◌}
use Rattle.document_model.specs.Canonical.{is_before, placed, is_among, with_prefix}
use Rattle.document_model.proofs.ListOrder.{before_itself, before_on, before_one_way, before_or_same}
use Rattle.canon_methods.proofs.Texts.{is_same, is_itself, is_turned}
use Rattle.canon_tags.specs.Scoped.{is_ordered}

-- One text before another.

pub before_different : (a b : List ℕ) → is_before b a ≡ false → (a is b) ≡ false → is_before a b ≡ true
before_different a b e f = go (is_before a b) refl
  where
    go : (r : Bool) → is_before a b ≡ r → r ≡ true
    go true g = refl
    go false g = absurd (false≢true (sym f ∙ same_from a b (before_or_same a b g e)))

-- Tests of lists.

pub or_parts : (x y : Bool) → (x || y) ≡ false → (x ≡ false) × (y ≡ false)
or_parts true y e = absurd (true≢false e)
or_parts false y e = (refl, e)

pub and_both : (x y : Bool) → x ≡ true → y ≡ true → (x && y) ≡ true
and_both x y e f = (λ i. e i && f i)

pub all_after : (x y : List ℕ) (zs : List (List ℕ)) → is_before y x ≡ true → list_all (is_before x) zs ≡ true → list_all (is_before y) zs ≡ true
all_after x y [] e h = refl
all_after x y (z ∷ zs) e h =
    let p = and_parts (is_before x z) (list_all (is_before x) zs) h in
    and_both (is_before y z) (list_all (is_before y) zs) (before_on y x z e p.0) (all_after x y zs e p.1)

pub among_after : (x q : List ℕ) (zs : List (List ℕ)) → list_all (is_before x) zs ≡ true → is_among q zs ≡ true → is_before x q ≡ true
among_after x q [] h e = absurd (false≢true e)
among_after x q (z ∷ zs) h e = go (among_after x q zs) (q is z) refl
  where
    go : (list_all (is_before x) zs ≡ true → is_among q zs ≡ true → is_before x q ≡ true) → (r : Bool) → (q is z) ≡ r → is_before x q ≡ true
    go old true f = ap (is_before x) (is_same q z f) ∙ (and_parts (is_before x z) (list_all (is_before x) zs) h).0
    go old false f = old (and_parts (is_before x z) (list_all (is_before x) zs) h).1 (sym (λ i. f i || is_among q zs) ∙ e)

placed_all : (p : List ℕ → Bool) (x : List ℕ) (ys : List (List ℕ)) → p x ≡ true → list_all p ys ≡ true → list_all p (placed is_before x ys) ≡ true
placed_all p x [] e h = and_both (p x) true e refl
placed_all p x (y ∷ ys) e h = go (placed_all p x ys e) (is_before y x)
  where
    go : (list_all p ys ≡ true → list_all p (placed is_before x ys) ≡ true) → (r : Bool) → list_all p (cond r (y ∷ placed is_before x ys) (x ∷ y ∷ ys)) ≡ true
    go old true = let q = and_parts (p y) (list_all p ys) h in and_both (p y) (list_all p (placed is_before x ys)) q.0 (old q.1)
    go old false = and_both (p x) (list_all p (y ∷ ys)) e h

placed_ordered : (x : List ℕ) (ys : List (List ℕ)) → is_ordered ys ≡ true → is_among x ys ≡ false → is_ordered (placed is_before x ys) ≡ true
placed_ordered x [] h e = refl
placed_ordered x (y ∷ ys) h e = go (placed_ordered x ys) (is_before y x) refl
  where
    go : (is_ordered ys ≡ true → is_among x ys ≡ false → is_ordered (placed is_before x ys) ≡ true) → (r : Bool) → is_before y x ≡ r → is_ordered (cond r (y ∷ placed is_before x ys) (x ∷ y ∷ ys)) ≡ true
    go old true f = let q = and_parts (list_all (is_before y) ys) (is_ordered ys) h in
        and_both (list_all (is_before y) (placed is_before x ys)) (is_ordered (placed is_before x ys)) (placed_all (is_before y) x ys f q.0)
        (old q.1 (or_parts (x is y) (is_among x ys) e).1)
    go old false f =
        let q = and_parts (list_all (is_before y) ys) (is_ordered ys) h in
        let g : is_before x y ≡ true = before_different x y f (or_parts (x is y) (is_among x ys) e).0 in
        and_both (list_all (is_before x) (y ∷ ys)) (is_ordered (y ∷ ys)) (and_both (is_before x y) (list_all (is_before x) ys) g (all_after y x ys g q.0)) h

pub with_ordered : (x : List ℕ) (ys : List (List ℕ)) → is_ordered ys ≡ true → is_ordered (with_prefix x ys) ≡ true
with_ordered x ys h = go (is_among x ys) refl
  where
    go : (r : Bool) → is_among x ys ≡ r → is_ordered (cond r ys (placed is_before x ys)) ≡ true
    go true e = h
    go false e = placed_ordered x ys h e

or_turned : (x y z : Bool) → (x || (y || z)) ≡ (y || (x || z))
or_turned true true z = refl
or_turned true false z = refl
or_turned false y z = refl

among_placed : (q x : List ℕ) (ys : List (List ℕ)) → is_among q (placed is_before x ys) ≡ ((q is x) || is_among q ys)
among_placed q x [] = refl
among_placed q x (y ∷ ys) = go (among_placed q x ys) (is_before y x)
  where
    go : is_among q (placed is_before x ys) ≡ ((q is x) || is_among q ys) → (r : Bool) → is_among q (cond r (y ∷ placed is_before x ys) (x ∷ y ∷ ys)) ≡ ((q is x) || ((q is y) || is_among q ys))
    go old true = ap (λ b. (q is y) || b) old ∙ or_turned (q is y) (q is x) (is_among q ys)
    go old false = refl

pub among_with : (q x : List ℕ) (ys : List (List ℕ)) → is_among q (with_prefix x ys) ≡ ((q is x) || is_among q ys)
among_with q x ys = go (is_among x ys) refl
  where
    here : is_among x ys ≡ true → (r : Bool) → (q is x) ≡ r → is_among q ys ≡ (r || is_among q ys)
    here e true f = ap (λ z. is_among z ys) (is_same q x f) ∙ e
    here e false f = refl

    go : (r : Bool) → is_among x ys ≡ r → is_among q (cond r ys (placed is_before x ys)) ≡ ((q is x) || is_among q ys)
    go true e = here e (q is x) refl
    go false e = among_placed q x ys

pub all_filter : (p w : List ℕ → Bool) (xs : List (List ℕ)) → list_all p xs ≡ true → list_all p (filter w xs) ≡ true
all_filter p w [] h = refl
all_filter p w (x ∷ xs) h = go (all_filter p w xs) (w x)
  where
    go : (list_all p xs ≡ true → list_all p (filter w xs) ≡ true) → (r : Bool) → list_all p (cond r (x ∷ filter w xs) (filter w xs)) ≡ true
    go old true = let q = and_parts (p x) (list_all p xs) h in and_both (p x) (list_all p (filter w xs)) q.0 (old q.1)
    go old false = old (and_parts (p x) (list_all p xs) h).1

pub filter_ordered : (w : List ℕ → Bool) (xs : List (List ℕ)) → is_ordered xs ≡ true → is_ordered (filter w xs) ≡ true
filter_ordered w [] h = refl
filter_ordered w (x ∷ xs) h = go (filter_ordered w xs) (w x)
  where
    go : (is_ordered xs ≡ true → is_ordered (filter w xs) ≡ true) → (r : Bool) → is_ordered (cond r (x ∷ filter w xs) (filter w xs)) ≡ true
    go old true = let q = and_parts (list_all (is_before x) xs) (is_ordered xs) h in
        and_both (list_all (is_before x) (filter w xs)) (is_ordered (filter w xs)) (all_filter (is_before x) w xs q.0) (old q.1)
    go old false = old (and_parts (list_all (is_before x) xs) (is_ordered xs) h).1

-- of a list, those that pass a test
pub among_filter : (q : List ℕ) (w : List ℕ → Bool) (xs : List (List ℕ)) → is_among q (filter w xs) ≡ (is_among q xs && w q)
among_filter q w [] = refl
among_filter q w (x ∷ xs) = go (among_filter q w xs) (w x) refl (q is x) refl
  where
    none : (b : Bool) → (b && false) ≡ false
    none true = refl
    none false = refl

    go : is_among q (filter w xs) ≡ (is_among q xs && w q) → (r : Bool) → w x ≡ r → (s : Bool) → (q is x) ≡ s
        → is_among q (cond r (x ∷ filter w xs) (filter w xs)) ≡ ((s || is_among q xs) && w q)
    go old true e true f = (λ i. f i || is_among q (filter w xs)) ∙ sym (ap w (is_same q x f) ∙ e)
    go old true e false f = (λ i. f i || is_among q (filter w xs)) ∙ old
    go old false e true f = let g : w q ≡ false = ap w (is_same q x f) ∙ e in old ∙ ap (λ b. is_among q xs && b) g ∙ none (is_among q xs) ∙ sym g
    go old false e false f = old

-- Lists in order with the same members are the same.

-- a member of the one that isn't first in the other comes behind the first there
behind : (a b : List ℕ) (bs : List (List ℕ)) → list_all (is_before b) bs ≡ true → ((a is b) || is_among a bs) ≡ true → (a is b) ≡ false → is_before b a ≡ true
behind a b bs k e f = among_after b a bs k (sym (λ i. f i || is_among a bs) ∙ e)

absent : (q z : List ℕ) (zs : List (List ℕ)) → list_all (is_before z) zs ≡ true → (q is z) ≡ true → is_among q zs ≡ false
absent q z zs k f = no (is_among q zs) refl
  where
    no : (r : Bool) → is_among q zs ≡ r → r ≡ false
    no false m = refl
    no true m = absurd (false≢true (sym (before_itself z) ∙ sym (ap (is_before z) (is_same q z f)) ∙ among_after z q zs k m))

behind_same : (x y : List ℕ) (xs ys : List (List ℕ)) → list_all (is_before x) xs ≡ true → list_all (is_before y) ys ≡ true → x ≡ y
    → ((q : List ℕ) → is_among q (x ∷ xs) ≡ is_among q (y ∷ ys)) → (q : List ℕ) → is_among q xs ≡ is_among q ys
behind_same x y xs ys g h e same q = by (q is x) refl
  where
    by : (r : Bool) → (q is x) ≡ r → is_among q xs ≡ is_among q ys
    by true f = absent q x xs g f ∙ sym (absent q y ys h (sym (ap (λ z. q is z) e) ∙ f))
    by false f = sym (λ i. f i || is_among q xs) ∙ same q ∙ (λ i. (sym (ap (λ z. q is z) e) ∙ f) i || is_among q ys)

both_ordered : (x y : List ℕ) (xs ys : List (List ℕ)) → is_ordered (x ∷ xs) ≡ true → is_ordered (y ∷ ys) ≡ true
    → ((q : List ℕ) → is_among q (x ∷ xs) ≡ is_among q (y ∷ ys))
    → (is_ordered xs ≡ true → is_ordered ys ≡ true → ((q : List ℕ) → is_among q xs ≡ is_among q ys) → xs ≡ ys) → x ∷ xs ≡ y ∷ ys
both_ordered x y xs ys g h same old = go (x is y) refl
  where
    gs : (list_all (is_before x) xs ≡ true) × (is_ordered xs ≡ true)
    gs = and_parts (list_all (is_before x) xs) (is_ordered xs) g

    hs : (list_all (is_before y) ys ≡ true) × (is_ordered ys ≡ true)
    hs = and_parts (list_all (is_before y) ys) (is_ordered ys) h

    go : (r : Bool) → (x is y) ≡ r → x ∷ xs ≡ y ∷ ys
    go true e = let f = is_same x y e in let k = old gs.1 hs.1 (behind_same x y xs ys gs.0 hs.0 f same) in (λ i. f i ∷ k i)
    go false e =
        let p : is_before y x ≡ true = behind x y ys hs.0 (sym (same x) ∙ (λ i. is_itself x i || is_among x xs)) e in
        let q : is_before x y ≡ true = behind y x xs gs.0 (same y ∙ (λ i. is_itself y i || is_among y ys)) (is_turned y x ∙ e) in
        absurd (true≢false (sym q ∙ before_one_way y x p))

pub ordered_same : (xs ys : List (List ℕ)) → is_ordered xs ≡ true → is_ordered ys ≡ true → ((q : List ℕ) → is_among q xs ≡ is_among q ys) → xs ≡ ys
ordered_same [] [] g h same = refl
ordered_same [] (y ∷ ys) g h same = absurd (false≢true (same y ∙ (λ i. is_itself y i || is_among y ys)))
ordered_same (x ∷ xs) [] g h same = absurd (false≢true (sym (same x) ∙ (λ i. is_itself x i || is_among x xs)))
ordered_same (x ∷ xs) (y ∷ ys) g h same = both_ordered x y xs ys g h same (ordered_same xs ys)

-- Where one text ends.

pub nothing_before : (a : List ℕ) → is_before a [] ≡ false
nothing_before [] = refl
nothing_before (c ∷ a) = refl

pub ended_first : (a b : List ℕ) (d : ℕ) (ds : List ℕ) → a ≡ [] → b ≡ d ∷ ds → is_before a b ≡ true
ended_first a b d ds e f = (λ i. is_before (e i) (f i))

pub ended_second : (a b : List ℕ) → b ≡ [] → is_before a b ≡ false
ended_second a b e = ap (is_before a) e ∙ nothing_before a

pub with_new : (x : List ℕ) (ys zs : List (List ℕ)) → is_among x ys ≡ false → zs ≡ placed is_before x ys → zs ≡ with_prefix x ys
with_new x ys zs e f = f ∙ sym (ap (λ b. cond b ys (placed is_before x ys)) e)
