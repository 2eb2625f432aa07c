-- Lists of numbers in the order of their first difference, where a list comes before what it is the front of: a strict total order.
-- It is that of texts by code points, and of paths in document order.
use Rattle.std.proofs.Common.{◌≡◌, ℕ, ◌<◌, Bool, true, false, ◌&&◌, ◌||◌, ◌==◌, ltb, ◌⊎◌, List, [], ◌∷◌, ◌++◌, refl, sym, ◌∙◌, ap, inl, inr, arith, le_of_lt}
use Rattle.std.proofs.lemmas.Bool.{true≢false, false≢true, eq-eqb, ne_eqb, lt-ltb, le-ltb, cases_order}
use Rattle.document_model.specs.Canonical.{is_before}

-- By the first numbers.

before_here : (c d : ℕ) (a b : List ℕ) (less same : Bool) → ltb c d ≡ less → (c == d) ≡ same
    → is_before (c ∷ a) (d ∷ b) ≡ (less || (same && is_before a b))
before_here c d a b less same e f = (λ i. e i || (f i && is_before a b))

pub before_same : (c d : ℕ) (a b : List ℕ) → c ≡ d → is_before (c ∷ a) (d ∷ b) ≡ is_before a b
before_same c d a b e = before_here c d a b false true (le-ltb c d (omega (arith, e))) (eq-eqb c d e)

pub before_less : (c d : ℕ) (a b : List ℕ) → c < d → is_before (c ∷ a) (d ∷ b) ≡ true
before_less c d a b h = before_here c d a b true (c == d) (lt-ltb c d h) refl

before_more : (c d : ℕ) (a b : List ℕ) → d < c → is_before (c ∷ a) (d ∷ b) ≡ false
before_more c d a b h = before_here c d a b false false (le-ltb c d (le_of_lt h)) (ne_eqb c d (λ e. omega (arith, e, h)))

pub empty_before : (a : List ℕ) (d : ℕ) → is_before [] (a ++ d ∷ []) ≡ true
empty_before [] d = refl
empty_before (c ∷ a) d = refl

-- No list comes before itself.
pub before_itself : (a : List ℕ) → is_before a a ≡ false
before_itself [] = refl
before_itself (c ∷ a) = before_same c c a a refl ∙ before_itself a

-- The order goes on.
pub before_on : (a b x : List ℕ) → is_before a b ≡ true → is_before b x ≡ true → is_before a x ≡ true
before_on [] [] x e f = absurd (false≢true e)
before_on [] (d ∷ b) [] e f = absurd (false≢true f)
before_on [] (d ∷ b) (k ∷ x) e f = refl
before_on (c ∷ a) [] x e f = absurd (false≢true e)
before_on (c ∷ a) (d ∷ b) [] e f = absurd (false≢true f)
before_on (c ∷ a) (d ∷ b) (k ∷ x) e f = go (before_on a b x) (cases_order c d) (cases_order d k)
  where
    go : (is_before a b ≡ true → is_before b x ≡ true → is_before a x ≡ true) → (c ≡ d) ⊎ ((c < d) ⊎ (d < c)) → (d ≡ k) ⊎ ((d < k) ⊎ (k < d))
        → is_before (c ∷ a) (k ∷ x) ≡ true
    go old (inl p) (inl q) = before_same c k a x (p ∙ q) ∙ old (sym (before_same c d a b p) ∙ e) (sym (before_same d k b x q) ∙ f)
    go old (inl p) (inr (inl q)) = before_less c k a x (omega (arith, p, q))
    go old (inr (inl p)) (inl q) = before_less c k a x (omega (arith, p, q))
    go old (inr (inl p)) (inr (inl q)) = before_less c k a x (omega (arith, p, q))
    go old (inr (inr p)) q = absurd (false≢true (sym (before_more c d a b p) ∙ e))
    go old p (inr (inr q)) = absurd (false≢true (sym (before_more d k b x q) ∙ f))

-- Of two lists at most one comes before the other.
pub before_one_way : (a b : List ℕ) → is_before a b ≡ true → is_before b a ≡ false
before_one_way a b e = go (is_before b a) refl
  where
    go : (r : Bool) → is_before b a ≡ r → r ≡ false
    go false f = refl
    go true f = absurd (false≢true (sym (before_itself a) ∙ before_on a b a e f))

-- Of two different lists one comes before the other.
pub before_or_same : (a b : List ℕ) → is_before a b ≡ false → is_before b a ≡ false → a ≡ b
before_or_same [] [] e f = refl
before_or_same [] (d ∷ b) e f = absurd (true≢false e)
before_or_same (c ∷ a) [] e f = absurd (true≢false f)
before_or_same (c ∷ a) (d ∷ b) e f = go (before_or_same a b) (cases_order c d)
  where
    go : (is_before a b ≡ false → is_before b a ≡ false → a ≡ b) → (c ≡ d) ⊎ ((c < d) ⊎ (d < c)) → c ∷ a ≡ d ∷ b
    go old (inl p) = let q : a ≡ b = old (sym (before_same c d a b p) ∙ e) (sym (before_same d c b a (sym p)) ∙ f) in (λ i. p i ∷ q i)
    go old (inr (inl p)) = absurd (true≢false (sym (before_less c d a b p) ∙ e))
    go old (inr (inr p)) = absurd (true≢false (sym (before_less d c b a p) ∙ f))

-- That one list doesn't come before another goes on as well.
pub not_before_on : (a b x : List ℕ) → is_before a b ≡ false → is_before b x ≡ false → is_before a x ≡ false
not_before_on a b x e f = go (is_before a x) refl (is_before x b) refl
  where
    go : (r : Bool) → is_before a x ≡ r → (s : Bool) → is_before x b ≡ s → r ≡ false
    go false g s h = refl
    go true g true h = absurd (true≢false (sym (before_on a x b g h) ∙ e))
    go true g false h = absurd (true≢false (sym g ∙ ap (is_before a) (sym (before_or_same b x f h)) ∙ e))
