-- The places that rows show while they are built, after one more item.
use Rattle.std.proofs.Common.{◌≡◌, ℕ, zero, suc, Bool, true, false, cond, ◌&&◌, List, [], ◌∷◌, ◌++◌, Some, refl, sym, ◌∙◌, ap, subst, nat_eq, inl, inr}
use Rattle.std.proofs.lemmas.Option.{none-some, same_Some}
use Rattle.std.proofs.lemmas.Bool.Decides.{eqb_tells}
use Rattle.std.specs.Prelude.{map, slice_get}
use Rattle.document_model.specs.Tree.{Path}
use Rattle.document_model.specs.NodeSets.{is_within}
use Rattle.document_model.specs.Places.{Place}
use Rattle.doc_spans.specs.Marks.{gone_on}
use Rattle.doc_spans.specs.View.{seen_at}
use Rattle.doc_spans.specs.View.{Each, Distinct}
use Rattle.doc_spans.proofs.Marks.{eq_self}
use Rattle.doc_spans.proofs.Named.{paths}
use Rattle.doc_spans.proofs.View.{end_placed}

-- Prefixes of paths.

never : (b : Bool) → (b && false) ≡ false
never true = refl
never false = refl

pub within_more : (path outer : Path) (c : ℕ) → (path ≡ outer ++ c ∷ [] → ⊥) → is_within path (outer ++ c ∷ []) ≡ is_within path outer
within_more [] outer c h = refl
within_more (k ∷ path) (j ∷ outer) c h = elim (eqb_tells k j) [
  | inl t ↦
      ap (λ b. b && is_within path (outer ++ c ∷ [])) t.0
      ∙ within_more path outer c (λ e. h (λ i. (t.1 i ∷ e i)))
      ∙ sym (ap (λ b. b && is_within path outer) t.0)
  | inr t ↦ ap (λ b. b && is_within path (outer ++ c ∷ [])) t.0 ∙ sym (ap (λ b. b && is_within path outer) t.0)
]
within_more (k ∷ j ∷ path) [] c h = never (nat_eq k c)
within_more (k ∷ []) [] c h = elim (eqb_tells k c) [ inl t ↦ absurd (h (ap (λ n. n ∷ []) t.1)) | inr t ↦ ap (λ b. b && true) t.0 ]

pub not_within : (outer : Path) (c : ℕ) → is_within (outer ++ c ∷ []) outer ≡ false
not_within [] c = refl
not_within (k ∷ outer) c = ap (λ b. b && is_within (outer ++ c ∷ []) outer) (eq_self k) ∙ not_within outer c

-- a path within the outer part is within
pub within_shorter : (path outer : Path) (c : ℕ) → is_within path outer ≡ true → is_within path (outer ++ c ∷ []) ≡ true
within_shorter [] outer c e = refl
within_shorter (k ∷ path) [] c e = cc
within_shorter (k ∷ path) (j ∷ outer) c e = elim (eqb_tells k j) [
  | inl t ↦ ap (λ b. b && is_within path (outer ++ c ∷ [])) t.0 ∙ within_shorter path outer c (sym (ap (λ b. b && is_within path outer) t.0) ∙ e)
  | inr t ↦ (let f : false ≡ true = sym (ap (λ b. b && is_within path outer) t.0) ∙ e in (cc))
]

-- One place.

-- a place that is no matter of the item, or is an open element's
pub others : (q outer new : Path) (at behind : ℕ) (place : Place) → is_within place.path q ≡ is_within place.path outer → is_within place.path new ≡ is_within place.path outer
    → gone_on q at behind (seen_at outer at place) ≡ seen_at new behind place
others q outer new at behind place e f = by_test (is_within place.path outer) e ∙ sym (ap (λ b. cond b (record place { end = behind }) place) f)
  where
    by_test : (w : Bool) → is_within place.path q ≡ w → gone_on q at behind (cond w (record place { end = at }) place) ≡ cond w (record place { end = behind }) place
    by_test true e =
        ap (λ b. cond (b && nat_eq at at) (record place { end = behind }) (record place { end = at })) e
        ∙ ap (λ b. cond b (record place { end = behind }) (record place { end = at })) (eq_self at)
    by_test false e = ap (λ b. cond (b && nat_eq place.end at) (record place { end = behind }) place) e

-- the element that ends
pub ends_here : (q new : Path) (at behind : ℕ) (place : Place) → is_within place.path q ≡ true → is_within place.path new ≡ false
    → gone_on q at behind (seen_at q at place) ≡ seen_at new behind (record place { end = behind })
ends_here q new at behind place e f =
    ap (λ b. gone_on q at behind (cond b (record place { end = at }) place)) e
    ∙ ap (λ b. cond (b && nat_eq at at) (record place { end = behind }) (record place { end = at })) e
    ∙ ap (λ b. cond b (record place { end = behind }) (record place { end = at })) (eq_self at)
    ∙ sym (ap (λ b. cond b (record place { end = behind }) (record place { end = behind })) f)

-- the text that goes on
pub goes_on_here : (q outer : Path) (at behind : ℕ) (place : Place) → is_within place.path q ≡ true → is_within place.path outer ≡ false → place.end ≡ at
    → gone_on q at behind (seen_at outer at place) ≡ seen_at outer behind (record place { end = behind })
goes_on_here q outer at behind place e f here =
    ap (λ b. gone_on q at behind (cond b (record place { end = at }) place)) f
    ∙ ap (λ b. cond (b && nat_eq place.end at) (record place { end = behind }) place) e
    ∙ ap (λ n. cond (nat_eq n at) (record place { end = behind }) place) here
    ∙ ap (λ b. cond b (record place { end = behind }) place) (eq_self at)
    ∙ sym (ap (λ b. cond b (record place { end = behind }) (record place { end = behind })) f)

-- All of them.

IsOther : Path → Path → Type 0
IsOther q path = path ≡ q → ⊥

pub all_same : (f g : Place → Place) (q : Path) → ((place : Place) → (place.path ≡ q → ⊥) → f place ≡ g place)
    → (ps : List Place) → Each (λ path. path ≡ q → ⊥) (paths ps) → map f ps ≡ map g ps
all_same f g q same [] h = refl
all_same f g q same (place ∷ ps) h = (λ i. (same place h.0 i ∷ all_same f g q same ps h.1 i))

-- but one, which gets another end
pub all_but_one : (f g : Place → Place) (q : Path) (n : ℕ) → ((place : Place) → (place.path ≡ q → ⊥) → f place ≡ g place)
    → (ps : List Place) (k : ℕ) (place : Place) → slice_get ps k ≡ Some place → place.path ≡ q → Distinct (paths ps)
    → f place ≡ g (record place { end = n }) → map f ps ≡ map g (end_placed k n ps)
all_but_one f g q n same [] k place e p d one = absurd (none-some place e)
all_but_one f g q n same (first ∷ ps) zero place e p d one =
    let is : first ≡ place = same_Some first place e in
    let P : Place → Type 0 = λ x. f x ≡ g (record x { end = n }) in
    let here : f first ≡ g (record first { end = n }) = subst P (sym is) one in
    let at : first.path ≡ q = ap (λ x. x.path) is ∙ p in
    let Q : Path → Type 0 = λ r. Each (λ path. path ≡ r → ⊥) (paths ps) in
    (λ i. (here i ∷ all_same f g q same ps (subst Q at d.0) i))
all_but_one f g q n same (first ∷ ps) (suc k) place e p d one =
    let apart : first.path ≡ q → ⊥ = λ is. get_other ps k place e d.0 (p ∙ sym is) in
    (λ i. (same first apart i ∷ all_but_one f g q n same ps k place e p d.1 one i))
  where
    get_other : {r : Path} (ps : List Place) (k : ℕ) (place : Place) → slice_get ps k ≡ Some place → Each (λ path. path ≡ r → ⊥) (paths ps) → place.path ≡ r → ⊥
    get_other [] k place e d = absurd (none-some place e)
    get_other (x ∷ ps) zero place e d = λ p. d.0 (ap (λ y. y.path) (same_Some x place e) ∙ p)
    get_other (x ∷ ps) (suc k) place e d = get_other ps k place e d.1
