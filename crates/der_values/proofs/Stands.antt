-- What fits a layout has its elements at their numbers.
use Rattle.std.proofs.Common.{◌≡◌, ℕ, suc, List, [], ◌++◌, Some, sym, ap, subst, ◌∙◌, IsTrue}
use Rattle.std.proofs.lemmas.List.{append-nil}
use Rattle.std.proofs.Math.Seq.{drop-append_seam}
use Rattle.der_values.specs.Element.{Element}
use Rattle.der_values.specs.Rules.{nth, allows}
use Rattle.der_values.specs.declared.rules.Rule.{Rule}
use Rattle.der_values.specs.Layout.{Layout, both, element}
use Rattle.der_values.specs.Fits.{Fits, IsElement}
use Rattle.der_values.proofs.ElementLaws.{element_again}

pub nth_first : (e : Element) (rest : List ℕ) → IsElement e → nth 0 (e.whole ++ rest) ≡ Some e
unfolding nth
nth_first e rest is = element_again e rest is

pub nth_later : (e : Element) (rest : List ℕ) (k : ℕ) → IsElement e → nth (suc k) (e.whole ++ rest) ≡ nth k rest
unfolding nth
nth_later e rest k is = rw (element_again e rest is) (ap (nth k) (drop-append_seam e.whole rest))

-- An element at the front, and what the rest has to be.
pub record Stands (tag : ℕ) (rule : Rule) (inner back : Layout) (before these after : List ℕ) : Type 0 where
  pub e : Element
  pub rest : List ℕ
  pub is_element : IsElement e
  pub split : these ≡ e.whole ++ rest
  pub tag_is : e.tag ≡ tag
  pub meets : IsTrue (allows rule before e)
  pub holds : Fits inner [] e.content []
  pub others : Fits back (before ++ e.whole) rest after
  pub first : nth 0 these ≡ Some e
  pub later : (k : ℕ) → nth (suc k) these ≡ nth k rest

pub stands : (tag : ℕ) (rule : Rule) (inner back : Layout) (before these after : List ℕ) → Fits (both (element tag rule inner) back) before these after → Stands tag rule inner back before these after
unfolding Fits
stands tag rule inner back before these after f =
    let e = f.3.0 in
    let split : these ≡ e.whole ++ f.1 = f.2 ∙ ap (λ (xs : List ℕ). xs ++ f.1) f.3.2 in
    record {
      e = e;
      rest = f.1;
      is_element = f.3.1;
      split = split;
      tag_is = f.3.3;
      meets = f.3.4;
      holds = f.3.5;
      others = subst (λ (xs : List ℕ). Fits back (before ++ xs) f.1 after) f.3.2 f.4;
      first = ap (nth 0) split ∙ nth_first e f.1 f.3.1;
      later = λ k. ap (nth (suc k)) split ∙ nth_later e f.1 k f.3.1;
    }

-- An element that is all.
pub record StandsAlone (tag : ℕ) (rule : Rule) (inner : Layout) (before these : List ℕ) : Type 0 where
  pub e : Element
  pub is_element : IsElement e
  pub all : these ≡ e.whole
  pub tag_is : e.tag ≡ tag
  pub meets : IsTrue (allows rule before e)
  pub holds : Fits inner [] e.content []
  pub first : nth 0 these ≡ Some e

pub stands_alone : (tag : ℕ) (rule : Rule) (inner : Layout) (before these after : List ℕ) → Fits (element tag rule inner) before these after → StandsAlone tag rule inner before these
unfolding Fits
stands_alone tag rule inner before these after f = record {
  e = f.0;
  is_element = f.1;
  all = f.2;
  tag_is = f.3;
  meets = f.4;
  holds = f.5;
  first = ap (nth 0) (f.2 ∙ sym (append-nil f.0.whole)) ∙ nth_first f.0 [] f.1;
}
