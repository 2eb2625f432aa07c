-- Bytes are whole objects one after another in one way at most.
use Rattle.std.proofs.Common.{◌≡◌, ℕ, ◌≤◌, true, false, cond, List, [], ◌∷◌, ◌++◌, length, drop, Result, ◌+◌, Some, Ok, Err, refl, sym, ◌∙◌, ap, arith, append_assoc, length-append}
use Rattle.std.proofs.Math.Seq.{drop-append_seam}
use Rattle.std.proofs.lemmas.List.Elements.{All-head, All-tail}
use Rattle.std.specs.List.{All, concat}
use Rattle.std.specs.Prelude.{filter}
use Rattle.der_values.specs.Element.{Element, element_at}
use Rattle.der_values.specs.Fits.{Fits, IsElement}
use Rattle.der_values.specs.Layout.{read_object}
use Rattle.der_values.proofs.ElementLaws.{element_again}
use Rattle.der_values.proofs.FitsLaws.{read_object-fits}
use Rattle.x509_certs.specs.Data.{begins_with_0, behind, layout_of, object_in}
use Rattle.x509_certs.specs.Layouts.{certificate, revocation_list}
use Rattle.item_contents.specs.Materials.{IsWholePart, is_list, IsBadAt, MaterialIsOne}

-- An object is the element in front.

pub record IsFront (part rest : List ℕ) : Type 0 where
  pub element : Element
  pub found : element_at (part ++ rest) ≡ Some element
  pub whole : part ≡ element.whole

is_element : (part : List ℕ) → IsWholePart part → (e : Element) × IsElement e × (part ≡ e.whole)
unfolding Fits
is_element part w = elim (begins_with_0 part) as (λ b. Fits (cond b certificate revocation_list) [] part [] → (e : Element) × IsElement e × (part ≡ e.whole)) [
  | true ↦ λ f. (f.0, f.1, f.2)
  | false ↦ λ f. (f.0, f.1, f.2)
] w.fits

pub front_of : (part rest : List ℕ) → IsWholePart part → IsFront part rest
front_of part rest w =
    let e = is_element part w in record {
      element = e.0;
      found = ap (λ x. element_at (x ++ rest)) e.2 ∙ element_again e.0 rest e.1;
      whole = e.2;
    }

same_part : (p q x y : List ℕ) → IsWholePart p → IsWholePart q → p ++ x ≡ q ++ y → p ≡ q
same_part p q x y wp wq e =
    let a = front_of p x wp in
    let b = front_of q y wq in
    let found : Some a.element ≡ Some b.element = sym a.found ∙ ap element_at e ∙ b.found in
    let same : a.element ≡ b.element = cc in
    a.whole ∙ ap (λ (e : Element). e.whole) same ∙ sym b.whole

same_rest : (p q x y : List ℕ) → p ≡ q → p ++ x ≡ q ++ y → x ≡ y
same_rest p q x y same e = sym (drop-append_seam p x) ∙ ap (drop (length p)) (e ∙ ap (λ (z : List ℕ). z ++ y) (sym same)) ∙ drop-append_seam p y

not_nothing : (p x : List ℕ) → IsWholePart p → [] ≡ p ++ x → ⊥
not_nothing p x w e = let some = w.some in let long : 0 ≡ length p + length x = ap length e ∙ length-append p x in absurd (omega (arith, some, long))

-- no object stands in front of a bad element
not_front : (k at : ℕ) (rest part more : List ℕ) → IsWholePart part → rest ≡ part ++ more → object_in k (element_at rest) ≡ Err at → ⊥
not_front k at rest part more w e bad =
    let a = front_of part more w in
    let there : element_at rest ≡ Some a.element = ap element_at e ∙ a.found in
    let right : read_object (layout_of a.element.whole) a.element.whole ≡ Ok (length part) = ap (λ x. read_object (layout_of x) x) (sym a.whole) ∙ (read_object-fits (layout_of part) part).1 w in
    let found : Ok (length part) ≡ Err at = ap (behind k) (sym right) ∙ ap (object_in k) (sym there) ∙ bad in
    absurd (no_such found)
  where
    no_such : {n m : ℕ} → Ok n ≡ Err m → ⊥
    no_such f = cc

-- Two ways.

pub same_parts : (a b : List (List ℕ)) → All IsWholePart a → All IsWholePart b → concat a ≡ concat b → a ≡ b
same_parts [] [] wa wb e = refl
same_parts [] (q ∷ b) wa wb e = absurd (not_nothing q (concat b) (All-head IsWholePart q b wb) e)
same_parts (p ∷ a) [] wa wb e = absurd (not_nothing p (concat a) (All-head IsWholePart p a wa) (sym e))
same_parts (p ∷ a) (q ∷ b) wa wb e =
    let same = same_part p q (concat a) (concat b) (All-head IsWholePart p a wa) (All-head IsWholePart q b wb) e in
    let others = same_parts a b (All-tail IsWholePart p a wa) (All-tail IsWholePart q b wb) (same_rest p q (concat a) (concat b) same e) in
    (λ i. same i ∷ others i)

pub not_both : (k at : ℕ) (a b : List (List ℕ)) (rest : List ℕ) → All IsWholePart a → All IsWholePart b → 1 ≤ length rest → concat a ≡ concat b ++ rest → object_in k (element_at rest) ≡ Err at → ⊥
not_both k at [] [] rest wa wb some e bad = let none : 0 ≡ length rest = ap length e in absurd (omega (arith, some, none))
not_both k at (p ∷ a) [] rest wa wb some e bad = not_front k at rest p (concat a) (All-head IsWholePart p a wa) (sym e) bad
not_both k at [] (q ∷ b) rest wa wb some e bad = not_nothing q (concat b ++ rest) (All-head IsWholePart q b wb) (e ∙ append_assoc q (concat b) rest)
not_both k at (p ∷ a) (q ∷ b) rest wa wb some e bad =
    let f : p ++ concat a ≡ q ++ (concat b ++ rest) = e ∙ append_assoc q (concat b) rest in
    let same = same_part p q (concat a) (concat b ++ rest) (All-head IsWholePart p a wa) (All-head IsWholePart q b wb) f in
    not_both k at a b rest (All-tail IsWholePart p a wa) (All-tail IsWholePart q b wb) some (same_rest p q (concat a) (concat b ++ rest) same f) bad

record AreSame (a b : List (List ℕ)) (x y : List ℕ) : Type 0 where
  pub parts : a ≡ b
  pub rest : x ≡ y

same_bad : (k m at place : ℕ) (a b : List (List ℕ)) (x y : List ℕ) → All IsWholePart a → All IsWholePart b → concat a ++ x ≡ concat b ++ y
    → object_in k (element_at x) ≡ Err at → object_in m (element_at y) ≡ Err place → AreSame a b x y
same_bad k m at place [] [] x y wa wb e f g = record { parts = refl; rest = e }
same_bad k m at place [] (q ∷ b) x y wa wb e f g = absurd (not_front k at x q (concat b ++ y) (All-head IsWholePart q b wb) (e ∙ append_assoc q (concat b) y) f)
same_bad k m at place (p ∷ a) [] x y wa wb e f g = absurd (not_front m place y p (concat a ++ x) (All-head IsWholePart p a wa) (sym e ∙ append_assoc p (concat a) x) g)
same_bad k m at place (p ∷ a) (q ∷ b) x y wa wb e f g =
    let h : p ++ (concat a ++ x) ≡ q ++ (concat b ++ y) = sym (append_assoc p (concat a) x) ∙ e ∙ append_assoc q (concat b) y in
    let same = same_part p q (concat a ++ x) (concat b ++ y) (All-head IsWholePart p a wa) (All-head IsWholePart q b wb) h in
    let others = same_bad k m at place a b x y (All-tail IsWholePart p a wa) (All-tail IsWholePart q b wb) (same_rest p q (concat a ++ x) (concat b ++ y) same h) f g in
    record { parts = (λ i. same i ∷ others.parts i); rest = others.rest }

abbrev wrong : ℕ → Result ℕ ℕ
wrong at = Err at

bad_is_one : (bytes : List ℕ) (at place : ℕ) → IsBadAt bytes at → IsBadAt bytes place → at ≡ place
bad_is_one bytes at place a b =
    let same = same_bad (length (concat a.parts)) (length (concat b.parts)) at place a.parts b.parts a.rest b.rest a.whole b.whole (a.joined ∙ sym b.joined) a.bad b.bad in
    let found : wrong at ≡ wrong place = sym a.bad ∙ (λ i. object_in (length (concat (same.parts i))) (element_at (same.rest i))) ∙ b.bad in
    let result : at ≡ place = cc in result

pub material_is_one : MaterialIsOne
material_is_one bytes = (
  λ certificates lists others more a b.
      let same = same_parts a.parts b.parts a.whole b.whole (a.joined ∙ sym b.joined) in
      (a.certificates_are ∙ ap (filter begins_with_0) same ∙ sym b.certificates_are, a.lists_are ∙ ap (filter is_list) same ∙ sym b.lists_are),
  λ at place a b. bad_is_one bytes at place a b,
  λ certificates lists at a b. not_both (length (concat b.parts)) at a.parts b.parts b.rest a.whole b.whole b.some (a.joined ∙ sym b.joined) b.bad,
)
