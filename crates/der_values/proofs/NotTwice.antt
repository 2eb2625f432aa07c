-- Where elements at the front are known to differ, none of these stands twice.
use Rattle.std.proofs.Common.{◌≡◌, ℕ, zero, suc, ◌+◌, ◌<◌, ◌≤◌, Bool, true, false, cond, List, [], ◌∷◌, ◌++◌, length, map, take, drop, slice_get, Option, Some, None, Result, Ok, Err, refl, sym, ap, subst, ◌∙◌, arith, append_assoc, length-append, not}
use Rattle.std.specs.Prelude.{nat_lt, ◌==◌, ◌||◌, if◌then◌else◌}
use Rattle.std.specs.List.{list_any}
use Rattle.std.specs.Str.{bytes_eq}
use Rattle.std.proofs.lemmas.Bool.{ltb-true}
use Rattle.std.proofs.lemmas.List.{append-nil, map-append, length-map, take-append-drop}
use Rattle.std.proofs.lemmas.Option.{slice_get_within}
use Rattle.std.proofs.lemmas.Slice.Eq.{bytes_eq-Decides}
use Rattle.std.proofs.Math.Seq.{take-append_seam, drop-append_seam, take-add}
use Rattle.der_values.specs.Element.{Element, element_at, elements}
use Rattle.der_values.specs.Fits.{IsElement}
use Rattle.der_values.specs.Rules.{allows, first_in, stands_in}
use Rattle.der_values.specs.declared.rules.Rule.{Rule}
use Rattle.der_values.specs.declared.rules.Rule.TheVariants as rules
use Rattle.der_values.specs.Layout.{Layout, element, Content, ◌>>=◌, ok_or, next, take_one, read}
use Rattle.der_values.specs.Distinct.{firsts, AreApart, wholes, AreLegal, StandsAt}
use Rattle.der_values.proofs.DistinctLaws.{get_front, get_back}
use Rattle.der_values.proofs.ElementLaws.{element_front, element_again}
use Rattle.der_values.proofs.Steps.{elements_step, elements_nil}

elements_joined : (es : List Element) (rest : List ℕ) → AreLegal es → elements (wholes es ++ rest) ≡ es ++ elements rest
elements_joined [] rest legal = refl
elements_joined (e ∷ es) rest legal =
    ap elements (append_assoc e.whole (wholes es) rest)
    ∙ elements_step (e.whole ++ (wholes es ++ rest)) e (element_again e (wholes es ++ rest) legal.0)
    ∙ ap (λ (xs : List ℕ). e ∷ elements xs) (drop-append_seam e.whole (wholes es ++ rest))
    ∙ ap (λ (xs : List Element). e ∷ xs) (elements_joined es rest legal.1)

wholes-last : (es : List Element) (e : Element) → wholes (es ++ e ∷ []) ≡ wholes es ++ e.whole
wholes-last [] e = append-nil e.whole
wholes-last (x ∷ es) e = ap (λ (xs : List ℕ). x.whole ++ xs) (wholes-last es e) ∙ sym (append_assoc x.whole (wholes es) e.whole)

legal-last : (es : List Element) (e : Element) → AreLegal es → IsElement e → AreLegal (es ++ e ∷ [])
legal-last [] e legal is = (is, tt)
legal-last (x ∷ es) e legal is = (legal.0, legal-last es e legal.1 is)

pub stands_at_0 : (bytes : List ℕ) → StandsAt bytes 0 0
stands_at_0 bytes = record { passed = []; front = refl; legal = tt; full = refl }

pub stands_next : (bytes : List ℕ) (at number : ℕ) (e : Element) → StandsAt bytes at number → element_at (drop at bytes) ≡ Some e → StandsAt bytes (at + length e.whole) (number + 1)
stands_next bytes at number e so_far is =
    let f = element_front (drop at bytes) e is in
    let full = so_far.full in
    let whole : take (length e.whole) (drop at bytes) ≡ e.whole = ap (take (length e.whole)) f.split ∙ take-append_seam e.whole f.rest in record {
      passed = so_far.passed ++ e ∷ [];
      front = take-add at (length e.whole) bytes ∙ ap (λ (xs : List ℕ). take at bytes ++ xs) whole ∙ ap (λ (xs : List ℕ). xs ++ e.whole) so_far.front ∙ sym (wholes-last so_far.passed e);
      legal = legal-last so_far.passed e so_far.legal f.is_element;
      full = let l = length-append so_far.passed (e ∷ []) in omega arith;
    }

none_any : (es : List Element) (x : List ℕ) → ((i : ℕ) (y : Element) → slice_get es i ≡ Some y → first_in y ≡ x → ⊥) → list_any (λ (y : Element). bytes_eq (first_in y) x) es ≡ false
none_any [] x none = refl
none_any (e ∷ es) x none =
    elim (bytes_eq (first_in e) x) as (λ b. bytes_eq (first_in e) x ≡ b → (b || list_any (λ (y : Element). bytes_eq (first_in y) x) es) ≡ false) [
      | true ↦ λ q. absurd (none 0 e refl ((bytes_eq-Decides (first_in e) x).0 q))
      | false ↦ λ q. none_any es x (λ i y at. none (suc i) y at)
    ] refl

get_first : (es : List Element) (i : ℕ) (y : Element) → slice_get es i ≡ Some y → slice_get (map first_in es) i ≡ Some (first_in y)
get_first [] i y at = cc
get_first (x ∷ es) zero y at = let same : x ≡ y = cc in ap (λ (z : Element). Some (first_in z)) same
get_first (x ∷ es) (suc i) y at = get_first es i y at

stands_once : (bytes : List ℕ) (at number apart : ℕ) (e : Element) → StandsAt bytes at number → AreApart apart (firsts bytes) → number < apart → element_at (drop at bytes) ≡ Some e →
    stands_in e (take at bytes) ≡ false
stands_once bytes at number apart e so_far differ lt is =
    let full = so_far.full in
    let f = element_front (drop at bytes) e is in
    let behind : elements (drop at bytes) ≡ e ∷ elements f.rest = elements_step (drop at bytes) e is ∙ ap (λ (xs : List ℕ). e ∷ elements xs) (ap (drop (length e.whole)) f.split ∙ drop-append_seam e.whole f.rest) in
    let front : elements (take at bytes) ≡ so_far.passed =
    ap elements (so_far.front ∙ sym (append-nil (wholes so_far.passed))) ∙ elements_joined so_far.passed [] so_far.legal ∙ ap (λ (es : List Element). so_far.passed ++ es) elements_nil ∙ append-nil so_far.passed in
    let all : elements bytes ≡ so_far.passed ++ (e ∷ elements f.rest) =
    ap elements (sym (take-append-drop at bytes) ∙ ap (λ (xs : List ℕ). xs ++ drop at bytes) so_far.front) ∙ elements_joined so_far.passed (drop at bytes) so_far.legal ∙ ap (λ (es : List Element). so_far.passed ++ es) behind in
    let names : firsts bytes ≡ map first_in so_far.passed ++ (first_in e ∷ map first_in (elements f.rest)) = ap (map first_in) all ∙ map-append first_in so_far.passed (e ∷ elements f.rest) in
    let long = length-map so_far.passed first_in in
    let last : slice_get (firsts bytes) number ≡ Some (first_in e) =
    let n : number ≡ length (map first_in so_far.passed) + 0 = omega arith in
    ap (λ (l : List (List ℕ)). slice_get l number) names ∙ ap (slice_get (map first_in so_far.passed ++ (first_in e ∷ map first_in (elements f.rest)))) n ∙ get_back (map first_in so_far.passed) (first_in e ∷ map first_in (elements f.rest)) 0 in
    ap (list_any (λ (y : Element). bytes_eq (first_in y) (first_in e))) front
    ∙ none_any so_far.passed (first_in e) (λ i y at_i same.
    let within = slice_get_within so_far.passed i y at_i in
    let there : slice_get (firsts bytes) i ≡ Some (first_in e) =
    ap (λ (l : List (List ℕ)). slice_get l i) names ∙ get_front (map first_in so_far.passed) (first_in e ∷ map first_in (elements f.rest)) i (omega arith) ∙ get_first so_far.passed i y at_i ∙ ap Some same in
    differ i number (first_in e) (omega arith) lt there last)

ok_or_some : {A : Type 0} (o : Option A) (i : ℕ) (y : A) → ok_or o i ≡ Ok y → o ≡ Some y
ok_or_some None i y is = absurd cc
ok_or_some (Some x) i y is = cc

ok_if : {A : Type 0} (b : Bool) (x : Result A ℕ) (i : ℕ) (y : A) → cond b x (Err i) ≡ Ok y → x ≡ Ok y
ok_if true x i y is = is
ok_if false x i y is = absurd cc

same_take : (tag : ℕ) (c : Content) (at : ℕ) → ((e : Element) → element_at (drop at c.bytes) ≡ Some e → stands_in e (take at c.bytes) ≡ false) →
    take_one tag rules.Any c at ≡ take_one tag rules.NotTwice c at
unfolding take_one allows next
same_take tag c at once =
    elim (next c at) as (λ r. next c at ≡ r → (r >>= λ e. if e.tag == tag then if true then Ok e else Err (c.begin + at) else Err (c.begin + at))
    ≡ (r >>= λ e. if e.tag == tag then if not (stands_in e (take at c.bytes)) then Ok e else Err (c.begin + at) else Err (c.begin + at))) [
      | Ok e ↦ λ q.
          let some = ok_or_some (element_at (drop at c.bytes)) (c.begin + at) e (ok_if (nat_lt at (length c.bytes)) _ c.holder e q) in
          let here = once e some in
          rw here refl
      | Err i ↦ λ q. refl
    ] refl

-- Where so many differ, the rule need not be asked of these.
pub chosen_rule : (tag : ℕ) (inner : Layout) (c : Content) (at number apart : ℕ) → StandsAt c.bytes at number → AreApart apart (firsts c.bytes) →
    read (element tag (if nat_lt number apart then rules.Any else rules.NotTwice) inner) c at ≡ read (element tag rules.NotTwice inner) c at
unfolding read
chosen_rule tag inner c at number apart so_far differ =
    elim (nat_lt number apart) as (λ b. nat_lt number apart ≡ b → read (element tag (if b then rules.Any else rules.NotTwice) inner) c at ≡ read (element tag rules.NotTwice inner) c at) [
      | true ↦ λ q. let same = same_take tag c at (λ e is. stands_once c.bytes at number apart e so_far differ (ltb-true number apart q) is) in rw same refl
      | false ↦ λ q. refl
    ] refl
