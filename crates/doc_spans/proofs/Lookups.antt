-- The nearest declaration of a prefix.
use Rattle.std.proofs.Common.{◌≡◌, ℕ, zero, suc, ◌-◌, ◌<◌, Bool, true, false, cond, List, [], ◌∷◌, ◌++◌, length, take, get_or, Some, None, codes, refl, sym, ◌∙◌, ap, arith}
use Rattle.std.specs.Str.{chars}
use Rattle.document_model.specs.Characters.{◌is◌}
use Rattle.document_model.specs.Scopes.{xml_space, xmlns_space}
use Rattle.document_model.specs.Items.{Attribute}
use Rattle.document_model.specs.Canonical.{rendered_value}
use Rattle.xml_items.specs.Found.{value_in}
use Rattle.doc_spans.specs.declared.declarations.Declaration.{Declaration}
use Rattle.doc_spans.specs.Scoped.{declared_in, space_in}
use Rattle.doc_spans.specs.Declarations.{declaration_in, nearest_first}
use Rattle.doc_spans.proofs.StackLists.{stacked_push}

pub take_to : {A : Type 0} (xs : List A) (k : ℕ) (d : A) → k < length xs → take (suc k) xs ≡ take k xs ++ get_or xs k d ∷ []
take_to [] k d h = absurd (omega (arith, h))
take_to (y ∷ xs) zero d h = refl
take_to (y ∷ xs) (suc k) d h = ap (λ zs. y ∷ zs) (take_to xs k d (omega (arith, h)))

pub further : (prefix : List ℕ) (ds : List Declaration) (left : ℕ) (d : Declaration) (same : Bool) → 0 < left → left - 1 < length ds
    → same ≡ (chars (get_or ds (left - 1) d).prefix.now is prefix)
    → declared_in prefix (nearest_first (take left ds)) ≡ cond same (Some (value_in (chars (get_or ds (left - 1) d).value.now))) (declared_in prefix (nearest_first (take (left - 1) ds)))
further prefix ds left d same some within f =
    let n : left ≡ suc (left - 1) = omega (arith, some) in
    let items : take left ds ≡ take (left - 1) ds ++ get_or ds (left - 1) d ∷ [] = ap (λ k. take k ds) n ∙ take_to ds (left - 1) d within in
    ap (λ x. declared_in prefix (nearest_first x)) items ∙ ap (declared_in prefix) (stacked_push declaration_in [] (take (left - 1) ds) (get_or ds (left - 1) d))
    ∙ ap (λ b. cond b (Some (value_in (chars (get_or ds (left - 1) d).value.now))) (declared_in prefix (nearest_first (take (left - 1) ds)))) (sym f)

pub none_left : (prefix : List ℕ) (ds : List Declaration) (left : ℕ) → left ≡ 0 → declared_in prefix (nearest_first (take left ds)) ≡ None
none_left prefix ds left e = ap (λ k. declared_in prefix (nearest_first (take k ds))) e

pub value_found : (prefix : List ℕ) (scope : List Attribute) (v : List ℕ) → declared_in prefix scope ≡ Some v → rendered_value prefix scope ≡ v
value_found prefix [] v e = cc
value_found prefix (a ∷ scope) v e = go (value_found prefix scope v) (a.name.local is prefix) e
  where
    go : (declared_in prefix scope ≡ Some v → rendered_value prefix scope ≡ v) → (r : Bool) → cond r (Some a.value) (declared_in prefix scope) ≡ Some v → cond r a.value (rendered_value prefix scope) ≡ v
    go old true e = cc
    go old false e = old e

pub no_value_found : (prefix : List ℕ) (scope : List Attribute) → declared_in prefix scope ≡ None → rendered_value prefix scope ≡ []
no_value_found prefix [] e = refl
no_value_found prefix (a ∷ scope) e = go (no_value_found prefix scope) (a.name.local is prefix) e
  where
    go : (declared_in prefix scope ≡ None → rendered_value prefix scope ≡ []) → (r : Bool) → cond r (Some a.value) (declared_in prefix scope) ≡ None → cond r a.value (rendered_value prefix scope) ≡ []
    go old true e = cc
    go old false e = old e

pub xml_bound : (prefix : List ℕ) (scope : List Attribute) → (prefix is codes "xml") ≡ true → space_in prefix scope ≡ xml_space
xml_bound prefix scope e = rw e refl

pub xmlns_bound : (prefix : List ℕ) (scope : List Attribute) → (prefix is codes "xml") ≡ false → (prefix is codes "xmlns") ≡ true → space_in prefix scope ≡ xmlns_space
xmlns_bound prefix scope e f = rw (e, f) refl
