-- Whether a prefix is declared.
use Rattle.std.proofs.Common.{◌≡◌, ℕ, Bool, true, false, ◌||◌, cond, List, [], ◌∷◌, Option, Some, None, is_some, refl, sym, ◌∙◌, ap}
use Rattle.std.specs.Prelude.{option_map}
use Rattle.document_model.specs.Characters.{◌is◌, is_empty}
use Rattle.document_model.specs.Items.{Attribute}
use Rattle.document_model.specs.Canonical.{is_among}
use Rattle.doc_spans.specs.Scoped.{declared_in}
use Rattle.canon_tags.specs.Scoped.{prefixes_of, is_bound}
use Rattle.canon_methods.proofs.Texts.{is_turned}

pub is_found : (prefix : List ℕ) (scope : List Attribute) → is_some (declared_in prefix scope) ≡ is_among prefix (prefixes_of scope)
is_found prefix [] = refl
is_found prefix (a ∷ scope) = go (is_found prefix scope) (a.name.local is prefix) (is_turned prefix a.name.local)
  where
    go : is_some (declared_in prefix scope) ≡ is_among prefix (prefixes_of scope) → (r : Bool) → (prefix is a.name.local) ≡ r
        → is_some (cond r (Some a.value) (declared_in prefix scope)) ≡ is_among prefix (prefixes_of (a ∷ scope))
    go old true e = sym (λ i. e i || is_among prefix (prefixes_of scope))
    go old false e = old ∙ sym (λ i. e i || is_among prefix (prefixes_of scope))

pub bound_there : (prefix : List ℕ) (scope : List Attribute) (o : Option (List ℕ)) (b : Bool) → declared_in prefix scope ≡ o → b ≡ is_some o → b ≡ true → b ≡ is_bound prefix scope
bound_there prefix scope o b e f g =
    g ∙ sym (ap (λ x. x || is_empty prefix) (sym (is_found prefix scope) ∙ ap is_some e ∙ sym f ∙ g))

pub bound_else : (prefix : List ℕ) (scope : List Attribute) (o : Option (List ℕ)) (b : Bool) → declared_in prefix scope ≡ o → b ≡ is_some o → b ≡ false → is_empty prefix ≡ is_bound prefix scope
bound_else prefix scope o b e f g = sym (ap (λ x. x || is_empty prefix) (sym (is_found prefix scope) ∙ ap is_some e ∙ sym f ∙ g))

pub some_map : {A B : Type 0} (f : A → B) (o : Option A) → is_some (option_map f o) ≡ is_some o
some_map f None = refl
some_map f (Some x) = refl
