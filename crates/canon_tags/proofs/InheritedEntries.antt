-- Entries, and the attributes that are inherited.
use Rattle.std.proofs.Common.{◌≡◌, ℕ, suc, ◌-◌, ◌<◌, Bool, true, false, not, ◌&&◌, cond, List, [], ◌∷◌, ◌++◌, length, take, get_or, map, refl, sym, ◌∙◌, ap, append_assoc, arith}
use Rattle.std.specs.Prelude.{filter}
use Rattle.document_model.specs.Items.{Attribute}
use Rattle.document_model.specs.Scopes.{Tag}
use Rattle.document_model.specs.Canonical.{with_inherited}
use Rattle.doc_spans.specs.declared.opened.Opened.{Opened}
use Rattle.canon_tags.specs.Entries.{Named, named, attributes_of_entries, inherited_of}
use Rattle.doc_spans.specs.Opened.{opened_tag, opened_in}
use Rattle.doc_spans.proofs.Lookups.{take_to}
use Rattle.canon_tags.proofs.Sorting.{map_join, take_all}
use Rattle.doc_spans.proofs.StackLists.{stacked_push}

pub named_back : (scope attributes : List Attribute) → attributes_of_entries (map (named scope) attributes) ≡ attributes
named_back scope [] = refl
named_back scope (a ∷ attributes) = ap (λ xs. a ∷ xs) (named_back scope attributes)

-- one that passes a test is taken
pub taken : {A B : Type 0} (f : A → B) (test : A → Bool) (all more : List A) (a : A) (old now before : List B) → all ≡ a ∷ more → test a ≡ true → now ≡ old ++ f a ∷ []
    → old ++ map f (filter test all) ≡ before → now ++ map f (filter test more) ≡ before
taken f test all more a old now before e g h start =
    ap (λ ys. ys ++ map f (filter test more)) h ∙ append_assoc old (f a ∷ []) (map f (filter test more))
    ∙ ap (λ ys. old ++ ys) (sym (ap (λ xs. map f (filter test xs)) e ∙ ap (λ b. map f (cond b (a ∷ filter test more) (filter test more))) g)) ∙ start

pub both_hold : (x y b c : Bool) → b ≡ x → b ≡ true → c ≡ y → c ≡ false → (x && not y) ≡ true
both_hold x y b c e f g h = (λ i. (sym e ∙ f) i && not ((sym g ∙ h) i))

pub record Step (scope : List Attribute) (outer left : List Tag) (entries now : List Named) : Type 0 where
  pub named_all : now ≡ map (named scope) (attributes_of_entries now)
  pub same : with_inherited (attributes_of_entries entries) outer ≡ with_inherited (attributes_of_entries now) left

pub first_step : (scope : List Attribute) (tags : List Opened) (attributes : List Attribute) (entries : List Named) → entries ≡ map (named scope) attributes
    → (entries ≡ map (named scope) (attributes_of_entries entries))
    × (with_inherited attributes (opened_in tags) ≡ with_inherited (attributes_of_entries entries) (opened_in (take (length tags) tags)))
first_step scope tags attributes entries e =
    let back : attributes_of_entries entries ≡ attributes = ap attributes_of_entries e ∙ named_back scope attributes in (
      e ∙ ap (map (named scope)) (sym back),
      (λ i. with_inherited (sym back i) (opened_in (sym (take_all tags) i))),
    )

pub next_step : (scope : List Attribute) (tags : List Opened) (left : ℕ) (d : Opened) (attributes : List Attribute) (entries now : List Named) → 0 < left → left - 1 < length tags
    → attributes ≡ (opened_tag (get_or tags (left - 1) d)).attributes → entries ≡ map (named scope) (attributes_of_entries entries)
    → now ≡ entries ++ map (named scope) (inherited_of (attributes_of_entries entries) attributes)
    → Step scope (opened_in (take left tags)) (opened_in (take (left - 1) tags)) entries now
next_step scope tags left d attributes entries now some within e f g =
    let here : List Attribute = attributes_of_entries entries in
    let n : left ≡ suc (left - 1) = omega (arith, some) in
    let all : now ≡ map (named scope) (here ++ inherited_of here attributes) = g ∙ ap (λ xs. xs ++ map (named scope) (inherited_of here attributes)) f ∙ sym (map_join (named scope) here (inherited_of here attributes)) in
    let back : attributes_of_entries now ≡ here ++ inherited_of here attributes = ap attributes_of_entries all ∙ named_back scope (here ++ inherited_of here attributes) in
    let items : take left tags ≡ take (left - 1) tags ++ get_or tags (left - 1) d ∷ [] = ap (λ k. take k tags) n ∙ take_to tags (left - 1) d within in
    record {
      named_all = all ∙ ap (map (named scope)) (sym back);
      same = ap (λ xs. with_inherited here (opened_in xs)) items ∙ ap (with_inherited here) (stacked_push opened_tag [] (take (left - 1) tags) (get_or tags (left - 1) d))
          ∙ ap (λ xs. with_inherited (here ++ inherited_of here xs) (opened_in (take (left - 1) tags))) (sym e)
          ∙ ap (λ xs. with_inherited xs (opened_in (take (left - 1) tags))) (sym back);
    }
