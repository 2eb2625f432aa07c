-- The stack of declarations beside that of elements.
use Rattle.std.proofs.Common.{◌≡◌, ℕ, ◌+◌, ◌-◌, List, [], ◌∷◌, ◌++◌, length, take, drop, Option, Some, None, refl, sym, ◌∙◌, ap, arith, length-append}
use Rattle.std.proofs.Math.Seq.{drop-append_seam}
use Rattle.std.specs.Option.{option_map_or}
use Rattle.document_model.specs.Items.{Attribute}
use Rattle.document_model.specs.Scopes.{declared_prefix}
use Rattle.document_model.specs.Canonical.{declared_as}
use Rattle.doc_spans.specs.declared.declarations.Declaration.{Declaration}
use Rattle.doc_spans.specs.declared.opened.Opened.{Opened}
use Rattle.doc_spans.specs.Scoped.{with_declarations, scope_of}
use Rattle.doc_spans.specs.Declarations.{declaration_in, nearest_first}
use Rattle.doc_spans.specs.Opened.{opened_tag, opened_in}
use Rattle.doc_spans.proofs.StackLists.{stacked_push, stacked_length, stacked_take}

pub declared_more : (attributes more : List Attribute) (a : Attribute) (p : List ℕ) (old now : List Attribute) → attributes ≡ a ∷ more → declared_prefix a ≡ Some p
    → now ≡ with_declarations more old → declared_as p a.value ∷ now ≡ with_declarations attributes old
declared_more attributes more a p old now e f g =
    ap (λ x. declared_as p a.value ∷ x) g
    ∙ sym (ap (λ x. with_declarations x old) e ∙ ap (λ o. option_map_or (λ q. declared_as q a.value ∷ with_declarations more old) o (with_declarations more old)) f)

pub nearest_push : (old now : List Declaration) (d : Declaration) → now ≡ old ++ d ∷ [] → nearest_first now ≡ declaration_in d ∷ nearest_first old
nearest_push old now d e = ap nearest_first e ∙ stacked_push declaration_in [] old d

pub with_on : (attributes scope : List Attribute) → with_declarations attributes scope ≡ with_declarations attributes [] ++ scope
with_on [] scope = refl
with_on (a ∷ attributes) scope = go (with_on attributes scope) (declared_prefix a)
  where
    go : with_declarations attributes scope ≡ with_declarations attributes [] ++ scope → (o : Option (List ℕ))
        → option_map_or (λ p. declared_as p a.value ∷ with_declarations attributes scope) o (with_declarations attributes scope)
        ≡ option_map_or (λ p. declared_as p a.value ∷ with_declarations attributes []) o (with_declarations attributes []) ++ scope
    go old None = old
    go old (Some p) = ap (λ x. declared_as p a.value ∷ x) old

-- the declarations that are left when an element is
pub closed : (tags left : List Opened) (o : Opened) (ds : List Declaration) (k : ℕ) → tags ≡ left ++ o ∷ [] → nearest_first ds ≡ scope_of (opened_in tags)
    → k ≡ length ds - o.count → nearest_first (take k ds) ≡ scope_of (opened_in left)
closed tags left o ds k e f g =
    let own : List Attribute = with_declarations (opened_tag o).attributes [] in
    let rest : List Attribute = scope_of (opened_in left) in
    let parts : nearest_first ds ≡ own ++ rest = f ∙ ap (λ x. scope_of (opened_in x)) e ∙ ap scope_of (stacked_push opened_tag [] left o) ∙ with_on (opened_tag o).attributes rest in
    let all : length ds ≡ length own + length rest = sym (stacked_length declaration_in ds) ∙ ap length parts ∙ length-append own rest in
    let counted : o.count ≡ length own = o.counted in
    let n : length ds - k ≡ length own = omega (arith, all, counted, g) in
    stacked_take declaration_in ds k ∙ ap (λ m. drop m (nearest_first ds)) n ∙ ap (drop (length own)) parts ∙ drop-append_seam own rest

pub tags_left : (tags left : List Opened) (o : Opened) → tags ≡ left ++ o ∷ [] → opened_in left ≡ drop 1 (opened_in tags)
tags_left tags left o e = sym (ap (λ x. drop 1 (opened_in x)) e ∙ ap (drop 1) (stacked_push opened_tag [] left o))

pub rendered_left : (ds : List Declaration) (k : ℕ) → nearest_first (take k ds) ≡ drop (length (nearest_first ds) - k) (nearest_first ds)
rendered_left ds k = stacked_take declaration_in ds k ∙ ap (λ n. drop (n - k) (nearest_first ds)) (sym (stacked_length declaration_in ds))

pub opened_push : (old now : List Opened) (o : Opened) → now ≡ old ++ o ∷ [] → opened_in now ≡ opened_tag o ∷ opened_in old
opened_push old now o e = ap opened_in e ∙ stacked_push opened_tag [] old o
