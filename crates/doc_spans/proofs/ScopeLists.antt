-- The value of a prefix in the scope of elements, by their declarations as a list.
use Rattle.std.proofs.Common.{◌≡◌, ℕ, Bool, true, false, ◌&&◌, cond, List, [], ◌∷◌, Option, Some, codes, refl, ◌∙◌, ap}
use Rattle.document_model.specs.Characters.{◌is◌, is_empty}
use Rattle.document_model.specs.Items.{Attribute}
use Rattle.document_model.specs.Scopes.{Tag, xml_space, xmlns_space, declared_value, declared_space, space_of, value_or}
use Rattle.document_model.specs.Canonical.{rendered_value}
use Rattle.doc_spans.specs.Scoped.{with_declarations, scope_of, space_in}

pick : (r : Bool) (v : List ℕ) (o : Option (List ℕ)) (d x : List ℕ) → value_or o d ≡ x → value_or (cond r (Some v) o) d ≡ cond r v x
pick true v o d x e = refl
pick false v o d x e = e

values : (p : List ℕ) (attributes scope : List Attribute) → value_or (declared_value p attributes) (rendered_value p scope) ≡ rendered_value p (with_declarations attributes scope)
values p [] scope = refl
values p (a ∷ attributes) scope = go (values p attributes scope) (is_empty a.name.prefix && (a.name.local is codes "xmlns")) refl (a.name.prefix is codes "xmlns") refl
  where
    go : value_or (declared_value p attributes) (rendered_value p scope) ≡ rendered_value p (with_declarations attributes scope)
        → (x : Bool) → (is_empty a.name.prefix && (a.name.local is codes "xmlns")) ≡ x → (y : Bool) → (a.name.prefix is codes "xmlns") ≡ y
        → value_or (declared_value p (a ∷ attributes)) (rendered_value p scope) ≡ rendered_value p (with_declarations (a ∷ attributes) scope)
    go old true e y f = rw e (pick ([] is p) a.value (declared_value p attributes) (rendered_value p scope) (rendered_value p (with_declarations attributes scope)) old)
    go old false e true f = rw (e, f) (pick (a.name.local is p) a.value (declared_value p attributes) (rendered_value p scope) (rendered_value p (with_declarations attributes scope)) old)
    go old false e false f = rw (e, f) old

pub declared_same : (p : List ℕ) (tags : List Tag) → declared_space p tags ≡ rendered_value p (scope_of tags)
declared_same p [] = refl
declared_same p (tag ∷ outer) = ap (value_or (declared_value p tag.attributes)) (declared_same p outer) ∙ values p tag.attributes (scope_of outer)

pub space_same : (p : List ℕ) (tags : List Tag) → space_of p tags ≡ space_in p (scope_of tags)
space_same p tags = ap (λ x. cond (p is codes "xml") xml_space (cond (p is codes "xmlns") xmlns_space x)) (declared_same p tags)
