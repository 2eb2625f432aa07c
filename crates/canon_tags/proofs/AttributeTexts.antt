-- The attributes that are written.
use Rattle.std.proofs.Common.{◌≡◌, ℕ, Bool, true, false, not, ◌&&◌, ◌||◌, cond, List, [], ◌∷◌, ◌++◌, map, codes, refl, sym, ◌∙◌, ap}
use Rattle.std.proofs.lemmas.Bool.{true≢false, and_parts}
use Rattle.std.specs.Prelude.{flat_map}
use Rattle.document_model.specs.Characters.{◌is◌, is_empty}
use Rattle.document_model.specs.Names.{spelled}
use Rattle.document_model.specs.Items.{Attribute}
use Rattle.document_model.specs.Scopes.{Tag, attribute_name}
use Rattle.document_model.specs.Canonical.{Rule, Around, placed, sorted, is_name_before, is_declaration, is_xml, has_local, with_inherited, attributes_of, attributes_text, attribute_text}
use Rattle.doc_spans.specs.Scoped.{scope_of}
use Rattle.canon_tags.specs.Entries.{named, is_named_before, plain_ones, inherited_of, entries_text}
use Rattle.canon_methods.proofs.Texts.{is_same}
use Rattle.doc_spans.proofs.ScopeLists.{space_same}

-- An `xml:` attribute is no declaration.

xml_plain : (a : Attribute) → is_xml a ≡ true → is_declaration a ≡ false
xml_plain a e = let f : a.name.prefix ≡ codes "xml" = is_same a.name.prefix (codes "xml") e in ap (λ p. is_declaration (record { name = record { prefix = p; local = a.name.local }; value = a.value })) f

plain_join : (xs ys : List Attribute) → plain_ones (xs ++ ys) ≡ plain_ones xs ++ plain_ones ys
plain_join [] ys = refl
plain_join (x ∷ xs) ys = go (plain_join xs ys) (is_declaration x)
  where
    go : plain_ones (xs ++ ys) ≡ plain_ones xs ++ plain_ones ys → (b : Bool) → cond (not b) (x ∷ plain_ones (xs ++ ys)) (plain_ones (xs ++ ys)) ≡ cond (not b) (x ∷ plain_ones xs) (plain_ones xs) ++ plain_ones ys
    go old true = old
    go old false = ap (λ zs. x ∷ zs) old

plain_inherited : (others attributes : List Attribute) → plain_ones (inherited_of others attributes) ≡ inherited_of others attributes
plain_inherited others [] = refl
plain_inherited others (a ∷ attributes) = go (plain_inherited others attributes) (is_xml a && not (has_local a.name.local others)) refl
  where
    go : plain_ones (inherited_of others attributes) ≡ inherited_of others attributes → (b : Bool) → (is_xml a && not (has_local a.name.local others)) ≡ b
        → plain_ones (cond b (a ∷ inherited_of others attributes) (inherited_of others attributes)) ≡ cond b (a ∷ inherited_of others attributes) (inherited_of others attributes)
    go old true e =
        ap (λ d. cond (not d) (a ∷ plain_ones (inherited_of others attributes)) (plain_ones (inherited_of others attributes))) (xml_plain a (and_parts (is_xml a) (not (has_local a.name.local others)) e).0)
        ∙ ap (λ zs. a ∷ zs) old
    go old false e = old

plain_local : (local : List ℕ) (attributes : List Attribute) → has_local local (plain_ones attributes) ≡ has_local local attributes
plain_local local [] = refl
plain_local local (a ∷ attributes) = go (plain_local local attributes) (is_declaration a) refl (is_xml a) refl
  where
    go : has_local local (plain_ones attributes) ≡ has_local local attributes → (b : Bool) → is_declaration a ≡ b → (x : Bool) → is_xml a ≡ x
        → has_local local (cond (not b) (a ∷ plain_ones attributes) (plain_ones attributes)) ≡ has_local local (a ∷ attributes)
    go old true e true f = absurd (true≢false (sym e ∙ xml_plain a f))
    go old true e false f = old ∙ sym (ap (λ y. (y && (a.name.local is local)) || has_local local attributes) f)
    go old false e x f = ap (λ y. (is_xml a && (a.name.local is local)) || y) old

inherited_same : (others attributes : List Attribute) → inherited_of (plain_ones others) attributes ≡ inherited_of others attributes
inherited_same others [] = refl
inherited_same others (a ∷ attributes) =
    (λ i. cond (is_xml a && not (plain_local a.name.local others i)) (a ∷ inherited_same others attributes i) (inherited_same others attributes i))

pub plain_with_inherited : (attributes : List Attribute) (tags : List Tag) → plain_ones (with_inherited attributes tags) ≡ with_inherited (plain_ones attributes) tags
plain_with_inherited attributes [] = refl
plain_with_inherited attributes (tag ∷ tags) =
    plain_with_inherited (attributes ++ inherited_of attributes tag.attributes) tags
    ∙ ap (λ xs. with_inherited xs tags)
    (plain_join attributes (inherited_of attributes tag.attributes)
    ∙ ap (λ ys. plain_ones attributes ++ ys) (plain_inherited attributes tag.attributes ∙ sym (inherited_same attributes tag.attributes)))

-- Sorting by a key.

placed_map : {A B : Type 0} (f : A → B) (before : B → B → Bool) (x : A) (ys : List A) → placed before (f x) (map f ys) ≡ map f (placed (λ a b. before (f a) (f b)) x ys)
placed_map f before x [] = refl
placed_map f before x (y ∷ ys) = go (placed_map f before x ys) (before (f y) (f x))
  where
    go : placed before (f x) (map f ys) ≡ map f (placed (λ a b. before (f a) (f b)) x ys) → (b : Bool)
        → cond b (f y ∷ placed before (f x) (map f ys)) (f x ∷ f y ∷ map f ys) ≡ map f (cond b (y ∷ placed (λ a b. before (f a) (f b)) x ys) (x ∷ y ∷ ys))
    go old true = ap (λ zs. f y ∷ zs) old
    go old false = refl

sorted_map : {A B : Type 0} (f : A → B) (before : B → B → Bool) (xs : List A) → sorted before (map f xs) ≡ map f (sorted (λ a b. before (f a) (f b)) xs)
sorted_map f before [] = refl
sorted_map f before (x ∷ xs) = ap (placed before (f x)) (sorted_map f before xs) ∙ placed_map f before x (sorted (λ a b. before (f a) (f b)) xs)

text_of_named : (scope : List Attribute) (xs : List Attribute) → entries_text (map (named scope) xs) ≡ flat_map (λ a. attribute_text (spelled a.name) a.value) xs
text_of_named scope [] = refl
text_of_named scope (x ∷ xs) = ap (λ cs. attribute_text (spelled x.name) x.value ++ cs) (text_of_named scope xs)

name_same : (tags : List Tag) (a : Attribute) → (named (scope_of tags) a).name ≡ attribute_name tags a.name
name_same tags a = (λ i. record { space = cond (is_empty a.name.prefix) [] (sym (space_same a.name.prefix tags) i); local = a.name.local })

-- the elements that give `xml:` attributes are none, or all around an apex of an inclusive text
pub written_attributes : (rule : Rule) (around : Around) (tag : Tag) (givers : List Tag)
    → attributes_of rule around tag ≡ with_inherited tag.attributes givers
    → entries_text (sorted is_named_before (map (named (scope_of (tag ∷ around.outer))) (with_inherited (plain_ones tag.attributes) givers))) ≡ attributes_text rule around tag
written_attributes rule around tag givers e =
    let tags : List Tag = tag ∷ around.outer in
    let all : List Attribute = with_inherited (plain_ones tag.attributes) givers in
    ap entries_text (sorted_map (named (scope_of tags)) is_named_before all)
    ∙ text_of_named (scope_of tags) (sorted (λ a b. is_named_before (named (scope_of tags) a) (named (scope_of tags) b)) all)
    ∙ ap (flat_map (λ a. attribute_text (spelled a.name) a.value))
    ((λ i. sorted (λ a b. is_name_before (name_same tags a i) (name_same tags b i)) all)
    ∙ ap (sorted (λ a b. is_name_before (attribute_name tags a.name) (attribute_name tags b.name))) (sym (plain_with_inherited tag.attributes givers) ∙ ap plain_ones (sym e)))
