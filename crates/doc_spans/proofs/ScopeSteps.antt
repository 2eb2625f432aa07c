-- The scope of declarations, over the tags of the elements that are open.
use Rattle.std.proofs.Common.{◌≡◌, ℕ, Bool, true, false, not, ◌&&◌, List, [], ◌∷◌, codes, cond, Option, Some, None, is_some, refl, ◌∙◌, ap}
use Rattle.std.proofs.lemmas.Str.{chars-nil, chars-IsAscii}
use Rattle.std.specs.List.{list_all}
use Rattle.std.specs.Str.{chars}
use Rattle.document_model.specs.Characters.{is_empty, ◌is◌}
use Rattle.document_model.specs.Items.{Attribute, value_of}
use Rattle.document_model.specs.Scopes.{Tag, xml_space, xmlns_space, space_of, declared_prefix, declared_space, value_or, is_sound_declaration, attribute_name, is_declared, none_is, are_distinct, is_sound}
use Rattle.xml_items.specs.Found.{value_in, IsValueText}
use Rattle.xml_items.proofs.AsciiTexts.{ascii_from}
use Rattle.doc_spans.specs.ScopesIn.{bound_space, names_in, name_soundly, attribute_soundly, attributes_soundly}

pub default_prefix : (a : Attribute) → is_empty a.name.prefix ≡ true → (a.name.local is codes "xmlns") ≡ true → declared_prefix a ≡ Some []
default_prefix a e f = rw (e, f) refl

-- The bound namespace names, as values.

xml_chars : chars (codes "http://www.w3.org/XML/1998/namespace") ≡ codes "http://www.w3.org/XML/1998/namespace"
xml_chars = chars-IsAscii (codes "http://www.w3.org/XML/1998/namespace") (ascii_from (codes "http://www.w3.org/XML/1998/namespace") refl)

pub xml_value : value_in (chars (codes "http://www.w3.org/XML/1998/namespace")) ≡ xml_space
xml_value = ap value_in xml_chars

pub xml_text : IsValueText (codes "http://www.w3.org/XML/1998/namespace")
xml_text = ap (λ cs. is_some (value_of cs)) xml_chars

xmlns_chars : chars (codes "http://www.w3.org/2000/xmlns/") ≡ codes "http://www.w3.org/2000/xmlns/"
xmlns_chars = chars-IsAscii (codes "http://www.w3.org/2000/xmlns/") (ascii_from (codes "http://www.w3.org/2000/xmlns/") refl)

pub xmlns_value : value_in (chars (codes "http://www.w3.org/2000/xmlns/")) ≡ xmlns_space
xmlns_value = ap value_in xmlns_chars

pub xmlns_text : IsValueText (codes "http://www.w3.org/2000/xmlns/")
xmlns_text = ap (λ cs. is_some (value_of cs)) xmlns_chars

pub empty_value : value_in (chars []) ≡ []
empty_value = ap value_in chars-nil

pub empty_text : IsValueText []
empty_text = ap (λ cs. is_some (value_of cs)) chars-nil

pub xml_bound : (prefix : List ℕ) → (prefix is codes "xml") ≡ true → Some xml_space ≡ bound_space prefix
xml_bound prefix e = rw e refl

pub xmlns_bound : (prefix : List ℕ) → (prefix is codes "xml") ≡ false → (prefix is codes "xmlns") ≡ true → Some xmlns_space ≡ bound_space prefix
xmlns_bound prefix e f = rw (e, f) refl

-- the value of a prefix is the one that no declaration changes, or the one that is declared
pub space_by_bound : (prefix : List ℕ) (tags : List Tag) (found : Option (List ℕ)) → found ≡ bound_space prefix → value_or found (declared_space prefix tags) ≡ space_of prefix tags
space_by_bound prefix tags found e = ap (λ o. value_or o (declared_space prefix tags)) e ∙ by_prefix (prefix is codes "xml") (prefix is codes "xmlns")
  where
    by_prefix : (x y : Bool) → value_or (cond x (Some xml_space) (cond y (Some xmlns_space) None)) (declared_space prefix tags) ≡ cond x xml_space (cond y xmlns_space (declared_space prefix tags))
    by_prefix true y = refl
    by_prefix false true = refl
    by_prefix false false = refl

-- the parts of one attribute and of those behind it, kind by kind
merged : (s d n ss ds ns : Bool) → (s && d && n && (ss && ds && ns)) ≡ ((s && ss) && (d && ds) && (n && ns))
merged false d n ss ds ns = refl
merged true false n true ds ns = refl
merged true false n false ds ns = refl
merged true true false true true ns = refl
merged true true false true false ns = refl
merged true true false false ds ns = refl
merged true true true ss ds ns = refl

sound_attributes : (tags : List Tag) (xs : List Attribute)
    → attributes_soundly tags xs ≡ list_all is_sound_declaration xs && list_all (λ a. is_declared tags a.name) xs && are_distinct (names_in tags xs)
sound_attributes tags [] = refl
sound_attributes tags (a ∷ xs) =
    let one : Bool = attribute_soundly tags a xs in
    ap (λ b. one && b) (sound_attributes tags xs)
    ∙ merged (is_sound_declaration a) (is_declared tags a.name) (none_is (attribute_name tags a.name) (names_in tags xs)) (list_all is_sound_declaration xs) (list_all (λ b. is_declared tags b.name) xs) (are_distinct (names_in tags xs))

name_last : (u v s d n : Bool) → ((u && v) && (s && d && n)) ≡ s && u && v && d && n
name_last false v true d n = refl
name_last false v false d n = refl
name_last true false true d n = refl
name_last true false false d n = refl
name_last true true true d n = refl
name_last true true false d n = refl

pub sound_parts : (outer : List Tag) (tag : Tag) (xs : List Attribute) (x y : Bool) → xs ≡ tag.attributes → x ≡ name_soundly outer tag → y ≡ attributes_soundly (tag ∷ outer) xs → (x && y) ≡ is_sound outer tag
unfolding is_sound
sound_parts outer tag xs x y same e f =
    let all : List Tag = tag ∷ outer in
    (λ i. e i && f i) ∙ ap (λ bs. name_soundly outer tag && attributes_soundly all bs) same
    ∙ ap (λ b. name_soundly outer tag && b) (sound_attributes all tag.attributes)
    ∙ name_last (not (tag.name.prefix is codes "xmlns")) (is_declared all tag.name) (list_all is_sound_declaration tag.attributes) (list_all (λ a. is_declared all a.name) tag.attributes) (are_distinct (names_in all tag.attributes))
