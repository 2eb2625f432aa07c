-- The tags of simple names and attributes.
use Rattle.std.proofs.Common.{subst, ◌≡◌, ℕ, zero, suc, ◌≤◌, ◌<◌, Bool, true, false, cond, not, ◌&&◌, ◌==◌, List, [], ◌∷◌, ◌++◌, length, reverse, map, Option, Some, is_some, refl, sym, ◌∙◌, ap, arith, nat_lt, append_assoc, codes}
use Rattle.std.proofs.lemmas.Bool.{false≢true, and_parts, and_from, ltb-true, lt-ltb}
use Rattle.std.proofs.lemmas.List.{append-nil, reverse-append, reverse-reverse}
use Rattle.std.proofs.lemmas.Str.{chars-IsAscii, encodes-IsAscii, IsUtf8-from_ascii, scalars-chars}
use Rattle.std.proofs.Math.Utf8.{scalars}
use Rattle.std.specs.Prelude.{flat_map, option_and_then, encode_utf8_all}
use Rattle.std.specs.List.{list_all}
use Rattle.std.specs.Str.{IsAscii}
use Rattle.document_model.specs.Characters.{is_char, is_white, span}
use Rattle.document_model.specs.Names.{Name, name_of, spelled}
use Rattle.document_model.specs.Items.{Attribute, Item, Pair, start_tag, empty_tag, end_tag, piece_at, tag_of, pair_at, pairs_of, each_of, attribute_of, most_attributes, value_of, without_space_behind}
use Rattle.document_model.specs.Canonical.{attribute_text, value_character}
use Rattle.xml_items.proofs.Attributes.{pair_whole}
use Rattle.xml_items.proofs.OrdinaryCharacters.{ordinary_is}
use Rattle.insertions.proofs.Quiet.{in_name, tag_text, EndsIn, ends_pass, all_weaker}
use Rattle.insertions.proofs.Found.{name_chars}
use Rattle.insertions.proofs.Opened.{AreChars, EmptyTag, front_of, start_text, start_piece, end_text, end_piece, no_white}
use Rattle.insertion_fragments.specs.Fragment.{is_simple, IsSimpleName, AreSimple}
use Rattle.insertion_fragments.proofs.WrittenValues.{written_value, value_read, no_quotes, value_chars}
use Rattle.insertions.proofs.Opened.{chars_both}
use Rattle.insertion_fragments.proofs.SimpleCharacters.{simple_ordinary}

-- ASCII characters that may stand in a document
abbrev pub fine : ℕ → Bool
fine c = nat_lt c 128 && is_char c

pub fine_simple : (c : ℕ) → is_simple c ≡ true → fine c ≡ true
fine_simple c h = let o = ordinary_is c (simple_ordinary c h) in and_from (nat_lt c 128) (is_char c) (lt-ltb c 128 o.ascii) o.is_char

ascii_of : (cs : List ℕ) → list_all fine cs ≡ true → IsAscii cs
ascii_of [] h i = lit
  where
    lit : 0 < 128
    lit = omega arith
ascii_of (c ∷ cs) h zero = ltb-true c 128 (and_parts (nat_lt c 128) (is_char c) (and_parts (fine c) (list_all fine cs) h).0).0
ascii_of (c ∷ cs) h (suc i) = ascii_of cs (and_parts (fine c) (list_all fine cs) h).1 i

pub fine_encoded : (cs : List ℕ) → list_all fine cs ≡ true → encode_utf8_all cs ≡ cs
fine_encoded cs h = encodes-IsAscii cs (ascii_of cs h)

fine_chars : (cs : List ℕ) → list_all fine cs ≡ true → AreChars cs
fine_chars cs h = record {
  scalar = ap scalars (sym (chars-IsAscii cs (ascii_of cs h))) ∙ scalars-chars cs (IsUtf8-from_ascii cs (ascii_of cs h));
  all = all_weaker fine is_char (λ c k. (and_parts (nat_lt c 128) (is_char c) k).1) cs h;
}

-- Attributes.

abbrev pub attrs : List Attribute → List ℕ
attrs attributes = flat_map (λ a. attribute_text (spelled a.name) a.value) attributes

span_stop : (test : ℕ → Bool) (a b : List ℕ) → list_all test a ≡ true → span test b ≡ ([], b) → span test (a ++ b) ≡ (a, b)
span_stop test [] b h e = e
span_stop test (c ∷ a) b h e =
    let both = and_parts (test c) (list_all test a) h in
    ap (λ t. cond {A = List ℕ × List ℕ} t (c ∷ (span test (a ++ b)).0, (span test (a ++ b)).1) ([], c ∷ (a ++ b))) both.0 ∙ ap (λ p. (c ∷ p.0, p.1)) (span_stop test a b both.1 e)

one_pair : List ℕ → List ℕ → List ℕ → List ℕ
one_pair name value rest = 0x20 ∷ (name ++ (0x3D ∷ 0x22 ∷ (value ++ (0x22 ∷ rest))))

name_starts : (c : ℕ) (cs b : List ℕ) → list_all in_name (c ∷ cs) ≡ true → span is_white ((c ∷ cs) ++ b) ≡ ([], (c ∷ cs) ++ b)
name_starts c cs b h = ap (λ t. cond {A = List ℕ × List ℕ} t (c ∷ (span is_white (cs ++ b)).0, (span is_white (cs ++ b)).1) ([], c ∷ (cs ++ b))) (no_white c (and_parts (in_name c) (list_all in_name cs) h).0)

pair_there : (name value rest : List ℕ) (n : Name) → name_of name ≡ Some n → list_all (λ d. not (d == 0x22)) value ≡ true → pair_at (one_pair name value rest) ≡ Some (record { name = name; text = value }, rest)
unfolding one_pair
pair_there [] value rest n e h = cc
pair_there (c ∷ cs) value rest n e h =
    let t1 : List ℕ = (c ∷ cs) ++ (0x3D ∷ 0x22 ∷ (value ++ (0x22 ∷ rest))) in
    let names = name_chars (c ∷ cs) n e in
    pair_whole (0x20 ∷ t1) (0x20 ∷ []) t1 (c ∷ cs) (0x3D ∷ 0x22 ∷ (value ++ (0x22 ∷ rest))) [] (0x3D ∷ 0x22 ∷ (value ++ (0x22 ∷ rest))) (0x22 ∷ (value ++ (0x22 ∷ rest))) []
    (0x22 ∷ (value ++ (0x22 ∷ rest))) (value ++ (0x22 ∷ rest)) value (0x22 ∷ rest) rest 0x3D 0x22 0x22
    (ap (λ p. (0x20 ∷ p.0, p.1)) (name_starts c cs (0x3D ∷ 0x22 ∷ (value ++ (0x22 ∷ rest))) names))
    (span_stop in_name (c ∷ cs) (0x3D ∷ 0x22 ∷ (value ++ (0x22 ∷ rest))) names refl)
    refl refl refl refl
    (span_stop (λ d. not (d == 0x22)) value (0x22 ∷ rest) h refl)
    refl

written_pair : (name value rest : List ℕ) → attribute_text name value ++ rest ≡ one_pair name (written_value value) rest
unfolding one_pair
written_pair name value rest = simp append_assoc

abbrev pair_for : Attribute → Pair
pair_for a = record { name = spelled a.name; text = written_value a.value }

pairs_all : (n : ℕ) (attributes : List Attribute) → length attributes ≤ n → AreSimple attributes → pairs_of n (attrs attributes) ≡ Some (map pair_for attributes)
unfolding one_pair
pairs_all n [] h s = refl
pairs_all zero (a ∷ attributes) h s = absurd (omega (arith, h))
pairs_all (suc n) (a ∷ attributes) h s =
    ap (pairs_of (suc n)) (written_pair (spelled a.name) a.value (attrs attributes))
    ∙ ap (option_and_then (λ first. option_and_then (λ others. Some (first.0 ∷ others)) (pairs_of n first.1))) (pair_there (spelled a.name) (written_value a.value) (attrs attributes) a.name s.0.named (no_quotes a.value s.1))
    ∙ ap (option_and_then (λ others. Some (pair_for a ∷ others))) (pairs_all n attributes (omega (arith, h)) s.2)

each_attribute : (attributes : List Attribute) → AreSimple attributes → each_of attribute_of (map pair_for attributes) ≡ Some attributes
each_attribute [] s = refl
each_attribute (a ∷ attributes) s =
    ap (option_and_then (λ y. option_and_then (λ ys. Some (y ∷ ys)) (each_of attribute_of (map pair_for attributes))))
    (ap (option_and_then (λ n. option_and_then (λ v. Some (record { name = n; value = v })) (value_of (written_value a.value)))) s.0.named
    ∙ ap (option_and_then (λ v. Some (record { name = a.name; value = v }))) (value_read a.value s.1))
    ∙ ap (option_and_then (λ ys. Some (a ∷ ys))) (each_attribute attributes s.2)

-- The inside of a tag.

abbrev pub inside_of : Name → List Attribute → List ℕ
inside_of name attributes = spelled name ++ attrs attributes

ends_some : (c : ℕ) (cs : List ℕ) → (d : ℕ) × EndsIn d (c ∷ cs)
ends_some c [] = (c, ([], refl))
ends_some c (d ∷ cs) = let e = ends_some d cs in (e.0, (c ∷ e.1.0, ap (λ x. c ∷ x) e.1.1))

space_behind : (cs : List ℕ) (d : ℕ) → EndsIn d cs → is_white d ≡ false → without_space_behind cs ≡ cs
space_behind cs d e h =
    let turned : reverse cs ≡ d ∷ reverse e.0 = ap reverse e.1 ∙ reverse-append e.0 (d ∷ []) in
    ap (λ r. reverse (span is_white r).1) turned
    ∙ ap (λ t. reverse (cond {A = List ℕ × List ℕ} t (d ∷ (span is_white (reverse e.0)).0, (span is_white (reverse e.0)).1) ([], d ∷ reverse e.0)).1) h
    ∙ ap reverse (sym turned) ∙ reverse-reverse cs

attrs_end : (a : Attribute) (attributes : List Attribute) → EndsIn 0x22 (attrs (a ∷ attributes))
attrs_end a [] = (codes " " ++ spelled a.name ++ codes "=\"" ++ flat_map value_character a.value, append-nil _)
attrs_end a (b ∷ attributes) =
    let e = attrs_end b attributes in
    (attribute_text (spelled a.name) a.value ++ e.0, ap (λ x. attribute_text (spelled a.name) a.value ++ x) e.1 ∙ sym (append_assoc (attribute_text (spelled a.name) a.value) e.0 (0x22 ∷ [])))

no_space : (name : Name) (attributes : List Attribute) → IsSimpleName name → without_space_behind (inside_of name attributes) ≡ inside_of name attributes
no_space name [] s =
    let end = last (spelled name) refl in
    space_behind (spelled name ++ []) end.0 (end.1.0, append-nil (spelled name) ∙ end.1.1) (no_white end.0 (ends_pass in_name end.0 (spelled name) (name_chars (spelled name) name s.named) end.1))
  where
    last : (cs : List ℕ) → spelled name ≡ cs → (d : ℕ) × EndsIn d (spelled name)
    last [] e = absurd (false≢true (ap is_some (sym (ap name_of e) ∙ s.named)))
    last (c ∷ cs) e = let l = ends_some c cs in (l.0, (l.1.0, e ∙ l.1.1))
no_space name (a ∷ attributes) s =
    let e = attrs_end a attributes in
    space_behind (inside_of name (a ∷ attributes)) 0x22 (spelled name ++ e.0, ap (λ x. spelled name ++ x) e.1 ∙ sym (append_assoc (spelled name) e.0 (0x22 ∷ []))) refl

stops_name : (attributes : List Attribute) → span in_name (attrs attributes) ≡ ([], attrs attributes)
stops_name [] = refl
stops_name (a ∷ attributes) = refl

abbrev tag_from : (Name → List Attribute → Item) → List ℕ × List ℕ → Option Item
tag_from make cut = option_and_then (λ name. option_and_then (λ pairs. option_and_then (λ attributes. Some (make name attributes)) (each_of attribute_of pairs)) (pairs_of most_attributes cut.1)) (name_of cut.0)

tag_there : (make : Name → List Attribute → Item) (name : Name) (attributes : List Attribute) → IsSimpleName name → AreSimple attributes → length attributes ≤ most_attributes
    → tag_of make (inside_of name attributes) ≡ Some (make name attributes)
tag_there make name attributes s simple few =
    ap (λ x. tag_from make (span in_name x)) (no_space name attributes s)
    ∙ ap (tag_from make) (span_stop in_name (spelled name) (attrs attributes) (name_chars (spelled name) name s.named) (stops_name attributes))
    ∙ ap (option_and_then (λ n. option_and_then (λ pairs. option_and_then (λ as'. Some (make n as')) (each_of attribute_of pairs)) (pairs_of most_attributes (attrs attributes)))) s.named
    ∙ ap (option_and_then (λ pairs. option_and_then (λ as'. Some (make name as')) (each_of attribute_of pairs))) (pairs_all most_attributes attributes few simple)
    ∙ ap (option_and_then (λ as'. Some (make name as'))) (each_attribute attributes simple)

-- all of it is plain ASCII

fine_value : (cs : List ℕ) → list_all is_simple cs ≡ true → list_all fine cs ≡ true
fine_value cs h = all_weaker is_simple fine fine_simple cs h

pub attrs_chars : (attributes : List Attribute) → AreSimple attributes → AreChars (attrs attributes)
unfolding one_pair
attrs_chars [] s = fine_chars [] refl
attrs_chars (a ∷ attributes) s =
    let w : List ℕ = written_value a.value in
    let rest : List ℕ = attrs attributes in
    subst AreChars (sym (written_pair (spelled a.name) a.value rest))
    (chars_both (0x20 ∷ []) (spelled a.name ++ (0x3D ∷ 0x22 ∷ (w ++ (0x22 ∷ rest)))) (fine_chars (0x20 ∷ []) refl)
    (chars_both (spelled a.name) (0x3D ∷ 0x22 ∷ (w ++ (0x22 ∷ rest))) (fine_chars (spelled a.name) (fine_value (spelled a.name) s.0.simple))
    (chars_both (0x3D ∷ 0x22 ∷ []) (w ++ (0x22 ∷ rest)) (fine_chars (0x3D ∷ 0x22 ∷ []) refl)
    (chars_both w (0x22 ∷ rest) (value_chars a.value s.1)
    (chars_both (0x22 ∷ []) rest (fine_chars (0x22 ∷ []) refl) (attrs_chars attributes s.2))))))

inside_chars : (name : Name) (attributes : List Attribute) → IsSimpleName name → AreSimple attributes → AreChars (inside_of name attributes)
inside_chars name attributes s simple = chars_both (spelled name) (attrs attributes) (fine_chars (spelled name) (fine_value (spelled name) s.simple)) (attrs_chars attributes simple)

-- so its tags are read

abbrev pub tag_bytes : Name → List Attribute → List ℕ
tag_bytes name attributes = front_of (inside_of name attributes) ++ (0x2F ∷ 0x3E ∷ [])

pub empty_for : (name : Name) (attributes : List Attribute) → IsSimpleName name → AreSimple attributes → length attributes ≤ most_attributes → EmptyTag (tag_bytes name attributes) name attributes
empty_for name attributes s simple few =
    let t = tag_text (inside_of name attributes) empty_tag (empty_tag name attributes) (tag_there empty_tag name attributes s simple few) in
    record {
      inner = inside_of name attributes;
      tag = t;
      chars_are = inside_chars name attributes s simple;
      is_text = refl;
      same_name = names t.is_name name t.attributes attributes t.made;
      same_attributes = lists t.is_name name t.attributes attributes t.made;
    }
  where
    names : (a b : Name) (x y : List Attribute) → empty_tag a x ≡ empty_tag b y → a ≡ b
    names a b x y e = cc

    lists : (a b : Name) (x y : List Attribute) → empty_tag a x ≡ empty_tag b y → x ≡ y
    lists a b x y e = cc

pub start_there : (name : Name) (attributes : List Attribute) → IsSimpleName name → AreSimple attributes → length attributes ≤ most_attributes → (y : List ℕ)
    → piece_at (start_text (inside_of name attributes) ++ y) ≡ Some (record { text = start_text (inside_of name attributes); item = start_tag name attributes }, y)
unfolding empty_for
start_there name attributes s simple few y = start_piece (tag_bytes name attributes) name attributes (empty_for name attributes s simple few) y

pub end_there : (name : Name) (attributes : List Attribute) → IsSimpleName name → AreSimple attributes → length attributes ≤ most_attributes → (y : List ℕ)
    → piece_at (end_text name ++ y) ≡ Some (record { text = end_text name; item = end_tag name }, y)
end_there name attributes s simple few y = end_piece (tag_bytes name attributes) name attributes (empty_for name attributes s simple few) y
