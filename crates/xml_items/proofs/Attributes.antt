-- A pair and a row of attributes.
use Rattle.std.proofs.Common.{◌+◌, ◌<◌, zero-add, length, arith, ◌-◌, ◌≡◌, ℕ, zero, suc, Bool, true, false, not, ◌&&◌, ◌||◌, ◌==◌, List, [], ◌∷◌, Option, Some, None, is_some, MatchOption, unwrap_or, option_and_then, refl, sym, ap, ◌∙◌}
use Rattle.std.proofs.lemmas.Bool.{true≢false, false≢true}
use Rattle.document_model.specs.Characters.{span, is_white, continues_name, is_empty}
use Rattle.document_model.specs.Names.{Name, name_of}
use Rattle.document_model.specs.Items.{Item, Attribute, Pair, pair_at, pairs_of, each_of, attribute_of, value_of, behind_one, is_quote, when, tag_of, most_attributes, without_space_behind}
use Rattle.document_model.proofs.Joins.{some_same}
use Rattle.std.proofs.lemmas.Option.{none-some}
use Rattle.xml_items.specs.Found.{read_attributes, attributes_in, name_in, no_name, value_in}

pub pair_whole : (t space t1 name t2 w2 t3 t4 w4 t5 t6 inside t7 t8 : List ℕ) (equals quote end : ℕ)
    → span is_white t ≡ (space, t1) → span (λ c. continues_name c || (c == 0x3A)) t1 ≡ (name, t2) → span is_white t2 ≡ (w2, t3) → behind_one (λ c. c == 0x3D) t3 ≡ Some (equals, t4)
    → span is_white t4 ≡ (w4, t5) → behind_one is_quote t5 ≡ Some (quote, t6) → span (λ c. not (c == quote)) t6 ≡ (inside, t7) → behind_one (λ c. c == quote) t7 ≡ Some (end, t8)
    → pair_at t ≡ when (not (is_empty space)) (record { name = name; text = inside }, t8)
pair_whole t space t1 name t2 w2 t3 t4 w4 t5 t6 inside t7 t8 equals quote end a b c d e f g h = rw (a, b, c, d, e, f, g, h) refl

-- no white space stands before it
pub pair_unspaced : (t space t1 : List ℕ) → span is_white t ≡ (space, t1) → is_empty space ≡ true → pair_at t ≡ None
pair_unspaced t space t1 a e = rw (a, e) (one (behind_one (λ c. c == 0x3D) (span is_white name.1).1))
  where
    name : List ℕ × List ℕ
    name = span (λ c. continues_name c || (c == 0x3A)) t1

    three : (quote equals : ℕ × List ℕ) (o : Option (ℕ × List ℕ))
        → option_and_then {U = Pair × List ℕ} (λ end. when false (record { name = name.0; text = (span (λ c. not (c == quote.0)) quote.1).0 }, end.1)) o ≡ None
    three quote equals None = refl
    three quote equals (Some x) = refl

    two : (equals : ℕ × List ℕ) (o : Option (ℕ × List ℕ))
        → option_and_then {U = Pair × List ℕ} (λ quote. let inside = span (λ c. not (c == quote.0)) quote.1 in
        option_and_then {U = Pair × List ℕ} (λ end. when false (record { name = name.0; text = inside.0 }, end.1)) (behind_one (λ c. c == quote.0) inside.1)) o ≡ None
    two equals None = refl
    two equals (Some quote) = three quote equals (behind_one (λ c. c == quote.0) (span (λ c. not (c == quote.0)) quote.1).1)

    one : (o : Option (ℕ × List ℕ))
        → option_and_then {U = Pair × List ℕ} (λ equals. option_and_then {U = Pair × List ℕ} (λ quote. let inside = span (λ c. not (c == quote.0)) quote.1 in
        option_and_then {U = Pair × List ℕ} (λ end. when false (record { name = name.0; text = inside.0 }, end.1)) (behind_one (λ c. c == quote.0) inside.1)) (behind_one is_quote (span is_white equals.1).1)) o ≡ None
    one None = refl
    one (Some equals) = two equals (behind_one is_quote (span is_white equals.1).1)

-- one more attribute

pub attributes_none : (n c : ℕ) (cs : List ℕ) → pair_at (c ∷ cs) ≡ None → is_some (read_attributes n (c ∷ cs)) ≡ false
attributes_none zero c cs e = refl
attributes_none (suc n) c cs e = rw e refl

pub tag_unread : (make : Name → List Attribute → Item) (text name behind : List ℕ) → span (λ c. continues_name c || (c == 0x3A)) (without_space_behind text) ≡ (name, behind)
    → (is_some (name_of name) && is_some (read_attributes most_attributes behind)) ≡ false → tag_of make text ≡ None
tag_unread make text name behind e f = rw e (go (name_of name) (pairs_of most_attributes behind) f)
  where
    go : (n : Option Name) (ps : Option (List Pair)) → (is_some n && is_some (option_and_then (each_of attribute_of) ps)) ≡ false
        → option_and_then (λ name. option_and_then (λ pairs. option_and_then (λ attributes. Some (make name attributes)) (each_of attribute_of pairs)) ps) n ≡ None
    go None ps f = refl
    go (Some n) None f = refl
    go (Some n) (Some ps) f = last (each_of attribute_of ps) f
      where
        last : (as' : Option (List Attribute)) → is_some as' ≡ false → option_and_then (λ attributes. Some (make n attributes)) as' ≡ None
        last None g = refl
        last (Some xs) g = absurd (true≢false g)

pub attribute_is : (pair : Pair) (n v : Bool) → n ≡ is_some (name_of pair.name) → v ≡ is_some (value_of pair.text) → (n && v) ≡ is_some (attribute_of pair)
attribute_is pair n v e f = (λ i. e i && f i) ∙ go (name_of pair.name) (value_of pair.text)
  where
    go : (a : Option Name) (b : Option (List ℕ)) → (is_some a && is_some b) ≡ is_some {T = Attribute} (option_and_then (λ name. option_and_then (λ value. Some (record { name = name; value = value })) b) a)
    go None b = refl
    go (Some a) None = refl
    go (Some a) (Some b) = refl

-- a row of attributes, by how it begins

pub attributes_too_many : (n : ℕ) (cs : List ℕ) → n ≡ 0 → is_empty cs ≡ false → is_some (read_attributes n cs) ≡ false
attributes_too_many n [] e f = absurd (true≢false f)
attributes_too_many n (c ∷ cs) e f = rw e refl

pub attributes_end : (n : ℕ) (cs : List ℕ) → is_empty cs ≡ true → is_some (read_attributes n cs) ≡ true
attributes_end zero [] f = refl
attributes_end (suc n) [] f = refl
attributes_end n (c ∷ cs) f = absurd (false≢true f)

pub attributes_stop : (n : ℕ) (cs : List ℕ) → is_empty cs ≡ false → pair_at cs ≡ None → is_some (read_attributes n cs) ≡ false
attributes_stop n [] f e = absurd (true≢false f)
attributes_stop n (c ∷ cs) f e = attributes_none n c cs e

-- a row of attributes, one after another

-- what is behind a pair is the row without its first attribute
pub record Follows (n : ℕ) (attributes : List Attribute) (pair : Pair) (rest : List ℕ) : Type 0 where
  pub attribute : Attribute
  pub others : List Attribute
  pub is : attribute_of pair ≡ Some attribute
  pub first : attributes ≡ attribute ∷ others
  pub next : read_attributes (n - 1) rest ≡ Some others

pub row : (n : ℕ) (cs : List ℕ) (attributes : List Attribute) (found : Option (Pair × List ℕ)) → pair_at cs ≡ found → read_attributes n cs ≡ Some attributes
    → MatchOption found (attributes ≡ []) (λ r. Follows n attributes r.0 r.1)
row zero [] attributes None e f = cc
row (suc n) [] attributes None e f = cc
row zero [] attributes (Some r) e f = absurd cc
row (suc n) [] attributes (Some r) e f = absurd cc
row zero (c ∷ cs) attributes found e f = absurd cc
row (suc n) (c ∷ cs) attributes None e f = absurd (none_of e f)
  where
    none_of : pair_at (c ∷ cs) ≡ None → read_attributes (suc n) (c ∷ cs) ≡ Some attributes → ⊥
    none_of e f = let g = attributes_none (suc n) c cs e in true≢false (ap is_some (sym f) ∙ g)
row (suc n) (c ∷ cs) attributes (Some r) e f =
    let read : read_attributes (suc n) (c ∷ cs) ≡ option_and_then (each_of attribute_of) (option_and_then (λ ps. Some (r.0 ∷ ps)) (pairs_of n r.1)) = rw e refl in
    go (pairs_of n r.1) refl (sym read ∙ f)
  where
    parts : (ps : List Pair) (a : Option Attribute) (es : Option (List Attribute)) → pairs_of n r.1 ≡ Some ps → attribute_of r.0 ≡ a → each_of attribute_of ps ≡ es
        → option_and_then (λ y. option_and_then (λ ys. Some (y ∷ ys)) es) a ≡ Some attributes → Follows (suc n) attributes r.0 r.1
    parts ps None es h p q k = absurd cc
    parts ps (Some a) None h p q k = absurd cc
    parts ps (Some a) (Some es) h p q k =
        let m : suc n - 1 ≡ n = omega arith in
        record { attribute = a; others = es; is = p; first = cc; next = rw m (ap (option_and_then (each_of attribute_of)) h ∙ q) }

    go : (o : Option (List Pair)) → pairs_of n r.1 ≡ o → option_and_then (each_of attribute_of) (option_and_then (λ ps. Some (r.0 ∷ ps)) o) ≡ Some attributes → Follows (suc n) attributes r.0 r.1
    go None h k = absurd cc
    go (Some ps) h k = parts ps (attribute_of r.0) (each_of attribute_of ps) h refl refl k

-- so many attributes of a text stand before the rest
pub record Counts (text rest : List ℕ) (count : ℕ) : Type 0 where
  pub others : List Attribute
  pub next : read_attributes (most_attributes - count) rest ≡ Some others
  pub counted : count + length others ≡ length (attributes_in text)

pub counts_none : (text : List ℕ) → is_some (read_attributes most_attributes text) ≡ true → Counts text text 0
counts_none text h = go (read_attributes most_attributes text) refl h
  where
    go : (o : Option (List Attribute)) → read_attributes most_attributes text ≡ o → is_some o ≡ true → Counts text text 0
    go None e h = absurd (false≢true h)
    go (Some xs) e h = record { others = xs; next = e; counted = zero-add (length xs) ∙ ap (λ o. length (unwrap_or o [])) (sym e) }

pub counts_more : (text rest next : List ℕ) (pair : Pair) (count : ℕ) → count < most_attributes → Counts text rest count → pair_at rest ≡ Some (pair, next) → Counts text next (count + 1)
counts_more text rest next pair count h w e =
    let f : Follows (most_attributes - count) w.others pair next = row (most_attributes - count) rest w.others (Some (pair, next)) e w.next in
    let n : most_attributes - count - 1 ≡ most_attributes - (count + 1) = omega arith in
    record { others = f.others; next = rw (← n) f.next; counted = let l : length w.others ≡ suc (length f.others) = ap length f.first in omega (arith, w.counted, l) }

pub counts_all : (text rest : List ℕ) (count : ℕ) → Counts text rest count → pair_at rest ≡ None → count ≡ length (attributes_in text)
counts_all text rest count w e =
    let f : w.others ≡ [] = row (most_attributes - count) rest w.others None e w.next in
    let l : length w.others ≡ 0 = ap length f in
    omega (arith, w.counted, l)

zero_left : (rest : List ℕ) (others : List Attribute) → read_attributes 0 rest ≡ Some others → length others ≡ 0
zero_left [] others e = let f : others ≡ [] = cc in ap length f
zero_left (x ∷ rest) others e = absurd cc

pub counts_full : (text rest : List ℕ) (count : ℕ) → count ≡ most_attributes → Counts text rest count → most_attributes ≡ length (attributes_in text)
counts_full text rest count h w =
    let z : most_attributes - count ≡ 0 = omega arith in
    omega (arith, w.counted, zero_left rest w.others (rw z at w.next))

-- The first attribute of a row.

-- a pair is an attribute by its two texts
pub record Read (pair : Pair) (a : Attribute) : Type 0 where
  pub named : is_some (name_of pair.name) ≡ true
  pub valued : is_some (value_of pair.text) ≡ true
  pub is : a ≡ record { name = name_in pair.name; value = value_in pair.text }

read_pair : (pair : Pair) (a : Attribute) → attribute_of pair ≡ Some a → Read pair a
read_pair pair a e = go (name_of pair.name) (value_of pair.text) refl refl e
  where
    go : (n : Option Name) (v : Option (List ℕ)) → name_of pair.name ≡ n → value_of pair.text ≡ v
        → option_and_then (λ name. option_and_then (λ value. Some (record { name = name; value = value })) v) n ≡ Some a → Read pair a
    go None v f g e = absurd (none-some a e)
    go (Some n) None f g e = absurd (none-some a e)
    go (Some n) (Some v) f g e = record {
      named = ap is_some f;
      valued = ap is_some g;
      is = sym (some_same _ a e) ∙ (λ i. record { name = unwrap_or (sym f i) no_name; value = unwrap_or (sym g i) [] });
    }

-- the row begins with an attribute, and others stand behind
pub record Front (n : ℕ) (cs : List ℕ) (pair : Pair) (rest : List ℕ) : Type 0 where
  pub attribute : Attribute
  pub read : Read pair attribute
  pub list : unwrap_or (read_attributes n cs) [] ≡ attribute ∷ unwrap_or (read_attributes (n - 1) rest) []
  pub next : is_some (read_attributes (n - 1) rest) ≡ true
  pub some : 0 < n

pub row_front : (n : ℕ) (cs : List ℕ) (pair : Pair) (rest : List ℕ) → is_some (read_attributes n cs) ≡ true → pair_at cs ≡ Some (pair, rest) → Front n cs pair rest
row_front n cs pair rest h e = go (read_attributes n cs) refl h
  where
    some_left : (n : ℕ) (xs : List Attribute) → read_attributes n cs ≡ Some xs → pair_at cs ≡ Some (pair, rest) → 0 < n
    some_left zero xs f e = absurd (by_text cs f e)
      where
        by_text : (cs : List ℕ) → read_attributes zero cs ≡ Some xs → pair_at cs ≡ Some (pair, rest) → ⊥
        by_text [] f e = cc
        by_text (c ∷ cs) f e = none-some xs f
    some_left (suc n) xs f e = omega arith

    go : (o : Option (List Attribute)) → read_attributes n cs ≡ o → is_some o ≡ true → Front n cs pair rest
    go None f h = absurd (false≢true h)
    go (Some xs) f h =
        let r : Follows n xs pair rest = row n cs xs (Some (pair, rest)) e f in
        record {
          attribute = r.attribute;
          read = read_pair pair r.attribute r.is;
          list = ap (λ o. unwrap_or o []) f ∙ r.first ∙ ap (λ o. r.attribute ∷ unwrap_or o []) (sym r.next);
          next = ap is_some r.next;
          some = some_left n xs f e;
        }
