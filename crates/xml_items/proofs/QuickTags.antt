-- Tags with attributes of ASCII whose values stand for themselves.
use Rattle.std.proofs.Common.{◌≡◌, ◌⊎◌, inl, inr, ℕ, suc, ◌+◌, ◌-◌, ◌<◌, ◌≤◌, Bool, true, false, not, ◌&&◌, ◌==◌, nat_eq, nat_lt, List, [], ◌∷◌, ◌++◌, reverse, length, take, drop, get_or, codes, Option, Some, None, is_some, unwrap_or, option_and_then, refl, sym, ◌∙◌, ap, arith, append_assoc}
use Rattle.std.proofs.lemmas.Bool.{and_parts, and_from, ne_eqb, false≢true, lt-ltb, ltb-true}
use Rattle.std.proofs.lemmas.Bool.Decides.{nat_tests}
use Rattle.std.proofs.lemmas.List.{append-nil, reverse-append, reverse-reverse}
use Rattle.std.proofs.lemmas.List.Folds.{list_all-append}
use Rattle.std.proofs.lemmas.Str.{chars-IsAscii, IsUtf8-from_ascii}
use Rattle.std.specs.Str.{IsAscii, chars}
use Rattle.std.specs.List.{list_all}
use Rattle.document_model.specs.Characters.{is_char, is_white, span, between}
use Rattle.document_model.specs.Names.{Name, name_of}
use Rattle.document_model.specs.Items.{Item, Attribute, Pair, piece_at, TagKind, kind_at, is_quote, through_tag, pair_at, pairs_of, each_of, attribute_of, value_of, tag_of, start_tag, empty_tag, or_else, without_space_behind, most_attributes}
use Rattle.xml_items.specs.Found.{name_in, no_name, attributes_in, read_attributes}
use Rattle.xml_items.specs.Runs.{is_ordinary}
use Rattle.xml_items.specs.ShortNames.{in_short, is_simple, is_inside, IsShortName, IsShortPair, IsShortRow}
use Rattle.xml_items.specs.Texts.{HasEnd, is_ascii, is_plain}
use Rattle.xml_items.proofs.AsciiTexts.{between_no_end, between_at}
use Rattle.xml_items.proofs.Attributes.{attribute_is}
use Rattle.xml_items.proofs.PlainTexts.{ascii_of, plain_ascii, plain_char, ordinary_value}
use Rattle.xml_items.proofs.ShortTags.{part_of, join, one_byte, open_text, pair_there, short_spelled, spelled, quote_no_white, quote_ascii, in_name_too, all_more, all_last, span_all, span_stop, no_space, through_name, tag_kind, no_slash, found_in, in_name, itself_eq}

abbrev fine : ℕ → Bool
fine c = is_char c && nat_lt c 128

quote_fine : (q : ℕ) → is_quote q ≡ true → fine q ≡ true
quote_fine q e = and_from _ _ (quote_char q e) (quote_ascii q e)
  where
    quote_char : (q : ℕ) → is_quote q ≡ true → is_char q ≡ true
    quote_char q e = grind (arith, nat_tests)

quote_no_end : (q : ℕ) → is_quote q ≡ true → nat_eq q 0x3E ≡ false
quote_no_end q e = grind (arith, nat_tests)

quote_no_slash : (q : ℕ) → is_quote q ≡ true → q ≡ 0x2F → ⊥
quote_no_slash q e f = false≢true (ap is_quote (sym f) ∙ e)

inside_fine : (q c : ℕ) → is_inside q c ≡ true → fine c ≡ true
inside_fine q c e = let o = (and_parts (is_plain c) _ e).0 in and_from _ _ (plain_char c o) (lt-ltb c 128 (plain_ascii c o))

inside_other : (q c : ℕ) → is_inside q c ≡ true → not (c == q) ≡ true
inside_other q c e = (and_parts (is_plain c) _ e).1

ordinary_plain : (c : ℕ) → is_ordinary c ≡ true → is_plain c ≡ true
ordinary_plain c e = grind (arith, nat_tests)

simple_inside : (q c : ℕ) → is_simple q c ≡ true → is_inside q c ≡ true
simple_inside q c e = let both = and_parts (is_ordinary c) _ e in and_from _ _ (ordinary_plain c both.0) both.1

simple_ordinary : (q c : ℕ) → is_simple q c ≡ true → is_ordinary c ≡ true
simple_ordinary q c e = (and_parts (is_ordinary c) _ e).0

fine_ascii : (text : List ℕ) → list_all fine text ≡ true → IsAscii text
fine_ascii text h = ascii_of fine (λ b e. ltb-true b 128 (and_parts (is_char b) _ e).1) text h

-- One pair.

through_inside : (q : ℕ) (inside rest : List ℕ) → list_all (is_inside q) inside ≡ true → through_tag (Some q) (inside ++ q ∷ rest) ≡ (inside ++ q ∷ (through_tag None rest).0, (through_tag None rest).1)
through_inside q [] rest h = rw (itself_eq q) refl
through_inside q (c ∷ inside) rest h =
    let both = and_parts (is_inside q c) (list_all (is_inside q) inside) h in
    rw (is_false (c == q) (inside_other q c both.0), through_inside q inside rest both.1) refl
  where
    is_false : (b : Bool) → not b ≡ true → b ≡ false
    is_false true e = sym e
    is_false false e = refl

through_pair : (name inside rest : List ℕ) (q : ℕ) → IsShortName name → is_quote q ≡ true → list_all (is_inside q) inside ≡ true
    → through_tag None (0x20 ∷ (name ++ 0x3D ∷ q ∷ (inside ++ q ∷ rest))) ≡ (0x20 ∷ (name ++ 0x3D ∷ q ∷ (inside ++ q ∷ (through_tag None rest).0)), (through_tag None rest).1)
through_pair name inside rest q n o h =
    let opened : through_tag None (q ∷ (inside ++ q ∷ rest)) ≡ (q ∷ (inside ++ q ∷ (through_tag None rest).0), (through_tag None rest).1) = rw (quote_no_end q o, o, through_inside q inside rest h) refl in
    (λ i. (0x20 ∷ (through_name name (0x3D ∷ q ∷ (inside ++ q ∷ rest)) n.bytes i).0, (through_name name (0x3D ∷ q ∷ (inside ++ q ∷ rest)) n.bytes i).1))
    ∙ (λ i. (0x20 ∷ (name ++ 0x3D ∷ (opened i).0), (opened i).1))

grow : (m c : ℕ) (cs : List ℕ) (pair : Pair) (rest : List ℕ) → pair_at (c ∷ cs) ≡ Some (pair, rest) → is_some (attribute_of pair) ≡ true → is_some (read_attributes m rest) ≡ true
    → is_some (read_attributes (suc m) (c ∷ cs)) ≡ true
grow m c cs pair rest e a h = rw e (go (pairs_of m rest) h)
  where
    last : (x : Option Attribute) (es : Option (List Attribute)) → is_some x ≡ true → is_some es ≡ true → is_some (option_and_then (λ y. option_and_then (λ ys. Some (y ∷ ys)) es) x) ≡ true
    last None es f g = absurd (false≢true f)
    last (Some y) None f g = absurd (false≢true g)
    last (Some y) (Some ys) f g = refl

    go : (o : Option (List Pair)) → is_some (option_and_then (each_of attribute_of) o) ≡ true → is_some (option_and_then (each_of attribute_of) (option_and_then (λ ps. Some (pair ∷ ps)) o)) ≡ true
    go None f = f
    go (Some ps) f = last (attribute_of pair) (each_of attribute_of ps) a f

pair_reads : (name inside rest : List ℕ) (q m : ℕ) → IsShortName name → is_quote q ≡ true → list_all (is_inside q) inside ≡ true → is_some (value_of inside) ≡ true → is_some (read_attributes m rest) ≡ true
    → is_some (read_attributes (suc m) (0x20 ∷ (name ++ 0x3D ∷ q ∷ (inside ++ q ∷ rest)))) ≡ true
pair_reads name inside rest q m n o h valued r =
    grow m 0x20 (name ++ 0x3D ∷ q ∷ (inside ++ q ∷ rest)) (record { name = name; text = inside }) rest
    (pair_there name inside rest q n.bytes o (all_more (is_inside q) (λ c. not (c == q)) (inside_other q) inside h))
    (sym (attribute_is (record { name = name; text = inside }) true true (sym n.named) (sym valued))) r

-- A row of pairs.

pub row_none : IsShortRow [] 0
row_none = record { bytes = refl; passed = λ rest. refl; reads = λ m rest h. (let e : 0 + m ≡ m = omega arith in ap (λ k. is_some (read_attributes k rest)) e ∙ h); last = inl refl; first = inl refl }

pub row_more : (text pair : List ℕ) (n : ℕ) → IsShortRow text n → IsShortPair pair → IsShortRow (text ++ pair) (n + 1)
row_more text pair n r p =
    let shape : (ys : List ℕ) → pair ++ ys ≡ 0x20 ∷ (p.name ++ 0x3D ∷ p.quote ∷ (p.inside ++ p.quote ∷ ys)) = λ ys. ap (λ x. x ++ ys) p.is
    ∙ ap (λ x. 0x20 ∷ x) (append_assoc p.name (0x3D ∷ p.quote ∷ (p.inside ++ p.quote ∷ [])) ys ∙ ap (λ x. p.name ++ 0x3D ∷ p.quote ∷ x) (append_assoc p.inside (p.quote ∷ []) ys)) in
    let pair_fine : list_all fine pair ≡ true = ap (list_all fine) p.is ∙ list_all-append fine p.name (0x3D ∷ p.quote ∷ (p.inside ++ p.quote ∷ []))
    ∙ and_from _ _ (short_spelled p.name p.named) (and_from _ _ (quote_fine p.quote p.quoted) (all_last fine p.inside p.quote (all_more (is_inside p.quote) fine (inside_fine p.quote) p.inside p.plain) (quote_fine p.quote p.quoted))) in
    record {
      bytes = list_all-append fine text pair ∙ and_from _ _ r.bytes pair_fine;
      passed = λ rest.
          let b : List ℕ × List ℕ = through_tag None rest in
          let one : through_tag None (pair ++ rest) ≡ (pair ++ b.0, b.1) = ap (through_tag None) (shape rest) ∙ through_pair p.name p.inside rest p.quote p.named p.quoted p.plain ∙ ap (λ x. (x, b.1)) (sym (shape b.0)) in
          ap (through_tag None) (append_assoc text pair rest) ∙ r.passed (pair ++ rest) ∙ (λ i. (text ++ (one i).0, (one i).1)) ∙ ap (λ x. (x, b.1)) (sym (append_assoc text pair b.0));
      reads = λ m rest h.
          let one : is_some (read_attributes (suc m) (pair ++ rest)) ≡ true = ap (λ x. is_some (read_attributes (suc m) x)) (shape rest) ∙ pair_reads p.name p.inside rest p.quote m p.named p.quoted p.plain p.valued h in
          let k : n + 1 + m ≡ n + suc m = omega arith in
          (λ i. is_some (read_attributes (k i) (append_assoc text pair rest i))) ∙ r.reads (suc m) (pair ++ rest) one;
      last = inr (
        text ++ 0x20 ∷ (p.name ++ 0x3D ∷ p.quote ∷ p.inside),
        p.quote,
        ap (λ x. text ++ x) (p.is ∙ sym (ap (λ x. 0x20 ∷ x) (append_assoc p.name (0x3D ∷ p.quote ∷ p.inside) (p.quote ∷ [])))) ∙ sym (append_assoc text (0x20 ∷ (p.name ++ 0x3D ∷ p.quote ∷ p.inside)) (p.quote ∷ [])),
        p.quoted,
      );
      first = inr (begins r.first);
    }
  where
    begins : (text ≡ []) ⊎ ((behind : List ℕ) × (text ≡ 0x20 ∷ behind)) → (behind : List ℕ) × (text ++ pair ≡ 0x20 ∷ behind)
    begins (inl e) = (_, ap (λ x. x ++ pair) e ∙ p.is)
    begins (inr w) = (w.0 ++ pair, ap (λ x. x ++ pair) w.1)

-- A tag with such a row.

second_last : (xs ys : List ℕ) (a b c d : ℕ) → xs ++ a ∷ b ∷ [] ≡ ys ++ c ∷ d ∷ [] → a ≡ c
second_last xs ys a b c d e =
    let both : b ∷ a ∷ reverse xs ≡ d ∷ c ∷ reverse ys = sym (reverse-append xs (a ∷ b ∷ [])) ∙ ap reverse e ∙ reverse-append ys (c ∷ d ∷ []) in
    ap (λ l. get_or l 1 0) both

row_no_slash : (name row : List ℕ) (n : ℕ) → IsShortName name → IsShortRow row n → HasEnd ((name ++ row) ++ 0x3E ∷ []) (codes "/>") → ⊥
row_no_slash name row n h r w = by_last r.last
  where
    by_last : (row ≡ []) ⊎ ((before : List ℕ) × (quote : ℕ) × (row ≡ before ++ quote ∷ []) × (is_quote quote ≡ true)) → ⊥
    by_last (inl e) = no_slash name h.bytes (w.0, ap (λ x. x ++ 0x3E ∷ []) (sym (append-nil name) ∙ ap (λ x. name ++ x) (sym e)) ∙ w.1)
    by_last (inr l) =
        let text : (name ++ row) ++ 0x3E ∷ [] ≡ (name ++ l.0) ++ l.1 ∷ 0x3E ∷ []
        = ap (λ x. (name ++ x) ++ 0x3E ∷ []) l.2 ∙ ap (λ x. x ++ 0x3E ∷ []) (sym (append_assoc name l.0 (l.1 ∷ []))) ∙ append_assoc (name ++ l.0) (l.1 ∷ []) (0x3E ∷ []) in
        quote_no_slash l.1 l.3 (second_last (name ++ l.0) w.0 l.1 0x3E 0x2F 0x3E (sym text ∙ w.1))

row_no_space : (name row : List ℕ) (n : ℕ) → IsShortName name → IsShortRow row n → without_space_behind (name ++ row) ≡ name ++ row
row_no_space name row n h r = by_last r.last
  where
    by_last : (row ≡ []) ⊎ ((before : List ℕ) × (quote : ℕ) × (row ≡ before ++ quote ∷ []) × (is_quote quote ≡ true)) → without_space_behind (name ++ row) ≡ name ++ row
    by_last (inl e) =
        let whole : name ++ row ≡ name = ap (λ x. name ++ x) e ∙ append-nil name in
        ap without_space_behind whole ∙ no_space name h.bytes ∙ sym whole
    by_last (inr l) =
        let text : name ++ row ≡ (name ++ l.0) ++ l.1 ∷ [] = ap (λ x. name ++ x) l.2 ∙ sym (append_assoc name l.0 (l.1 ∷ [])) in
        let back : reverse (name ++ row) ≡ l.1 ∷ reverse (name ++ l.0) = ap reverse text ∙ reverse-append (name ++ l.0) (l.1 ∷ []) in
        let none : span is_white (l.1 ∷ reverse (name ++ l.0)) ≡ ([], l.1 ∷ reverse (name ++ l.0)) = rw (quote_no_white l.1 l.3) refl in
        ap (λ x. reverse (span is_white x).1) back ∙ ap (λ x. reverse x.1) none ∙ ap reverse (sym back) ∙ reverse-reverse (name ++ row)

row_cut : (name row : List ℕ) (n : ℕ) → IsShortName name → IsShortRow row n → span in_name (without_space_behind (name ++ row)) ≡ (name, row)
row_cut name row n h r = ap (span in_name) (row_no_space name row n h r) ∙ by_first r.first
  where
    passes : list_all in_name name ≡ true
    passes = all_more in_short in_name in_name_too name h.bytes

    by_first : (row ≡ []) ⊎ ((behind : List ℕ) × (row ≡ 0x20 ∷ behind)) → span in_name (name ++ row) ≡ (name, row)
    by_first (inl e) = ap (span in_name) (ap (λ x. name ++ x) e ∙ append-nil name) ∙ span_all in_name name passes ∙ ap (λ x. (name, x)) (sym e)
    by_first (inr w) = ap (λ x. span in_name (name ++ x)) w.1 ∙ span_stop in_name name 0x20 w.0 passes refl ∙ ap (λ x. (name, x)) (sym w.1)

tag_reads : (make : Name → List Attribute → Item) (text name behind : List ℕ) → span in_name (without_space_behind text) ≡ (name, behind) → is_some (name_of name) ≡ true → is_some (read_attributes most_attributes behind) ≡ true
    → tag_of make text ≡ Some (make (name_in name) (attributes_in behind))
tag_reads make text name behind e h k = rw e (go (name_of name) (pairs_of most_attributes behind) h k)
  where
    go : (n : Option Name) (ps : Option (List Pair)) → is_some n ≡ true → is_some (option_and_then (each_of attribute_of) ps) ≡ true
        → option_and_then (λ name. option_and_then (λ pairs. option_and_then (λ attributes. Some (make name attributes)) (each_of attribute_of pairs)) ps) n
        ≡ Some (make (unwrap_or n no_name) (unwrap_or (option_and_then (each_of attribute_of) ps) []))
    go None ps h k = absurd (false≢true h)
    go (Some n) None h k = absurd (false≢true k)
    go (Some n) (Some ps) h k = last (each_of attribute_of ps) k
      where
        last : (as' : Option (List Attribute)) → is_some as' ≡ true → option_and_then (λ attributes. Some (make n attributes)) as' ≡ Some (make n (unwrap_or as' []))
        last None g = absurd (false≢true g)
        last (Some xs) g = refl

pub row_read : (row : List ℕ) (n : ℕ) → n ≤ most_attributes → IsShortRow row n → is_some (read_attributes most_attributes row) ≡ true
row_read row n h r =
    let k : n + (most_attributes - n) ≡ most_attributes = omega arith in
    ap (λ m. is_some (read_attributes m row)) (sym k) ∙ ap (λ x. is_some (read_attributes (n + (most_attributes - n)) x)) (sym (append-nil row)) ∙ r.reads (most_attributes - n) [] refl

row_tag : (make : Name → List Attribute → Item) (name row : List ℕ) (n : ℕ) → n ≤ most_attributes → IsShortName name → IsShortRow row n → tag_of make (name ++ row) ≡ Some (make (name_in name) (attributes_in row))
row_tag make name row n m h r = tag_reads make (name ++ row) name row (row_cut name row n h r) h.named (row_read row n m r)

row_spelled : (name row close : List ℕ) (n : ℕ) → list_all fine close ≡ true → IsShortName name → IsShortRow row n → list_all fine (0x3C ∷ ((name ++ row) ++ close)) ≡ true
row_spelled name row close n e h r =
    and_from _ _ refl (list_all-append fine (name ++ row) close ∙ and_from _ _ (list_all-append fine name row ∙ and_from _ _ (short_spelled name h) r.bytes) e)

row_shape : (name row close behind : List ℕ) → (0x3C ∷ ((name ++ row) ++ close)) ++ behind ≡ 0x3C ∷ (name ++ (row ++ (close ++ behind)))
row_shape name row close behind = ap (λ x. 0x3C ∷ x) (append_assoc (name ++ row) close behind ∙ append_assoc name row (close ++ behind))

row_through : (name row close behind : List ℕ) (n : ℕ) → IsShortName name → IsShortRow row n → through_tag None (close ++ behind) ≡ (close, behind)
    → through_tag None ((0x3C ∷ ((name ++ row) ++ close)) ++ behind) ≡ (0x3C ∷ ((name ++ row) ++ close), behind)
row_through name row close behind n h r e =
    let inner : through_tag None (row ++ (close ++ behind)) ≡ (row ++ close, behind) = r.passed (close ++ behind) ∙ (λ i. (row ++ (e i).0, (e i).1)) in
    ap (through_tag None) (row_shape name row close behind)
    ∙ (λ i. (0x3C ∷ (through_name name (row ++ (close ++ behind)) h.bytes i).0, (through_name name (row ++ (close ++ behind)) h.bytes i).1))
    ∙ (λ i. (0x3C ∷ (name ++ (inner i).0), (inner i).1))
    ∙ ap (λ x. (0x3C ∷ x, behind)) (sym (append_assoc name row close))

pub row_start_piece : (name row : List ℕ) (n : ℕ) (behind : List ℕ) → n ≤ most_attributes → IsShortName name → IsShortRow row n
    → piece_at ((0x3C ∷ ((name ++ row) ++ 0x3E ∷ [])) ++ behind) ≡ Some (record { text = 0x3C ∷ ((name ++ row) ++ 0x3E ∷ []); item = start_tag (name_in name) (attributes_in row) }, behind)
row_start_piece name row n behind m h r =
    let text : List ℕ = 0x3C ∷ ((name ++ row) ++ 0x3E ∷ []) in
    let fine_text = row_spelled name row (0x3E ∷ []) n refl h r in
    let ascii : IsAscii text = fine_ascii text fine_text in
    let no : between (codes "<") (codes "/>") text ≡ None = ap (between (codes "<") (codes "/>")) (sym (chars-IsAscii text ascii))
    ∙ between_no_end (codes "<") (codes "/>") ((name ++ row) ++ 0x3E ∷ []) text refl refl (IsUtf8-from_ascii text ascii) refl (row_no_slash name row n h r) in
    let yes : between (codes "<") (codes ">") text ≡ Some (name ++ row) = between_at (codes "<") (codes ">") (name ++ row) in
    found_in TagKind text behind (start_tag (name_in name) (attributes_in row))
    (ap kind_at (row_shape name row (0x3E ∷ []) behind) ∙ tag_kind name (row ++ 0x3E ∷ behind) h)
    (row_through name row (0x3E ∷ []) behind n h r refl)
    (spelled text fine_text)
    ((λ i. or_else (option_and_then (tag_of empty_tag) (no i)) (option_and_then (tag_of start_tag) (yes i))) ∙ row_tag start_tag name row n m h r)

pub row_empty_piece : (name row : List ℕ) (n : ℕ) (behind : List ℕ) → n ≤ most_attributes → IsShortName name → IsShortRow row n
    → piece_at ((0x3C ∷ ((name ++ row) ++ 0x2F ∷ 0x3E ∷ [])) ++ behind) ≡ Some (record { text = 0x3C ∷ ((name ++ row) ++ 0x2F ∷ 0x3E ∷ []); item = empty_tag (name_in name) (attributes_in row) }, behind)
row_empty_piece name row n behind m h r =
    let text : List ℕ = 0x3C ∷ ((name ++ row) ++ 0x2F ∷ 0x3E ∷ []) in
    let yes : between (codes "<") (codes "/>") text ≡ Some (name ++ row) = between_at (codes "<") (codes "/>") (name ++ row) in
    found_in TagKind text behind (empty_tag (name_in name) (attributes_in row))
    (ap kind_at (row_shape name row (0x2F ∷ 0x3E ∷ []) behind) ∙ tag_kind name (row ++ 0x2F ∷ 0x3E ∷ behind) h)
    (row_through name row (0x2F ∷ 0x3E ∷ []) behind n h r refl)
    (spelled text (row_spelled name row (0x2F ∷ 0x3E ∷ []) n refl h r))
    ((λ i. or_else (option_and_then (tag_of empty_tag) (yes i)) (option_and_then (tag_of start_tag) (between (codes "<") (codes ">") text)))
    ∙ ap (λ o. or_else o (option_and_then (tag_of start_tag) (between (codes "<") (codes ">") text))) (row_tag empty_tag name row n m h r))

-- Places.

pub nothing : (d : List ℕ) (a : ℕ) → part_of d a a ≡ []
nothing d a = let n : a - a ≡ 0 = omega arith in ap (λ k. take k (drop a d)) n

pub inside_more : (q c : ℕ) → is_plain c ≡ true → (c ≡ q → ⊥) → is_inside q c ≡ true
inside_more q c o n = and_from _ _ o (ap not (ne_eqb c q n))

pub simple_more : (q c : ℕ) → is_ordinary c ≡ true → (c ≡ q → ⊥) → is_simple q c ≡ true
simple_more q c o n = and_from _ _ o (ap not (ne_eqb c q n))

-- what stands for itself is inside quotes, and a value
pub simple_is : (q : ℕ) (inside : List ℕ) → list_all (is_simple q) inside ≡ true → (list_all (is_inside q) inside ≡ true) × (is_some (value_of inside) ≡ true)
simple_is q inside h =
    let within = all_more (is_simple q) (is_inside q) (simple_inside q) inside h in
    let same : chars inside ≡ inside = chars-IsAscii inside (fine_ascii inside (all_more (is_inside q) fine (inside_fine q) inside within)) in
    (within, ap (λ x. is_some (value_of x)) (sym same) ∙ ordinary_value inside (all_more (is_simple q) is_ordinary (simple_ordinary q) inside h))

pub inside_ascii : (q : ℕ) (inside : List ℕ) → list_all (is_inside q) inside ≡ true → is_ascii inside ≡ true
inside_ascii q inside h = all_more (is_inside q) (λ c. nat_lt c 128) (λ c e. (and_parts (is_char c) _ (inside_fine q c e)).1) inside h

-- a value by its text
pub valued_by : (q : ℕ) (text inside : List ℕ) → list_all (is_inside q) inside ≡ true → text ≡ inside → is_some (value_of (chars text)) ≡ true → is_some (value_of inside) ≡ true
valued_by q text inside h e v =
    let same : chars text ≡ inside = ap chars e ∙ chars-IsAscii inside (fine_ascii inside (all_more (is_inside q) fine (inside_fine q) inside h)) in
    ap (λ x. is_some (value_of x)) (sym same) ∙ v

pub pair_is : (d : List ℕ) (at equals end q : ℕ) → at + 1 < equals → equals + 2 ≤ end → end < length d → get_or d at 0 ≡ 0x20 → IsShortName (part_of d (at + 1) equals) → get_or d equals 0 ≡ 0x3D
    → get_or d (equals + 1) 0 ≡ q → is_quote q ≡ true → list_all (is_inside q) (part_of d (equals + 2) end) ≡ true → is_some (value_of (part_of d (equals + 2) end)) ≡ true → get_or d end 0 ≡ q → IsShortPair (part_of d at (end + 1))
pair_is d at equals end q h k l e n f g o i v j =
    let name : List ℕ = part_of d (at + 1) equals in
    let inside : List ℕ = part_of d (equals + 2) end in
    let fifth : part_of d (equals + 2) (end + 1) ≡ inside ++ q ∷ [] = join d (equals + 2) end (end + 1) k (omega arith) ∙ ap (λ x. inside ++ x) (one_byte d end (end + 1) q l refl j) in
    let fourth : part_of d (equals + 1) (end + 1) ≡ q ∷ (inside ++ q ∷ [])
    = join d (equals + 1) (equals + 2) (end + 1) (omega arith) (omega (arith, k)) ∙ (λ t. one_byte d (equals + 1) (equals + 2) q (omega (arith, k, l)) (omega arith) g t ++ fifth t) in
    let third : part_of d equals (end + 1) ≡ 0x3D ∷ q ∷ (inside ++ q ∷ [])
    = join d equals (equals + 1) (end + 1) (omega arith) (omega (arith, k)) ∙ (λ t. one_byte d equals (equals + 1) 0x3D (omega (arith, k, l)) refl f t ++ fourth t) in
    let second : part_of d (at + 1) (end + 1) ≡ name ++ 0x3D ∷ q ∷ (inside ++ q ∷ []) = join d (at + 1) equals (end + 1) (omega (arith, h)) (omega (arith, k)) ∙ ap (λ x. name ++ x) third in
    let first : part_of d at (end + 1) ≡ 0x20 ∷ (name ++ 0x3D ∷ q ∷ (inside ++ q ∷ []))
    = join d at (at + 1) (end + 1) (omega arith) (omega (arith, h, k)) ∙ (λ t. one_byte d at (at + 1) 0x20 (omega (arith, h, k, l)) refl e t ++ second t) in
    record { name = name; quote = q; inside = inside; named = n; quoted = o; plain = i; valued = v; is = first }

-- the text of a tag with a row
pub row_text : (d : List ℕ) (at end last behind : ℕ) (close : List ℕ) → at + 1 ≤ end → end ≤ last → last ≤ behind → at < length d → get_or d at 0 ≡ 0x3C → part_of d last behind ≡ close
    → part_of d at behind ≡ 0x3C ∷ ((part_of d (at + 1) end ++ part_of d end last) ++ close)
row_text d at end last behind close h k l w e f =
    open_text d at last behind close (omega (arith, h, k)) l w e f ∙ ap (λ x. 0x3C ∷ (x ++ close)) (join d (at + 1) end last h k)

pub row_ascii : (row : List ℕ) (n : ℕ) → IsShortRow row n → is_ascii row ≡ true
row_ascii row n r = all_more fine (λ c. nat_lt c 128) (λ c e. (and_parts (is_char c) _ e).1) row r.bytes

pub row_chars : (text row : List ℕ) (n : ℕ) → IsShortRow row n → text ≡ row → chars text ≡ row
row_chars text row n r e = ap chars e ∙ chars-IsAscii row (fine_ascii row r.bytes)
