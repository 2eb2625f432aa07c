-- Texts over which the end of a tag is sought: they leave the quotes closed, and have no `>` outside of them.
use Rattle.std.proofs.Common.{◌≡◌, ℕ, zero, suc, ◌<◌, ◌≤◌, Bool, true, false, cond, not, ◌&&◌, ◌||◌, ◌==◌, List, [], ◌∷◌, ◌++◌, length, get_or, reverse, Option, Some, None, refl, sym, ◌∙◌, ap, subst, ◌⊎◌, inl, inr, arith, nat_eq, nat_lt, append_assoc}
use Rattle.std.proofs.lemmas.Option.{none-some}
use Rattle.std.proofs.lemmas.Bool.{true≢false, false≢true, eqb-true, ne_eqb, and_parts, and_from, ltb-true}
use Rattle.std.proofs.lemmas.Bool.Decides.{nat_tests}
use Rattle.std.proofs.lemmas.List.{append-nil, reverse-append, reverse-reverse}
use Rattle.std.proofs.lemmas.List.Folds.{list_all-append}
use Rattle.std.proofs.lemmas.Str.{encode_ascii, encodes-append, inside_one}
use Rattle.std.specs.Prelude.{option_and_then, encode_utf8_all}
use Rattle.std.specs.List.{list_all}
use Rattle.std.specs.Char.{encode_utf8}
use Rattle.document_model.specs.Characters.{is_white, continues_name, span}
use Rattle.document_model.specs.Names.{Name, name_of}
use Rattle.document_model.specs.Items.{Attribute, Item, Pair, is_quote, through_tag, behind_one, pair_at, pairs_of, each_of, attribute_of, most_attributes, tag_of, without_space_behind, when}
use Rattle.document_model.proofs.Joins.{bind_some, some_same, by_test, when_some}

-- Tests of all of a list.

pub all_weaker : (p q : ℕ → Bool) → ((c : ℕ) → p c ≡ true → q c ≡ true) → (cs : List ℕ) → list_all p cs ≡ true → list_all q cs ≡ true
all_weaker p q f [] h = refl
all_weaker p q f (c ∷ cs) h = let both = and_parts (p c) (list_all p cs) h in and_from (q c) (list_all q cs) (f c both.0) (all_weaker p q f cs both.1)

pub all_parts : (p : ℕ → Bool) (a b : List ℕ) → list_all p (a ++ b) ≡ true → (list_all p a ≡ true) × (list_all p b ≡ true)
all_parts p a b h = and_parts (list_all p a) (list_all p b) (sym (list_all-append p a b) ∙ h)

pub all_both : (p : ℕ → Bool) (a b : List ℕ) → list_all p a ≡ true → list_all p b ≡ true → list_all p (a ++ b) ≡ true
all_both p a b h k = list_all-append p a b ∙ and_from (list_all p a) (list_all p b) h k

pub all_reversed : (p : ℕ → Bool) (a : List ℕ) → list_all p a ≡ true → list_all p (reverse a) ≡ true
all_reversed p [] h = refl
all_reversed p (c ∷ a) h =
    let both = and_parts (p c) (list_all p a) h in
    ap (list_all p) (reverse-append (c ∷ []) a) ∙ all_both p (reverse a) (c ∷ []) (all_reversed p a both.1) (and_from (p c) true both.0 refl)

all_by_index : (p : ℕ → Bool) (xs : List ℕ) → ((k : ℕ) → k < length xs → p (get_or xs k 0) ≡ true) → list_all p xs ≡ true
all_by_index p [] f = refl
all_by_index p (x ∷ xs) f = and_from (p x) (list_all p xs) (f 0 (omega arith)) (all_by_index p xs (λ k h. f (suc k) (omega arith)))

-- the bytes of a character pass what it passes and each byte that isn't ASCII does
pub bytes_pass : (p : ℕ → Bool) → ((b : ℕ) → 128 ≤ b → p b ≡ true) → (c : ℕ) → p c ≡ true → list_all p (encode_utf8 c) ≡ true
bytes_pass p high c h = all_by_index p (encode_utf8 c) (λ k l. either k l (nat_lt (get_or (encode_utf8 c) k 0) 128) refl)
  where
    either : (k : ℕ) → k < length (encode_utf8 c) → (b : Bool) → nat_lt (get_or (encode_utf8 c) k 0) 128 ≡ b → p (get_or (encode_utf8 c) k 0) ≡ true
    either k l true e = ap p (sym (inside_one c [] (encode_utf8 c) k (sym (append-nil (encode_utf8 c))) l (ltb-true _ 128 e))) ∙ h
    either k l false e = high (get_or (encode_utf8 c) k 0) (grind (arith, nat_tests))

pub all_bytes_pass : (p : ℕ → Bool) → ((b : ℕ) → 128 ≤ b → p b ≡ true) → (cs : List ℕ) → list_all p cs ≡ true → list_all p (encode_utf8_all cs) ≡ true
all_bytes_pass p high [] h = refl
all_bytes_pass p high (c ∷ cs) h =
    let both = and_parts (p c) (list_all p cs) h in all_both p (encode_utf8 c) (encode_utf8_all cs) (bytes_pass p high c both.0) (all_bytes_pass p high cs both.1)

-- The scan.

abbrev pub plain : ℕ → Bool
plain c = not (nat_eq c 0x3E) && not (is_quote c)

abbrev pub Over : Option ℕ → Option ℕ → List ℕ → Type 0
Over q r us = (z : List ℕ) → through_tag q (us ++ z) ≡ (us ++ (through_tag r z).0, (through_tag r z).1)

abbrev pub Quiet : Option ℕ → Option ℕ → List ℕ → Type 0
Quiet q r cs = Over q r (encode_utf8_all cs)

over_both : (q r s : Option ℕ) (a b : List ℕ) → Over q r a → Over r s b → Over q s (a ++ b)
over_both q r s a b f g z =
    ap (through_tag q) (append_assoc a b z) ∙ f (b ++ z) ∙ ap (λ x. (a ++ x.0, x.1)) (g z) ∙ ap (λ x. (x, (through_tag s z).1)) (sym (append_assoc a b (through_tag s z).0))

pub quiet_both : (q r s : Option ℕ) (a b : List ℕ) → Quiet q r a → Quiet r s b → Quiet q s (a ++ b)
quiet_both q r s a b f g = subst (Over q s) (sym (encodes-append a b)) (over_both q r s (encode_utf8_all a) (encode_utf8_all b) f g)

not_true : (b : Bool) → not b ≡ true → b ≡ false
not_true true e = sym e
not_true false e = refl

over_plain : (us : List ℕ) → list_all plain us ≡ true → Over None None us
over_plain [] h z = refl
over_plain (b ∷ us) h z =
    let both = and_parts (plain b) (list_all plain us) h in
    let tests = and_parts (not (nat_eq b 0x3E)) (not (is_quote b)) both.0 in
    let e = not_true (nat_eq b 0x3E) tests.0 in
    let f = not_true (is_quote b) tests.1 in
    let step : through_tag None (b ∷ (us ++ z)) ≡ (b ∷ (through_tag None (us ++ z)).0, (through_tag None (us ++ z)).1) =
    (λ i. cond (e i) (b ∷ [], us ++ z) (b ∷ (through_tag (cond (f i) (Some b) None) (us ++ z)).0, (through_tag (cond (f i) (Some b) None) (us ++ z)).1)) in
    step ∙ ap (λ x. (b ∷ x.0, x.1)) (over_plain us both.1 z)

over_inside : (q : ℕ) (us : List ℕ) → list_all (λ b. not (nat_eq b q)) us ≡ true → Over (Some q) (Some q) us
over_inside q [] h z = refl
over_inside q (b ∷ us) h z =
    let both = and_parts (not (nat_eq b q)) (list_all (λ b. not (nat_eq b q)) us) h in
    let e = not_true (nat_eq b q) both.0 in
    (λ i. (b ∷ (through_tag (cond (e i) None (Some q)) (us ++ z)).0, (through_tag (cond (e i) None (Some q)) (us ++ z)).1)) ∙ ap (λ x. (b ∷ x.0, x.1)) (over_inside q us both.1 z)

high_other : (b d : ℕ) → d < 128 → 128 ≤ b → not (nat_eq b d) ≡ true
high_other b d h k = ap not (ne_eqb b d (λ e. (let l : ⊥ = omega (arith, e, h, k) in l)))

high_plain : (b : ℕ) → 128 ≤ b → plain b ≡ true
high_plain b h =
    and_from (not (nat_eq b 0x3E)) (not (is_quote b)) (high_other b 0x3E (omega arith) h)
    (let e : nat_eq b 0x22 ≡ false = not_true _ (high_other b 0x22 (omega arith) h) in
    let f : nat_eq b 0x27 ≡ false = not_true _ (high_other b 0x27 (omega arith) h) in
    λ i. not (e i || f i))

pub quiet_plain : (cs : List ℕ) → list_all plain cs ≡ true → Quiet None None cs
quiet_plain cs h = over_plain (encode_utf8_all cs) (all_bytes_pass plain high_plain cs h)

quiet_inside : (q : ℕ) (cs : List ℕ) → q < 128 → list_all (λ b. not (nat_eq b q)) cs ≡ true → Quiet (Some q) (Some q) cs
quiet_inside q cs l h = over_inside q (encode_utf8_all cs) (all_bytes_pass (λ b. not (nat_eq b q)) (λ b k. high_other b q l k) cs h)

one_encoded : (c : ℕ) → c < 128 → encode_utf8_all (c ∷ []) ≡ c ∷ []
one_encoded c h = append-nil (encode_utf8 c) ∙ encode_ascii c h

abbrev Quotes : ℕ → Type 0
Quotes q = (q < 128) × Over None (Some q) (q ∷ []) × Over (Some q) None (q ∷ []) × (nat_eq 0x2F q ≡ false)

quotes : (q : ℕ) → is_quote q ≡ true → Quotes q
quotes q h = either (nat_eq q 0x22) (nat_eq q 0x27) refl refl h
  where
    either : (a b : Bool) → nat_eq q 0x22 ≡ a → nat_eq q 0x27 ≡ b → (a || b) ≡ true → Quotes q
    either true b e f g = subst Quotes (sym (eqb-true q 0x22 e)) (omega arith, (λ z. refl), (λ z. refl), refl)
    either false true e f g = subst Quotes (sym (eqb-true q 0x27 f)) (omega arith, (λ z. refl), (λ z. refl), refl)
    either false false e f g = cc

quiet_opens : (q : ℕ) → is_quote q ≡ true → Quiet None (Some q) (q ∷ [])
quiet_opens q h = let w = quotes q h in subst (Over None (Some q)) (sym (one_encoded q w.0)) w.1

quiet_closes : (q : ℕ) → is_quote q ≡ true → Quiet (Some q) None (q ∷ [])
quiet_closes q h = let w = quotes q h in subst (Over (Some q) None) (sym (one_encoded q w.0)) w.2

-- tests that quotes and `>` don't pass
other_than : (test : ℕ → Bool) (d c : ℕ) → test d ≡ false → test c ≡ true → nat_eq c d ≡ false
other_than test d c f h = ne_eqb c d (λ e. true≢false (sym h ∙ ap test e ∙ f))

plain_by : (test : ℕ → Bool) → test 0x3E ≡ false → test 0x22 ≡ false → test 0x27 ≡ false → (c : ℕ) → test c ≡ true → plain c ≡ true
plain_by test f g k c h =
    let a = other_than test 0x3E c f h in
    let b = other_than test 0x22 c g h in
    let d = other_than test 0x27 c k h in
    λ i. not (a i) && not (b i || d i)

abbrev pub in_name : ℕ → Bool
in_name = λ c. continues_name c || (c == 0x3A)

quiet_white : (cs : List ℕ) → list_all is_white cs ≡ true → Quiet None None cs
quiet_white cs h = quiet_plain cs (all_weaker is_white plain (plain_by is_white refl refl refl) cs h)

quiet_name : (cs : List ℕ) → list_all in_name cs ≡ true → Quiet None None cs
quiet_name cs h = quiet_plain cs (all_weaker in_name plain (plain_by in_name refl refl refl) cs h)

-- Pairs.

abbrev CutIs : (ℕ → Bool) → List ℕ → List ℕ × List ℕ → Type 0
CutIs test cs parts = (parts.0 ++ parts.1 ≡ cs) × (list_all test parts.0 ≡ true)

pub cut_of : (test : ℕ → Bool) (cs : List ℕ) → CutIs test cs (span test cs)
cut_of test [] = (refl, refl)
cut_of test (c ∷ cs) = let old = cut_of test cs in
    by_test (CutIs test (c ∷ cs)) (test c) (c ∷ (span test cs).0, (span test cs).1) ([], c ∷ cs)
    (λ e. (ap (λ x. c ∷ x) old.0, and_from (test c) (list_all test (span test cs).0) e old.1))
    (λ e. (refl, refl))

one_is : (test : ℕ → Bool) (t : List ℕ) (found : ℕ × List ℕ) → behind_one test t ≡ Some found → (t ≡ found.0 ∷ found.1) × (test found.0 ≡ true)
one_is test [] found e = absurd (none-some found e)
one_is test (c ∷ cs) found e = go (test c) refl e
  where
    go : (b : Bool) → test c ≡ b → when b (c, cs) ≡ Some found → (c ∷ cs ≡ found.0 ∷ found.1) × (test found.0 ≡ true)
    go true h e = let same : (c, cs) ≡ found = some_same (c, cs) found e in (ap (λ f. f.0 ∷ f.1) same, ap (λ f. test f.0) (sym same) ∙ h)
    go false h e = absurd (none-some found e)

-- ends in a quote
pub record LastQuote (t : List ℕ) : Type 0 where
  pub front : List ℕ
  pub quote : ℕ
  pub joined : t ≡ front ++ quote ∷ []
  pub is_one : is_quote quote ≡ true

pub record PairFront (t : List ℕ) (found : Pair × List ℕ) : Type 0 where
  pub front : List ℕ
  pub joined : t ≡ front ++ found.1
  pub quiet : Quiet None None front
  pub last : LastQuote front

put : (a b rest behind whole : List ℕ) → a ++ behind ≡ whole → behind ≡ b ++ rest → whole ≡ (a ++ b) ++ rest
put a b rest behind whole e f = sym e ∙ ap (λ x. a ++ x) f ∙ sym (append_assoc a b rest)

abbrev pair_text : (space name w2 w4 inside : List ℕ) (q : ℕ) → List ℕ
pair_text space name w2 w4 inside q = space ++ (name ++ (w2 ++ ((0x3D ∷ []) ++ (w4 ++ ((q ∷ []) ++ (inside ++ (q ∷ [])))))))

joined_pair : (t space t1 name t2 w2 t3 t4 w4 t5 t6 inside t7 rest : List ℕ) (equals q end : ℕ) → space ++ t1 ≡ t → name ++ t2 ≡ t1 → w2 ++ t3 ≡ t2 → t3 ≡ equals ∷ t4 → w4 ++ t5 ≡ t4
    → t5 ≡ q ∷ t6 → inside ++ t7 ≡ t6 → t7 ≡ end ∷ rest → equals ≡ 0x3D → end ≡ q → t ≡ pair_text space name w2 w4 inside q ++ rest
joined_pair t space t1 name t2 w2 t3 t4 w4 t5 t6 inside t7 rest equals q end e1 e2 e3 e4 e5 e6 e7 e8 same closed =
    let s7 : t7 ≡ (q ∷ []) ++ rest = e8 ∙ ap (λ c. c ∷ rest) closed in
    let b6 : List ℕ = inside ++ (q ∷ []) in
    let s6 : t6 ≡ b6 ++ rest = put inside (q ∷ []) rest t7 t6 e7 s7 in
    let b5 : List ℕ = (q ∷ []) ++ b6 in
    let s5 : t5 ≡ b5 ++ rest = put (q ∷ []) b6 rest t6 t5 (sym e6) s6 in
    let b4 : List ℕ = w4 ++ b5 in
    let s4 : t4 ≡ b4 ++ rest = put w4 b5 rest t5 t4 e5 s5 in
    let b3 : List ℕ = (0x3D ∷ []) ++ b4 in
    let s3 : t3 ≡ b3 ++ rest = put (0x3D ∷ []) b4 rest t4 t3 (ap (λ c. c ∷ t4) (sym same) ∙ sym e4) s4 in
    let b2 : List ℕ = w2 ++ b3 in
    let s2 : t2 ≡ b2 ++ rest = put w2 b3 rest t3 t2 e3 s3 in
    let b1 : List ℕ = name ++ b2 in
    let s1 : t1 ≡ b1 ++ rest = put name b2 rest t2 t1 e2 s2 in
    put space b1 rest t1 t e1 s1

last_behind : (a b : List ℕ) → LastQuote b → LastQuote (a ++ b)
last_behind a b l = record { front = a ++ l.front; quote = l.quote; joined = ap (λ x. a ++ x) l.joined ∙ sym (append_assoc a l.front (l.quote ∷ [])); is_one = l.is_one }

pair_front : (t : List ℕ) (found : Pair × List ℕ) → pair_at t ≡ Some found → PairFront t found
pair_front t found e =
    let space : List ℕ × List ℕ = span is_white t in
    let name : List ℕ × List ℕ = span in_name space.1 in
    let w2 : List ℕ × List ℕ = span is_white name.1 in
    let equals = bind_some _ (behind_one (λ c. c == 0x3D) w2.1) found e in
    let w4 : List ℕ × List ℕ = span is_white equals.0.1 in
    let quote = bind_some _ (behind_one is_quote w4.1) found equals.2 in
    let q : ℕ = quote.0.0 in
    let inside : List ℕ × List ℕ = span (λ c. not (c == q)) quote.0.1 in
    let end = bind_some _ (behind_one (λ c. c == q) inside.1) found quote.2 in
    let same = ap (λ f. f.1) (when_some _ _ found end.2) in
    let cs = cut_of is_white t in
    let cn = cut_of in_name space.1 in
    let c2 = cut_of is_white name.1 in
    let c4 = cut_of is_white equals.0.1 in
    let ci = cut_of (λ c. not (c == q)) quote.0.1 in
    let i1 = one_is (λ c. c == 0x3D) w2.1 equals.0 equals.1 in
    let i2 = one_is is_quote w4.1 quote.0 quote.1 in
    let i3 = one_is (λ c. c == q) inside.1 end.0 end.1 in
    let eq : equals.0.0 ≡ 0x3D = eqb-true equals.0.0 0x3D i1.1 in
    let en : end.0.0 ≡ q = eqb-true end.0.0 q i3.1 in
    record {
      front = pair_text space.0 name.0 w2.0 w4.0 inside.0 q;
      joined = joined_pair t space.0 space.1 name.0 name.1 w2.0 w2.1 equals.0.1 w4.0 w4.1 quote.0.1 inside.0 inside.1 end.0.1 equals.0.0 q end.0.0
          cs.0 cn.0 c2.0 i1.0 c4.0 i2.0 ci.0 i3.0 eq en
          ∙ ap (λ x. pair_text space.0 name.0 w2.0 w4.0 inside.0 q ++ x) same;
      quiet = quiet_both None None None space.0 _ (quiet_white space.0 cs.1)
          (quiet_both None None None name.0 _ (quiet_name name.0 cn.1)
          (quiet_both None None None w2.0 _ (quiet_white w2.0 c2.1)
          (quiet_both None None None (0x3D ∷ []) _ (quiet_plain (0x3D ∷ []) refl)
          (quiet_both None None None w4.0 _ (quiet_white w4.0 c4.1)
          (quiet_both None (Some q) None (q ∷ []) _ (quiet_opens q i2.1)
          (quiet_both (Some q) (Some q) None inside.0 (q ∷ []) (quiet_inside q inside.0 (quotes q i2.1).0 ci.1) (quiet_closes q i2.1)))))));
      last = last_behind space.0 _ (last_behind name.0 _ (last_behind w2.0 _ (last_behind (0x3D ∷ []) _ (last_behind w4.0 _ (last_behind (q ∷ []) _
          (record { front = inside.0; quote = q; joined = refl; is_one = i2.1 }))))));
    }

pub record PairsAre (t : List ℕ) : Type 0 where
  pub quiet : Quiet None None t
  pub last : (t ≡ []) ⊎ LastQuote t

last_of_two : (a b : List ℕ) → LastQuote a → (b ≡ []) ⊎ LastQuote b → LastQuote (a ++ b)
last_of_two a b l o = elim o [
  | inl none ↦ subst LastQuote (sym (ap (λ x. a ++ x) none ∙ append-nil a)) l
  | inr more ↦ last_behind a b more
]

pairs_are : (n : ℕ) (t : List ℕ) (pairs : List Pair) → pairs_of n t ≡ Some pairs → PairsAre t
pairs_are n [] pairs e = record { quiet = λ z. refl; last = inl refl }
pairs_are zero (c ∷ cs) pairs e = absurd (none-some pairs e)
pairs_are (suc n) (c ∷ cs) pairs e =
    let first = bind_some _ (pair_at (c ∷ cs)) pairs e in
    let others = bind_some _ (pairs_of n first.0.1) pairs first.2 in
    let front = pair_front (c ∷ cs) first.0 first.1 in
    let rest = pairs_are n first.0.1 others.0 others.1 in
    subst PairsAre (sym front.joined) (record { quiet = quiet_both None None None front.front first.0.1 front.quiet rest.quiet; last = inr (last_of_two front.front first.0.1 front.last rest.last) })

-- Where a text ends.

abbrev pub EndsIn : ℕ → List ℕ → Type 0
EndsIn d xs = (front : List ℕ) × (xs ≡ front ++ d ∷ [])

ends_second : (d : ℕ) (a b : List ℕ) → EndsIn d (a ++ b) → (b ≡ []) ⊎ EndsIn d b
ends_second d [] b e = inr e
ends_second d (x ∷ a) b e = go (λ f. ends_second d a b f) e.0 e.1
  where
    tail : List ℕ → List ℕ
    tail [] = []
    tail (y ∷ ys) = ys

    none : (a b : List ℕ) → a ++ b ≡ [] → b ≡ []
    none [] b h = h
    none (y ∷ a) b h = cc

    go : (EndsIn d (a ++ b) → (b ≡ []) ⊎ EndsIn d b) → (front : List ℕ) → x ∷ (a ++ b) ≡ front ++ d ∷ [] → (b ≡ []) ⊎ EndsIn d b
    go f [] h = inl (none a b (ap tail h))
    go f (y ∷ front) h = f (front, ap tail h)

ends_one : (d q : ℕ) (a : List ℕ) → EndsIn d (a ++ q ∷ []) → q ≡ d
ends_one d q a e = elim (ends_second d a (q ∷ []) e) [
  | inl none ↦ cc
  | inr one ↦ go one.0 one.1
]
  where
    go : (front : List ℕ) → q ∷ [] ≡ front ++ d ∷ [] → q ≡ d
    go [] h = cc
    go (y ∷ []) h = cc
    go (y ∷ z ∷ front) h = cc

pub ends_pass : (test : ℕ → Bool) (d : ℕ) (xs : List ℕ) → list_all test xs ≡ true → EndsIn d xs → test d ≡ true
ends_pass test d xs h e = (and_parts (test d) true (all_parts test e.0 (d ∷ []) (sym (ap (list_all test) e.1) ∙ h)).1).0

-- What a tag is made of: a name, pairs and white space.
pub record TagText (text : List ℕ) (make : Name → List Attribute → Item) (item : Item) : Type 0 where
  pub name : List ℕ
  pub pairs : List ℕ
  pub space : List ℕ
  pub joined : text ≡ (name ++ pairs) ++ space
  pub in_names : list_all in_name name ≡ true
  pub white : list_all is_white space ≡ true
  pub are : PairsAre pairs
  pub is_name : Name
  pub attributes : List Attribute
  pub named : name_of name ≡ Some is_name
  pub makes : (other : Name → List Attribute → Item) → tag_of other text ≡ Some (other is_name attributes)
  pub made : make is_name attributes ≡ item

pub tag_text : (text : List ℕ) (make : Name → List Attribute → Item) (item : Item) → tag_of make text ≡ Some item → TagText text make item
tag_text text make item e =
    let behind : List ℕ × List ℕ = span is_white (reverse text) in
    let cut_white = cut_of is_white (reverse text) in
    let inner : List ℕ = without_space_behind text in
    let cut : List ℕ × List ℕ = span in_name inner in
    let cut_name = cut_of in_name inner in
    let name = bind_some _ (name_of cut.0) item e in
    let pairs = bind_some _ (pairs_of most_attributes cut.1) item name.2 in
    let attributes = bind_some _ (each_of attribute_of pairs.0) item pairs.2 in
    record {
      name = cut.0;
      pairs = cut.1;
      space = reverse behind.0;
      joined = sym (reverse-reverse text) ∙ ap reverse (sym cut_white.0) ∙ reverse-append behind.0 behind.1 ∙ ap (λ x. x ++ reverse behind.0) (sym cut_name.0);
      in_names = cut_name.1;
      white = all_reversed is_white behind.0 cut_white.1;
      are = pairs_are most_attributes cut.1 pairs.0 pairs.1;
      is_name = name.0;
      attributes = attributes.0;
      named = name.1;
      makes = λ other. ap (option_and_then (λ n. option_and_then (λ ps. option_and_then (λ as'. Some (other n as')) (each_of attribute_of ps)) (pairs_of most_attributes cut.1))) name.1
          ∙ ap (option_and_then (λ ps. option_and_then (λ as'. Some (other name.0 as')) (each_of attribute_of ps))) pairs.1
          ∙ ap (option_and_then (λ as'. Some (other name.0 as'))) attributes.1;
      made = some_same (make name.0 attributes.0) item attributes.2;
    }

pub tag_quiet : (text : List ℕ) (make : Name → List Attribute → Item) (item : Item) → TagText text make item → Quiet None None text
tag_quiet text make item t =
    subst (Quiet None None) (sym t.joined)
    (quiet_both None None None (t.name ++ t.pairs) t.space (quiet_both None None None t.name t.pairs (quiet_name t.name t.in_names) t.are.quiet) (quiet_white t.space t.white))

-- it doesn't end in `/`
pub tag_no_slash : (text : List ℕ) (make : Name → List Attribute → Item) (item : Item) → TagText text make item → EndsIn 0x2F text → ⊥
tag_no_slash text make item t e = elim (ends_second 0x2F (t.name ++ t.pairs) t.space (e.0, sym t.joined ∙ e.1)) [
  | inr s ↦ false≢true (ends_pass is_white 0x2F t.space t.white s)
  | inl none ↦
      let f : EndsIn 0x2F (t.name ++ t.pairs) = (e.0, sym (append-nil (t.name ++ t.pairs)) ∙ ap (λ x. (t.name ++ t.pairs) ++ x) (sym none) ∙ sym t.joined ∙ e.1) in
      elim t.are.last [
        | inl empty ↦ false≢true (ends_pass in_name 0x2F t.name t.in_names (f.0, sym (append-nil t.name) ∙ ap (λ x. t.name ++ x) (sym empty) ∙ f.1))
        | inr last ↦
            let h : EndsIn 0x2F ((t.name ++ last.front) ++ last.quote ∷ []) = (f.0, append_assoc t.name last.front (last.quote ∷ []) ∙ ap (λ x. t.name ++ x) (sym last.joined) ∙ f.1) in
            true≢false (sym last.is_one ∙ ap is_quote (ends_one 0x2F last.quote (t.name ++ last.front) h))
      ]
]
