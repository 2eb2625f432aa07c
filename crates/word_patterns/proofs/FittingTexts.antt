-- Words that fit a pattern have behind the key of a part what the part allows.
use Rattle.std.proofs.Common.{◌≡◌, ℕ, suc, ◌≤◌, List, [], ◌∷◌, ◌++◌, length, drop, Bool, true, false, not, ◌&&◌, nat_eq, if◌then◌else◌, refl, sym, ap, ◌∙◌, subst, arith, append-nil}
use Rattle.std.specs.Prelude.{All, Option, None, Some, map}
use Rattle.std.specs.List.{list_all, starts_with, cons_option}
use Rattle.std.specs.Str.{bytes_eq}
use Rattle.std.proofs.lemmas.Bool.{eqb-true}
use Rattle.std.proofs.lemmas.List.Elements.{All-nil, All-cons, All-head}
use Rattle.std.proofs.lemmas.Slice.Eq.{bytes_eq-Decides}
use Rattle.word_patterns.specs.Fitting.{is_apart, is_apart_of, are_apart, alone, keyed_part, AreTextsOf}
use Rattle.word_patterns.specs.Keyed.{keyed_text, keyed_texts}
use Rattle.word_patterns.specs.Grammar.{WordForm, Plain, Keyed, Part, AreOfOne, Fits, IsPart, is_of_form, is_of_one, text_behind, texts_behind}
use Rattle.word_patterns.proofs.GrammarLemmas.{and_left, and_right}
use Rattle.word_patterns.proofs.KeyedTexts.{keyed_append}

not_true : (b : Bool) → not b ≡ true → b ≡ false
not_true true e = cc
not_true false e = refl

-- of two keys with which a word begins, one begins with the other
same_heads : (w c d : ℕ) → nat_eq c w ≡ true → nat_eq d w ≡ true → nat_eq c d ≡ true
same_heads w c d first second =
    let same : d ≡ w = eqb-true d w second in
    subst (λ n. nat_eq c n ≡ true) (sym same) first

both_begin : (word key other : List ℕ) → starts_with nat_eq word key ≡ true → starts_with nat_eq word other ≡ true → starts_with nat_eq key other ≡ false → starts_with nat_eq other key ≡ true
both_begin word [] [] k o differ = cc
both_begin word [] (d ∷ other) k o differ = refl
both_begin word (c ∷ key) [] k o differ = cc
both_begin [] (c ∷ key) (d ∷ other) k o differ = cc
both_begin (w ∷ word) (c ∷ key) (d ∷ other) k o differ =
    let first : nat_eq c w ≡ true = and_left (nat_eq c w) (starts_with nat_eq word key) k in
    let second : nat_eq d w ≡ true = and_left (nat_eq d w) (starts_with nat_eq word other) o in
    let cd : nat_eq c d ≡ true = same_heads w c d first second in
    let dc : nat_eq d c ≡ true = same_heads w d c second first in
    let rest : starts_with nat_eq key other ≡ false = (let whole : (nat_eq d c && starts_with nat_eq key other) ≡ false = differ in rw dc at whole) in
    rw cd (both_begin word key other (and_right (nat_eq c w) (starts_with nat_eq word key) k) (and_right (nat_eq d w) (starts_with nat_eq word other) o) rest)

apart_by : (b : Bool) (key other : List ℕ) → (b ≡ true → starts_with nat_eq other key ≡ true) → starts_with nat_eq other key ≡ false → b ≡ false
apart_by true key other both differ = let begins : starts_with nat_eq other key ≡ true = both refl in cc
apart_by false key other both differ = refl

apart_form : (key : List ℕ) (form : WordForm) (word : List ℕ) → is_apart key form ≡ true → is_of_form form word ≡ true → starts_with nat_eq word key ≡ false
apart_form key (Plain text) word apart of =
    let same : word ≡ text = (bytes_eq-Decides word text).0 of in
    rw same (not_true (starts_with nat_eq text key) apart)
apart_form key (Keyed other is_text) word apart of =
    let begins : starts_with nat_eq word other ≡ true = and_left (starts_with nat_eq word other) (is_text (drop (length other) word)) of in
    let first : starts_with nat_eq key other ≡ false = not_true (starts_with nat_eq key other) (and_left (not (starts_with nat_eq key other)) (not (starts_with nat_eq other key)) apart) in
    let second : starts_with nat_eq other key ≡ false = not_true (starts_with nat_eq other key) (and_right (not (starts_with nat_eq key other)) (not (starts_with nat_eq other key)) apart) in
    apart_by (starts_with nat_eq word key) key other (λ k. both_begin word key other k begins first) second

-- Words that begin with none of some keys.

begins_none : {K : Type 0} (keys : List (List ℕ × K)) (form : WordForm) (word : List ℕ) → is_apart_of keys form ≡ true → is_of_form form word ≡ true → keyed_text keys word ≡ None
begins_none [] form word apart of = refl
begins_none (key ∷ keys) form word apart of =
    let this : starts_with nat_eq word key.0 ≡ false = apart_form key.0 form word (and_left (is_apart key.0 form) (is_apart_of keys form) apart) of in
    rw this (begins_none keys form word (and_right (is_apart key.0 form) (is_apart_of keys form) apart) of)

none_by : {K : Type 0} (keys : List (List ℕ × K)) (b : Bool) (forms : List WordForm) (word : List ℕ) → (b ≡ true → keyed_text keys word ≡ None) → (is_of_one forms word ≡ true → keyed_text keys word ≡ None)
    → (if b then true else is_of_one forms word) ≡ true → keyed_text keys word ≡ None
none_by keys true forms word this later of = this refl
none_by keys false forms word this later of = later of

begins_none_of : {K : Type 0} (keys : List (List ℕ × K)) (forms : List WordForm) (word : List ℕ) → list_all (is_apart_of keys) forms ≡ true → is_of_one forms word ≡ true → keyed_text keys word ≡ None
begins_none_of keys [] word apart of = cc
begins_none_of keys (form ∷ forms) word apart of =
    none_by keys (is_of_form form word) forms word (begins_none keys form word (and_left (is_apart_of keys form) (list_all (is_apart_of keys) forms) apart))
    (begins_none_of keys forms word (and_right (is_apart_of keys form) (list_all (is_apart_of keys) forms) apart)) of

nothing_of : {K : Type 0} (keys : List (List ℕ × K)) (forms : List WordForm) (words : List (List ℕ)) → list_all (is_apart_of keys) forms ≡ true → AreOfOne forms words → keyed_texts keys words ≡ []
nothing_of keys forms [] apart of = refl
nothing_of keys forms (word ∷ words) apart of = rw (begins_none_of keys forms word apart of.0) (nothing_of keys forms words apart of.1)

nothing_in : {K : Type 0} (keys : List (List ℕ × K)) (parts : List Part) (words : List (List ℕ)) → are_apart keys parts ≡ true → Fits parts words → keyed_texts keys words ≡ []
nothing_in keys [] words apart fits = rw fits refl
nothing_in keys (part ∷ parts) words apart fits =
    let own = nothing_of keys part.forms fits.own (and_left (list_all (is_apart_of keys) part.forms) (are_apart keys parts) apart) fits.is_part.each in
    let others = nothing_in keys parts fits.others (and_right (list_all (is_apart_of keys) part.forms) (are_apart keys parts) apart) fits.are_others in
    ap (keyed_texts keys) fits.whole ∙ keyed_append keys fits.own fits.others ∙ rw (own, others) refl

-- the words of one part
record OwnWords {K : Type 0} (keys : List (List ℕ × K)) (part : Part) (words : List (List ℕ)) : Type 0 where
  own : List (List ℕ)
  is_part : IsPart part own
  same : keyed_texts keys words ≡ keyed_texts keys own

own_words : {K : Type 0} (keys : List (List ℕ × K)) (before : List Part) (part : Part) (after : List Part) (words : List (List ℕ)) → are_apart keys before ≡ true → are_apart keys after ≡ true → Fits (before ++ part ∷ after) words
    → OwnWords keys part words
own_words keys [] part after words front back fits =
    let others = nothing_in keys after fits.others back fits.are_others in record {
      own = fits.own;
      is_part = fits.is_part;
      same = ap (keyed_texts keys) fits.whole ∙ keyed_append keys fits.own fits.others ∙ ap (λ more. keyed_texts keys fits.own ++ more) others ∙ append-nil (keyed_texts keys fits.own);
    }
own_words keys (first ∷ before) part after words front back fits =
    let none = nothing_of keys first.forms fits.own (and_left (list_all (is_apart_of keys) first.forms) (are_apart keys before) front) fits.is_part.each in
    let found = own_words keys before part after fits.others (and_right (list_all (is_apart_of keys) first.forms) (are_apart keys before) front) back fits.are_others in record {
      own = found.own;
      is_part = found.is_part;
      same = ap (keyed_texts keys) fits.whole ∙ keyed_append keys fits.own fits.others ∙ ap (λ front. front ++ keyed_texts keys fits.others) none ∙ found.same;
    }

-- a part has no more texts than words
option_few : {A : Type 0} (x : Option A) (xs : List A) (n : ℕ) → length xs ≤ n → length (cons_option x xs) ≤ suc n
option_few None xs n few = omega arith
option_few (Some x) xs n few = omega arith

texts_few : {K : Type 0} (keys : List (List ℕ × K)) (words : List (List ℕ)) → length (keyed_texts keys words) ≤ length words
texts_few keys [] = omega arith
texts_few keys (word ∷ words) = option_few (keyed_text keys word) (keyed_texts keys words) (length words) (texts_few keys words)

pub keyed_few : {K : Type 0} (keys : List (List ℕ × K)) (before : List Part) (part : Part) (after : List Part) (words : List (List ℕ)) → are_apart keys before ≡ true → are_apart keys after ≡ true → Fits (before ++ part ∷ after) words
    → length (keyed_texts keys words) ≤ part.most
keyed_few keys before part after words front back fits =
    let found = own_words keys before part after words front back fits in
    let few : length found.own ≤ part.most = found.is_part.few in
    let own : length (keyed_texts keys found.own) ≤ length found.own = texts_few keys found.own in
    let size : length (keyed_texts keys words) ≡ length (keyed_texts keys found.own) = ap length found.same in
    omega arith

-- the texts behind one key
one_by : (b : Bool) (text : List ℕ) (texts : List (List ℕ)) (rest : List (Unit {0} × List ℕ)) → texts ≡ map (λ item. item.1) rest
    → (if b then text ∷ texts else texts) ≡ map (λ item. item.1) (cons_option (if b then Some (tt, text) else None) rest)
one_by true text texts rest e = ap (λ list. text ∷ list) e
one_by false text texts rest e = e

one_key : (key : List ℕ) (words : List (List ℕ)) → texts_behind key words ≡ map (λ item. item.1) (keyed_texts (alone key) words)
one_key key [] = refl
one_key key (word ∷ words) = one_by (starts_with nat_eq word key) (drop (length key) word) (texts_behind key words) (keyed_texts (alone key) words) (one_key key words)

-- a word of one form alone
of_only : (b : Bool) → (if b then true else false) ≡ true → b ≡ true
of_only true e = refl
of_only false e = cc

texts_of_own : (key : List ℕ) (is_text : List ℕ → Bool) (words : List (List ℕ)) → AreOfOne (Keyed key is_text ∷ []) words
    → (length (texts_behind key words) ≡ length words) × All (λ text. is_text text ≡ true) (texts_behind key words)
texts_of_own key is_text [] of = (refl, All-nil (λ text. is_text text ≡ true))
texts_of_own key is_text (word ∷ words) of =
    let form : (starts_with nat_eq word key && is_text (drop (length key) word)) ≡ true = of_only (starts_with nat_eq word key && is_text (drop (length key) word)) of.0 in
    let begins : starts_with nat_eq word key ≡ true = and_left (starts_with nat_eq word key) (is_text (drop (length key) word)) form in
    let text : is_text (drop (length key) word) ≡ true = and_right (starts_with nat_eq word key) (is_text (drop (length key) word)) form in
    let rest = texts_of_own key is_text words of.1 in
    rw begins (ap suc rest.0, All-cons (λ text. is_text text ≡ true) (drop (length key) word) (texts_behind key words) text rest.1)

pub texts_fit : (before : List Part) (key : List ℕ) (is_text : List ℕ → Bool) (least most : ℕ) (after : List Part) (words : List (List ℕ)) → are_apart (alone key) before ≡ true → are_apart (alone key) after ≡ true
    → Fits (before ++ keyed_part key is_text least most ∷ after) words → AreTextsOf key is_text least most words
texts_fit before key is_text least most after words front back fits =
    let found = own_words (alone key) before (keyed_part key is_text least most) after words front back fits in
    let texts = texts_of_own key is_text found.own found.is_part.each in
    let enough : least ≤ length found.own = found.is_part.enough in
    let few : length found.own ≤ most = found.is_part.few in
    let same : texts_behind key words ≡ texts_behind key found.own = one_key key words ∙ ap (map (λ item. item.1)) found.same ∙ sym (one_key key found.own) in
    let size : length (texts_behind key words) ≡ length found.own = ap length same ∙ texts.0 in record {
      enough = omega arith;
      few = omega arith;
      each = subst (λ list. All (λ text. is_text text ≡ true) list) (sym same) texts.1;
    }

-- the first of the texts behind a key, where there is one
first_by : (b : Bool) (text later : List ℕ) (rest : List (List ℕ)) (P : List ℕ → Type 0) → (1 ≤ length rest → All P rest → P later)
    → 1 ≤ length (if b then text ∷ rest else rest) → All P (if b then text ∷ rest else rest) → P (if b then text else later)
first_by true text later rest P go some each = All-head P text rest each
first_by false text later rest P go some each = go some each

pub first_text : (key : List ℕ) (words : List (List ℕ)) (P : List ℕ → Type 0) → 1 ≤ length (texts_behind key words) → All P (texts_behind key words) → P (text_behind key words)
first_text key [] P some each = absurd (omega arith)
first_text key (word ∷ words) P some each =
    first_by (starts_with nat_eq word key) (drop (length key) word) (text_behind key words) (texts_behind key words) P (first_text key words P) some each
