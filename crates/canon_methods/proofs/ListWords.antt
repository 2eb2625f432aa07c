-- The words of a list.
use Rattle.std.proofs.Common.{◌≡◌, ℕ, Bool, true, false, not, ◌||◌, ◌&&◌, cond, List, [], ◌∷◌, codes, map, refl, sym, ◌∙◌, ap}
use Rattle.std.proofs.lemmas.Bool.{false≢true, eq-eqb, ne_eqb}
use Rattle.std.proofs.lemmas.Str.{chars-IsAscii}
use Rattle.std.specs.Prelude.{filter}
use Rattle.std.specs.Str.{chars}
use Rattle.std.specs.Borrow.{Bor}
use Rattle.canon_methods.specs.declared.sought.Sought.{Sought}
use Rattle.canon_methods.specs.declared.sought.Sought.TheVariants.{Word, Other}
use Rattle.canon_methods.specs.Sought.{holds, holds_if_read}
use Rattle.xml_items.proofs.AsciiTexts.{ascii_from}
use Rattle.document_model.specs.Characters.{◌is◌, is_empty}
use Rattle.document_model.specs.Canonical.{is_among}
use Rattle.document_model.specs.Methods.{cut_at, first_longer, words_at, prefix_named}
use Rattle.canon_methods.specs.Words.{word_of}
use Rattle.canon_methods.proofs.Texts.{is_same, is_turned}

-- a cut has at least one piece
pub record IsCut (words : List (List ℕ)) : Type 0 where
  pub first : List ℕ
  pub others : List (List ℕ)
  pub joined : words ≡ first ∷ others

pub cut_some : (test : ℕ → Bool) (text : List ℕ) → IsCut (cut_at test text)
cut_some test [] = record { first = []; others = []; joined = refl }
cut_some test (c ∷ cs) = go (test c) (cut_at test cs)
  where
    go : (b : Bool) (words : List (List ℕ)) → IsCut (cond b ([] ∷ words) (first_longer c words))
    go true words = record { first = []; others = words; joined = refl }
    go false [] = record { first = c ∷ []; others = []; joined = refl }
    go false (word ∷ words) = record { first = c ∷ word; others = words; joined = refl }

-- the words that name prefixes

named_by : (prefix : List ℕ) (words : List (List ℕ)) → (prefix is codes "#default") ≡ false
    → is_among prefix (map prefix_named (filter (λ word. not (is_empty word)) words)) ≡ is_among (word_of prefix) words
named_by prefix [] h = refl
named_by [] ([] ∷ words) h = named_by [] words h
named_by (c ∷ prefix) ([] ∷ words) h = named_by (c ∷ prefix) words h
named_by [] ((d ∷ word) ∷ words) h = go (named_by [] words h) ((d ∷ word) is codes "#default") refl
  where
    go : is_among [] (map prefix_named (filter (λ word. not (is_empty word)) words)) ≡ is_among (codes "#default") words → (b : Bool) → ((d ∷ word) is codes "#default") ≡ b
        → (([] is cond b [] (d ∷ word)) || is_among [] (map prefix_named (filter (λ word. not (is_empty word)) words))) ≡ ((codes "#default" is (d ∷ word)) || is_among (codes "#default") words)
    go old true e = sym (λ i. (is_turned (codes "#default") (d ∷ word) ∙ e) i || is_among (codes "#default") words)
    go old false e = old ∙ sym (λ i. (is_turned (codes "#default") (d ∷ word) ∙ e) i || is_among (codes "#default") words)
named_by (c ∷ prefix) ((d ∷ word) ∷ words) h = go (named_by (c ∷ prefix) words h) ((d ∷ word) is codes "#default") refl
  where
    go : is_among (c ∷ prefix) (map prefix_named (filter (λ word. not (is_empty word)) words)) ≡ is_among (c ∷ prefix) words → (b : Bool) → ((d ∷ word) is codes "#default") ≡ b
        → (((c ∷ prefix) is cond b [] (d ∷ word)) || is_among (c ∷ prefix) (map prefix_named (filter (λ word. not (is_empty word)) words))) ≡ (((c ∷ prefix) is (d ∷ word)) || is_among (c ∷ prefix) words)
    go old true e = old ∙ sym (λ i. (ap (λ x. (c ∷ prefix) is x) (is_same (d ∷ word) (codes "#default") e) ∙ h) i || is_among (c ∷ prefix) words)
    go old false e = ap (λ b. ((c ∷ prefix) is (d ∷ word)) || b) old

pub prefix_among : (prefix : List ℕ) (test : ℕ → Bool) (text : List ℕ) → (prefix is codes "#default") ≡ false
    → is_among prefix (map prefix_named (words_at test text)) ≡ is_among (word_of prefix) (cut_at test text)
prefix_among prefix test text h = named_by prefix (cut_at test text) h

-- `#default` names no prefix of that text
never_named : (words : List (List ℕ)) → is_among (codes "#default") (map prefix_named (filter (λ word. not (is_empty word)) words)) ≡ false
never_named [] = refl
never_named ([] ∷ words) = never_named words
never_named ((d ∷ word) ∷ words) = go (never_named words) ((d ∷ word) is codes "#default") refl
  where
    go : is_among (codes "#default") (map prefix_named (filter (λ word. not (is_empty word)) words)) ≡ false → (b : Bool) → ((d ∷ word) is codes "#default") ≡ b
        → ((codes "#default" is cond b [] (d ∷ word)) || is_among (codes "#default") (map prefix_named (filter (λ word. not (is_empty word)) words))) ≡ false
    go old true e = old
    go old false e = (λ i. (is_turned (codes "#default") (d ∷ word) ∙ e) i || is_among (codes "#default") (map prefix_named (filter (λ word. not (is_empty word)) words))) ∙ old

pub default_among : (prefix : List ℕ) (test : ℕ → Bool) (text : List ℕ) → (prefix is codes "#default") ≡ true → is_among prefix (map prefix_named (words_at test text)) ≡ false
default_among prefix test text e = ap (λ x. is_among x (map prefix_named (words_at test text))) (is_same prefix (codes "#default") e) ∙ never_named (cut_at test text)

pub default_word : (prefix : List ℕ) → is_empty (chars prefix) ≡ true → chars (codes "#default") ≡ word_of (chars prefix)
default_word prefix e = chars-IsAscii (codes "#default") (ascii_from (codes "#default") refl) ∙ go (chars prefix) e
  where
    go : (cs : List ℕ) → is_empty cs ≡ true → codes "#default" ≡ word_of cs
    go [] e = refl
    go (c ∷ cs) e = absurd (false≢true e)

-- What is known of a word that is looked for.

pub begun : (word : Bor (List ℕ)) (test : ℕ → Bool) (cs : List ℕ) → holds test (chars word.now) (Word word) cs ≡ is_among (chars word.now) (cut_at test cs)
begun word test cs = let cut = cut_some test cs in ap (λ ws. holds_if_read (chars word.now) (Word word) ws) cut.joined ∙ sym (ap (is_among (chars word.now)) cut.joined)

nothing_is : (left : List ℕ) → is_empty left ≡ (left is [])
nothing_is [] = refl
nothing_is (c ∷ left) = refl

pub ended_word : (s : Sought) (word : List ℕ) (left : Bor (List ℕ)) (test : ℕ → Bool) (cs : List ℕ) → s ≡ Word left → is_empty (chars left.now) ≡ true
    → true ≡ holds_if_read word s ([] ∷ cut_at test cs)
ended_word s word left test cs e f =
    sym (ap (λ x. holds_if_read word x ([] ∷ cut_at test cs)) e ∙ ap (λ b. b || is_among word (cut_at test cs)) (sym (nothing_is (chars left.now)) ∙ f))

pub other_word : (s : Sought) (word left : Bor (List ℕ)) (test : ℕ → Bool) (cs : List ℕ) → s ≡ Word left → is_empty (chars left.now) ≡ false
    → holds test (chars word.now) (Word word) cs ≡ holds_if_read (chars word.now) s ([] ∷ cut_at test cs)
other_word s word left test cs e f =
    begun word test cs
    ∙ sym (ap (λ x. holds_if_read (chars word.now) x ([] ∷ cut_at test cs)) e ∙ ap (λ b. b || is_among (chars word.now) (cut_at test cs)) (sym (nothing_is (chars left.now)) ∙ f))

pub next_word : (s : Sought) (word : Bor (List ℕ)) (test : ℕ → Bool) (cs : List ℕ) → s ≡ Other
    → holds test (chars word.now) (Word word) cs ≡ holds_if_read (chars word.now) s ([] ∷ cut_at test cs)
next_word s word test cs e = begun word test cs ∙ sym (ap (λ x. holds_if_read (chars word.now) x ([] ∷ cut_at test cs)) e)

longer_word : (words : List (List ℕ)) (word : List ℕ) (left : Bor (List ℕ)) (c : ℕ) (b : List ℕ → Bool) → ((f : List ℕ) → (chars left.now is (c ∷ f)) ≡ b f)
    → (cut : IsCut words) → holds_if_read word (Word left) (first_longer c words) ≡ (b cut.first || is_among word cut.others)
longer_word words word left c b h cut =
    ap (λ ws. holds_if_read word (Word left) (first_longer c ws)) cut.joined ∙ ap (λ x. x || is_among word cut.others) (h cut.first)

pub goes_on : (s : Sought) (word : List ℕ) (left further : Bor (List ℕ)) (c d : ℕ) (test : ℕ → Bool) (cs : List ℕ) → s ≡ Word left → chars left.now ≡ d ∷ chars further.now → c ≡ d
    → holds test word (Word further) cs ≡ holds_if_read word s (first_longer c (cut_at test cs))
goes_on s word left further c d test cs e f g =
    let cut = cut_some test cs in
    ap (λ ws. holds_if_read word (Word further) ws) cut.joined
    ∙ sym (ap (λ x. holds_if_read word x (first_longer c (cut_at test cs))) e
    ∙ longer_word (cut_at test cs) word left c (λ x. chars further.now is x) (λ x. ap (λ y. y is (c ∷ x)) f ∙ ap (λ b. b && (chars further.now is x)) (eq-eqb d c (sym g))) cut)

pub goes_wrong : (s : Sought) (word : List ℕ) (left : Bor (List ℕ)) (c d : ℕ) (further : List ℕ) (test : ℕ → Bool) (cs : List ℕ) → s ≡ Word left → chars left.now ≡ d ∷ further → (c ≡ d → ⊥)
    → holds test word Other cs ≡ holds_if_read word s (first_longer c (cut_at test cs))
goes_wrong s word left c d further test cs e f g =
    let cut = cut_some test cs in
    ap (λ ws. holds_if_read word Other ws) cut.joined
    ∙ sym (ap (λ x. holds_if_read word x (first_longer c (cut_at test cs))) e
    ∙ longer_word (cut_at test cs) word left c (λ x. false) (λ x. ap (λ y. y is (c ∷ x)) f ∙ ap (λ b. b && (further is x)) (ne_eqb d c (λ h. g (sym h)))) cut)

pub goes_past : (s : Sought) (word : List ℕ) (left : Bor (List ℕ)) (c : ℕ) (test : ℕ → Bool) (cs : List ℕ) → s ≡ Word left → chars left.now ≡ []
    → holds test word Other cs ≡ holds_if_read word s (first_longer c (cut_at test cs))
goes_past s word left c test cs e f =
    let cut = cut_some test cs in
    ap (λ ws. holds_if_read word Other ws) cut.joined
    ∙ sym (ap (λ x. holds_if_read word x (first_longer c (cut_at test cs))) e ∙ longer_word (cut_at test cs) word left c (λ x. false) (λ x. ap (λ y. y is (c ∷ x)) f) cut)

pub stays_other : (s : Sought) (word : List ℕ) (c : ℕ) (test : ℕ → Bool) (cs : List ℕ) → s ≡ Other → holds test word Other cs ≡ holds_if_read word s (first_longer c (cut_at test cs))
stays_other s word c test cs e =
    let cut = cut_some test cs in
    ap (λ ws. holds_if_read word Other ws) cut.joined ∙ sym (ap (λ x. holds_if_read word x (first_longer c (cut_at test cs))) e ∙ ap (λ ws. holds_if_read word Other (first_longer c ws)) cut.joined)

pub at_end : (s : Sought) (word : List ℕ) (left : Bor (List ℕ)) (test : ℕ → Bool) (b : Bool) → s ≡ Word left → b ≡ is_empty (chars left.now) → b ≡ holds test word s []
at_end s word left test b e f = f ∙ go (chars left.now) ∙ sym (ap (λ x. holds test word x []) e)
  where
    go : (cs : List ℕ) → is_empty cs ≡ ((cs is []) || false)
    go [] = refl
    go (c ∷ cs) = refl
