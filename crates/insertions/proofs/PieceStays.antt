-- An item is found again with other bytes behind it.
use Rattle.std.proofs.Common.{◌≡◌, ℕ, zero, suc, ◌<◌, ◌≤◌, Bool, true, false, cond, not, ◌&&◌, List, [], ◌∷◌, ◌++◌, length, take, drop, Option, Some, None, refl, sym, ◌∙◌, ap, subst, arith, nat_eq, append_assoc, codes, length-append}
use Rattle.std.proofs.lemmas.List.{take-append-le, length-take-le}
use Rattle.std.proofs.lemmas.Bool.{eqb-true, and_parts}
use Rattle.std.proofs.Math.Seq.{take-append_seam, drop-append_seam}
use lib.Pointwise.{pointwise}
use Rattle.std.specs.List.{list_all, starts_with}
use Rattle.std.specs.Prelude.{option_and_then}
use Rattle.std.specs.Str.{continuation_len}
use Rattle.document_model.specs.Characters.{characters, begins_with}
use Rattle.document_model.specs.Items.{Piece, Kind, CommentKind, CdataKind, InstructionKind, EndTagKind, TagKind, ReferenceKind, CharacterKind, kind_at, through, through_after, through_tag, is_quote, character_len, cut, item_of, piece_at, ◌>>=◌}
use Rattle.document_model.proofs.Joins.{bind_some, some_same, by_test, HasByte, cut_joins, through_joins}
use Rattle.xml_items.proofs.AsciiTexts.{starts_front}

-- whether a text begins so is told by as many bytes
pub starts_same : (p u v w : List ℕ) → length p ≤ length u → starts_with nat_eq (u ++ v) p ≡ starts_with nat_eq (u ++ w) p
starts_same p u v w h = ap (pointwise nat_eq p) (take-append-le (length p) u v h ∙ sym (take-append-le (length p) u w h))

abbrev Kept : List ℕ → List ℕ → List ℕ × List ℕ → Type 0
Kept close y parts = HasByte parts.1 → (length close ≤ length parts.0) × (through close (parts.0 ++ y) ≡ (parts.0, y))

front_again : (c : ℕ) (close y : List ℕ) → through (c ∷ close) (c ∷ (close ++ y)) ≡ (c ∷ close, y)
front_again c close y =
    let P : Bool → List ℕ × List ℕ = λ b. cond b (c ∷ close, drop (length (c ∷ close)) (c ∷ (close ++ y))) (c ∷ (through (c ∷ close) (close ++ y)).0, (through (c ∷ close) (close ++ y)).1) in
    ap P (starts_front (c ∷ close) y) ∙ ap (λ r. (c ∷ close, r)) (drop-append_seam (c ∷ close) y)

through_again : (c : ℕ) (close y bytes : List ℕ) → Kept (c ∷ close) y (through (c ∷ close) bytes)
through_again c close y [] = λ h. absurd h
through_again c close y (b ∷ bytes) = by_test (Kept (c ∷ close) y) (starts_with nat_eq (b ∷ bytes) (c ∷ close)) _ _
    (λ e h. (omega arith, front_again c close y))
    (λ e h.
    let behind : List ℕ × List ℕ = through (c ∷ close) bytes in
    let again = through_again c close y bytes h in
    let n : length (c ∷ close) ≤ length (b ∷ behind.0) = omega (arith, again.0) in
    let no : starts_with nat_eq (b ∷ (behind.0 ++ y)) (c ∷ close) ≡ false =
    starts_same (c ∷ close) (b ∷ behind.0) y behind.1 n ∙ ap (λ x. starts_with nat_eq (b ∷ x) (c ∷ close)) (through_joins (c ∷ close) bytes) ∙ e in
    let P : Bool → List ℕ × List ℕ = λ t. cond t (c ∷ close, drop (length (c ∷ close)) (b ∷ (behind.0 ++ y))) (b ∷ (through (c ∷ close) (behind.0 ++ y)).0, (through (c ∷ close) (behind.0 ++ y)).1) in
    (n, ap P no ∙ ap (λ r. (b ∷ r.0, r.1)) again.1))

-- where it ends
abbrev pub EndsBy : ℕ → List ℕ → Type 0
EndsBy e text = (t : List ℕ) × (text ≡ t ++ e ∷ [])

abbrev Ended : ℕ → List ℕ × List ℕ → Type 0
Ended e parts = HasByte parts.1 → EndsBy e parts.0

through_ends : (first : List ℕ) (e : ℕ) (bytes : List ℕ) → Ended e (through (first ++ e ∷ []) bytes)
through_ends first e [] = λ h. absurd h
through_ends first e (b ∷ bytes) = by_test (Ended e) (starts_with nat_eq (b ∷ bytes) (first ++ e ∷ [])) _ _
    (λ _ h. (first, refl))
    (λ _ h. let behind = through_ends first e bytes h in (b ∷ behind.0, ap (λ x. b ∷ x) behind.1))

has_drop : (n : ℕ) (bytes : List ℕ) → HasByte (drop n bytes) → n < length bytes
has_drop n [] h = go n h
  where
    go : (n : ℕ) → HasByte (drop n []) → n < 0
    go zero h = absurd h
    go (suc n) h = absurd h
has_drop zero (b ∷ bytes) h = omega arith
has_drop (suc n) (b ∷ bytes) h = let m = has_drop n bytes h in omega (arith, m)

has_rest : (close bytes : List ℕ) → HasByte (through close bytes).1 → HasByte bytes
has_rest close [] h = h
has_rest close (b ∷ bytes) h = tt

-- the whole of a text cut behind an opening and a closing text
abbrev Whole : (List ℕ → List ℕ × List ℕ) → ℕ → List ℕ → List ℕ × List ℕ → Type 0
Whole f e y parts = HasByte parts.1 → EndsBy e parts.0 × (f (parts.0 ++ y) ≡ (parts.0, y))

after_again : (n c : ℕ) (close first : List ℕ) (e : ℕ) (y bytes : List ℕ) → first ++ e ∷ [] ≡ c ∷ close → Whole (through_after n (c ∷ close)) e y (through_after n (c ∷ close) bytes)
after_again n c close first e y bytes same h =
    let u : List ℕ = take n bytes in
    let behind : List ℕ × List ℕ = through (c ∷ close) (drop n bytes) in
    let long = has_drop n bytes (has_rest (c ∷ close) (drop n bytes) h) in
    let size : length u ≡ n = length-take-le n bytes (omega (arith, long)) in
    let end : EndsBy e behind.0 = subst (λ x. Ended e (through x (drop n bytes))) same (through_ends first e (drop n bytes)) h in
    let joined : (u ++ behind.0) ++ y ≡ u ++ (behind.0 ++ y) = append_assoc u behind.0 y in
    let t : take n (u ++ (behind.0 ++ y)) ≡ u = ap (λ m. take m (u ++ (behind.0 ++ y))) (sym size) ∙ take-append_seam u (behind.0 ++ y) in
    let d : drop n (u ++ (behind.0 ++ y)) ≡ behind.0 ++ y = ap (λ m. drop m (u ++ (behind.0 ++ y))) (sym size) ∙ drop-append_seam u (behind.0 ++ y) in
    let again = (through_again c close y (drop n bytes) h).1 in (
      (u ++ end.0, ap (λ x. u ++ x) end.1 ∙ sym (append_assoc u end.0 (e ∷ []))),
      ap (through_after n (c ∷ close)) joined
          ∙ (λ i. (t i ++ (through (c ∷ close) (d i)).0, (through (c ∷ close) (d i)).1))
          ∙ ap (λ r. (u ++ r.0, r.1)) again,
    )

one_again : (c : ℕ) (y bytes : List ℕ) → Whole (through (c ∷ [])) c y (through (c ∷ []) bytes)
one_again c y bytes h = (through_ends [] c bytes h, (through_again c [] y bytes h).1)

tag_again : (q : Option ℕ) (y bytes : List ℕ) → Whole (through_tag q) 0x3E y (through_tag q bytes)
tag_again q y [] = λ h. absurd h
tag_again None y (b ∷ bytes) = by_test (Whole (through_tag None) 0x3E y) (nat_eq b 0x3E) _ _
    (λ e h.
    let P : Bool → List ℕ × List ℕ = λ t. cond t (b ∷ [], y) (b ∷ (through_tag (cond (is_quote b) (Some b) None) y).0, (through_tag (cond (is_quote b) (Some b) None) y).1) in
    (([], ap (λ x. x ∷ []) (eqb-true b 0x3E e)), ap P e))
    (λ e h.
    let q : Option ℕ = cond (is_quote b) (Some b) None in
    let behind : List ℕ × List ℕ = through_tag q bytes in
    let again = tag_again q y bytes h in
    let P : Bool → List ℕ × List ℕ = λ t. cond t (b ∷ [], behind.0 ++ y) (b ∷ (through_tag q (behind.0 ++ y)).0, (through_tag q (behind.0 ++ y)).1) in
    ((b ∷ again.0.0, ap (λ x. b ∷ x) again.0.1), ap P e ∙ ap (λ r. (b ∷ r.0, r.1)) again.1))
tag_again (Some quote) y (b ∷ bytes) = λ h.
    let again = tag_again (cond (nat_eq b quote) None (Some quote)) y bytes h in
    ((b ∷ again.0.0, ap (λ x. b ∷ x) again.0.1), ap (λ r. (b ∷ r.0, r.1)) again.1)

-- The kind is told up to the end.

abbrev lacks : ℕ → List ℕ → Bool
lacks e p = list_all (λ c. not (nat_eq c e)) p

starts_by_end : (e : ℕ) (p u v w : List ℕ) → lacks e p ≡ true → starts_with nat_eq (u ++ e ∷ v) p ≡ starts_with nat_eq (u ++ e ∷ w) p
starts_by_end e [] u v w h = refl
starts_by_end e (c ∷ p) [] v w h = other (nat_eq c e) h
  where
    other : (b : Bool) → (not b && lacks e p) ≡ true → (b && pointwise nat_eq p (take (length p) v)) ≡ (b && pointwise nat_eq p (take (length p) w))
    other true h = cc
    other false h = refl
starts_by_end e (c ∷ p) (b ∷ u) v w h = ap (λ r. nat_eq c b && r) (starts_by_end e p u v w (and_parts (not (nat_eq c e)) (lacks e p) h).1)

abbrev pub kind_by : (b1 b2 b3 b4 b5 b6 : Bool) → Kind
kind_by b1 b2 b3 b4 b5 b6 =
    cond b1 CommentKind (cond b2 CdataKind (cond b3 InstructionKind (cond b4 EndTagKind (cond b5 TagKind (cond b6 ReferenceKind CharacterKind)))))

kind_by_end : (e : ℕ) (u v w : List ℕ) → lacks e (codes "<!--") ≡ true → lacks e (codes "<![CDATA[") ≡ true → lacks e (codes "<?") ≡ true → lacks e (codes "</") ≡ true
    → lacks e (codes "<") ≡ true → lacks e (codes "&") ≡ true → kind_at (u ++ e ∷ v) ≡ kind_at (u ++ e ∷ w)
kind_by_end e u v w h1 h2 h3 h4 h5 h6 =
    let s1 = starts_by_end e (codes "<!--") u v w h1 in
    let s2 = starts_by_end e (codes "<![CDATA[") u v w h2 in
    let s3 = starts_by_end e (codes "<?") u v w h3 in
    let s4 = starts_by_end e (codes "</") u v w h4 in
    let s5 = starts_by_end e (codes "<") u v w h5 in
    let s6 = starts_by_end e (codes "&") u v w h6 in
    λ i. kind_by (s1 i) (s2 i) (s3 i) (s4 i) (s5 i) (s6 i)

pub kind_by_greater : (u v w : List ℕ) → kind_at (u ++ 0x3E ∷ v) ≡ kind_at (u ++ 0x3E ∷ w)
kind_by_greater u v w = kind_by_end 0x3E u v w refl refl refl refl refl refl

kind_by_semicolon : (u v w : List ℕ) → kind_at (u ++ 0x3B ∷ v) ≡ kind_at (u ++ 0x3B ∷ w)
kind_by_semicolon u v w = kind_by_end 0x3B u v w refl refl refl refl refl refl

-- a character is told by its first byte

only_character : (b1 b2 b3 b4 b5 b6 : Bool) → kind_by b1 b2 b3 b4 b5 b6 ≡ CharacterKind → (b5 ≡ false) × (b6 ≡ false)
only_character true b2 b3 b4 b5 b6 e = cc
only_character false true b3 b4 b5 b6 e = cc
only_character false false true b4 b5 b6 e = cc
only_character false false false true b5 b6 e = cc
only_character false false false false true b6 e = cc
only_character false false false false false true e = cc
only_character false false false false false false e = (refl, refl)

first_false : (b : Bool) → (b && true) ≡ false → b ≡ false
first_false true e = cc
first_false false e = refl

pub character_first : (b : ℕ) (bytes : List ℕ) → kind_at (b ∷ bytes) ≡ CharacterKind → (nat_eq 0x3C b ≡ false) × (nat_eq 0x26 b ≡ false)
character_first b bytes e =
    let starts : List ℕ → Bool = starts_with nat_eq (b ∷ bytes) in
    let both = only_character (starts (codes "<!--")) (starts (codes "<![CDATA[")) (starts (codes "<?")) (starts (codes "</")) (starts (codes "<")) (starts (codes "&")) e in
    (first_false _ both.0, first_false _ both.1)

pub first_character : (b : ℕ) (bytes : List ℕ) → nat_eq 0x3C b ≡ false → nat_eq 0x26 b ≡ false → kind_at (b ∷ bytes) ≡ CharacterKind
first_character b bytes e f = λ i. kind_by (e i && pointwise nat_eq (codes "!--") (take 3 bytes)) (e i && pointwise nat_eq (codes "![CDATA[") (take 8 bytes))
    (e i && pointwise nat_eq (codes "?") (take 1 bytes)) (e i && pointwise nat_eq (codes "/") (take 1 bytes)) (e i && true) (f i && true)

abbrev pub feeds : List ℕ → Bool
feeds y = begins_with 0xA y

-- the length of one character
len_of : (b : ℕ) (z : List ℕ) → (nat_eq b 0xD && feeds z) ≡ false → continuation_len b ≤ length z → character_len (b ∷ z) ≡ suc (continuation_len b)
len_of b [] e h = omega (arith, h)
len_of b (c ∷ z) e h = ap (λ t. cond t 2 (suc (continuation_len b))) e

is_feed : (b c : Bool) → (b && c) ≡ true → c ≡ true
is_feed true true e = refl
is_feed true false e = cc
is_feed false c e = cc

-- the byte behind CR isn't LF, with other bytes behind it
no_feed : (b k : ℕ) (bytes y : List ℕ) → k ≡ continuation_len b → (nat_eq b 0xD && feeds bytes) ≡ false → (feeds y ≡ true → feeds (drop k bytes) ≡ true)
    → (nat_eq b 0xD && feeds (take k bytes ++ y)) ≡ false
no_feed b k bytes y n e h = by_cr (nat_eq b 0xD) refl
  where
    both : (x y : Bool) → (x ≡ true → y ≡ true) → y ≡ false → x ≡ false
    both true y f e = sym (f refl) ∙ e
    both false y f e = refl

    by_cr : (cr : Bool) → nat_eq b 0xD ≡ cr → (nat_eq b 0xD && feeds (take k bytes ++ y)) ≡ false
    by_cr false is = ap (λ t. t && feeds (take k bytes ++ y)) is
    by_cr true is =
        let here : feeds bytes ≡ false = ap (λ t. t && feeds bytes) (sym is) ∙ e in
        let none : k ≡ 0 = n ∙ ap continuation_len (eqb-true b 0xD is) in
        ap (λ t. t && feeds (take k bytes ++ y)) is ∙ ap (λ m. feeds (take m bytes ++ y)) none
        ∙ both (feeds y) (feeds bytes) (λ f. ap (λ m. feeds (drop m bytes)) (sym none) ∙ h f) here

abbrev CharacterAgain : List ℕ → List ℕ → ℕ → Type 0
CharacterAgain bytes y n = HasByte (drop n bytes) → (feeds y ≡ true → feeds (drop n bytes) ≡ true) → cut CharacterKind (take n bytes ++ y) ≡ (take n bytes, y)

character_again : (b : ℕ) (bytes y : List ℕ) → CharacterAgain (b ∷ bytes) y (character_len (b ∷ bytes))
character_again b [] y = λ h f. absurd h
character_again b (c ∷ bytes) y = by_test (CharacterAgain (b ∷ c ∷ bytes) y) (nat_eq b 0xD && nat_eq c 0xA) 2 (suc (continuation_len b))
    (λ e h f. ap (λ t. (take (cond t 2 (suc (continuation_len b))) (b ∷ c ∷ y), drop (cond t 2 (suc (continuation_len b))) (b ∷ c ∷ y))) e)
    (λ e h f.
    let k : ℕ = continuation_len b in
    let u : List ℕ = take k (c ∷ bytes) in
    let long = has_drop k (c ∷ bytes) h in
    let size : length u ≡ k = length-take-le k (c ∷ bytes) (omega (arith, long)) in
    let n : character_len (b ∷ (u ++ y)) ≡ suc k = len_of b (u ++ y) (no_feed b k (c ∷ bytes) y refl e f) (omega (arith, size, length-append u y)) in
    let t : take k (u ++ y) ≡ u = ap (λ m. take m (u ++ y)) (sym size) ∙ take-append_seam u y in
    let d : drop k (u ++ y) ≡ y = ap (λ m. drop m (u ++ y)) (sym size) ∙ drop-append_seam u y in
    ap (λ m. (take m (b ∷ (u ++ y)), drop m (b ∷ (u ++ y)))) n ∙ (λ i. (b ∷ t i, d i)))

-- the item at the front of bytes that are cut behind it
abbrev pub read : Kind → List ℕ × List ℕ → Option (Piece × List ℕ)
read kind parts = do
  text ← characters parts.0
  item ← item_of kind text
  Some (record { text = parts.0; item = item }, parts.1)

pub read_at : (bytes : List ℕ) → piece_at bytes ≡ read (kind_at bytes) (cut (kind_at bytes) bytes)
unfolding piece_at
read_at bytes = refl

-- what is read, is read with other bytes behind it
pub record ReadFrom (kind : Kind) (parts : List ℕ × List ℕ) (found : Piece × List ℕ) : Type 0 where
  pub text : found.0.text ≡ parts.0
  pub rest : found.1 ≡ parts.1
  pub again : (y : List ℕ) → read kind (parts.0, y) ≡ Some (found.0, y)

pub read_from : (kind : Kind) (parts : List ℕ × List ℕ) (found : Piece × List ℕ) → read kind parts ≡ Some found → ReadFrom kind parts found
read_from kind parts found e =
    let text = bind_some _ (characters parts.0) found e in
    let item = bind_some _ (item_of kind text.0) found text.2 in
    let same = some_same _ found item.2 in
    record {
      text = sym (ap (λ f. f.0.text) same);
      rest = sym (ap (λ f. f.1) same);
      again = λ y. ap (λ o. option_and_then (λ cs. option_and_then (λ i. Some (record { text = parts.0; item = i }, y)) (item_of kind cs)) o) text.1
          ∙ ap (λ o. option_and_then (λ i. Some (record { text = parts.0; item = i }, y)) o) item.1
          ∙ ap (λ p. Some (p, y)) (ap (λ f. f.0) same);
    }

-- The cut of a kind, again.

abbrev CutAgain : Kind → List ℕ → List ℕ → Type 0
CutAgain kind bytes y = HasByte (cut kind bytes).1 → (feeds y ≡ true → feeds (cut kind bytes).1 ≡ true)
    → (kind_at ((cut kind bytes).0 ++ y) ≡ kind) × (cut kind ((cut kind bytes).0 ++ y) ≡ ((cut kind bytes).0, y))

ended : (e : ℕ) → ((u v w : List ℕ) → kind_at (u ++ e ∷ v) ≡ kind_at (u ++ e ∷ w)) → (kind : Kind) (bytes y : List ℕ) → kind_at bytes ≡ kind
    → Whole (cut kind) e y (cut kind bytes) → CutAgain kind bytes y
ended e same kind bytes y k again h f =
    let parts : List ℕ × List ℕ = cut kind bytes in
    let w = again h in
    let t : List ℕ = w.0.0 in
    let at : (z : List ℕ) → parts.0 ++ z ≡ t ++ (e ∷ z) = λ z. ap (λ x. x ++ z) w.0.1 ∙ append_assoc t (e ∷ []) z in
    (ap kind_at (at y) ∙ same t y parts.1 ∙ ap kind_at (sym (at parts.1) ∙ cut_joins kind bytes) ∙ k, w.1)

character_kind : (b : ℕ) (bytes y : List ℕ) → kind_at (b ∷ bytes) ≡ CharacterKind → kind_at (take (character_len (b ∷ bytes)) (b ∷ bytes) ++ y) ≡ CharacterKind
character_kind b [] y k = let first = character_first b [] k in first_character b y first.0 first.1
character_kind b (c ∷ bytes) y k =
    let first = character_first b (c ∷ bytes) k in
    let P : ℕ → Type 0 = λ n. kind_at (take n (b ∷ c ∷ bytes) ++ y) ≡ CharacterKind in
    by_test P (nat_eq b 0xD && nat_eq c 0xA) 2 (suc (continuation_len b))
    (λ e. first_character b (c ∷ y) first.0 first.1)
    (λ e. first_character b (take (continuation_len b) (c ∷ bytes) ++ y) first.0 first.1)

cut_again : (kind : Kind) (bytes y : List ℕ) → kind_at bytes ≡ kind → CutAgain kind bytes y
cut_again CommentKind bytes y k = ended 0x3E kind_by_greater CommentKind bytes y k (after_again 4 0x2D (0x2D ∷ 0x3E ∷ []) (0x2D ∷ 0x2D ∷ []) 0x3E y bytes refl)
cut_again CdataKind bytes y k = ended 0x3E kind_by_greater CdataKind bytes y k (after_again 9 0x5D (0x5D ∷ 0x3E ∷ []) (0x5D ∷ 0x5D ∷ []) 0x3E y bytes refl)
cut_again InstructionKind bytes y k = ended 0x3E kind_by_greater InstructionKind bytes y k (after_again 2 0x3F (0x3E ∷ []) (0x3F ∷ []) 0x3E y bytes refl)
cut_again EndTagKind bytes y k = ended 0x3E kind_by_greater EndTagKind bytes y k (one_again 0x3E y bytes)
cut_again TagKind bytes y k = ended 0x3E kind_by_greater TagKind bytes y k (tag_again None y bytes)
cut_again ReferenceKind bytes y k = ended 0x3B kind_by_semicolon ReferenceKind bytes y k (one_again 0x3B y bytes)
cut_again CharacterKind [] y k = λ h f. absurd h
cut_again CharacterKind (b ∷ bytes) y k = λ h f. (character_kind b bytes y k, character_again b bytes y h f)

-- An item is found again with other bytes behind it, but for a CR in front of which bytes begin with LF that didn't before.
pub piece_stays : (bytes y : List ℕ) (found : Piece × List ℕ) → piece_at bytes ≡ Some found → HasByte found.1 → (feeds y ≡ true → feeds found.1 ≡ true)
    → piece_at (found.0.text ++ y) ≡ Some (found.0, y)
piece_stays bytes y found e h f =
    let kind : Kind = kind_at bytes in
    let parts : List ℕ × List ℕ = cut kind bytes in
    let from = read_from kind parts found (sym (read_at bytes) ∙ e) in
    let again = cut_again kind bytes y refl (subst HasByte from.rest h) (λ x. sym (ap feeds from.rest) ∙ f x) in
    let z : List ℕ = parts.0 ++ y in
    ap (λ t. piece_at (t ++ y)) from.text ∙ read_at z ∙ ap (λ k. read k (cut k z)) again.0 ∙ ap (read kind) again.1 ∙ from.again y
