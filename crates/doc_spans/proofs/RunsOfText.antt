-- A run of characters that only go on with a text is read at once.
use Rattle.std.proofs.Common.{append_assoc, ◌≡◌, ℕ, zero, suc, ◌+◌, ◌<◌, ◌≤◌, Bool, true, false, not, cond, ◌&&◌, ◌||◌, nat_eq, nat_le, List, [], ◌∷◌, ◌++◌, length, take, drop, Some, refl, sym, ◌∙◌, ap, subst, arith, length-drop, length-append}
use Rattle.std.proofs.lemmas.Bool.{and_parts, le-leb}
use Rattle.std.proofs.Math.Seq.{drop-drop, drop-append_seam}
use Rattle.std.proofs.lemmas.List.{append-nil, take-append-drop, length-take-le}
use Rattle.std.proofs.lemmas.Str.{length-encode, len_utf8_bounds, encodes-chars}
use Rattle.std.specs.Char.{encode_utf8}
use Rattle.std.specs.List.{list_all}
use Rattle.std.specs.Str.{IsUtf8, chars}
use Rattle.std.specs.Prelude.{option_and_then, encode_utf8_all}
use Rattle.document_model.specs.Characters.{is_empty, is_white}
use Rattle.document_model.specs.Tree.{depth}
use Rattle.document_model.specs.Items.{Piece, character, when}
use Rattle.document_model.specs.Documents.{limits}
use Rattle.xml_items.specs.Runs.{is_text}
use Rattle.xml_items.proofs.TextCharacters.{text_piece, text_no_greater, text_no_bracket}
use Rattle.doc_spans.specs.Marks.{items_of}
use Rattle.doc_spans.specs.declared.rows.Row.{Row}
use Rattle.doc_spans.specs.declared.rows.Shape.TheVariants.{Characters}
use Rattle.doc_spans.specs.declared.rows.Kind.TheVariants.{Text}
use Rattle.doc_spans.specs.View.{none}
use Rattle.doc_spans.specs.Building.{State, step, gone_on, begun, with_end}
use Rattle.doc_spans.specs.Standing.{Standing, goes_on, new_texts, may_stand, is_deep, is_one_too_many, legal_here, legal_within_here, after}
use Rattle.doc_spans.proofs.Standings.{flat}
use Rattle.doc_spans.proofs.ReadSoFar.{ReadTo, read_next}

pub record GoesOn (s : Standing) : Type 0 where
  pub text : s.in_text ≡ true
  pub inside : is_empty s.outer ≡ false
  pub no_bracket : s.bracket ≡ false
  pub no_brackets : s.brackets ≡ false
  pub not_first : s.first ≡ false
  pub not_front : s.front ≡ false

is_not : (a : Bool) → not a ≡ true → a ≡ false
is_not true e = cc
is_not false e = refl

neither : (a b : Bool) → not (a || b) ≡ true → (a ≡ false) × (not b ≡ true)
neither true b e = cc
neither false b e = (refl, e)

pub going : (s : Standing) → goes_on s ≡ true → GoesOn s
going s e =
    let text = and_parts s.in_text _ e in
    let inner = and_parts (not (is_empty s.outer)) _ text.1 in
    let bracket = neither s.bracket _ inner.1 in
    let brackets = neither s.brackets _ bracket.1 in
    let first = neither s.first s.front brackets.1 in
    record { text = text.0; inside = is_not _ inner.0; no_bracket = bracket.0; no_brackets = brackets.0; not_first = first.0; not_front = is_not _ first.1 }

and_false : (a : Bool) → (a && false) ≡ false
and_false true = refl
and_false false = refl

or_true : (a : Bool) → (a || true) ≡ true
or_true true = refl
or_true false = refl

-- Such a character changes nothing of the standing, and is legal.

no_more_nodes : (c : ℕ) (s : Standing) → GoesOn s → new_texts s (c ∷ []) ≡ 0
no_more_nodes c s h = ap (λ b. cond (is_empty s.outer || b) 0 1) h.text ∙ ap (λ b. cond b 0 1) (or_true (is_empty s.outer))

stays : (c : ℕ) (s : Standing) → GoesOn s → nat_eq 0x5D c ≡ false → after (character c) s ≡ s
stays c s h bracket =
    let first : false ≡ s.first = sym h.not_first in
    let front : (nat_eq 0xFEFF c && s.first) ≡ s.front = ap (λ t. nat_eq 0xFEFF c && t) h.not_first ∙ and_false (nat_eq 0xFEFF c) ∙ sym h.not_front in
    let one : nat_eq 0x5D c ≡ s.bracket = bracket ∙ sym h.no_bracket in
    let two : (nat_eq 0x5D c && s.bracket) ≡ s.brackets = ap (λ t. t && s.bracket) bracket ∙ sym h.no_brackets in
    let text : true ≡ s.in_text = sym h.text in
    let nodes : new_texts s (c ∷ []) + s.nodes ≡ s.nodes = ap (λ n. n + s.nodes) (no_more_nodes c s h) ∙ (let z : 0 + s.nodes ≡ s.nodes = omega arith in z) in
    (λ i. record { outer = s.outer; begun = s.begun; first = first i; front = front i; bracket = one i; brackets = two i; in_text = text i; nodes = nodes i })

is_legal : (c : ℕ) (behind : List ℕ) (s : Standing) → GoesOn s → is_text c ≡ true → s.nodes ≤ limits.nodes
    → legal_within_here s (encode_utf8 c ++ behind) ≡ Some (record { text = encode_utf8 c; item = character c }, behind)
is_legal c behind s h o few =
    let found : Piece × List ℕ = (record { text = encode_utf8 c; item = character c }, behind) in
    let greater = text_no_greater c o in
    let stands : may_stand s (character c) ≡ true = ap (λ b. cond b (is_white c || (nat_eq c 0xFEFF && s.first)) (not (nat_eq c 0x3E && s.brackets))) h.inside ∙ ap (λ b. not (b && s.brackets)) greater in
    let enough : is_one_too_many s (character c) ≡ false = ap (λ n. not (nat_le n limits.nodes)) (ap (λ n. n + s.nodes) (no_more_nodes c s h) ∙ (let z : 0 + s.nodes ≡ s.nodes = omega arith in z)) ∙ ap not (le-leb s.nodes limits.nodes few) in
    let here : legal_here s (encode_utf8 c ++ behind) ≡ Some found =
    ap (option_and_then (λ f. when (may_stand s f.0.item) f)) (text_piece c behind o) ∙ ap (λ b. when b found) stands in
    ap (option_and_then (λ f. when (not (is_deep s f.0.item) && not (is_one_too_many s f.0.item)) f)) here
    ∙ ap (λ b. when (not b) found) enough

-- Rows that go on twice are those that go on once.

with_end_again : (k n m : ℕ) (rows : List Row) → with_end k m (with_end k n rows) ≡ with_end k m rows
with_end_again k n m [] = refl
with_end_again zero n m (row ∷ rows) = refl
with_end_again (suc k) n m (row ∷ rows) = ap (λ x. row ∷ x) (with_end_again k n m rows)

step_again : (n m : ℕ) (s : State) → s.in_text ≡ true → step Characters m (step Characters n s) ≡ step Characters m s
step_again n m s e =
    ap (step Characters m) (on n s e)
    ∙ on m (gone_on n s) e
    ∙ (λ i. record s { rows = with_end_again s.previous n m s.rows i; at = m })
    ∙ sym (on m s e)
  where
    on : (k : ℕ) (t : State) → t.in_text ≡ true → step Characters k t ≡ gone_on k t
    on k t f = ap (λ b. cond b (gone_on k t) (cond (nat_eq t.current none) (record t { at = k }) (record (begun Text k t) { in_text = true }))) f

text_stays : (n : ℕ) (s : State) → s.in_text ≡ true → (step Characters n s).in_text ≡ true
text_stays n s e = ap (λ b. (cond b (gone_on n s) (cond (nat_eq s.current none) (record s { at = n }) (record (begun Text n s) { in_text = true }))).in_text) e ∙ e

-- A run.

more_than_none : (n : ℕ) → nat_eq n 0 ≡ false → 0 < n
more_than_none zero e = cc
more_than_none (suc n) e = omega arith

builder_goes_on : (bytes : List ℕ) (at : ℕ) (s : State) (st : Standing) → ReadTo bytes at s st → GoesOn st → s.in_text ≡ true
builder_goes_on bytes at s st r h =
    let before = items_of r.pieces in
    let outside : nat_eq (depth before) 0 ≡ false = sym (flat before) ∙ sym (ap (λ x. is_empty x.outer) r.stands) ∙ h.inside in
    r.rows.0.text (more_than_none (depth before) outside) ∙ sym (ap (λ x. x.in_text) r.stands) ∙ h.text

one_on : (c : ℕ) (behind bytes : List ℕ) (at : ℕ) (s : State) (st : Standing) → length bytes ≤ 16777216 → drop at bytes ≡ encode_utf8 c ++ behind → is_text c ≡ true → GoesOn st → ReadTo bytes at s st
    → (drop (at + length (encode_utf8 c)) bytes ≡ behind) × ReadTo bytes (at + length (encode_utf8 c)) (step Characters (at + length (encode_utf8 c)) s) st
one_on c behind bytes at s st small d o h r =
    let n : ℕ = length (encode_utf8 c) in
    let some : 1 ≤ n = omega (arith, length-encode c, (len_utf8_bounds c).0) in
    let next : drop (at + n) bytes ≡ behind = sym (drop-drop n at bytes) ∙ ap (drop n) d ∙ drop-append_seam (encode_utf8 c) behind in
    let size : n + length behind ≡ length (drop at bytes) = sym (length-append (encode_utf8 c) behind) ∙ ap length (sym d) in
    let within : at + n ≤ length bytes = omega (arith, size, some, length-drop at bytes) in
    let piece : Piece = record { text = encode_utf8 c; item = character c } in
    let P : List ℕ → Type 0 = λ x. legal_within_here st x ≡ Some (piece, drop (at + n) bytes) in
    let legal = subst P (sym d) (is_legal c behind st h o r.few ∙ ap (λ x. Some (piece, x)) (sym next)) in
    (next, read_next bytes at (at + n) s (step Characters (at + n) s) st st piece small within r legal refl (sym (stays c st h (text_no_bracket c o))))

-- characters, one after another
read_text : (c : ℕ) (cs rest bytes : List ℕ) (at : ℕ) (s : State) (st : Standing) → length bytes ≤ 16777216 → drop at bytes ≡ encode_utf8_all (c ∷ cs) ++ rest → list_all is_text (c ∷ cs) ≡ true → GoesOn st → ReadTo bytes at s st
    → ReadTo bytes (at + length (encode_utf8_all (c ∷ cs))) (step Characters (at + length (encode_utf8_all (c ∷ cs))) s) st
read_text c [] rest bytes at s st small d all h r =
    let one = one_on c rest bytes at s st small (d ∙ ap (λ x. x ++ rest) (append-nil (encode_utf8 c))) (and_parts (is_text c) true all).0 h r in
    let P : ℕ → Type 0 = λ k. ReadTo bytes (at + k) (step Characters (at + k) s) st in
    subst P (ap length (sym (append-nil (encode_utf8 c)))) one.1
read_text c (e ∷ cs) rest bytes at s st small d all h r =
    let both = and_parts (is_text c) (list_all is_text (e ∷ cs)) all in
    let n : ℕ = length (encode_utf8 c) in
    let m : ℕ = length (encode_utf8_all (e ∷ cs)) in
    let one = one_on c (encode_utf8_all (e ∷ cs) ++ rest) bytes at s st small (d ∙ append_assoc (encode_utf8 c) (encode_utf8_all (e ∷ cs)) rest) both.0 h r in
    let later = read_text e cs rest bytes (at + n) (step Characters (at + n) s) st small one.0 both.1 h one.1 in
    let P : State → Type 0 = λ x. ReadTo bytes (at + n + m) x st in
    let Q : ℕ → Type 0 = λ k. ReadTo bytes k (step Characters k s) st in
    let place : at + n + m ≡ at + length (encode_utf8_all (c ∷ e ∷ cs)) = omega (arith, length-append (encode_utf8 c) (encode_utf8_all (e ∷ cs))) in
    subst Q place (subst P (step_again (at + n) (at + n + m) s (builder_goes_on bytes at s st r h)) later)

-- The reader's turn that takes a run.
pub run_next : (bytes : List ℕ) (at n : ℕ) (s next : State) (st : Standing) → length bytes ≤ 16777216 → at + n ≤ length bytes → 0 < n → goes_on st ≡ true
    → IsUtf8 (take n (drop at bytes)) → list_all is_text (chars (take n (drop at bytes))) ≡ true → ReadTo bytes at s st
    → next ≡ step Characters (at + n) s → ReadTo bytes (at + n) next st
run_next bytes at n s next st small bound some o utf8 all r f = by_characters (chars text) refl
  where
    text : List ℕ
    text = take n (drop at bytes)

    size : length text ≡ n
    size = length-take-le n (drop at bytes) (omega (arith, bound, length-drop at bytes))

    by_characters : (cs : List ℕ) → chars text ≡ cs → ReadTo bytes (at + n) next st
    by_characters [] e =
        let none : 0 ≡ length text = ap (λ x. length (encode_utf8_all x)) (sym e) ∙ ap length (encodes-chars text utf8) in
        absurd (omega (arith, none, size, some))
    by_characters (c ∷ cs) e =
        let spelt : encode_utf8_all (c ∷ cs) ≡ text = ap encode_utf8_all (sym e) ∙ encodes-chars text utf8 in
        let d : drop at bytes ≡ encode_utf8_all (c ∷ cs) ++ drop n (drop at bytes) = sym (take-append-drop n (drop at bytes)) ∙ ap (λ x. x ++ drop n (drop at bytes)) (sym spelt) in
        let read = read_text c cs (drop n (drop at bytes)) bytes at s st small d (ap (list_all is_text) (sym e) ∙ all) (going st o) r in
        let P : ℕ → Type 0 = λ k. ReadTo bytes (at + k) (step Characters (at + k) s) st in
        let Q : State → Type 0 = λ x. ReadTo bytes (at + n) x st in
        subst Q (sym f) (subst P (ap length spelt ∙ size) read)
