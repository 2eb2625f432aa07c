-- The references in a value, which is cut into pieces after its white space is read.
use Rattle.std.proofs.Common.{◌≡◌, ℕ, Bool, true, false, not, ◌&&◌, ◌==◌, cond, List, [], ◌∷◌, ◌++◌, codes, Option, Some, None, is_some, option_and_then, refl, sym, ap, ◌∙◌, subst, arith}
use Rattle.std.specs.List.{list_all}
use Rattle.std.specs.Str.{bytes_eq}
use Rattle.std.specs.Cmp.Lexicographic.{same_text}
use Rattle.std.proofs.lemmas.Bool.{true≢false, false≢true, eqb-true, and_parts, and_from, not-true, not-false}
use Rattle.std.proofs.lemmas.Bool.Decides.{nat_tests}
use Rattle.std.proofs.lemmas.List.{append-nil}
use Rattle.document_model.specs.Characters.{span, pieces_at, with_blanks, with_line_ends, is_white, in_ranges, begins_with, between, is_empty}
use Rattle.document_model.specs.Items.{with_references, referred, numbered, decimal_digits, hexadecimal_digits}
use Rattle.xml_items.proofs.AsciiTexts.{between_at, between_whole}
use Rattle.xml_items.proofs.Numbers.{numbered_other}

-- a value as it is read
abbrev pub normal : List ℕ → List ℕ
normal cs = with_blanks (with_line_ends cs)

abbrev pub has_references : List ℕ → Bool
has_references cs = is_some (with_references (pieces_at 0x26 (normal cs)).1)

-- nothing is left, or a `&` comes first
abbrev pub IsAtReference : List ℕ → Type 0
IsAtReference cs = span (λ c. not (c == 0x26)) cs ≡ ([], cs)

not_cr : (c : ℕ) → is_white c ≡ false → (c == 0xD) ≡ false
not_cr c w = go (c == 0xD) refl
  where
    go : (b : Bool) → (c == 0xD) ≡ b → (c == 0xD) ≡ false
    go false e = e
    go true e = let c_is : c ≡ 0xD = eqb-true c 0xD e in absurd (true≢false (sym (ap is_white c_is) ∙ w))

-- the first character of a value as it is read

pub normal_plain : (c : ℕ) (cs : List ℕ) → is_white c ≡ false → normal (c ∷ cs) ≡ c ∷ normal cs
normal_plain c cs w = rw (not_cr c w, w) refl

pub normal_other : (c : ℕ) (cs : List ℕ) → (c == 0xD) ≡ false → normal (c ∷ cs) ≡ cond (is_white c) 0x20 c ∷ normal cs
normal_other c cs e = rw e refl

pub normal_cr_lf : (c : ℕ) (cs : List ℕ) → (c == 0xD) ≡ true → begins_with 0xA cs ≡ true → normal (c ∷ cs) ≡ normal cs
normal_cr_lf c cs e f = rw (e, f) refl

pub normal_cr : (c : ℕ) (cs : List ℕ) → (c == 0xD) ≡ true → begins_with 0xA cs ≡ false → normal (c ∷ cs) ≡ 0x20 ∷ normal cs
normal_cr c cs e f = rw (e, f) refl

-- a run that ends at no white space is the same in a value as it is read

module _ (p : ℕ → Bool) (blank : p 0x20 ≡ true) (line : p 0xA ≡ true) (stops : (c : ℕ) → p c ≡ false → is_white c ≡ false) where
  same_begin : (cs : List ℕ) → begins_with 0xA (span p cs).0 ≡ begins_with 0xA cs
  same_begin [] = refl
  same_begin (c ∷ cs) = go (p c) refl
    where
      go : (b : Bool) → p c ≡ b → begins_with 0xA (span p (c ∷ cs)).0 ≡ begins_with 0xA (c ∷ cs)
      go true e = rw e refl
      go false e = rw e (sym (other (c == 0xA) refl))
        where
          other : (t : Bool) → (c == 0xA) ≡ t → (c == 0xA) ≡ false
          other false f = f
          other true f = absurd (true≢false (sym line ∙ sym (ap p (eqb-true c 0xA f)) ∙ e))

  span_more : (c : ℕ) (cs : List ℕ) → p c ≡ true → span p (c ∷ cs) ≡ (c ∷ (span p cs).0, (span p cs).1)
  span_more c cs e = rw e refl

  pub span_normal : (cs : List ℕ) → span p (normal cs) ≡ (normal (span p cs).0, normal (span p cs).1)
  span_normal [] = refl
  span_normal (c ∷ cs) = go (p c) refl (span_normal cs)
    where
      go : (b : Bool) → p c ≡ b → span p (normal cs) ≡ (normal (span p cs).0, normal (span p cs).1) → span p (normal (c ∷ cs)) ≡ (normal (span p (c ∷ cs)).0, normal (span p (c ∷ cs)).1)
      go false e behind = let w : is_white c ≡ false = stops c e in rw (normal_plain c cs w, e, normal_plain c cs w) refl
      go true e behind = rw (span_more c cs e) (pass (c == 0xD) refl)
        where
          a : List ℕ
          a = (span p cs).0

          passes_blank : (t : Bool) → p (cond t 0x20 c) ≡ true
          passes_blank true = blank
          passes_blank false = e

          pass : (t : Bool) → (c == 0xD) ≡ t → span p (normal (c ∷ cs)) ≡ (normal (c ∷ (span p cs).0), normal (span p cs).1)
          pass false f = ap (span p) (normal_other c cs f) ∙ span_more (cond (is_white c) 0x20 c) (normal cs) (passes_blank (is_white c)) ∙ ap (λ x. (cond (is_white c) 0x20 c ∷ x.0, x.1)) behind
              ∙ ap (λ x. (x, normal (span p cs).1)) (sym (normal_other c (span p cs).0 f))
          pass true f = cr (begins_with 0xA cs) refl
            where
              cr : (t : Bool) → begins_with 0xA cs ≡ t → span p (normal (c ∷ cs)) ≡ (normal (c ∷ (span p cs).0), normal (span p cs).1)
              cr true g = ap (span p) (normal_cr_lf c cs f g) ∙ behind ∙ ap (λ x. (x, normal (span p cs).1)) (sym (normal_cr_lf c (span p cs).0 f (same_begin cs ∙ g)))
              cr false g = ap (span p) (normal_cr c cs f g) ∙ span_more 0x20 (normal cs) blank ∙ ap (λ x. (0x20 ∷ x.0, x.1)) behind
                  ∙ ap (λ x. (x, normal (span p cs).1)) (sym (normal_cr c (span p cs).0 f (same_begin cs ∙ g)))

-- what stops a run also stops the run behind it
pub span_again : (p : ℕ → Bool) (cs : List ℕ) → span p (span p cs).1 ≡ ([], (span p cs).1)
span_again p [] = refl
span_again p (c ∷ cs) = go (p c) refl (span_again p cs)
  where
    go : (b : Bool) → p c ≡ b → span p (span p cs).1 ≡ ([], (span p cs).1) → span p (span p (c ∷ cs)).1 ≡ ([], (span p (c ∷ cs)).1)
    go true e behind = rw e behind
    go false e behind = rw (e, e) refl

-- the pieces behind the first one, by what stands behind it
abbrev pub pieces_behind : ℕ → List ℕ → List (List ℕ)
pieces_behind d [] = []
pieces_behind d (x ∷ cs) = (pieces_at d cs).0 ∷ (pieces_at d cs).1

pieces_by_span : (d : ℕ) (cs : List ℕ) → pieces_at d cs ≡ ((span (λ c. not (c == d)) cs).0, pieces_behind d (span (λ c. not (c == d)) cs).1)
pieces_by_span d [] = refl
pieces_by_span d (c ∷ cs) = go (c == d) refl (pieces_by_span d cs)
  where
    go : (b : Bool) → (c == d) ≡ b → pieces_at d cs ≡ ((span (λ c. not (c == d)) cs).0, pieces_behind d (span (λ c. not (c == d)) cs).1)
        → pieces_at d (c ∷ cs) ≡ ((span (λ c. not (c == d)) (c ∷ cs)).0, pieces_behind d (span (λ c. not (c == d)) (c ∷ cs)).1)
    go true e behind = rw e refl
    go false e behind = rw e (ap (λ x. (c ∷ x.0, x.1)) behind)

pub no_white_at : (d : ℕ) → is_white d ≡ false → (c : ℕ) → not (c == d) ≡ false → is_white c ≡ false
no_white_at d w c e = ap is_white (eqb-true c d (not-false (c == d) e)) ∙ w

abbrev pub at_reference : ℕ → Bool
at_reference = λ c. not (c == 0x26)

abbrev pub at_end : ℕ → Bool
at_end = λ c. not (c == 0x3B)

normal_to_reference : (cs : List ℕ) → span at_reference (normal cs) ≡ (normal (span at_reference cs).0, normal (span at_reference cs).1)
normal_to_reference = span_normal at_reference refl refl (no_white_at 0x26 refl)

pub normal_to_end : (cs : List ℕ) → span at_end (normal cs) ≡ (normal (span at_end cs).0, normal (span at_end cs).1)
normal_to_end = span_normal at_end refl refl (no_white_at 0x3B refl)

pub pieces_normal : (cs : List ℕ) → pieces_at 0x26 (normal cs) ≡ (normal (span at_reference cs).0, pieces_behind 0x26 (normal (span at_reference cs).1))
pieces_normal cs = pieces_by_span 0x26 (normal cs) ∙ ap (λ x. (x.0, pieces_behind 0x26 x.1)) (normal_to_reference cs)

-- the first piece has no say
pub references_behind : (cs a b : List ℕ) → span at_reference cs ≡ (a, b) → (has_references cs ≡ has_references b) × IsAtReference b
references_behind cs a b e =
    let again : span at_reference b ≡ ([], b) = subst (λ (x : List ℕ × List ℕ). span at_reference x.1 ≡ ([], x.1)) e (span_again at_reference cs) in
    let left = ap (λ x. is_some (with_references x.1)) (pieces_normal cs) ∙ ap (λ x. is_some (with_references (pieces_behind 0x26 (normal x.1)))) e in
    let right = ap (λ x. is_some (with_references x.1)) (pieces_normal b) ∙ ap (λ x. is_some (with_references (pieces_behind 0x26 (normal x.1)))) again in
    (left ∙ sym right, again)

-- no reference has white space in it

abbrev not_white : ℕ → Bool
not_white = λ c. not (is_white c)

normal_same : (cs : List ℕ) → list_all not_white cs ≡ true → normal cs ≡ cs
normal_same [] h = refl
normal_same (c ∷ cs) h =
    let both = and_parts (not_white c) (list_all not_white cs) h in
    normal_plain c cs (not-true (is_white c) both.0) ∙ ap (λ x. c ∷ x) (normal_same cs both.1)

no_line_first : (cs : List ℕ) → begins_with 0xA cs ≡ true → list_all not_white cs ≡ true → ⊥
no_line_first [] b h = false≢true b
no_line_first (x ∷ cs) b h =
    let both = and_parts (not_white x) (list_all not_white cs) h in
    true≢false (sym (ap is_white (eqb-true x 0xA b)) ∙ not-true (is_white x) both.0)

white_kept : (cs : List ℕ) → list_all not_white (normal cs) ≡ true → list_all not_white cs ≡ true
white_kept [] h = refl
white_kept (c ∷ cs) h = go (is_white c) refl (white_kept cs)
  where
    go : (b : Bool) → is_white c ≡ b → (list_all not_white (normal cs) ≡ true → list_all not_white cs ≡ true) → list_all not_white (c ∷ cs) ≡ true
    go false w behind =
        let both = and_parts (not_white c) (list_all not_white (normal cs)) (ap (list_all not_white) (sym (normal_plain c cs w)) ∙ h) in
        and_from _ _ both.0 (behind both.1)
    go true w behind = cr (c == 0xD) refl
      where
        cr : (t : Bool) → (c == 0xD) ≡ t → list_all not_white (c ∷ cs) ≡ true
        cr false e =
            let blank : normal (c ∷ cs) ≡ 0x20 ∷ normal cs = normal_other c cs e ∙ ap (λ b. cond b 0x20 c ∷ normal cs) w in
            absurd (false≢true (ap (list_all not_white) (sym blank) ∙ h))
        cr true e = lf (begins_with 0xA cs) refl
          where
            lf : (t : Bool) → begins_with 0xA cs ≡ t → list_all not_white (c ∷ cs) ≡ true
            lf true f = absurd (no_line_first cs f (behind (ap (list_all not_white) (sym (normal_cr_lf c cs e f)) ∙ h)))
            lf false f = absurd (false≢true (ap (list_all not_white) (sym (normal_cr c cs e f)) ∙ h))

not_this : (text other : List ℕ) → list_all not_white text ≡ false → list_all not_white other ≡ true → bytes_eq text other ≡ false
not_this text other h k = go (bytes_eq text other) refl
  where
    go : (b : Bool) → bytes_eq text other ≡ b → bytes_eq text other ≡ false
    go false e = e
    go true e = absurd (true≢false (sym k ∙ ap (list_all not_white) (sym (same_text text other (sym e))) ∙ h))

no_white_in : (c : ℕ) → in_ranges hexadecimal_digits c ≡ true → is_white c ≡ false
no_white_in c h = grind (arith, nat_tests)

no_white_in_decimal : (c : ℕ) → in_ranges decimal_digits c ≡ true → is_white c ≡ false
no_white_in_decimal c h = grind (arith, nat_tests)

all_within : (p : ℕ → Bool) (cs : List ℕ) → ((c : ℕ) → p c ≡ true → is_white c ≡ false) → list_all p cs ≡ true → list_all not_white cs ≡ true
all_within p [] f h = refl
all_within p (c ∷ cs) f h = let both = and_parts (p c) (list_all p cs) h in and_from _ _ (ap not (f c both.0)) (all_within p cs f both.1)

not_digits : (p : ℕ → Bool) (cs : List ℕ) → ((c : ℕ) → p c ≡ true → is_white c ≡ false) → list_all not_white cs ≡ false → list_all p cs ≡ false
not_digits p cs f h = go (list_all p cs) refl
  where
    go : (b : Bool) → list_all p cs ≡ b → list_all p cs ≡ false
    go false e = e
    go true e = absurd (true≢false (sym (all_within p cs f e) ∙ h))

white_behind : (p cs : List ℕ) → list_all not_white p ≡ true → list_all not_white (p ++ (cs ++ [])) ≡ false → list_all not_white cs ≡ false
white_behind [] cs k h = ap (list_all not_white) (sym (append-nil cs)) ∙ h
white_behind (x ∷ p) cs k h =
    let both = and_parts (not_white x) (list_all not_white p) k in
    white_behind p cs both.1 (ap (λ b. b && list_all not_white (p ++ (cs ++ []))) (sym both.0) ∙ h)

no_number : (base : ℕ) (rs : List (ℕ × ℕ)) (opening text : List ℕ) → ((c : ℕ) → in_ranges rs c ≡ true → is_white c ≡ false) → list_all not_white opening ≡ true → list_all not_white text ≡ false
    → option_and_then (numbered base rs) (between opening [] text) ≡ None
no_number base rs opening text f k h = go (between opening [] text) refl
  where
    go : (o : Option (List ℕ)) → between opening [] text ≡ o → option_and_then (numbered base rs) o ≡ None
    go None e = refl
    go (Some ds) e = numbered_other base rs ds (not_digits (in_ranges rs) ds f (white_behind opening ds k (ap (list_all not_white) (sym (between_whole opening [] text ds e)) ∙ h)))

referred_white : (text : List ℕ) → list_all not_white text ≡ false → referred text ≡ None
referred_white text h =
    rw (not_this text (codes "lt") h refl, not_this text (codes "gt") h refl, not_this text (codes "amp") h refl, not_this text (codes "apos") h refl, not_this text (codes "quot") h refl)
    (rw (no_number 16 hexadecimal_digits (codes "#x") text no_white_in refl h, no_number 10 decimal_digits (codes "#") text no_white_in_decimal refl h) refl)

pub referred_normal : (text : List ℕ) → referred (normal text) ≡ referred text
referred_normal text = go (list_all not_white text) refl
  where
    go : (b : Bool) → list_all not_white text ≡ b → referred (normal text) ≡ referred text
    go true e = ap referred (normal_same text e)
    go false e = referred_white (normal text) (still (list_all not_white (normal text)) refl) ∙ sym (referred_white text e)
      where
        still : (t : Bool) → list_all not_white (normal text) ≡ t → list_all not_white (normal text) ≡ false
        still false f = f
        still true f = absurd (true≢false (sym (white_kept text f) ∙ e))

-- one reference

pub first_stops : (p : ℕ → Bool) (x : ℕ) (cs : List ℕ) → span p (x ∷ cs) ≡ ([], x ∷ cs) → p x ≡ false
first_stops p x cs h = go (p x) refl
  where
    go : (b : Bool) → p x ≡ b → p x ≡ false
    go false e = e
    go true e =
        let more : span p (x ∷ cs) ≡ (x ∷ (span p cs).0, (span p cs).1) = rw e refl in
        absurd (false≢true (ap (λ (y : List ℕ × List ℕ). is_empty y.0) (sym more ∙ h)))

literal_behind : (piece name end : List ℕ) → span at_end piece ≡ (name, end) → is_some (between (0x3B ∷ []) [] (normal end)) ≡ not (is_empty end)
literal_behind piece name [] e = refl
literal_behind piece name (x ∷ end) e =
    let again : span at_end (x ∷ end) ≡ ([], x ∷ end) = subst (λ (y : List ℕ × List ℕ). span at_end y.1 ≡ ([], y.1)) e (span_again at_end piece) in
    let stops : at_end x ≡ false = first_stops at_end x end again in
    let x_is : x ≡ 0x3B = eqb-true x 0x3B (not-false (x == 0x3B) stops) in
    let whole : normal (x ∷ end) ≡ 0x3B ∷ (normal end ++ []) = normal_plain x end (no_white_at 0x3B refl x stops) ∙ (λ i. x_is i ∷ sym (append-nil (normal end)) i) in
    ap (λ y. is_some (between (0x3B ∷ []) [] y)) whole ∙ ap is_some (between_at (0x3B ∷ []) [] (normal end))

with_one : (piece : List ℕ) (pieces : List (List ℕ)) → is_some (with_references (piece ∷ pieces))
    ≡ is_some (referred (span at_end piece).0) && (is_some (between (0x3B ∷ []) [] (span at_end piece).1) && is_some (with_references pieces))
with_one piece pieces = go (referred (span at_end piece).0) (between (0x3B ∷ []) [] (span at_end piece).1) (with_references pieces)
  where
    go : (a : Option ℕ) (b : Option (List ℕ)) (r : Option (List ℕ))
        → is_some (option_and_then (λ c. option_and_then (λ literal. option_and_then (λ behind. Some (c ∷ literal ++ behind)) r) b) a) ≡ is_some a && (is_some b && is_some r)
    go None b r = refl
    go (Some a) None r = refl
    go (Some a) (Some b) None = refl
    go (Some a) (Some b) (Some r) = refl

pub reference_first : (c : ℕ) (behind piece further name end : List ℕ) → IsAtReference (c ∷ behind) → span at_reference behind ≡ (piece, further) → span at_end piece ≡ (name, end)
    → has_references (c ∷ behind) ≡ is_some (referred name) && (not (is_empty end) && has_references further)
reference_first c behind piece further name end at e f =
    let w : is_white c ≡ false = no_white_at 0x26 refl c (first_stops at_reference c behind at) in
    let here : (pieces_at 0x26 (normal (c ∷ behind))).1 ≡ pieces_behind 0x26 (c ∷ normal behind)
    = ap (λ x. x.1) (pieces_normal (c ∷ behind)) ∙ ap (λ x. pieces_behind 0x26 (normal x.1)) at ∙ ap (pieces_behind 0x26) (normal_plain c behind w) in
    let next : pieces_behind 0x26 (c ∷ normal behind) ≡ normal piece ∷ pieces_behind 0x26 (normal further)
    = ap (λ x. x.0 ∷ x.1) (pieces_normal behind) ∙ ap (λ x. normal x.0 ∷ pieces_behind 0x26 (normal x.1)) e in
    let cut : span at_end (normal piece) ≡ (normal name, normal end) = normal_to_end piece ∙ ap (λ x. (normal x.0, normal x.1)) f in
    let last : is_some (with_references (pieces_behind 0x26 (normal further))) ≡ has_references further
    = sym (ap (λ x. is_some (with_references x.1)) (pieces_normal further) ∙ ap (λ x. is_some (with_references (pieces_behind 0x26 (normal x.1)))) (references_behind behind piece further e).1) in
    ap (λ x. is_some (with_references x)) (here ∙ next) ∙ with_one (normal piece) (pieces_behind 0x26 (normal further))
    ∙ ap (λ x. is_some (referred x.0) && (is_some (between (0x3B ∷ []) [] x.1) && is_some (with_references (pieces_behind 0x26 (normal further))))) cut
    ∙ (λ i. is_some (referred_normal name i) && (literal_behind piece name end f i && last i))
