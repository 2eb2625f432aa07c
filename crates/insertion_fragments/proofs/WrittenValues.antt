-- Values that are written with references are read as they were.
use Rattle.std.proofs.Common.{◌≡◌, ℕ, ◌≤◌, Bool, true, false, cond, not, ◌&&◌, ◌||◌, ◌==◌, List, [], ◌∷◌, ◌++◌, Some, refl, sym, ◌∙◌, ap, subst, ◌⊎◌, inl, inr, arith, nat_eq, codes}
use Rattle.std.proofs.lemmas.Bool.{true≢false, eqb-true, ne_eqb, and_parts, and_from}
use Rattle.std.proofs.lemmas.Bool.Decides.{nat_tests}
use Rattle.std.proofs.lemmas.List.{append-nil}
use Rattle.std.proofs.Math.Utf8.{scalar, scalars}
use Rattle.std.specs.Prelude.{flat_map, option_and_then, Option}
use Rattle.std.specs.List.{list_all}
use Rattle.document_model.specs.Characters.{begins_with, is_char, is_white, span, between, contains, pieces_at, with_line_ends, with_blanks}
use Rattle.document_model.specs.Items.{value_of, with_references, referred, when, ◌>>=◌}
use Rattle.document_model.specs.Canonical.{value_character}
use Rattle.xml_items.proofs.AsciiTexts.{between_at}
use Rattle.insertions.proofs.Quiet.{all_both, all_weaker}
use Rattle.insertions.proofs.Opened.{AreChars}
use Rattle.insertion_fragments.specs.Fragment.{may_write}
use Rattle.insertion_fragments.proofs.SimpleCharacters.{covers, all_cover}

abbrev value_from : List ℕ × List (List ℕ) → Bool → Option (List ℕ)
value_from pieces less = do
  behind ← with_references pieces.1
  when (not less) (pieces.0 ++ behind)

abbrev pub written_value : List ℕ → List ℕ
written_value v = flat_map value_character v

-- a character that is written as it stands
record IsPlain (c : ℕ) : Type 0 where
  pub text : value_character c ≡ c ∷ []
  pub no_reference : nat_eq c 0x26 ≡ false
  pub no_less : nat_eq c 0x3C ≡ false
  pub no_quote : nat_eq c 0x22 ≡ false

other : (c d : ℕ) → may_write c ≡ true → may_write d ≡ false → nat_eq c d ≡ false
other c d h f = ne_eqb c d (λ e. true≢false (sym h ∙ ap may_write e ∙ f))

by_character : (c : ℕ) → may_write c ≡ true → (c ≡ 0x26) ⊎ ((c ≡ 0x3C) ⊎ ((c ≡ 0x22) ⊎ IsPlain c))
by_character c h = go (nat_eq c 0x26) (nat_eq c 0x3C) (nat_eq c 0x22) refl refl refl
  where
    go : (a b d : Bool) → nat_eq c 0x26 ≡ a → nat_eq c 0x3C ≡ b → nat_eq c 0x22 ≡ d → (c ≡ 0x26) ⊎ ((c ≡ 0x3C) ⊎ ((c ≡ 0x22) ⊎ IsPlain c))
    go true b d e f g = inl (eqb-true c 0x26 e)
    go false true d e f g = inr (inl (eqb-true c 0x3C f))
    go false false true e f g = inr (inr (inl (eqb-true c 0x22 g)))
    go false false false e f g = inr (inr (inr (record {
      text = λ i. cond (e i) (codes "&amp;") (cond (f i) (codes "&lt;") (cond (g i) (codes "&quot;")
          (cond (other c 0x9 h refl i) (codes "&#x9;") (cond (other c 0xA h refl i) (codes "&#xA;") (cond (other c 0xD h refl i) (codes "&#xD;") (c ∷ []))))));
      no_reference = e;
      no_less = f;
      no_quote = g;
    })))

-- what is written has no `<`, no `"` and no white space but blanks
abbrev pub is_out : ℕ → Bool
is_out d = may_write d && (not (nat_eq d 0x3C) && not (nat_eq d 0x22))

pub all_out : (v : List ℕ) → list_all may_write v ≡ true → list_all is_out (written_value v) ≡ true
all_out [] h = refl
all_out (c ∷ v) h =
    let both = and_parts (may_write c) (list_all may_write v) h in
    all_both is_out (value_character c) (written_value v) (one c both.0) (all_out v both.1)
  where
    one : (c : ℕ) → may_write c ≡ true → list_all is_out (value_character c) ≡ true
    one c h = elim (by_character c h) [
      | inl e ↦ ap (λ x. list_all is_out (value_character x)) e
      | inr rest ↦ elim rest [
        | inl e ↦ ap (λ x. list_all is_out (value_character x)) e
        | inr more ↦ elim more [
          | inl e ↦ ap (λ x. list_all is_out (value_character x)) e
          | inr p ↦ ap (list_all is_out) p.text ∙ (λ i. (h i && (not (p.no_less i) && not (p.no_quote i))) && true)
        ]
      ]
    ]

out_writes : (d : ℕ) → is_out d ≡ true → may_write d ≡ true
out_writes d h = (and_parts (may_write d) _ h).0

blank_same : (c : ℕ) → may_write c ≡ true → cond (is_white c) 0x20 c ≡ c
blank_same c h = white (is_white c) refl
  where
    white : (b : Bool) → is_white c ≡ b → cond b 0x20 c ≡ c
    white false e = refl
    white true e = low c (at_least c h) (at_most c e)
      where
        at_least : (c : ℕ) → may_write c ≡ true → 0x20 ≤ c
        at_least c h = grind (arith, nat_tests)

        at_most : (c : ℕ) → is_white c ≡ true → c ≤ 0x20
        at_most c e = grind (arith, nat_tests)

        low : (c : ℕ) → 0x20 ≤ c → c ≤ 0x20 → 0x20 ≡ c
        low c h k = omega arith

line_ends : (cs : List ℕ) → list_all may_write cs ≡ true → with_line_ends cs ≡ cs
line_ends [] h = refl
line_ends (c ∷ cs) h =
    let both = and_parts (may_write c) (list_all may_write cs) h in
    ap (λ b. cond b (cond (begins_with 0xA cs) (with_line_ends cs) (0xA ∷ with_line_ends cs)) (c ∷ with_line_ends cs)) (other c 0xD both.0 refl) ∙ ap (λ x. c ∷ x) (line_ends cs both.1)

blanks : (cs : List ℕ) → list_all may_write cs ≡ true → with_blanks cs ≡ cs
blanks [] h = refl
blanks (c ∷ cs) h = let both = and_parts (may_write c) (list_all may_write cs) h in (λ i. blank_same c both.0 i ∷ blanks cs both.1 i)

no_less : (cs : List ℕ) → list_all is_out cs ≡ true → contains cs (0x3C ∷ []) ≡ false
no_less [] h = refl
no_less (c ∷ cs) h =
    let both = and_parts (is_out c) (list_all is_out cs) h in
    let e : nat_eq 0x3C c ≡ false = ne_eqb 0x3C c (λ e. true≢false (sym both.0 ∙ ap is_out (sym e))) in
    (λ i. (e i && true) || no_less cs both.1 i)

-- the references are read
record Reads (v : List ℕ) (pieces : List ℕ × List (List ℕ)) : Type 0 where
  pub behind : List ℕ
  pub read : with_references pieces.1 ≡ Some behind
  pub whole : pieces.0 ++ behind ≡ v

one_reference : (name p : List ℕ) (ps : List (List ℕ)) (c : ℕ) (b : List ℕ) → span (λ d. not (d == 0x3B)) (name ++ (0x3B ∷ p)) ≡ (name, 0x3B ∷ p) → referred name ≡ Some c → with_references ps ≡ Some b
    → with_references ((name ++ (0x3B ∷ p)) ∷ ps) ≡ Some (c ∷ p ++ b)
one_reference name p ps c b s r w =
    ap (λ cut. option_and_then (λ c. option_and_then (λ literal. option_and_then (λ behind. Some (c ∷ literal ++ behind)) (with_references ps)) (between (0x3B ∷ []) [] cut.1)) (referred cut.0)) s
    ∙ ap (option_and_then (λ c. option_and_then (λ literal. option_and_then (λ behind. Some (c ∷ literal ++ behind)) (with_references ps)) (between (0x3B ∷ []) [] (0x3B ∷ p)))) r
    ∙ ap (option_and_then (λ literal. option_and_then (λ behind. Some (c ∷ literal ++ behind)) (with_references ps))) (ap (λ x. between (0x3B ∷ []) [] (0x3B ∷ x)) (sym (append-nil p)) ∙ between_at (0x3B ∷ []) [] p)
    ∙ ap (option_and_then (λ behind. Some (c ∷ p ++ behind))) w

reads : (v : List ℕ) → list_all may_write v ≡ true → Reads v (pieces_at 0x26 (written_value v))
reads [] h = record { behind = []; read = refl; whole = refl }
reads (c ∷ v) h =
    let both = and_parts (may_write c) (list_all may_write v) h in
    let r = reads v both.1 in
    let p : List ℕ × List (List ℕ) = pieces_at 0x26 (written_value v) in
    elim (by_character c both.0) [
      | inl e ↦ subst (λ x. Reads (x ∷ v) (pieces_at 0x26 (value_character x ++ written_value v))) (sym e)
          (record { behind = 0x26 ∷ p.0 ++ r.behind; read = one_reference (codes "amp") p.0 p.1 0x26 r.behind refl refl r.read; whole = ap (λ x. 0x26 ∷ x) r.whole })
      | inr rest ↦ elim rest [
        | inl e ↦ subst (λ x. Reads (x ∷ v) (pieces_at 0x26 (value_character x ++ written_value v))) (sym e)
            (record { behind = 0x3C ∷ p.0 ++ r.behind; read = one_reference (codes "lt") p.0 p.1 0x3C r.behind refl refl r.read; whole = ap (λ x. 0x3C ∷ x) r.whole })
        | inr more ↦ elim more [
          | inl e ↦ subst (λ x. Reads (x ∷ v) (pieces_at 0x26 (value_character x ++ written_value v))) (sym e)
              (record { behind = 0x22 ∷ p.0 ++ r.behind; read = one_reference (codes "quot") p.0 p.1 0x22 r.behind refl refl r.read; whole = ap (λ x. 0x22 ∷ x) r.whole })
          | inr q ↦
              let same : pieces_at 0x26 (value_character c ++ written_value v) ≡ (c ∷ p.0, p.1) =
              ap (λ x. pieces_at 0x26 (x ++ written_value v)) q.text ∙ ap (λ b. cond {A = List ℕ × List (List ℕ)} b ([], p.0 ∷ p.1) (c ∷ p.0, p.1)) q.no_reference in
              subst (Reads (c ∷ v)) (sym same) (record { behind = r.behind; read = r.read; whole = ap (λ x. c ∷ x) r.whole })
        ]
      ]
    ]

pub value_read : (v : List ℕ) → list_all may_write v ≡ true → value_of (written_value v) ≡ Some v
value_read v h =
    let w : List ℕ = written_value v in
    let out = all_out v h in
    let writes : list_all may_write w ≡ true = all_weaker is_out may_write out_writes w out in
    let same : with_blanks (with_line_ends w) ≡ w = ap with_blanks (line_ends w writes) ∙ blanks w writes in
    let r = reads v h in
    ap (λ x. value_from (pieces_at 0x26 x) (contains w (0x3C ∷ []))) same ∙ ap (value_from (pieces_at 0x26 w)) (no_less w out)
    ∙ ap (option_and_then (λ behind. Some ((pieces_at 0x26 w).0 ++ behind))) r.read ∙ ap Some r.whole

-- its characters
scalar_of : (cs : List ℕ) → list_all may_write cs ≡ true → scalars cs ≡ true
scalar_of [] h = refl
scalar_of (c ∷ cs) h = let both = and_parts (may_write c) (list_all may_write cs) h in and_from _ (scalars cs) (one c both.0) (scalar_of cs both.1)
  where
    one : (c : ℕ) → may_write c ≡ true → scalar c ≡ true
    one c h = grind (arith, nat_tests)

char_of : (c : ℕ) → may_write c ≡ true → is_char c ≡ true
unfolding covers
char_of c h = all_cover ((0x9, 0xA) ∷ (0xD, 0xD) ∷ (0x20, 0xD7FF) ∷ (0xE000, 0xFFFD) ∷ (0x10000, 0x10FFFF) ∷ []) ((0x20, 0xD7FF) ∷ (0xE000, 0xFFFD) ∷ (0x10000, 0x10FFFF) ∷ []) c refl h

pub value_chars : (v : List ℕ) → list_all may_write v ≡ true → AreChars (written_value v)
value_chars v h =
    let writes : list_all may_write (written_value v) ≡ true = all_weaker is_out may_write out_writes (written_value v) (all_out v h) in
    record { scalar = scalar_of (written_value v) writes; all = all_weaker may_write is_char char_of (written_value v) writes }

pub no_quotes : (v : List ℕ) → list_all may_write v ≡ true → list_all (λ d. not (d == 0x22)) (written_value v) ≡ true
no_quotes v h = all_weaker is_out (λ d. not (d == 0x22)) (λ d k. (and_parts (not (nat_eq d 0x3C)) (not (nat_eq d 0x22)) (and_parts (may_write d) _ k).1).1) (written_value v) (all_out v h)
