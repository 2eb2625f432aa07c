-- Simple characters: ranges within others, and simple text as it is written.
use Rattle.std.proofs.Common.{◌≡◌, ℕ, Bool, true, false, cond, ◌&&◌, ◌||◌, List, [], ◌∷◌, ◌++◌, refl, sym, ◌∙◌, ap, arith, nat_eq, nat_le, codes}
use Rattle.std.proofs.lemmas.Bool.{true≢false, ne_eqb, and_parts}
use Rattle.std.proofs.lemmas.Bool.Decides.{nat_tests}
use Rattle.std.specs.Prelude.{flat_map}
use Rattle.std.specs.List.{list_all}
use Rattle.document_model.specs.Characters.{in_ranges}
use Rattle.document_model.specs.Canonical.{text_character}
use Rattle.xml_items.specs.Runs.{is_ordinary}
use Rattle.insertion_fragments.specs.Fragment.{is_simple}

-- ranges within others
unfoldable pub covers : List (ℕ × ℕ) → ℕ × ℕ → Bool
covers [] r = false
covers (s ∷ rs) r = (nat_le s.0 r.0 && nat_le r.1 s.1) || covers rs r

in_cover : (rs : List (ℕ × ℕ)) (r : ℕ × ℕ) (c : ℕ) → covers rs r ≡ true → (nat_le r.0 c && nat_le c r.1) ≡ true → in_ranges rs c ≡ true
unfolding covers
in_cover [] r c e h = cc
in_cover (s ∷ rs) r c e h = either (λ f. in_cover rs r c f h) (nat_le s.0 r.0 && nat_le r.1 s.1) refl e
  where
    rest : Bool
    rest = in_ranges rs c

    inside : (a b d f g : ℕ) → (nat_le a b && nat_le d f) ≡ true → (nat_le b g && nat_le g d) ≡ true → (nat_le a g && nat_le g f) ≡ true
    inside a b d f g e h = grind (arith, nat_tests)

    either : (covers rs r ≡ true → in_ranges rs c ≡ true) → (b : Bool) → (nat_le s.0 r.0 && nat_le r.1 s.1) ≡ b → (b || covers rs r) ≡ true → ((nat_le s.0 c && nat_le c s.1) || in_ranges rs c) ≡ true
    either g true e f = ap (λ b. b || in_ranges rs c) (inside s.0 r.0 r.1 s.1 c e h)
    either g false e f = or_second (nat_le s.0 c && nat_le c s.1) (in_ranges rs c) (g f)
      where
        or_second : (a b : Bool) → b ≡ true → (a || b) ≡ true
        or_second true b e = refl
        or_second false b e = e

pub all_cover : (rs ss : List (ℕ × ℕ)) (c : ℕ) → list_all (covers rs) ss ≡ true → in_ranges ss c ≡ true → in_ranges rs c ≡ true
all_cover rs [] c e h = cc
all_cover rs (r ∷ ss) c e h =
    let both = and_parts (covers rs r) (list_all (covers rs) ss) e in
    either (λ k. all_cover rs ss c both.1 k) both.0 (nat_le r.0 c && nat_le c r.1) refl h
  where
    either : (in_ranges ss c ≡ true → in_ranges rs c ≡ true) → covers rs r ≡ true → (b : Bool) → (nat_le r.0 c && nat_le c r.1) ≡ b → (b || in_ranges ss c) ≡ true → in_ranges rs c ≡ true
    either f v true t k = in_cover rs r c v t
    either f v false t k = f k

pub simple_ordinary : (c : ℕ) → is_simple c ≡ true → is_ordinary c ≡ true
unfolding covers
simple_ordinary c h = all_cover ((0x9, 0xA) ∷ (0x20, 0x25) ∷ (0x27, 0x3B) ∷ (0x3D, 0x3D) ∷ (0x3F, 0x5C) ∷ (0x5E, 0x7E) ∷ [])
    ((0x20, 0x21) ∷ (0x23, 0x25) ∷ (0x28, 0x3B) ∷ (0x3D, 0x3D) ∷ (0x3F, 0x5C) ∷ (0x5E, 0x7E) ∷ []) c refl h

pub apart : (c d : ℕ) → is_simple c ≡ true → is_simple d ≡ false → nat_eq c d ≡ false
apart c d h f = ne_eqb c d (λ e. true≢false (sym h ∙ ap is_simple e ∙ f))

pub text_text : (cs : List ℕ) → list_all is_simple cs ≡ true → flat_map text_character cs ≡ cs
text_text [] h = refl
text_text (c ∷ cs) h =
    let both = and_parts (is_simple c) (list_all is_simple cs) h in
    (λ i. cond (apart c 0x26 both.0 refl i) (codes "&amp;") (cond (apart c 0x3C both.0 refl i) (codes "&lt;") (cond (apart c 0x3E both.0 refl i) (codes "&gt;")
    (cond (apart c 0xD both.0 refl i) (codes "&#xD;") (c ∷ [])))) ++ text_text cs both.1 i)
