-- Where the texts in an item stand.
use Rattle.std.proofs.Common.{◌≡◌, ℕ, ◌+◌, ◌-◌, List, ◌++◌, length, Option, Some, None, MatchOption, IfSome, refl, ap, ◌∙◌, append_assoc, length-append, arith}
use Rattle.xml_items.specs.Spans.{StandsAt}

pub placed_from : {B : Type 0} (now : B → List ℕ) (P : Type 0) (p c rest text : List ℕ) (inside : Option B) → text ≡ p ++ rest → MatchOption inside P (λ x. rest ≡ now x ++ c)
    → IfSome inside (λ x. text ≡ p ++ (now x ++ c))
placed_from now P p c rest text None e m = tt
placed_from now P p c rest text (Some x) e m = e ∙ ap (λ r. p ++ r) m

module _ (o c inside text : List ℕ) (e : text ≡ o ++ (inside ++ c)) where
  pub front_stands : (name space : List ℕ) → inside ≡ name ++ space → StandsAt text (length o) name
  front_stands name space f = record {
    before = o;
    behind = space ++ c;
    joined = e ∙ ap (λ x. o ++ (x ++ c)) f ∙ ap (λ x. o ++ x) (append_assoc name space c);
    place = refl;
  }

  pub second_stands : (name second space : List ℕ) → inside ≡ name ++ (second ++ space) → StandsAt text (length o + length name) second
  second_stands name second space f = record {
    before = o ++ name;
    behind = space ++ c;
    joined = e ∙ ap (λ x. o ++ (x ++ c)) f ∙ simp append_assoc refl;
    place = length-append o name;
  }

  pub last_stands : (name space last : List ℕ) → inside ≡ name ++ (space ++ last) → StandsAt text (length text - (length c + length last)) last
  last_stands name space last f = record {
    before = o ++ (name ++ space);
    behind = c;
    joined = e ∙ ap (λ x. o ++ (x ++ c)) f ∙ simp append_assoc refl;
    place = omega (arith, ap length e, ap length f, length-append {A = ℕ});
  }

pub tag_stands : {B : Type 0} (first second : B → List ℕ) (o c inside text : List ℕ) (found : Option B) → text ≡ o ++ (inside ++ c)
    → IfSome found (λ x. (space : List ℕ) × (inside ≡ first x ++ (second x ++ space)))
    → IfSome found (λ x. StandsAt text (length o) (first x) × StandsAt text (length o + length (first x)) (second x))
tag_stands first second o c inside text None e f = tt
tag_stands first second o c inside text (Some x) e f = (front_stands o c inside text e (first x) (second x ++ f.0) f.1, second_stands o c inside text e (first x) (second x) f.0 f.1)
