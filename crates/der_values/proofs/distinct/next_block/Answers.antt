use Rattle.std.proofs.Common.{◌≡◌, ◌++◌, ◌∷◌, [], ◌+◌, ℕ, List, false, length, map, refl, sym, ap, subst, ◌∙◌, arith, length-append, Bor}
use Rattle.std.specs.List.{list_any}
use Rattle.std.specs.Str.{bytes_eq}
use Rattle.std.proofs.lemmas.List.{map-append}
use Rattle.der_values.specs.Distinct.{IsBlock, Has, octets}
use Rattle.der_values.specs.Rules.{first_in}
use Rattle.der_values.specs.View.{view, elements_left}
use Rattle.der_values.proofs.DistinctLaws.{block_more, not_among}
use Rattle.der_values.proofs.distinct.next_block.Goals as goal

pub loop-preserved : goal.loop-preserved
loop-preserved c =
    let items = c.loop.block.items in
    let first : c.piece-first.result.now ≡ first_in (view c.in_ok-element.element) = c.piece-first.ensures in
    let none : list_any (λ (y : Bor (List ℕ)). bytes_eq y.now c.piece-first.result.now) items ≡ false =
    ap (λ (l : List (Bor (List ℕ))). list_any (λ (y : Bor (List ℕ)). bytes_eq y.now c.piece-first.result.now) l) (sym c.as_slice.ensures.value) ∙ sym c.contains.ensures.value ∙ c.if-contains.false in
    let fresh = λ (has : Has (map octets items) (first_in (view c.in_ok-element.element))). not_among items c.piece-first.result.now none (subst (Has (map octets items)) (sym first) has) in
    let more = block_more c.loop.counter _ _ _ (map octets items) (view c.in_ok-element.element) c.loop.invariant.block c.in_ok-element.ensures.steps fresh in
    let names : map octets c.push.new.self.items ≡ map octets items ++ first_in (view c.in_ok-element.element) ∷ [] =
    ap (map octets) c.push.ensures.items ∙ map-append octets items (c.piece-first.result ∷ []) ∙ ap (λ (x : List ℕ). map octets items ++ x ∷ []) first in
    let len = c.loop.invariant.len in record {
      block = subst (IsBlock (c.loop.counter + 1) _ _) (sym names) more;
      len = ap length c.push.ensures.items ∙ length-append items (c.piece-first.result ∷ []) ∙ omega arith;
    }
