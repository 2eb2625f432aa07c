-- Words that begin with a key.
use Rattle.std.proofs.Common.{◌≡◌, ℕ, List, length, drop, sym, true, false, Bor, nat_eq}
use Rattle.std.specs.Prelude.{Option, None, Some, MatchOption}
use Rattle.std.specs.List.{starts_with}
use Rattle.std.specs.Str.{IsCharBoundary}
use Rattle.std.specs.Str.Pattern.{FindsTextPrefix, StripsPrefix}
use Rattle.std.proofs.lemmas.Str.Pattern.{starts_text}

-- a prefix that is taken away
pub behind_text : (key word : List ℕ) (r : Option (Bor (List ℕ))) → MatchOption r (FindsTextPrefix key word None) (λ x. StripsPrefix (FindsTextPrefix key) word x.now) → MatchOption r (starts_with nat_eq word key ≡ false) (λ text. (starts_with nat_eq word key ≡ true) × (text.now ≡ drop (length key) word))
behind_text key word None lacks = sym (starts_text false key word lacks)
behind_text key word (Some x) strips =
    let at : strips.0 ≡ length key = strips.1.0 in
    let boundary : IsCharBoundary word strips.0 = rw at strips.1.2 in
    (sym (starts_text true key word (strips.0, strips.1, boundary)), rw (← at) strips.2)
