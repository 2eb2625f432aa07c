-- Texts that were met.
use Rattle.std.specs.Prelude.{◌≡◌, ℕ, Bool, true, false, List, ◌++◌, Result, Ok, Err}
use Rattle.std.specs.List.{list_any}
use Rattle.std.specs.Str.{bytes_eq}
use Rattle.std.specs.BTreeSet.{BTreeSet}
use denote.Ref.{Bor}
use Rattle.policy_rules.specs.declared.fault.FieldError.{FieldError}
use Rattle.policy_rules.specs.declared.fault.FieldError.TheVariants as errors
use Rattle.policy_rules.specs.Rules.{is_among, are_new}

-- the set has exactly these texts
abbrev pub HasTexts : BTreeSet (Bor (List ℕ)) → List (List ℕ) → Type 0
HasTexts set texts = (q : List ℕ) → list_any (λ k. bytes_eq q k.now) set.keys ≡ is_among q texts

-- the texts were put to those that the set had, and what stands behind them is judged with them; or one of them isn't new
abbrev pub IsSeen : BTreeSet (Bor (List ℕ)) → Result Bool FieldError → (texts uris more : List (List ℕ)) → Type 0
IsSeen set (Ok true) texts uris more = (all : List (List ℕ)) × HasTexts set all × (are_new texts (uris ++ more) ≡ are_new all more)
IsSeen set (Ok false) texts uris more = are_new texts (uris ++ more) ≡ false
IsSeen set (Err e) texts uris more = e ≡ errors.OutOfMemory
