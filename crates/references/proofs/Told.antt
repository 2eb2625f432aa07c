-- Where a text isn't base64, as it is told.
use Rattle.std.proofs.Common.{◌≡◌, ℕ, List, Option, Some, None, cond, refl, sym, ap}
use Rattle.std.proofs.lemmas.Option.{none-some}
use Rattle.std.specs.Prelude.{is_none, is_some, min, option_and_then, option_map}
use Rattle.signature_model.specs.Base64.{strict, fault_in}
use Rattle.signature_model.specs.Chains.{Fault, NotBase64, not_base64_text, when}
use Rattle.reference_chains.specs.Decoding.{fault_told, last_told}
use Rattle.references.specs.Answers.{as_told}

none_told : (octets : Option (List ℕ)) (at : ℕ) (fault : Fault) → None ≡ cond (is_some octets) None (Some at) → when (is_none octets) fault ≡ None
none_told None at fault e = absurd (none-some at e)
none_told (Some octets) at fault e = refl

some_told : (octets : Option (List ℕ)) (k at place : ℕ) → Some at ≡ cond (is_some octets) None (Some (min place last_told))
    → option_map as_told (when (is_none octets) (NotBase64 k place)) ≡ Some (NotBase64 k at)
some_told None k at place e = ap (option_map (λ n. NotBase64 k n)) (sym e)
some_told (Some octets) k at place e = absurd (none-some at (sym e))

pub no_fault_told : (text : Option (List ℕ)) (k : ℕ) → None ≡ option_and_then fault_told text → option_and_then (not_base64_text k) text ≡ None
no_fault_told None k e = refl
no_fault_told (Some text) k e = none_told (strict text) (min (fault_in text) last_told) (NotBase64 k (fault_in text)) e

pub fault_is_told : (text : Option (List ℕ)) (k at : ℕ) → Some at ≡ option_and_then fault_told text
    → option_map as_told (option_and_then (not_base64_text k) text) ≡ Some (NotBase64 k at)
fault_is_told None k at e = absurd (none-some at (sym e))
fault_is_told (Some text) k at e = some_told (strict text) k at (fault_in text) e
