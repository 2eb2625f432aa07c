-- The signers of properties, one after another.
use Rattle.std.proofs.Common.{◌≡◌, ℕ, zero, suc, ◌+◌, ◌<◌, ◌≤◌, Bool, List, [], ◌∷◌, ◌++◌, length, drop, Contains, Option, Some, None, slice_get, arith, refl, sym, ◌∙◌, ap, subst, append_assoc, length-append}
use Rattle.std.proofs.lemmas.List.{append-nil}
use Rattle.std.proofs.lemmas.Option.{none-some}
use Rattle.std.proofs.lemmas.List.Elements.{Contains-append_right}
use Rattle.std.specs.Prelude.{◌↔◌, IsTrue, filter_map, map, option_and_then}
use Rattle.std.specs.List.{cons_option}
use Rattle.doc_spans.proofs.Shows.{drop_get, drop_past}
use Rattle.acceptance.specs.Certificates.{Part, Member}
use Rattle.acceptance.specs.Objects.{token_of}
use Rattle.acceptance.specs.Walks.{HasCertificate, IsWalkComplete}
use Rattle.acceptance.proofs.Rounds.{Contains-first}
use Rattle.policy_rules.specs.Rules.{Rules}
use Rattle.qualifying_props.specs.Shown.{ShownProperty}
use Rattle.completeness.specs.Complete.{AreComplete, HasCompleteWalk, IsComplete, IsFirstIncomplete}

-- the signers of properties
abbrev pub signers_in : List ShownProperty → List (Option (List ℕ))
signers_in properties = map (λ token. (token_of token).signer) (filter_map (λ property. property.token) properties)

-- The signers in front of the number-th property are complete, and `before` of them are those of tokens.
pub record Passed (pool : List Part) (policy : Rules) (signer : Option (List ℕ)) (properties : List ShownProperty) (number before : ℕ) : Type 0 where
  pub front : List (Option (List ℕ))
  pub split : signer ∷ signers_in properties ≡ front ++ signers_in (drop number properties)
  pub complete : AreComplete pool policy front
  pub long : length front ≡ before + 1
  pub few : before ≤ number

pub begun : (pool : List Part) (policy : Rules) (signer : Option (List ℕ)) (properties : List ShownProperty) → IsComplete pool policy signer → Passed pool policy signer properties 0 0
begun pool policy signer properties h = record { front = signer ∷ []; split = refl; complete = (h, tt); long = refl; few = omega arith }

more : (pool : List Part) (policy : Rules) (front : List (Option (List ℕ))) (signer : Option (List ℕ)) → AreComplete pool policy front → IsComplete pool policy signer
    → AreComplete pool policy (front ++ signer ∷ [])
more pool policy [] signer are is = (is, tt)
more pool policy (first ∷ front) signer are is = (are.0, more pool policy front signer are.1 is)

none_here : (properties : List ShownProperty) (number : ℕ) (property : ShownProperty) → slice_get properties number ≡ Some property → property.token ≡ None
    → signers_in (drop number properties) ≡ signers_in (drop (suc number) properties)
none_here properties number property at none =
    ap signers_in (drop_get properties number property at)
    ∙ ap (λ o. map (λ token. (token_of token).signer) (cons_option o (filter_map (λ (p : ShownProperty). p.token) (drop (suc number) properties)))) none

some_here : (properties : List ShownProperty) (number : ℕ) (property : ShownProperty) (token : List ℕ) → slice_get properties number ≡ Some property → property.token ≡ Some token
    → signers_in (drop number properties) ≡ (token_of token).signer ∷ signers_in (drop (suc number) properties)
some_here properties number property token at is =
    ap signers_in (drop_get properties number property at)
    ∙ ap (λ o. map (λ token. (token_of token).signer) (cons_option o (filter_map (λ (p : ShownProperty). p.token) (drop (suc number) properties)))) is

pub passed_none : (pool : List Part) (policy : Rules) (signer : Option (List ℕ)) (properties : List ShownProperty) (number before : ℕ) (property : ShownProperty)
    → slice_get properties number ≡ Some property → property.token ≡ None → Passed pool policy signer properties number before → Passed pool policy signer properties (number + 1) before
passed_none pool policy signer properties number before property at none h =
    let next : suc number ≡ number + 1 = omega arith in record {
      front = h.front;
      split = h.split ∙ ap (λ rest. h.front ++ rest) (none_here properties number property at none) ∙ ap (λ n. h.front ++ signers_in (drop n properties)) next;
      complete = h.complete;
      long = h.long;
      few = let few = h.few in omega (arith, few);
    }

pub passed_some : (pool : List Part) (policy : Rules) (signer : Option (List ℕ)) (properties : List ShownProperty) (number before : ℕ) (property : ShownProperty) (token : List ℕ)
    → slice_get properties number ≡ Some property → property.token ≡ Some token → IsComplete pool policy (token_of token).signer
    → Passed pool policy signer properties number before → Passed pool policy signer properties (number + 1) (before + 1)
passed_some pool policy signer properties number before property token at is complete h =
    let next : suc number ≡ number + 1 = omega arith in
    let here : Option (List ℕ) = (token_of token).signer in record {
      front = h.front ++ here ∷ [];
      split = h.split ∙ ap (λ rest. h.front ++ rest) (some_here properties number property token at is)
          ∙ sym (append_assoc h.front (here ∷ []) (signers_in (drop (suc number) properties)))
          ∙ ap (λ n. (h.front ++ here ∷ []) ++ signers_in (drop n properties)) next;
      complete = more pool policy h.front here h.complete complete;
      long = let l = length-append h.front (here ∷ []) in let m = h.long in omega (arith, l, m);
      few = let few = h.few in omega (arith, few);
    }

-- the signer of a token that comes next is one of all
pub next_is_there : (pool : List Part) (policy : Rules) (signer : Option (List ℕ)) (properties : List ShownProperty) (number before : ℕ) (property : ShownProperty) (token : List ℕ)
    → slice_get properties number ≡ Some property → property.token ≡ Some token → Passed pool policy signer properties number before
    → Contains (signer ∷ signers_in properties) (token_of token).signer
next_is_there pool policy signer properties number before property token at is h =
    subst (λ (all : List (Option (List ℕ))). Contains all (token_of token).signer)
    (sym (h.split ∙ ap (λ rest. h.front ++ rest) (some_here properties number property token at is)))
    (Contains-append_right h.front ((token_of token).signer ∷ signers_in (drop (suc number) properties)) (token_of token).signer
    (Contains-first (token_of token).signer (signers_in (drop (suc number) properties))))

first_is : (pool : List Part) (policy : Rules) (front rest : List (Option (List ℕ))) (signer : Option (List ℕ)) → AreComplete pool policy front → (IsComplete pool policy signer → ⊥)
    → IsFirstIncomplete pool policy (front ++ signer ∷ rest) (Some (length front))
first_is pool policy [] rest signer are not_ = (tt, (signer, refl, not_))
first_is pool policy (first ∷ front) rest signer are not_ =
    let later = first_is pool policy front rest signer are.1 not_ in ((are.0, later.0), later.1)

pub passed_to : (pool : List Part) (policy : Rules) (signer : Option (List ℕ)) (properties : List ShownProperty) (number before : ℕ) (property : ShownProperty) (token : List ℕ)
    → slice_get properties number ≡ Some property → property.token ≡ Some token → (IsComplete pool policy (token_of token).signer → ⊥)
    → Passed pool policy signer properties number before → IsFirstIncomplete pool policy (signer ∷ signers_in properties) (Some (before + 1))
passed_to pool policy signer properties number before property token at is not_ h =
    subst (λ (all : List (Option (List ℕ))). IsFirstIncomplete pool policy all (Some (before + 1)))
    (sym (h.split ∙ ap (λ rest. h.front ++ rest) (some_here properties number property token at is)))
    (subst (λ (n : ℕ). IsFirstIncomplete pool policy (h.front ++ (token_of token).signer ∷ signers_in (drop (suc number) properties)) (Some n)) h.long
    (first_is pool policy h.front (signers_in (drop (suc number) properties)) (token_of token).signer h.complete not_))

pub passed_all : (pool : List Part) (policy : Rules) (signer : Option (List ℕ)) (properties : List ShownProperty) (number before : ℕ) → length properties ≤ number
    → Passed pool policy signer properties number before → AreComplete pool policy (signer ∷ signers_in properties)
passed_all pool policy signer properties number before past h =
    subst (AreComplete pool policy)
    (sym (h.split ∙ ap (λ rest. h.front ++ signers_in rest) (drop_past properties number past) ∙ append-nil h.front)) h.complete

-- What is asked of one signer.

pub answer_is : (pool : List Part) (policy : Rules) (answer : Bool) (bytes : List ℕ) → ((m : Member) × HasCertificate pool m × (m.certificate.whole ≡ bytes))
    → ((m : Member) → HasCertificate pool m → m.certificate.whole ≡ bytes → (IsTrue answer ↔ IsWalkComplete pool policy m)) → (IsTrue answer ↔ HasCompleteWalk pool policy bytes)
answer_is pool policy answer bytes (m, there, named) both = (
  λ h. record { signer = m; there = there; named = named; complete = (both m there named).0 h },
  λ h. (both h.signer h.there h.named).1 h.complete,
)

-- the property of a token
pub token_at_property : (properties : List ShownProperty) (number : ℕ) (token : List ℕ) → Some token ≡ option_and_then (λ (p : ShownProperty). p.token) (slice_get properties number)
    → (property : ShownProperty) × (slice_get properties number ≡ Some property) × (property.token ≡ Some token)
token_at_property [] number token e = absurd (none-some token (sym e))
token_at_property (first ∷ properties) zero token e = (first, refl, sym e)
token_at_property (first ∷ properties) (suc number) token e = token_at_property properties number token e

pub no_token_at : (properties : List ShownProperty) (number : ℕ) → number < length properties → None ≡ option_and_then (λ (p : ShownProperty). p.token) (slice_get properties number)
    → (property : ShownProperty) × (slice_get properties number ≡ Some property) × (property.token ≡ None)
no_token_at [] number lt e = absurd (omega (arith, lt))
no_token_at (first ∷ properties) zero lt e = (first, refl, sym e)
no_token_at (first ∷ properties) (suc number) lt e = no_token_at properties number (omega (arith, lt)) e
