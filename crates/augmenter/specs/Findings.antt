-- What tests find, as relations: none, or a code. Codes and their order are this project's own.
use Rattle.std.specs.Prelude.{◌≡◌, ◌⊎◌, Option, None, Some, Result, Ok, Err}
use Rattle.signature_checks.specs.declared.codes.Code.{Code}
use Rattle.signature_checks.specs.declared.objections.Objection.{Objection}
use Rattle.signature_checks.specs.declared.objections.Objection.TheVariants.{Found, OutOfMemory}

-- just this is found
abbrev pub exactly : Option Code → Option Code → Type 0
exactly found told = told ≡ found

-- of two tests, what the first finds, and where it finds none, what the second does
abbrev pub first_of : (Option Code → Type 0) → (Option Code → Type 0) → Option Code → Type 0
first_of first second None = first None × second None
first_of first second (Some code) = first (Some code) ⊎ (first None × second (Some code))

-- none is found where something holds, and a code for what stands against it
abbrev pub tested : {A : Type 0} → (holds : Type 0) → (A → Code) → (stands : A → Type 0) → Option Code → Type 0
tested holds code_of stands None = holds
tested {A} holds code_of stands (Some code) = (fault : A) × (code ≡ code_of fault) × stands fault

-- a code was found; want of memory is free
abbrev pub IsFoundIn : (Option Code → Type 0) → Objection → Type 0
IsFoundIn find (Found code) = find (Some code)
IsFoundIn find OutOfMemory = Unit {0}

-- a test finds nothing, or a code
abbrev pub IsTested : {A : Type 0} → (Option Code → Type 0) → Result A Objection → Type 0
IsTested find (Ok done) = find None
IsTested find (Err objection) = IsFoundIn find objection

-- at most one thing is found
abbrev pub IsOne : (Option Code → Type 0) → Type 0
IsOne find = (told other : Option Code) → find told → find other → told ≡ other
