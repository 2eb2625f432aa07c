-- The bytes of a digest.
use Rattle.std.specs.Prelude.{◌≡◌, ◌⊎◌, ℕ, List, length, refl, if◌then◌else◌, ◌==◌}
use Rattle.algorithms.specs.declared.digests.Held.{Held}
use Rattle.algorithms.specs.declared.digests.Held.TheVariants.{Short, Middle, Long}
use Rattle.algorithms.specs.declared.digests.Digest.TheInside.{Inside}

-- the bytes, whichever array has them
abbrev pub held_bytes : Held → List ℕ
held_bytes (Short b) = b
held_bytes (Middle b) = b
held_bytes (Long b) = b

-- each array has its length
abbrev pub IsSized : Held → Type 0
IsSized (Short b) = length b ≡ 32
IsSized (Middle b) = length b ≡ 48
IsSized (Long b) = length b ≡ 64

-- a digest has 32, 48 or 64 bytes
abbrev pub IsDigestSize : ℕ → Type 0
IsDigestSize n = (n ≡ 32) ⊎ ((n ≡ 48) ⊎ (n ≡ 64))

-- the array that has these bytes
abbrev pub held_of : List ℕ → Held
held_of b = if length b == 32 then Short b else (if length b == 48 then Middle b else Long b)

pub held_of-held_bytes : (h : Held) → IsSized h → held_of (held_bytes h) ≡ h
held_of-held_bytes (Short b) e = rw e refl
held_of-held_bytes (Middle b) e = rw e refl
held_of-held_bytes (Long b) e = rw e refl

pub inverse_ok : (a : Inside) → IsSized a.held → record { held = held_of (held_bytes a.held) } ≡ a
inverse_ok a h = rw (held_of-held_bytes a.held h) refl
