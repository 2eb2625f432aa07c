-- Walks among certificates that are numbers.
use Rattle.std.specs.Prelude.{◌≡◌, ℕ, ◌+◌, ◌*◌, ◌<◌, ◌≤◌, Bool, false, List, [], ◌∷◌, length, slice_index_or, IsTrue, ◌↔◌, if◌then◌else◌}

-- The certificates are the numbers below `size`, and the anchors are those from there on, below `reach`. With `counted` certificates below
-- the issuer, `linked counted c issuer` says that c is issued by another one, or by an anchor. A certificate that `counts` isn't self-issued.
pub record Issuing : Type 0 where
  pub size : ℕ
  pub reach : ℕ
  pub linked : ℕ → ℕ → ℕ → Bool
  pub counts : ℕ → Bool

abbrev pub next_count : Issuing → ℕ → ℕ → ℕ
next_count issuing counted c = if issuing.counts c then counted + 1 else counted

-- an anchor is its issuer
abbrev pub IsRooted : Issuing → ℕ → ℕ → Type 0
IsRooted issuing counted c = (anchor : ℕ) × (issuing.size ≤ anchor) × (anchor < issuing.reach) × IsTrue (issuing.linked counted c anchor)

abbrev pub LeadsOn : Issuing → ℕ → ℕ → List ℕ → Type 0
LeadsOn issuing counted c [] = IsRooted issuing counted c
LeadsOn issuing counted c (issuer ∷ above) =
    (issuer < issuing.size) × IsTrue (issuing.linked counted c issuer) × LeadsOn issuing (next_count issuing counted issuer) issuer above

-- with at most so many certificates above it, this one leads to an anchor
abbrev pub LeadsWithin : Issuing → ℕ → ℕ → ℕ → Type 0
LeadsWithin issuing steps counted c = (above : List ℕ) × (length above ≤ steps) × LeadsOn issuing counted c above

-- a walk of 1 to 8 certificates
abbrev pub HasNumberedWalk : Issuing → ℕ → Type 0
HasNumberedWalk issuing leaf = (above : List ℕ) × (length above < 8) × LeadsOn issuing 0 leaf above

-- A table of eight places a certificate tells for each, and for each count that a walk of eight leaves room for, whether it leads within so many steps.
pub record IsTable (issuing : Issuing) (steps : ℕ) (table : List Bool) : Type 0 where
  pub each : length table ≡ issuing.size * 8
  pub right : (c counted : ℕ) → c < issuing.size → counted + steps < 8 →
      (IsTrue (slice_index_or table (c * 8 + counted) false) ↔ LeadsWithin issuing steps counted c)
