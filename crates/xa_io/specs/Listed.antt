-- Calls that are to fail.
use Rattle.std.specs.Prelude.{ℕ, ◌==◌, List, [], ◌∷◌, Option, None, Some, if◌then◌else◌}
use Rattle.xa_io.specs.declared.listed.Listed.{Listed}

-- how many bytes the first listing of a call lets in
abbrev pub kept_at : List Listed → ℕ → Option ℕ
kept_at [] call = None
kept_at (listed ∷ rest) call = if listed.call == call then Some listed.keep else kept_at rest call
