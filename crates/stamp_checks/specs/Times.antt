-- Times of tokens against a moment and against one another: RFC 3161, section 2.4.2.
use Rattle.std.specs.Prelude.{ℕ, ℤ, int_lt, List, map, Option, Some, None, if◌then◌else◌}
use Rattle.std.specs.List.{find}
use Rattle.document_model.specs.Tree.{Nodes}
use Rattle.signature_model.specs.Parts.{stamps, token}
use Rattle.signature_model.specs.Spots.{Spot}
use Rattle.tst_tokens.specs.Tokens.{gen_time}

-- the time of a token, where it is after a moment
abbrev pub after_moment : ℤ → List ℕ → Option ℤ
after_moment moment whole = if int_lt moment (gen_time whole) then Some (gen_time whole) else None

-- the times of the time-stamps of a signature, in their order
abbrev pub stamp_times : Nodes → Spot → List ℤ
stamp_times document signature = map (λ stamp. gen_time (token document stamp)) (stamps document signature)

-- the first of them that is later than a time
abbrev pub later_time : ℤ → Nodes → Spot → Option ℤ
later_time time document signature = find (int_lt time) (stamp_times document signature)
