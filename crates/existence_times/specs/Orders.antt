-- The greatest time that a token may have: no token is of a time after now, and none covers a token of a later time (RFC 3161, 2.4.2).
use Rattle.std.specs.Prelude.{List, [], ◌∷◌, ℤ}
use Rattle.acceptance.specs.Rounds.{lowered}
use Rattle.acceptance.specs.Times.{Stamp}
use Rattle.acceptance.specs.Tokens.{Token}

-- the times, where nothing that a stamp covers has a time after that of its token
abbrev pub limited : List (Stamp Token) → List ℤ → List ℤ
limited [] times = times
limited (stamp ∷ stamps) times = limited stamps (lowered stamp.token.gen_time stamp.covers times)
