-- How far a text without white space has come in base64: RFC 4648, section 4, where the padding is required and the bits that belong to no
-- octet are zero.
use Rattle.std.specs.Prelude.{ℕ, ◌%◌, nat_eq, Bool, true, false, ◌&&◌, if◌then◌else◌, List, [], ◌∷◌}
use Rattle.std.specs.Option.{option_map_or}
use Rattle.base64_texts.specs.declared.stages.Stage.{Stage}
use Rattle.base64_texts.specs.declared.stages.Stage.TheVariants.{Start, One, Two, Three, Padding, End, Refused}
use Rattle.base64_texts.specs.Symbols.{value_of, is_padding}

-- the stage behind one more symbol with a value. Padding may follow where the bits that belong to no octet are zero: four of the second
-- symbol's, and two of the third's
abbrev pub after_symbol : Stage → ℕ → Stage
after_symbol Start value = One
after_symbol One value = Two (nat_eq (value % 16) 0)
after_symbol (Two may_end) value = Three (nat_eq (value % 4) 0)
after_symbol (Three may_end) value = Start
after_symbol Padding value = Refused
after_symbol End value = Refused
after_symbol Refused value = Refused

-- the stage behind one more character that is no symbol
abbrev pub after_other : Stage → ℕ → Stage
after_other Start c = Refused
after_other One c = Refused
after_other (Two may_end) c = if is_padding c && may_end then Padding else Refused
after_other (Three may_end) c = if is_padding c && may_end then End else Refused
after_other Padding c = if is_padding c then End else Refused
after_other End c = Refused
after_other Refused c = Refused

-- the stage behind one more character, and behind several
abbrev pub after : Stage → ℕ → Stage
after stage c = option_map_or (after_symbol stage) (value_of c) (after_other stage c)

abbrev pub after_all : Stage → List ℕ → Stage
after_all stage [] = stage
after_all stage (c ∷ cs) = after_all (after stage c) cs

-- whether no character was refused
abbrev pub is_open : Stage → Bool
is_open Refused = false
is_open stage = true

-- whether the text may end here: behind groups of four, the last one padded or not
abbrev pub is_whole : Stage → Bool
is_whole Start = true
is_whole End = true
is_whole stage = false
