-- Strict base64: RFC 4648, section 4, where the padding is required, the bits behind the last octet are zero, and no other character may
-- stand.
use Rattle.std.specs.Prelude.{ℕ, ◌%◌, Bool, ◌||◌, ◌==◌, if◌then◌else◌, List, [], ◌∷◌, ◌++◌, length, Option, is_some, codes, encode_utf8_all}
use Rattle.base64.specs.GeneralPurpose.{decoded_of}
use Rattle.base64.specs.Engines.{standard}
use Rattle.signature_model.specs.Spots.{without_white}

-- the octets that a text spells, where it is strict base64. The characters are taken as UTF-8, so that none past ASCII is a symbol
abbrev pub strict : List ℕ → Option (List ℕ)
strict text = decoded_of standard (encode_utf8_all text)

-- the same with white space skipped
abbrev pub skipping : List ℕ → Option (List ℕ)
skipping text = strict (without_white text)

abbrev pub is_strict : List ℕ → Bool
is_strict text = is_some (strict text)

-- whether some strict base64 begins with a text. To whole groups of four nothing need be added, and else what is shortest
abbrev pub begins_strict : List ℕ → Bool
begins_strict text = let over = length text % 4 in
    if over == 0 then is_strict text
    else (if over == 1 then is_strict (text ++ codes "A==")
    else (if over == 2 then is_strict (text ++ codes "AA") || is_strict (text ++ codes "==")
    else is_strict (text ++ codes "A") || is_strict (text ++ codes "=")))

-- the length of the longest prefix with which some strict base64 begins; the front is one
abbrev pub longest : List ℕ → List ℕ → ℕ
longest front [] = length front
longest front (c ∷ cs) = if begins_strict (front ++ c ∷ []) then longest (front ++ c ∷ []) cs else length front

abbrev pub fault_in : List ℕ → ℕ
fault_in text = longest [] text
