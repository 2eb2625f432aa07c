-- The characters that a scanner looks for.
use Rattle.std.specs.Prelude.{ℕ, Bool, not, ◌||◌, ◌==◌, [], ◌∷◌}
use Rattle.document_model.specs.Characters.{in_ranges, is_char, is_white, starts_name, continues_name}
use Rattle.document_model.specs.Items.{is_quote, decimal_digits, hexadecimal_digits}
use Rattle.xml_items.specs.Runs.{is_text}
use Rattle.xml_items.specs.declared.classes.Class.{Class}
use Rattle.xml_items.specs.declared.classes.Class.TheVariants.{Char, White, NameStart, NamePart, NamePartOrColon, Except, Only, Quote, Decimal, Hexadecimal, NotWhite, InValue, InText}

-- whether a character is of a class
abbrev pub passes : Class → ℕ → Bool
passes Char = is_char
passes White = is_white
passes NameStart = starts_name
passes NamePart = continues_name
passes NamePartOrColon = λ c. continues_name c || (c == 0x3A)
passes (Except d) = λ c. not (c == d)
passes (Only d) = λ c. c == d
passes Quote = is_quote
passes Decimal = in_ranges decimal_digits
passes Hexadecimal = in_ranges hexadecimal_digits
passes NotWhite = λ c. not (is_white c)
passes InValue = λ c. not (in_ranges ((0x9, 0xA) ∷ (0xD, 0xD) ∷ (0x26, 0x26) ∷ []) c)
passes InText = is_text
