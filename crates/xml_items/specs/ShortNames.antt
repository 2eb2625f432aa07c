-- Names of ASCII, by their bytes.
use Rattle.std.specs.Prelude.{◌≡◌, ◌⊎◌, ℕ, ◌+◌, ◌++◌, None, Bool, true, false, not, ◌&&◌, ◌==◌, nat_lt, List, [], ◌∷◌, is_some}
use Rattle.std.specs.List.{list_all}
use Rattle.document_model.specs.Characters.{in_ranges, is_char}
use Rattle.document_model.specs.Items.{is_quote, through_tag, value_of}
use Rattle.xml_items.specs.Found.{read_attributes}
use Rattle.xml_items.specs.Runs.{is_ordinary}
use Rattle.xml_items.specs.Texts.{is_plain}
use Rattle.document_model.specs.Names.{name_of}

abbrev pub starts_short : ℕ → Bool
starts_short = in_ranges ((0x41, 0x5A) ∷ (0x5F, 0x5F) ∷ (0x61, 0x7A) ∷ [])

abbrev pub continues_short : ℕ → Bool
continues_short = in_ranges ((0x2D, 0x2E) ∷ (0x30, 0x39) ∷ (0x41, 0x5A) ∷ (0x5F, 0x5F) ∷ (0x61, 0x7A) ∷ [])

-- a prefix or a local part
abbrev pub is_short_part : List ℕ → Bool
is_short_part [] = false
is_short_part (c ∷ cs) = starts_short c && list_all continues_short cs

-- a byte of a name, the colon too
abbrev pub in_short : ℕ → Bool
in_short = in_ranges ((0x2D, 0x2E) ∷ (0x30, 0x3A) ∷ (0x41, 0x5A) ∷ (0x5F, 0x5F) ∷ (0x61, 0x7A) ∷ [])

-- a byte of ASCII that isn't this quote
abbrev pub is_quoted : ℕ → ℕ → Bool
is_quoted quote c = nat_lt c 128 && not (c == quote)

pub record IsShortName (name : List ℕ) : Type 0 where
  pub bytes : list_all in_short name ≡ true
  pub named : is_some (name_of name) ≡ true

-- Tags with attributes of ASCII.

-- a byte that stands for itself and isn't this quote
abbrev pub is_simple : ℕ → ℕ → Bool
is_simple quote c = is_ordinary c && not (c == quote)

-- a character of ASCII that may stand in a document and isn't this quote
abbrev pub is_inside : ℕ → ℕ → Bool
is_inside quote c = is_plain c && not (c == quote)

-- a space, a name, `=` and a value
pub record IsShortPair (text : List ℕ) : Type 0 where
  pub name : List ℕ
  pub quote : ℕ
  pub inside : List ℕ
  pub named : IsShortName name
  pub quoted : is_quote quote ≡ true
  pub plain : list_all (is_inside quote) inside ≡ true
  pub valued : is_some (value_of inside) ≡ true
  pub is : text ≡ 0x20 ∷ (name ++ 0x3D ∷ quote ∷ (inside ++ quote ∷ []))

-- so many of them
pub record IsShortRow (text : List ℕ) (n : ℕ) : Type 0 where
  pub bytes : list_all (λ c. is_char c && nat_lt c 128) text ≡ true
  pub passed : (rest : List ℕ) → through_tag None (text ++ rest) ≡ (text ++ (through_tag None rest).0, (through_tag None rest).1)
  pub reads : (m : ℕ) (rest : List ℕ) → is_some (read_attributes m rest) ≡ true → is_some (read_attributes (n + m) (text ++ rest)) ≡ true
  pub last : (text ≡ []) ⊎ ((before : List ℕ) × (quote : ℕ) × (text ≡ before ++ quote ∷ []) × (is_quote quote ≡ true))
  pub first : (text ≡ []) ⊎ ((behind : List ℕ) × (text ≡ 0x20 ∷ behind))
