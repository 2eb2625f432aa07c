-- When bytes are as a layout has them: a relation by cases. It knows no place and no order of judging,
-- and takes elements as X.690 puts them together, where `read` takes them apart.
use Rattle.std.specs.Prelude.{◌≡◌, ◌≢◌, ℕ, ◌+◌, ◌<◌, ◌≤◌, false, List, [], ◌∷◌, ◌++◌, length, bit_and, IsTrue, ⊤, ◌⊎◌}
use Rattle.std.specs.List.{concat}
use Rattle.std.specs.Bool.{MatchBool}
use Rattle.der_values.specs.Element.{Element, number_of, first_is_zero}
use Rattle.der_values.specs.Rules.{allows, decides, tag_of}
use Rattle.der_values.specs.Layout.{Layout, nothing, both, element, unread, whole_element, many, told}

-- The length octets of n content bytes: one byte below 128 (X.690, 8.1.3.4) ..
abbrev pub IsShortLength : List ℕ → ℕ → Type 0
IsShortLength octets n = (n < 128) × (octets ≡ n ∷ [])

-- .. else the number of digits and the digits (8.1.3.5), no more than are needed (10.1). A text is shorter than 256^8 bytes.
pub record IsLongLength (octets : List ℕ) (n : ℕ) : Type 0 where
  pub digits : List ℕ
  pub spelled : octets ≡ (128 + length digits) ∷ digits
  pub some : 1 ≤ length digits
  pub most : length digits ≤ 8
  pub minimal : first_is_zero digits ≡ false
  pub value : number_of digits ≡ n
  pub long : 128 ≤ n

-- An element: a tag byte, the length octets of its content, and its content. The tag isn't the first of several bytes (8.1.2.4).
pub record IsElement (e : Element) : Type 0 where
  pub octets : List ℕ
  pub spelled : e.whole ≡ e.tag ∷ (octets ++ e.content)
  pub says : IsShortLength octets (length e.content) ⊎ IsLongLength octets (length e.content)
  pub one_byte : bit_and e.tag 31 ≢ 31

-- Pieces that aren't empty, one after another behind `before`, of which each meets P.
abbrev pub Each : (List ℕ → List ℕ → List ℕ → Type 0) → List ℕ → List (List ℕ) → Type 0
Each P before [] = ⊤
Each P before (piece ∷ pieces) = (1 ≤ length piece) × P before piece (concat pieces) × Each P (before ++ piece) pieces

-- In a content that is `before`, `these` and `after`, the layout has `these`.
unfoldable pub Fits : Layout → List ℕ → List ℕ → List ℕ → Type 0
Fits nothing before these after = these ≡ []
Fits (both front back) before these after =
    (one : List ℕ) × (two : List ℕ) × (these ≡ one ++ two) × Fits front before one (two ++ after) × Fits back (before ++ one) two after
Fits (element tag rule inner) before these after =
    (e : Element) × IsElement e × (these ≡ e.whole) × (e.tag ≡ tag) × IsTrue (allows rule before e) × Fits inner [] e.content []
Fits unread before these after = after ≡ []
Fits whole_element before these after = (e : Element) × IsElement e × (these ≡ e.whole)
Fits (many one) before these after =
    (after ≡ []) × (pieces : List (List ℕ)) × (these ≡ concat pieces) × Each (Fits one) before pieces
Fits (told test first second) before these after =
    MatchBool (decides test before (tag_of (these ++ after))) (Fits first before these after) (Fits second before these after)

-- The bytes are one whole object of the layout.
pub record IsObject (layout : Layout) (bytes : List ℕ) : Type 0 where
  pub some : 1 ≤ length bytes
  pub fits : Fits layout [] bytes []
