-- Names of elements and attributes: Namespaces in XML 1.0, third edition, "Basic Concepts" and "Qualified Names".
use Rattle.std.specs.Prelude.{ℕ, Bool, false, not, ◌&&◌, ◌==◌, List, [], ◌∷◌, ◌++◌, Option, Some, None, if◌then◌else◌}
use Rattle.std.specs.List.{list_all}
use Rattle.document_model.specs.Characters.{starts_name, continues_name, span, ◌is◌}

-- a qualified name, as it is written: the prefix, empty where there is none, and the local part
-- (QName of Namespaces in XML 1.0)
pub record Name : Type 0 where
  pub prefix : List ℕ
  pub local : List ℕ

-- an expanded name: the namespace name, empty where there is none, and the local part
-- (Namespaces in XML 1.0, "Basic Concepts")
pub record Expanded : Type 0 where
  pub space : List ℕ
  pub local : List ℕ

-- NCName of Namespaces in XML 1.0
abbrev pub is_plain_name : List ℕ → Bool
is_plain_name [] = false
is_plain_name (c ∷ cs) = starts_name c && list_all continues_name cs

abbrev pub is_not_colon : ℕ → Bool
is_not_colon c = not (c == 0x3A)

-- a name that is cut before its first colon
abbrev pub joined_name : List ℕ → List ℕ → Option Name
joined_name front [] = if is_plain_name front then Some (record { prefix = []; local = front }) else None
joined_name front (colon ∷ behind) =
    if is_plain_name front && is_plain_name behind then Some (record { prefix = front; local = behind }) else None

-- the name that a text spells: one part, or two that a colon joins
abbrev pub name_of : List ℕ → Option Name
name_of text = let parts = span is_not_colon text in joined_name parts.0 parts.1

-- the text of a name
abbrev pub spelled_with : List ℕ → List ℕ → List ℕ
spelled_with [] local = local
spelled_with (c ∷ cs) local = (c ∷ cs) ++ 0x3A ∷ local

abbrev pub spelled : Name → List ℕ
spelled name = spelled_with name.prefix name.local

abbrev pub same_name : Name → Name → Bool
same_name a b = (a.prefix is b.prefix) && (a.local is b.local)

abbrev pub same_expanded : Expanded → Expanded → Bool
same_expanded a b = (a.space is b.space) && (a.local is b.local)
