-- Layouts of DER objects. `read` gives how far a layout reads a content, or the place of the first bad element.
-- Elements are judged from the front: one before what it holds, and all that it holds before the next one.
use Rattle.std.specs.Prelude.{ℕ, zero, suc, ◌+◌, ◌-◌, List, length, take, drop, Option, Some, None, Result, Ok, Err, nat_lt, ◌==◌, if◌then◌else◌}
use Rattle.der_values.specs.Element.{Element, element_at}
use Rattle.der_values.specs.Rules.{allows, decides, tag_of}
use Rattle.der_values.specs.declared.rules.Rule.{Rule}
use Rattle.der_values.specs.declared.rules.Test.{Test}

-- The six forms. A list is `both`s that end in `nothing`; an optional layout is told by its tag, with `nothing` as the other one.
pub data Layout : Type 0 where
  nothing : Layout
  -- one after another
  both : Layout → Layout → Layout
  -- an element of this tag that meets a rule; what it holds is read by a layout, to its end
  element : ℕ → Rule → Layout → Layout
  -- what an element holds isn't read
  unread : Layout
  -- any whole element
  whole_element : Layout
  -- one as often as it comes, up to the end of the content
  many : Layout → Layout
  -- one of two, told by the tag that comes or by the elements before
  told : Test → Layout → Layout → Layout

-- What an element holds: the bytes, where they begin, and where that element begins.
pub record Content : Type 0 where
  pub holder : ℕ
  pub begin : ℕ
  pub bytes : List ℕ

infixl 10 ◌>>=◌
abbrev pub ◌>>=◌ : {A B : Type 0} → Result A ℕ → (A → Result B ℕ) → Result B ℕ
(Ok x) >>= f = f x
(Err e) >>= f = Err e

abbrev pub ok_or : {A : Type 0} → Option A → ℕ → Result A ℕ
ok_or None at = Err at
ok_or (Some x) at = Ok x

-- The element that comes. Where the content ends in its place, the element that holds the content is bad.
unfoldable pub next : Content → ℕ → Result Element ℕ
next c offset = if nat_lt offset (length c.bytes) then ok_or (element_at (drop offset c.bytes)) (c.begin + offset) else Err c.holder

-- An element of this tag that meets the rule.
unfoldable pub take_one : ℕ → Rule → Content → ℕ → Result Element ℕ
take_one tag rule c offset =
    next c offset >>= λ e. if e.tag == tag then if allows rule (take offset c.bytes) e then Ok e else Err (c.begin + offset) else Err (c.begin + offset)

-- What an element at a place of a content holds.
abbrev pub held : Element → Content → ℕ → Content
held e c offset = record { holder = c.begin + offset; begin = c.begin + offset + (length e.whole - length e.content); bytes = e.content }

-- All is read; else the first element too many is bad.
unfoldable pub all_of : Content → ℕ → Result ℕ ℕ
all_of c end = if nat_lt end (length c.bytes) then Err (c.begin + end) else Ok end

abbrev pub repeated : (ℕ → Result ℕ ℕ) → ℕ → ℕ → ℕ → Result ℕ ℕ
repeated step len zero offset = Ok offset
repeated step len (suc n) offset = if nat_lt offset len then step offset >>= repeated step len n else Ok offset

unfoldable pub read : Layout → Content → ℕ → Result ℕ ℕ
read nothing c offset = Ok offset
read (both front back) c offset = read front c offset >>= read back c
read (element tag rule inner) c offset =
    take_one tag rule c offset >>= λ e. read inner (held e c offset) 0 >>= λ end. all_of (held e c offset) end >>= λ full. Ok (offset + length e.whole)
read unread c offset = Ok (length c.bytes)
read whole_element c offset = next c offset >>= λ e. Ok (offset + length e.whole)
read (many one) c offset = repeated (read one c) (length c.bytes) (length c.bytes) offset >>= all_of c
read (told test first second) c offset = if decides test (take offset c.bytes) (tag_of (drop offset c.bytes)) then read first c offset else read second c offset

-- The whole of the bytes is one object; no bytes at all are bad at 0.
unfoldable pub read_object : Layout → List ℕ → Result ℕ ℕ
read_object layout bytes =
    let c : Content = record { holder = 0; begin = 0; bytes = bytes } in
    if length bytes == 0 then Err 0 else (read layout c 0 >>= all_of c)
