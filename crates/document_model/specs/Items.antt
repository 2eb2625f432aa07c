-- The items of a document, and the whole text of each: XML 1.0. All texts here are lists of characters.
use Rattle.std.specs.Prelude.{ℕ, zero, suc, ◌+◌, ◌-◌, ◌*◌, Bool, true, false, not, ◌&&◌, ◌||◌, ◌==◌, nat_eq, nat_le, if◌then◌else◌, List, [], ◌∷◌, ◌++◌, reverse, map, length, take, drop, Option, Some, None, option_map, option_and_then, codes}
use Rattle.std.specs.List.{list_all, starts_with}
use Rattle.std.specs.Str.{continuation_len}
use Rattle.document_model.specs.Characters.{characters, is_char, is_white, in_ranges, continues_name, ◌is◌, is_empty, span, between, contains, pieces_at, with_line_ends, with_blanks}
use Rattle.document_model.specs.Names.{Name, name_of, is_plain_name}

-- an attribute or a declaration, with its value after normalization: XML 1.0, "Attribute-Value Normalization"
pub record Attribute : Type 0 where
  pub name : Name
  pub value : List ℕ

pub data Item : Type 0 where
  declaration : Item  -- the XML declaration
  start_tag : Name → List Attribute → Item
  empty_tag : Name → List Attribute → Item
  end_tag : Name → Item
  character : ℕ → Item  -- one literal character, CR LF being one
  reference : ℕ → Item  -- one reference, with the character that it stands for
  cdata : List ℕ → Item  -- a CDATA section
  comment : List ℕ → Item
  instruction : (target content : List ℕ) → Item  -- a PI

infixl 10 ◌>>=◌
abbrev pub ◌>>=◌ : {A B : Type 0} → Option A → (A → Option B) → Option B
x >>= f = option_and_then f x

-- goes on where a test holds
abbrev pub when : {A : Type 0} → Bool → A → Option A
when b x = if b then Some x else None

-- References: Reference, EntityRef and CharRef of XML 1.0, and "Predefined Entities"

abbrev pub digit : ℕ → ℕ
digit c = if nat_le c 0x39 then c - 0x30 else (if nat_le c 0x46 then c - 0x37 else c - 0x57)

abbrev pub number : ℕ → List ℕ → ℕ
number base [] = 0
number base (c ∷ cs) = digit c + base * number base cs

-- the Char that digits name, last digit first
abbrev pub numbered : ℕ → List (ℕ × ℕ) → List ℕ → Option ℕ
numbered base digits text = let n = number base (reverse text) in
    when (not (is_empty text) && list_all (in_ranges digits) text && is_char n) n

abbrev pub decimal_digits : List (ℕ × ℕ)
decimal_digits = (0x30, 0x39) ∷ []

abbrev pub hexadecimal_digits : List (ℕ × ℕ)
hexadecimal_digits = (0x30, 0x39) ∷ (0x41, 0x46) ∷ (0x61, 0x66) ∷ []

-- the first of two answers that there is
abbrev pub or_else : {A : Type 0} → Option A → Option A → Option A
or_else None y = y
or_else (Some x) y = Some x

-- what a reference stands for, by what stands between its `&` and its `;`
abbrev pub referred : List ℕ → Option ℕ
referred text =
    or_else (when (text is codes "lt") 0x3C)
    (or_else (when (text is codes "gt") 0x3E)
    (or_else (when (text is codes "amp") 0x26)
    (or_else (when (text is codes "apos") 0x27)
    (or_else (when (text is codes "quot") 0x22)
    (or_else (between (codes "#x") [] text >>= numbered 16 hexadecimal_digits)
    (between (codes "#") [] text >>= numbered 10 decimal_digits))))))

abbrev pub reference_of : List ℕ → Option Item
reference_of text = option_map reference (referred text)

-- Attributes: AttValue, Eq and Attribute of XML 1.0

-- the pieces of a value behind its first `&`: each begins with a reference
abbrev pub with_references : List (List ℕ) → Option (List ℕ)
with_references [] = Some []
with_references (piece ∷ pieces) = let cut = span (λ c. not (c == 0x3B)) piece in do
  c ← referred cut.0
  literal ← between (0x3B ∷ []) [] cut.1
  behind ← with_references pieces
  Some (c ∷ literal ++ behind)

-- the value that stands between two quotes: it has no `<`
abbrev pub value_of : List ℕ → Option (List ℕ)
value_of text = let pieces = pieces_at 0x26 (with_blanks (with_line_ends text)) in do
  behind ← with_references pieces.1
  when (not (contains text (0x3C ∷ []))) (pieces.0 ++ behind)

-- a name, `=` and a text in quotes
pub record Pair : Type 0 where
  pub name : List ℕ
  pub text : List ℕ

-- the text behind one character, which must stand there
abbrev pub behind_one : (ℕ → Bool) → List ℕ → Option (ℕ × List ℕ)
behind_one test [] = None
behind_one test (c ∷ cs) = when (test c) (c, cs)

abbrev pub is_quote : ℕ → Bool
is_quote c = (c == 0x22) || (c == 0x27)

-- white space, a name, `=` with white space around it, and a text in quotes; and what is behind them
abbrev pub pair_at : List ℕ → Option (Pair × List ℕ)
pair_at text = let space = span is_white text in let name = span (λ c. continues_name c || (c == 0x3A)) space.1 in do
  equals ← behind_one (λ c. c == 0x3D) (span is_white name.1).1
  quote ← behind_one is_quote (span is_white equals.1).1
  let inside = span (λ c. not (c == quote.0)) quote.1
  end ← behind_one (λ c. c == quote.0) inside.1
  when (not (is_empty space.0)) (record { name = name.0; text = inside.0 }, end.1)

-- a text that is such pairs and no more, of at most n
abbrev pub pairs_of : ℕ → List ℕ → Option (List Pair)
pairs_of n [] = Some []
pairs_of zero (c ∷ cs) = None
pairs_of (suc n) (c ∷ cs) = do
  first ← pair_at (c ∷ cs)
  others ← pairs_of n first.1
  Some (first.0 ∷ others)

abbrev pub attribute_of : Pair → Option Attribute
attribute_of pair = do
  name ← name_of pair.name
  value ← value_of pair.text
  Some (record { name = name; value = value })

-- all of the answers, where each is one
abbrev pub each_of : {A B : Type 0} → (A → Option B) → List A → Option (List B)
each_of f [] = Some []
each_of f (x ∷ xs) = do
  y ← f x
  ys ← each_of f xs
  Some (y ∷ ys)

-- the most attributes and declarations of one element
abbrev pub most_attributes : ℕ
most_attributes = 256

-- Tags: STag, ETag and EmptyElemTag of XML 1.0

-- a text without the white space at its end
abbrev pub without_space_behind : List ℕ → List ℕ
without_space_behind text = reverse (span is_white (reverse text)).1

-- the name and the attributes of a tag, by what stands between `<` and `>` or `/>`
abbrev pub tag_of : (Name → List Attribute → Item) → List ℕ → Option Item
tag_of make text = let cut = span (λ c. continues_name c || (c == 0x3A)) (without_space_behind text) in do
  name ← name_of cut.0
  pairs ← pairs_of most_attributes cut.1
  attributes ← each_of attribute_of pairs
  Some (make name attributes)

abbrev pub end_tag_of : List ℕ → Option Item
end_tag_of text = option_map end_tag (name_of (without_space_behind text))

-- Comments, CDATA sections and PIs: Comment, CDSect, PI and PITarget of XML 1.0

-- no `--` inside, and no `-` at the end
abbrev pub comment_of : List ℕ → Option Item
comment_of text = when (not (contains (text ++ 0x2D ∷ []) (codes "--"))) (comment (with_line_ends text))

abbrev pub cdata_of : List ℕ → Option Item
cdata_of text = when (not (contains text (codes "]]>"))) (cdata (with_line_ends text))

abbrev pub lower_case : ℕ → ℕ
lower_case c = if nat_le 0x41 c && nat_le c 0x5A then c + 0x20 else c

-- a target without colon, which isn't `xml` in any case of letters; then nothing, or white space and the content
abbrev pub instruction_of : List ℕ → Option Item
instruction_of text = let cut = span (λ c. not (is_white c)) text in
    when (is_plain_name cut.0 && not (map lower_case cut.0 is codes "xml") && not (contains text (codes "?>")))
    (instruction cut.0 (with_line_ends (span is_white cut.1).1))

-- The XML declaration: XMLDecl, VersionInfo, EncodingDecl and SDDecl of XML 1.0, with UTF-8 alone, which is this project's own choice

abbrev pub is_standalone : List Pair → Bool
is_standalone [] = true
is_standalone (pair ∷ []) = (pair.name is codes "standalone") && ((pair.text is codes "yes") || (pair.text is codes "no"))
is_standalone (pair ∷ next ∷ others) = false

abbrev pub is_encoded : List Pair → Bool
is_encoded [] = true
is_encoded (pair ∷ others) =
    ((pair.name is codes "encoding") && (map lower_case pair.text is codes "utf-8") && is_standalone others) || is_standalone (pair ∷ others)

abbrev pub is_versioned : List Pair → Bool
is_versioned [] = false
is_versioned (pair ∷ others) = (pair.name is codes "version") && (pair.text is codes "1.0") && is_encoded others

abbrev pub declaration_of : List ℕ → Option Item
declaration_of text = pairs_of 3 (without_space_behind text) >>= λ pairs. when (is_versioned pairs) declaration

-- Characters: Char and CharData of XML 1.0, and "End-of-Line Handling"

abbrev pub character_of : List ℕ → Option Item
character_of [] = None
character_of (c ∷ []) = when (not ((c == 0x3C) || (c == 0x26))) (character (if c == 0xD then 0xA else c))
character_of (c ∷ d ∷ []) = when ((c == 0xD) && (d == 0xA)) (character 0xA)
character_of (c ∷ d ∷ e ∷ cs) = None

-- The kinds of items. The first bytes tell the kind, and the kind tells where the item ends.

pub data Kind : Type 0 where
  CommentKind CdataKind InstructionKind EndTagKind TagKind ReferenceKind CharacterKind : Kind

-- the kind that the first bytes tell
abbrev pub kind_at : List ℕ → Kind
kind_at bytes =
    if starts_with nat_eq bytes (codes "<!--") then CommentKind
    else (if starts_with nat_eq bytes (codes "<![CDATA[") then CdataKind
    else (if starts_with nat_eq bytes (codes "<?") then InstructionKind
    else (if starts_with nat_eq bytes (codes "</") then EndTagKind
    else (if starts_with nat_eq bytes (codes "<") then TagKind
    else (if starts_with nat_eq bytes (codes "&") then ReferenceKind
    else CharacterKind)))))

-- the bytes through the first place where a text stands, and those behind; all of them where it stands nowhere
abbrev pub through : List ℕ → List ℕ → List ℕ × List ℕ
through close [] = ([], [])
through close (b ∷ bytes) = let behind = through close bytes in
    if starts_with nat_eq (b ∷ bytes) close then (close, drop (length close) (b ∷ bytes)) else (b ∷ behind.0, behind.1)

-- the same from behind an opening text
abbrev pub through_after : ℕ → List ℕ → List ℕ → List ℕ × List ℕ
through_after n close bytes = let behind = through close (drop n bytes) in (take n bytes ++ behind.0, behind.1)

-- the bytes through the first `>` outside quotes, where a quote is open or not
abbrev pub through_tag : Option ℕ → List ℕ → List ℕ × List ℕ
through_tag quote [] = ([], [])
through_tag None (b ∷ bytes) = let behind = through_tag (if is_quote b then Some b else None) bytes in
    if b == 0x3E then (b ∷ [], bytes) else (b ∷ behind.0, behind.1)
through_tag (Some quote) (b ∷ bytes) = let behind = through_tag (if b == quote then None else Some quote) bytes in
    (b ∷ behind.0, behind.1)

-- one character, or CR LF
abbrev pub character_len : List ℕ → ℕ
character_len [] = 0
character_len (b ∷ []) = 1
character_len (b ∷ c ∷ bytes) = if (b == 0xD) && (c == 0xA) then 2 else suc (continuation_len b)

-- the bytes cut behind the item of that kind at their front
abbrev pub cut : Kind → List ℕ → List ℕ × List ℕ
cut CommentKind bytes = through_after 4 (codes "-->") bytes
cut CdataKind bytes = through_after 9 (codes "]]>") bytes
cut InstructionKind bytes = through_after 2 (codes "?>") bytes
cut EndTagKind bytes = through (codes ">") bytes
cut TagKind bytes = through_tag None bytes
cut ReferenceKind bytes = through (codes ";") bytes
cut CharacterKind bytes = (take (character_len bytes) bytes, drop (character_len bytes) bytes)

-- the item of that kind that a whole text is, if it is one
abbrev pub item_of : Kind → List ℕ → Option Item
item_of CommentKind text = between (codes "<!--") (codes "-->") text >>= comment_of
item_of CdataKind text = between (codes "<![CDATA[") (codes "]]>") text >>= cdata_of
item_of InstructionKind text = or_else (between (codes "<?xml") (codes "?>") text >>= declaration_of) (between (codes "<?") (codes "?>") text >>= instruction_of)
item_of EndTagKind text = between (codes "</") (codes ">") text >>= end_tag_of
item_of TagKind text = or_else (between (codes "<") (codes "/>") text >>= tag_of empty_tag) (between (codes "<") (codes ">") text >>= tag_of start_tag)
item_of ReferenceKind text = between (codes "&") (codes ";") text >>= reference_of
item_of CharacterKind text = character_of text

-- one item with its text, in bytes
pub record Piece : Type 0 where
  pub text : List ℕ
  pub item : Item

-- the item at the front of bytes, if one stands there, and the bytes behind it
unfoldable pub piece_at : List ℕ → Option (Piece × List ℕ)
piece_at bytes = let parts = cut (kind_at bytes) bytes in do
  text ← characters parts.0
  item ← item_of (kind_at bytes) text
  Some (record { text = parts.0; item = item }, parts.1)
