-- What stands behind a key.
use Rattle.std.specs.Prelude.{ℕ, List, [], ◌∷◌, length, Bool, false, ◌&&◌, ◌||◌, ◌==◌, nat_le, codes, is_some}
use Rattle.std.specs.List.{list_all}
use Rattle.std.specs.Str.{chars}
use Rattle.document_model.specs.Characters.{◌is◌, in_ranges, is_char}
use Rattle.document_model.specs.Names.{is_plain_name}
use Rattle.document_model.specs.Methods.{cut_at}
use Rattle.utc_times.specs.TimeText.{time_of}
use Rattle.word_patterns.specs.declared.text_forms.TextForm.{TextForm}
use Rattle.word_patterns.specs.declared.text_forms.TextForm.TheVariants.{FileName, Prefixes, Text, Time, SignatureId, Uri, SomeUri}

-- the name of a file has 1 to 4,096 bytes
abbrev pub is_file_name : List ℕ → Bool
is_file_name text = nat_le 1 (length text) && nat_le (length text) 4096

-- any text but the empty one
abbrev pub is_some_text : List ℕ → Bool
is_some_text text = nat_le 1 (length text)

abbrev pub is_comma : ℕ → Bool
is_comma c = c == 0x2C

-- a prefix, or the word for the default namespace: Exclusive XML Canonicalization 1.0, "Specification of Exclusive XML Canonicalization"
abbrev pub is_prefix_word : List ℕ → Bool
is_prefix_word word = is_plain_name word || (word is codes "#default")

-- one or more prefixes that commas join
abbrev pub are_prefixes : List ℕ → Bool
are_prefixes text = list_all is_prefix_word (cut_at is_comma (chars text))

-- a real date and time, YYYY-MM-DDThh:mm:ssZ
abbrev pub is_time : List ℕ → Bool
is_time text = is_some (time_of text)

-- an ASCII letter or `_`
abbrev pub starts_id : ℕ → Bool
starts_id = in_ranges ((0x41, 0x5A) ∷ (0x5F, 0x5F) ∷ (0x61, 0x7A) ∷ [])

-- and behind it also `-`, `.` and ASCII digits
abbrev pub continues_id : ℕ → Bool
continues_id c = starts_id c || in_ranges ((0x2D, 0x2E) ∷ (0x30, 0x39) ∷ []) c

-- The identifier of a signature has 1 to 64 characters. All are ASCII, so that identifiers made of it are names: Namespaces in XML 1.0, NCName.
abbrev pub is_signature_id : List ℕ → Bool
is_signature_id [] = false
is_signature_id (c ∷ text) = starts_id c && list_all continues_id text && nat_le (length text) 63

-- a character of a document but tab, LF and CR, which an attribute's value doesn't keep: XML 1.0, Char and "Attribute-Value Normalization"
abbrev pub is_uri_character : ℕ → Bool
is_uri_character c = nat_le 0x20 c && is_char c

-- a URI has at most 4,096 bytes; the empty one stands for the document: XML Signature 1.1, "The URI Attribute"
abbrev pub is_uri : List ℕ → Bool
is_uri text = nat_le (length text) 4096 && list_all is_uri_character (chars text)

abbrev pub is_some_uri : List ℕ → Bool
is_some_uri text = is_some_text text && is_uri text

-- the texts of a form
abbrev pub is_of_text : TextForm → List ℕ → Bool
is_of_text FileName = is_file_name
is_of_text Prefixes = are_prefixes
is_of_text Text = is_some_text
is_of_text Time = is_time
is_of_text SignatureId = is_signature_id
is_of_text Uri = is_uri
is_of_text SomeUri = is_some_uri
