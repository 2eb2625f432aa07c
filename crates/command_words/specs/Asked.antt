-- What the words of a command ask.
use Rattle.std.specs.Prelude.{ℕ, ◌≤◌, length, List, [], ◌∷◌, Bool, false, map, codes, Option, None, Some, if◌then◌else◌}
use Rattle.std.specs.Borrow.{Bor}
use Rattle.std.specs.Str.{chars}
use Rattle.asked_octets.specs.declared.purposes.Purpose.{Purpose}
use Rattle.asked_octets.specs.declared.purposes.Purpose.TheVariants.{Value, SignatureStamp, ArchiveStamp}
use Rattle.document_model.specs.Characters.{◌is◌}
use Rattle.document_model.specs.Canonical.{Form, Inclusive, Exclusive}
use Rattle.document_model.specs.Methods.{words_at, prefix_named}
use Rattle.word_patterns.specs.Grammar.{text_behind, texts_behind, text_now}
use Rattle.word_patterns.specs.TextForms.{is_comma}
use Rattle.command_words.specs.Attaching.{Attaches, attaches_by, attaches_of}
use Rattle.command_words.specs.Preparing.{IsPreparable, Prepares, prepares_by, prepares_of}
use Rattle.command_words.specs.Validating.{IsValidatable, Validates, validates_by, validates_of}
use Rattle.command_words.specs.declared.words.Command.{Command}
use Rattle.command_words.specs.declared.words.Command.TheVariants.{Canon, Octets, Prepare, Attach, Validate}
use Rattle.command_words.specs.declared.words.Method.{Method}

-- what a command asks
pub data Asked : Type 0 where
  -- the canonical form of a document, or of the element with an identifier
  AskedCanon : (document : List ℕ) (form : Form) (id : Option (List ℕ)) → Asked
  -- the octets over which the next value or time-stamp of a document's signature is to be made, with the names of files that are handed in
  AskedOctets : (document : List ℕ) (purpose : Purpose) (externals : List (List ℕ)) → Asked
  -- the document with an unsigned signature
  AskedPrepare : (prepares : Prepares) → Asked
  -- the document with items attached
  AskedAttach : (attaches : Attaches) → Asked
  -- the report on the signature of a document
  AskedValidate : (validates : Validates) → Asked

-- a text, where there is one
abbrev pub if_any : List ℕ → Option (List ℕ)
if_any [] = None
if_any (c ∷ text) = Some (c ∷ text)

-- the canonical form that a rule, a list of prefixes between commas, and the word on comments name
abbrev pub form_by : Bool → List ℕ → Bool → Form
form_by inclusive prefixes comments = record {
  rule = if inclusive then Inclusive else Exclusive (map prefix_named (words_at is_comma (chars prefixes)));
  comments = comments;
}

-- the canonical form that the words name: the exclusive one without comments, where they name none
abbrev pub form_asked : List (List ℕ) → Form
form_asked words = form_by (text_behind (codes "form=") words is codes "inclusive") (text_behind (codes "prefixes=") words) (text_behind (codes "comments=") words is codes "yes")

-- what the octets that a word asks for are made for
abbrev pub purpose_named : List ℕ → Purpose
purpose_named word = if word is codes "stamp" then SignatureStamp else if word is codes "archive" then ArchiveStamp else Value

-- whether a command goes by a name, which is its first word
abbrev pub goes_by : List ℕ → List (List ℕ) → Bool
goes_by name [] = false
goes_by name (word ∷ words) = word is name

-- what the words of a command ask
abbrev pub asked_by : List (List ℕ) → Asked
asked_by words =
    if goes_by (codes "octets") words
    then AskedOctets (text_behind (codes "doc=") words) (purpose_named (text_behind (codes "for=") words)) (texts_behind (codes "ext=") words)
    else if goes_by (codes "prepare") words then AskedPrepare (prepares_by words)
    else if goes_by (codes "attach") words then AskedAttach (attaches_by words)
    else if goes_by (codes "validate") words then AskedValidate (validates_by words)
    else AskedCanon (text_behind (codes "doc=") words) (form_asked words) (if_any (text_behind (codes "id=") words))

-- the form that a method in memory names
abbrev pub form_of : Method → Form
form_of method = form_by method.inclusive method.prefixes.now method.comments

abbrev pub option_now : Option (Bor (List ℕ)) → Option (List ℕ)
option_now None = None
option_now (Some text) = Some text.now

-- what a command of the program asks
abbrev pub asked_of : Command → Asked
asked_of (Canon document method id) = AskedCanon document.now (form_of method) (option_now id)
asked_of (Octets document purpose externals) = AskedOctets document.now purpose (map text_now externals.items)
asked_of (Prepare preparation) = AskedPrepare (prepares_of preparation)
asked_of (Attach attachment) = AskedAttach (attaches_of attachment)
asked_of (Validate validation) = AskedValidate (validates_of validation)

-- what words that fit say of what they ask
abbrev pub IsSound : Asked → Type 0
IsSound (AskedCanon document form id) = Unit {0}
IsSound (AskedOctets document purpose externals) = Unit {0}
IsSound (AskedPrepare prepares) = IsPreparable prepares
IsSound (AskedAttach attaches) = length attaches.items ≤ 64
IsSound (AskedValidate validates) = IsValidatable validates
