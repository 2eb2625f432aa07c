-- The words of the program's commands.
use Rattle.std.specs.Prelude.{ℕ, List, [], ◌∷◌, codes}
use Rattle.word_patterns.specs.Grammar.{WordForm, Plain, Keyed, Part, once, FitsOne, IsFaultyWord}
use Rattle.word_patterns.specs.TextForms.{is_file_name, are_prefixes, is_some_text, is_time, is_signature_id, is_some_uri, is_uri}
use Rattle.command_words.specs.declared.faults.WordsFault.{WordsFault}
use Rattle.command_words.specs.declared.faults.WordsFault.TheVariants.{Unfit, OutOfMemory}

-- a word that names a file behind a key
abbrev pub file_word : List ℕ → WordForm
file_word key = Keyed key is_file_name

-- at most one word of some forms
abbrev pub optional : List WordForm → Part
optional forms = record { forms = forms; least = 0; most = 1 }

-- comments=no or comments=yes
abbrev pub comments_word : Part
comments_word = optional (Plain (codes "comments=no") ∷ Plain (codes "comments=yes") ∷ [])

-- id=TEXT
abbrev pub id_word : Part
id_word = optional (Keyed (codes "id=") is_some_text ∷ [])

-- canon doc=FILE [form=exclusive] [comments=..] [prefixes=LIST] [id=TEXT]
abbrev pub exclusive_words : List Part
exclusive_words =
    once (Plain (codes "canon")) ∷ once (file_word (codes "doc=")) ∷ optional (Plain (codes "form=exclusive") ∷ []) ∷ comments_word
    ∷ optional (Keyed (codes "prefixes=") are_prefixes ∷ []) ∷ id_word ∷ []

-- canon doc=FILE form=inclusive [comments=..] [id=TEXT]
abbrev pub inclusive_words : List Part
inclusive_words = once (Plain (codes "canon")) ∷ once (file_word (codes "doc=")) ∷ once (Plain (codes "form=inclusive")) ∷ comments_word ∷ id_word ∷ []

-- up to sixteen ext=NAME
abbrev pub external_words : Part
external_words = record { forms = file_word (codes "ext=") ∷ []; least = 0; most = 16 }

-- for=signature, for=stamp or for=archive
abbrev pub purpose_word : Part
purpose_word = record {
  forms = Plain (codes "for=signature") ∷ Plain (codes "for=stamp") ∷ Plain (codes "for=archive") ∷ [];
  least = 1;
  most = 1;
}

-- octets doc=FILE for=.., and up to sixteen ext=NAME
abbrev pub octets_words : List Part
octets_words = once (Plain (codes "octets")) ∷ once (file_word (codes "doc=")) ∷ purpose_word ∷ external_words ∷ []

-- digest=sha256, digest=sha384 or digest=sha512
abbrev pub digest_word : Part
digest_word = record {
  forms = Plain (codes "digest=sha256") ∷ Plain (codes "digest=sha384") ∷ Plain (codes "digest=sha512") ∷ [];
  least = 1;
  most = 1;
}

-- prepare doc=FILE policy=FILE, one to eight cert=FILE, time=T id=X method=URI digest=.., and one to fifteen ref=URI
abbrev pub prepare_words : List Part
prepare_words =
    once (Plain (codes "prepare")) ∷ once (file_word (codes "doc=")) ∷ once (file_word (codes "policy="))
    ∷ record { forms = file_word (codes "cert=") ∷ []; least = 1; most = 8 }
    ∷ once (Keyed (codes "time=") is_time) ∷ once (Keyed (codes "id=") is_signature_id) ∷ once (Keyed (codes "method=") is_some_uri)
    ∷ digest_word ∷ record { forms = Keyed (codes "ref=") is_uri ∷ []; least = 1; most = 15 } ∷ []

-- one to sixty-four value=FILE, stamp=FILE, data=FILE or archive=FILE
abbrev pub item_words : Part
item_words = record {
  forms = file_word (codes "value=") ∷ file_word (codes "stamp=") ∷ file_word (codes "data=") ∷ file_word (codes "archive=") ∷ [];
  least = 1;
  most = 64;
}

-- attach doc=FILE policy=FILE at=T, the items, and up to sixteen ext=NAME
abbrev pub attach_words : List Part
attach_words =
    once (Plain (codes "attach")) ∷ once (file_word (codes "doc=")) ∷ once (file_word (codes "policy=")) ∷ once (Keyed (codes "at=") is_time)
    ∷ item_words ∷ external_words ∷ []

-- up to sixteen more=FILE
abbrev pub more_words : Part
more_words = record { forms = file_word (codes "more=") ∷ []; least = 0; most = 16 }

-- validate doc=FILE policy=FILE at=T, up to sixteen ext=NAME, and up to sixteen more=FILE
abbrev pub validate_words : List Part
validate_words =
    once (Plain (codes "validate")) ∷ once (file_word (codes "doc=")) ∷ once (file_word (codes "policy=")) ∷ once (Keyed (codes "at=") is_time)
    ∷ external_words ∷ more_words ∷ []

-- the words of each command
abbrev pub patterns : List (List Part)
patterns = exclusive_words ∷ inclusive_words ∷ octets_words ∷ prepare_words ∷ attach_words ∷ validate_words ∷ []

-- the words are those of a command
abbrev pub IsCommand : List (List ℕ) → Type 0
IsCommand words = FitsOne patterns words

-- the faulty word is told; want of memory is free
abbrev pub IsWordFault : List (List ℕ) → WordsFault → Type 0
IsWordFault words (Unfit index) = IsFaultyWord patterns words index
IsWordFault words OutOfMemory = Unit {0}
