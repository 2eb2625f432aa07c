-- The words of the commands that make signatures: some words fit their patterns, and what words that fit ask.
use Rattle.std.proofs.Common.{◌≡◌, ℕ, List, [], ◌∷◌, ◌++◌, refl, arith}
use Rattle.std.specs.Prelude.{codes, length, true, false, Option, None, Some, is_some, unwrap_or, ℤ, pos}
use Rattle.std.specs.Char.{encode_utf8}
use Rattle.std.specs.Str.{is_utf8, chars}
use Rattle.utc_times.specs.TimeText.{time_of}
use Rattle.word_patterns.specs.Fitting.{keyed_part}
use Rattle.word_patterns.specs.Good.{AreGood}
use Rattle.word_patterns.specs.Grammar.{Part, Plain, Keyed, Fits, once, text_behind}
use Rattle.word_patterns.specs.TextForms.{is_time, is_signature_id, is_some_uri, is_uri, is_file_name}
use Rattle.word_patterns.proofs.FittingTexts.{first_text, keyed_few, texts_fit}
use Rattle.command_words.specs.Attaching.{IsAttachable, attaches_by, item_keys}
use Rattle.command_words.specs.Preparing.{IsPreparable, names_file, prepares_by}
use Rattle.command_words.specs.Words.{attach_words, item_words, digest_word, external_words, file_word, prepare_words, more_words, validate_words}
use Rattle.command_words.specs.Validating.{IsValidatable, validates_by}

-- the empty URI names no file
pub no_name : (uri : List ℕ) → length uri ≡ 0 → false ≡ names_file uri
unfolding chars
no_name [] e = refl
no_name (c ∷ cs) e = absurd (omega (arith, e))

some_uri : is_some_uri (codes "a") ≡ true
unfolding is_utf8 chars encode_utf8
some_uri = refl

empty_uri : is_uri [] ≡ true
unfolding is_utf8 chars encode_utf8
empty_uri = refl

pub prepare_good : AreGood prepare_words
prepare_good = (
  record { example = codes "prepare"; is_example = refl; ordered = omega arith },
  (
    record { example = codes "doc=a"; is_example = refl; ordered = omega arith },
    (
      record { example = codes "policy=a"; is_example = refl; ordered = omega arith },
      (
        record { example = codes "cert=a"; is_example = refl; ordered = omega arith },
        (
          record { example = codes "time=2026-01-01T00:00:00Z"; is_example = refl; ordered = omega arith },
          (
            record { example = codes "id=a"; is_example = refl; ordered = omega arith },
            (
              record { example = codes "method=a"; is_example = rw some_uri refl; ordered = omega arith },
              (record { example = codes "digest=sha256"; is_example = refl; ordered = omega arith }, (record { example = codes "ref="; is_example = rw empty_uri refl; ordered = omega arith }, tt)),
            ),
          ),
        ),
      ),
    ),
  ),
)

pub attach_good : AreGood attach_words
attach_good = (
  record { example = codes "attach"; is_example = refl; ordered = omega arith },
  (
    record { example = codes "doc=a"; is_example = refl; ordered = omega arith },
    (
      record { example = codes "policy=a"; is_example = refl; ordered = omega arith },
      (
        record { example = codes "at=2026-01-01T00:00:00Z"; is_example = refl; ordered = omega arith },
        (record { example = codes "value=a"; is_example = refl; ordered = omega arith }, (record { example = codes "ext=a"; is_example = refl; ordered = omega arith }, tt)),
      ),
    ),
  ),
)

pub validate_good : AreGood validate_words
validate_good = (
  record { example = codes "validate"; is_example = refl; ordered = omega arith },
  (
    record { example = codes "doc=a"; is_example = refl; ordered = omega arith },
    (
      record { example = codes "policy=a"; is_example = refl; ordered = omega arith },
      (
        record { example = codes "at=2026-01-01T00:00:00Z"; is_example = refl; ordered = omega arith },
        (record { example = codes "ext=a"; is_example = refl; ordered = omega arith }, (record { example = codes "more=a"; is_example = refl; ordered = omega arith }, tt)),
      ),
    ),
  ),
)

-- the parts of the words of `prepare`, in front of a key and behind it

abbrev files_first : List Part
files_first = once (Plain (codes "prepare")) ∷ once (file_word (codes "doc=")) ∷ once (file_word (codes "policy=")) ∷ []

abbrev certificates : Part
certificates = keyed_part (codes "cert=") is_file_name 1 8

abbrev time : Part
time = once (Keyed (codes "time=") is_time)

abbrev id : Part
id = once (Keyed (codes "id=") is_signature_id)

abbrev method : Part
method = once (Keyed (codes "method=") is_some_uri)

abbrev references : Part
references = keyed_part (codes "ref=") is_uri 1 15

pub sound_preparation : (words : List (List ℕ)) → Fits prepare_words words → IsPreparable (prepares_by words)
sound_preparation words fits =
    let certs = texts_fit files_first (codes "cert=") is_file_name 1 8 (time ∷ id ∷ method ∷ digest_word ∷ references ∷ []) words refl refl fits in
    let times = texts_fit (files_first ++ certificates ∷ []) (codes "time=") is_time 1 1 (id ∷ method ∷ digest_word ∷ references ∷ []) words refl refl fits in
    let ids = texts_fit (files_first ++ certificates ∷ time ∷ []) (codes "id=") is_signature_id 1 1 (method ∷ digest_word ∷ references ∷ []) words refl refl fits in
    let methods = texts_fit (files_first ++ certificates ∷ time ∷ id ∷ []) (codes "method=") is_some_uri 1 1 (digest_word ∷ references ∷ []) words refl refl fits in
    let refs = texts_fit (files_first ++ certificates ∷ time ∷ id ∷ method ∷ digest_word ∷ []) (codes "ref=") is_uri 1 15 [] words refl refl fits in record {
      some_certificates = certs.enough;
      few_certificates = certs.few;
      time = first_text (codes "time=") words (λ text. is_time text ≡ true) times.enough times.each;
      id = first_text (codes "id=") words (λ text. is_signature_id text ≡ true) ids.enough ids.each;
      method = first_text (codes "method=") words (λ text. is_some_uri text ≡ true) methods.enough methods.each;
      some_references = refs.enough;
      few_references = refs.few;
      references = refs.each;
    }

named : (found : Option ℤ) → is_some found ≡ true → found ≡ Some (unwrap_or found (pos 0))
named None e = cc
named (Some seconds) e = refl

abbrev attach_first : List Part
attach_first = once (Plain (codes "attach")) ∷ once (file_word (codes "doc=")) ∷ once (file_word (codes "policy=")) ∷ []

pub sound_attachment : (words : List (List ℕ)) → Fits attach_words words → IsAttachable words (attaches_by words)
sound_attachment words fits =
    let times = texts_fit attach_first (codes "at=") is_time 1 1 (item_words ∷ external_words ∷ []) words refl refl fits in
    let at = first_text (codes "at=") words (λ text. is_time text ≡ true) times.enough times.each in record {
      few = keyed_few item_keys (attach_first ++ once (Keyed (codes "at=") is_time) ∷ []) item_words (external_words ∷ []) words refl refl fits;
      moment = named (time_of (text_behind (codes "at=") words)) at;
    }

abbrev validate_first : List Part
validate_first = once (Plain (codes "validate")) ∷ once (file_word (codes "doc=")) ∷ once (file_word (codes "policy=")) ∷ []

pub sound_validation : (words : List (List ℕ)) → Fits validate_words words → IsValidatable (validates_by words)
sound_validation words fits =
    let times = texts_fit validate_first (codes "at=") is_time 1 1 (external_words ∷ more_words ∷ []) words refl refl fits in record {
      text = text_behind (codes "at=") words;
      moment = named (time_of (text_behind (codes "at=") words)) (first_text (codes "at=") words (λ text. is_time text ≡ true) times.enough times.each);
    }
