-- The patterns of the commands can be fitted, and take few words.
use Rattle.std.proofs.Common.{◌≡◌, ℕ, ◌≤◌, Bool, true, false, if◌then◌else◌, List, [], ◌∷◌, ◌++◌, length, Option, refl, sym, ap, ◌∙◌, inl, inr, arith}
use Rattle.std.specs.Prelude.{codes}
use Rattle.std.specs.Str.{bytes_eq, is_utf8, chars}
use Rattle.std.specs.Char.{encode_utf8}
use Rattle.asked_octets.specs.declared.purposes.Purpose.{Purpose}
use Rattle.word_patterns.specs.TextForms.{are_prefixes}
use Rattle.std.proofs.lemmas.Slice.Eq.{bytes_eq-Decides}
use Rattle.document_model.specs.Canonical.{Form}
use Rattle.document_model.specs.Characters.{◌is◌}
use Rattle.word_patterns.specs.Good.{AllGood, AreFew}
use Rattle.word_patterns.specs.Grammar.{Fits, IsPart, Part, Plain, once}
use Rattle.command_words.specs.Asked.{AskedCanon, AskedOctets, AskedPrepare, AskedAttach, AskedValidate, IsSound, asked_by, goes_by}
use Rattle.command_words.specs.Attaching.{attaches_by}
use Rattle.command_words.specs.Preparing.{IsPreparable, prepares_by}
use Rattle.command_words.specs.Validating.{IsValidatable, validates_by}
use Rattle.command_words.specs.Words.{IsCommand, validate_words, attach_words, exclusive_words, inclusive_words, patterns, prepare_words, octets_words}
use Rattle.command_words.proofs.MakerLemmas.{attach_good, prepare_good, sound_attachment, sound_preparation, sound_validation, validate_good}

default_is_prefix : are_prefixes (codes "#default") ≡ true
unfolding is_utf8 chars encode_utf8
default_is_prefix = refl

-- some words fit each pattern
pub all_good : AllGood patterns
all_good = (
  (
    record { example = codes "canon"; is_example = refl; ordered = omega arith },
    (
      record { example = codes "doc=a"; is_example = refl; ordered = omega arith },
      (
        record { example = codes "form=exclusive"; is_example = refl; ordered = omega arith },
        (
          record { example = codes "comments=no"; is_example = refl; ordered = omega arith },
          (record { example = codes "prefixes=#default"; is_example = rw default_is_prefix refl; ordered = omega arith }, (record { example = codes "id=a"; is_example = refl; ordered = omega arith }, tt)),
        ),
      ),
    ),
  ),
  (
    (
      record { example = codes "canon"; is_example = refl; ordered = omega arith },
      (
        record { example = codes "doc=a"; is_example = refl; ordered = omega arith },
        (
          record { example = codes "form=inclusive"; is_example = refl; ordered = omega arith },
          (record { example = codes "comments=no"; is_example = refl; ordered = omega arith }, (record { example = codes "id=a"; is_example = refl; ordered = omega arith }, tt)),
        ),
      ),
    ),
    (
      (
        record { example = codes "octets"; is_example = refl; ordered = omega arith },
        (
          record { example = codes "doc=a"; is_example = refl; ordered = omega arith },
          (record { example = codes "for=signature"; is_example = refl; ordered = omega arith }, (record { example = codes "ext=a"; is_example = refl; ordered = omega arith }, tt)),
        ),
      ),
      (prepare_good, (attach_good, (validate_good, tt))),
    ),
  ),
)

pub all_few : AreFew 1 patterns
all_few = (omega arith, (omega arith, (omega arith, (omega arith, (omega arith, (omega arith, tt))))))

-- Words that fit a pattern whose first part is one word go by that word's text.

one_word : (text name : List ℕ) (own others words : List (List ℕ)) → IsPart (once (Plain text)) own → words ≡ own ++ others → goes_by name words ≡ (text is name)
one_word text name [] others words part whole = absurd (omega (arith, part.enough))
one_word text name (word ∷ []) others words part whole =
    let same : word ≡ text = (bytes_eq-Decides word text).0 (of_form (bytes_eq word text) part.each.0) in
    ap (goes_by name) whole ∙ ap (λ w. w is name) same
  where
    of_form : (b : Bool) → (if b then true else false) ≡ true → b ≡ true
    of_form true e = refl
    of_form false e = e
one_word text name (word ∷ second ∷ own) others words part whole = absurd (omega (arith, part.few))

first_word : (text name : List ℕ) (parts : List Part) (words : List (List ℕ)) → Fits (once (Plain text) ∷ parts) words → goes_by name words ≡ (text is name)
first_word text name parts words fits = one_word text name fits.own fits.others words fits.is_part fits.whole

abbrev behind : List Part → List Part
behind [] = []
behind (part ∷ parts) = parts

-- the words of another command don't go by a name
not_by : (text name : List ℕ) (parts : List Part) (words : List (List ℕ)) → (text is name) ≡ false → goes_by name words ≡ true → Fits (once (Plain text) ∷ parts) words → ⊥
not_by text name parts words differs goes fits = let e : true ≡ false = sym goes ∙ first_word text name parts words fits ∙ differs in cc

-- the words of `prepare`
prepare_fits : (words : List (List ℕ)) → IsCommand words → goes_by (codes "prepare") words ≡ true → Fits prepare_words words
prepare_fits words command goes = elim command [
  | inl fits ↦ absurd (not_by (codes "canon") (codes "prepare") (behind exclusive_words) words refl goes fits)
  | inr (inl fits) ↦ absurd (not_by (codes "canon") (codes "prepare") (behind inclusive_words) words refl goes fits)
  | inr (inr (inl fits)) ↦ absurd (not_by (codes "octets") (codes "prepare") (behind octets_words) words refl goes fits)
  | inr (inr (inr (inl fits))) ↦ fits
  | inr (inr (inr (inr (inl fits)))) ↦ absurd (not_by (codes "attach") (codes "prepare") (behind attach_words) words refl goes fits)
  | inr (inr (inr (inr (inr (inl fits))))) ↦ absurd (not_by (codes "validate") (codes "prepare") (behind validate_words) words refl goes fits)
  | inr (inr (inr (inr (inr (inr none))))) ↦ absurd none
]

-- the words of `attach`
attach_fits : (words : List (List ℕ)) → IsCommand words → goes_by (codes "attach") words ≡ true → Fits attach_words words
attach_fits words command goes = elim command [
  | inl fits ↦ absurd (not_by (codes "canon") (codes "attach") (behind exclusive_words) words refl goes fits)
  | inr (inl fits) ↦ absurd (not_by (codes "canon") (codes "attach") (behind inclusive_words) words refl goes fits)
  | inr (inr (inl fits)) ↦ absurd (not_by (codes "octets") (codes "attach") (behind octets_words) words refl goes fits)
  | inr (inr (inr (inl fits))) ↦ absurd (not_by (codes "prepare") (codes "attach") (behind prepare_words) words refl goes fits)
  | inr (inr (inr (inr (inl fits)))) ↦ fits
  | inr (inr (inr (inr (inr (inl fits))))) ↦ absurd (not_by (codes "validate") (codes "attach") (behind validate_words) words refl goes fits)
  | inr (inr (inr (inr (inr (inr none))))) ↦ absurd none
]

-- the words of `validate`
validate_fits : (words : List (List ℕ)) → IsCommand words → goes_by (codes "validate") words ≡ true → Fits validate_words words
validate_fits words command goes = elim command [
  | inl fits ↦ absurd (not_by (codes "canon") (codes "validate") (behind exclusive_words) words refl goes fits)
  | inr (inl fits) ↦ absurd (not_by (codes "canon") (codes "validate") (behind inclusive_words) words refl goes fits)
  | inr (inr (inl fits)) ↦ absurd (not_by (codes "octets") (codes "validate") (behind octets_words) words refl goes fits)
  | inr (inr (inr (inl fits))) ↦ absurd (not_by (codes "prepare") (codes "validate") (behind prepare_words) words refl goes fits)
  | inr (inr (inr (inr (inl fits)))) ↦ absurd (not_by (codes "attach") (codes "validate") (behind attach_words) words refl goes fits)
  | inr (inr (inr (inr (inr (inl fits))))) ↦ fits
  | inr (inr (inr (inr (inr (inr none))))) ↦ absurd none
]

sound_by : (octets prepare attach validate : Bool) (words : List (List ℕ)) → (prepare ≡ true → IsPreparable (prepares_by words)) → (attach ≡ true → length (attaches_by words).items ≤ 64)
    → (validate ≡ true → IsValidatable (validates_by words)) → (document : List ℕ) (purpose : Purpose) (externals : List (List ℕ)) (form : Form) (id : Option (List ℕ))
    → IsSound (if octets then AskedOctets document purpose externals else if prepare then AskedPrepare (prepares_by words) else if attach then AskedAttach (attaches_by words)
    else if validate then AskedValidate (validates_by words) else AskedCanon document form id)
sound_by true prepare attach validate words sound few named document purpose externals form id = tt
sound_by false true attach validate words sound few named document purpose externals form id = sound refl
sound_by false false true validate words sound few named document purpose externals form id = few refl
sound_by false false false true words sound few named document purpose externals form id = named refl
sound_by false false false false words sound few named document purpose externals form id = tt

-- what words of a command say of what they ask
pub sound_words : (words : List (List ℕ)) → IsCommand words → IsSound (asked_by words)
sound_words words command =
    sound_by (goes_by (codes "octets") words) (goes_by (codes "prepare") words) (goes_by (codes "attach") words) (goes_by (codes "validate") words) words
    (λ goes. sound_preparation words (prepare_fits words command goes)) (λ goes. (sound_attachment words (attach_fits words command goes)).few)
    (λ goes. sound_validation words (validate_fits words command goes)) _ _ _ _ _
