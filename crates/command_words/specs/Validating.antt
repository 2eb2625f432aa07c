-- What the words of `validate` ask, and the files that it wants.
use Rattle.std.specs.Prelude.{◌≡◌, ℕ, Some, List, ◌∷◌, ◌++◌, map, codes, unwrap_or, ℤ, pos}
use Rattle.utc_times.specs.TimeText.{time_of}
use Rattle.whole_files.specs.Wants.{Want}
use Rattle.word_patterns.specs.Grammar.{text_behind, texts_behind, text_now}
use Rattle.command_words.specs.Wanting.{document_want, policy_want, external_want, more_want}
use Rattle.command_words.specs.declared.validating.Validation.{Validation}

-- what is asked: the files of the document and the policy, the moment in seconds since 1970, the files that are handed in, and those of
-- further certificates and revocation lists
pub record Validates : Type 0 where
  pub document : List ℕ
  pub policy : List ℕ
  pub at : ℤ
  pub externals : List (List ℕ)
  pub more : List (List ℕ)

-- what the words ask
abbrev pub validates_by : List (List ℕ) → Validates
validates_by words = record {
  document = text_behind (codes "doc=") words;
  policy = text_behind (codes "policy=") words;
  at = unwrap_or (time_of (text_behind (codes "at=") words)) (pos 0);
  externals = texts_behind (codes "ext=") words;
  more = texts_behind (codes "more=") words;
}

-- what is asked in memory
abbrev pub validates_of : Validation → Validates
validates_of asked = record {
  document = asked.document.now;
  policy = asked.policy.now;
  at = asked.at;
  externals = map text_now asked.externals.items;
  more = map text_now asked.more.items;
}

-- what words that fit say of what they ask: some text names the moment
pub record IsValidatable (asked : Validates) : Type 0 where
  pub text : List ℕ
  pub moment : time_of text ≡ Some asked.at

-- the files that are wanted, in the order of the words
abbrev pub validate_wants : Validates → List Want
validate_wants asked =
    document_want asked.document ∷ policy_want asked.policy ∷ map external_want asked.externals ++ map more_want asked.more
