-- What the words of `attach` ask, and the files that it wants.
use Rattle.std.specs.Prelude.{◌≡◌, ℕ, ◌≤◌, length, Some, List, [], ◌∷◌, ◌++◌, map, codes, unwrap_or, ℤ, pos}
use Rattle.utc_times.specs.TimeText.{time_of}
use Rattle.whole_files.specs.Wants.{Want}
use Rattle.whole_files.specs.declared.role.Role.{Role}
use Rattle.whole_files.specs.declared.role.Role.TheVariants.{Value, Stamp, Data, Archive}
use Rattle.word_patterns.specs.Grammar.{text_behind, texts_behind, text_now}
use Rattle.word_patterns.specs.Keyed.{keyed_texts, keyed_now}
use Rattle.command_words.specs.Wanting.{document_want, policy_want, external_want}
use Rattle.command_words.specs.declared.attaching.Attachment.{Attachment}

-- the keys of items, and what their files are for
abbrev pub item_keys : List (List ℕ × Role)
item_keys = (codes "value=", Value) ∷ (codes "stamp=", Stamp) ∷ (codes "data=", Data) ∷ (codes "archive=", Archive) ∷ []

-- what is asked: the files of the document, the policy and the items, the moment in seconds since 1970, and the files that are handed in
pub record Attaches : Type 0 where
  pub document : List ℕ
  pub policy : List ℕ
  pub at : ℤ
  pub items : List (Role × List ℕ)
  pub externals : List (List ℕ)

-- what the words ask
abbrev pub attaches_by : List (List ℕ) → Attaches
attaches_by words = record {
  document = text_behind (codes "doc=") words;
  policy = text_behind (codes "policy=") words;
  at = unwrap_or (time_of (text_behind (codes "at=") words)) (pos 0);
  items = keyed_texts item_keys words;
  externals = texts_behind (codes "ext=") words;
}

-- what is asked in memory
abbrev pub attaches_of : Attachment → Attaches
attaches_of asked = record {
  document = asked.document.now;
  policy = asked.policy.now;
  at = asked.at;
  items = map keyed_now asked.items.items;
  externals = map text_now asked.externals.items;
}

-- what words that fit say of what they ask
pub record IsAttachable (words : List (List ℕ)) (asked : Attaches) : Type 0 where
  pub few : length asked.items ≤ 64
  pub moment : time_of (text_behind (codes "at=") words) ≡ Some asked.at

abbrev pub item_want : Role × List ℕ → Want
item_want item = record { role = item.0; name = item.1 }

-- the files that are wanted, in the order of the words
abbrev pub attach_wants : Attaches → List Want
attach_wants asked =
    document_want asked.document ∷ policy_want asked.policy ∷ map item_want asked.items ++ map external_want asked.externals
