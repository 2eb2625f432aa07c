-- What the words of `prepare` ask, and the files that it wants.
use Rattle.std.specs.Prelude.{◌≡◌, ℕ, ◌≤◌, Bool, true, All, length, List, ◌∷◌, ◌++◌, map, filter, codes, if◌then◌else◌}
use Rattle.std.specs.Str.{chars}
use Rattle.algorithms.specs.declared.digest_kinds.DigestKind.{DigestKind}
use Rattle.algorithms.specs.declared.digest_kinds.DigestKind.TheVariants.{Sha256, Sha384, Sha512}
use Rattle.document_model.specs.Characters.{◌is◌}
use Rattle.signature_model.specs.Chains.{is_external, place_named}
use Rattle.whole_files.specs.Wants.{Want}
use Rattle.word_patterns.specs.Grammar.{text_behind, texts_behind, text_now}
use Rattle.word_patterns.specs.TextForms.{is_time, is_signature_id, is_some_uri, is_uri}
use Rattle.command_words.specs.Wanting.{document_want, policy_want, certificate_want, external_want}
use Rattle.command_words.specs.declared.preparing.Preparation.{Preparation}

-- what is asked: the files of the document, the policy and the certificates, the signing time, the identifier of the signature, the URI of
-- its method, the kind of its digests, and the URIs of its References
pub record Prepares : Type 0 where
  pub document : List ℕ
  pub policy : List ℕ
  pub certificates : List (List ℕ)
  pub time : List ℕ
  pub id : List ℕ
  pub method : List ℕ
  pub digest : DigestKind
  pub references : List (List ℕ)

abbrev pub digest_named : List ℕ → DigestKind
digest_named word = if word is codes "sha384" then Sha384 else if word is codes "sha512" then Sha512 else Sha256

-- what the words ask
abbrev pub prepares_by : List (List ℕ) → Prepares
prepares_by words = record {
  document = text_behind (codes "doc=") words;
  policy = text_behind (codes "policy=") words;
  certificates = texts_behind (codes "cert=") words;
  time = text_behind (codes "time=") words;
  id = text_behind (codes "id=") words;
  method = text_behind (codes "method=") words;
  digest = digest_named (text_behind (codes "digest=") words);
  references = texts_behind (codes "ref=") words;
}

-- what is asked in memory
abbrev pub prepares_of : Preparation → Prepares
prepares_of asked = record {
  document = asked.document.now;
  policy = asked.policy.now;
  certificates = map text_now asked.certificates.items;
  time = asked.time.now;
  id = asked.id.now;
  method = asked.method.now;
  digest = asked.digest;
  references = map text_now asked.references.items;
}

-- whether a URI names a file that is handed in
abbrev pub names_file : List ℕ → Bool
names_file uri = is_external (place_named (chars uri))

-- what words that fit say of what they ask
pub record IsPreparable (asked : Prepares) : Type 0 where
  pub some_certificates : 1 ≤ length asked.certificates
  pub few_certificates : length asked.certificates ≤ 8
  pub time : is_time asked.time ≡ true
  pub id : is_signature_id asked.id ≡ true
  pub method : is_some_uri asked.method ≡ true
  pub some_references : 1 ≤ length asked.references
  pub few_references : length asked.references ≤ 15
  pub references : All (λ uri. is_uri uri ≡ true) asked.references

-- the files that are wanted, in the order of the words: external References behind the certificates
abbrev pub prepare_wants : Prepares → List Want
prepare_wants asked =
    document_want asked.document ∷ policy_want asked.policy
    ∷ map certificate_want asked.certificates ++ map external_want (filter names_file asked.references)
