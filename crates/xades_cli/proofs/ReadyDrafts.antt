-- Drafts that words and certificate files give are whole, and the octets of external URIs are handed in.
use Rattle.std.proofs.Common.{◌≡◌, ℕ, suc, ◌≤◌, Bool, true, false, ◌&&◌, cond, if◌then◌else◌, List, [], ◌∷◌, ◌++◌, length, map, Option, None, Some, refl, ap, ◌∙◌, arith, ℤ}
use Rattle.std.specs.Prelude.{All, Result, Ok, Err, filter, is_ok, is_some}
use Rattle.std.specs.Str.{chars}
use Rattle.std.proofs.lemmas.List.Elements.{All-head, All-tail}
use Rattle.std.proofs.lemmas.Slice.Eq.{bytes_eq-Decides}
use Rattle.covered_items.specs.Whole.{AreWhole, EachBytes}
use Rattle.der_values.specs.Layout.{read_object}
use Rattle.document_model.specs.Characters.{◌is◌, is_empty}
use Rattle.document_model.specs.Items.{or_else}
use Rattle.insertion_fragments.specs.Drafts.{EachWritable}
use Rattle.prepared_documents.specs.Judged.{AreHanded, IsHanded}
use Rattle.qualifying_props.specs.Whole.{is_whole}
use Rattle.signature_model.specs.Chains.{Handed, Place, Document, Named, External, is_external, place_named}
use Rattle.signature_model.specs.Parts.{Certificate}
use Rattle.utc_times.specs.TimeText.{time_of}
use Rattle.whole_files.specs.Roles as roles
use Rattle.whole_files.specs.Roles.{is_certificate}
use Rattle.whole_files.specs.Wants.{Want, Held, AreFor}
use Rattle.word_patterns.specs.TextForms.{is_time, is_uri}
use Rattle.x509_certs.specs.Layouts as layout
use Rattle.augmenter.specs.Preparing.{IsReady}
use Rattle.xades_cli.specs.Prepare.{bad_by, bad_certificate, bad_in, certificates_of, draft_of}
use Rattle.command_words.specs.Preparing.{IsPreparable, Prepares, names_file, prepare_wants}
use Rattle.xades_cli.specs.Handing.{handed_by}
use Rattle.command_words.specs.Wanting.{certificate_want, document_want, external_want, policy_want}
use Rattle.xades_cli.proofs.TimeTexts.{time_simple, time_stays}
use Rattle.xades_cli.proofs.WritableTexts.{id_writable, method_writable, uri_writable}

-- Times and URIs.

pub time_named : (t : List ℕ) → is_time t ≡ true → (time : ℤ) × (time_of t ≡ Some time)
time_named t e = by_option (time_of t) e
  where
    by_option : (found : Option ℤ) → is_some found ≡ true → (time : ℤ) × (found ≡ Some time)
    by_option None e = cc
    by_option (Some time) e = (time, refl)

each_writable : (uris : List (List ℕ)) → All (λ uri. is_uri uri ≡ true) uris → EachWritable (map chars uris)
each_writable [] all = tt
each_writable (uri ∷ uris) all = (uri_writable uri (All-head (λ uri. is_uri uri ≡ true) uri uris all), each_writable uris (All-tail (λ uri. is_uri uri ≡ true) uri uris all))

same_number : (uris : List (List ℕ)) → length (map chars uris) ≡ length uris
same_number [] = refl
same_number (uri ∷ uris) = ap (λ n. suc n) (same_number uris)

-- Certificates.

neither : {A : Type 0} (a b : Option A) → or_else a b ≡ None → (a ≡ None) × (b ≡ None)
neither None b e = (refl, e)
neither (Some x) b e = cc

ok_by : (name : List ℕ) (read : Result ℕ ℕ) → bad_by name read ≡ None → is_ok read ≡ true
ok_by name (Ok end) e = refl
ok_by name (Err at) e = cc

whole_from : (b : Bool) (file : Held) (others : List (List ℕ)) → (if b then bad_by file.name (read_object layout.certificate file.bytes) else None) ≡ None
    → (EachBytes others → AreWhole is_whole Certificate others) → EachBytes (if b then file.bytes ∷ others else others)
    → AreWhole is_whole Certificate (if b then file.bytes ∷ others else others)
whole_from true file others none later bytes = (bytes.0, ok_by file.name (read_object layout.certificate file.bytes) none, later bytes.1)
whole_from false file others none later bytes = later bytes

certificates_whole : (files : List Held) → bad_certificate files ≡ None → EachBytes (certificates_of files) → AreWhole is_whole Certificate (certificates_of files)
certificates_whole [] none bytes = tt
certificates_whole (file ∷ files) none bytes =
    let n = neither (bad_in file) (bad_certificate files) none in
    whole_from (is_certificate file.role) file (certificates_of files) n.0 (certificates_whole files n.1) bytes

has_one : (d p : List ℕ) (certificates : List (List ℕ)) (more : List Want) (files : List Held) → 1 ≤ length certificates
    → AreFor (document_want d ∷ policy_want p ∷ map certificate_want certificates ++ more) files → is_empty (certificates_of files) ≡ false
has_one d p [] more files some read = absurd (omega arith)
has_one d p (c ∷ certificates) more [] some read = absurd read
has_one d p (c ∷ certificates) more (f ∷ []) some read = absurd read.1
has_one d p (c ∷ certificates) more (f ∷ g ∷ []) some read = absurd read.1.1
has_one d p (c ∷ certificates) more (f ∷ g ∷ h ∷ files) some read =
    rw (ap is_certificate read.0.role, ap is_certificate read.1.0.role, ap is_certificate read.1.1.0.role) refl

-- the draft of words that fit, where all certificates are whole
pub ready : (asked : Prepares) (files : List Held) → IsPreparable asked → AreFor (prepare_wants asked) files → bad_certificate files ≡ None
    → EachBytes (certificates_of files) → IsReady (draft_of asked (certificates_of files))
ready asked files sound read none bytes =
    let named = time_named asked.time sound.time in
    let same = same_number asked.references in
    let few = sound.few_references in record {
      writable = record {
        time_simple = time_simple asked.time named.0 named.1;
        id_writable = id_writable asked.id sound.id;
        method_writable = method_writable asked.method sound.method;
        certificates_bytes = bytes;
        references_writable = each_writable asked.references sound.references;
      };
      complete = record {
        timed = time_stays asked.time named.0 named.1;
        signer = has_one asked.document asked.policy asked.certificates (map external_want (filter names_file asked.references)) files sound.some_certificates read;
        whole = certificates_whole files none bytes;
        few = omega (arith, same, few);
      };
      few = omega (arith, same, few);
    }

-- Octets that are handed in.

abbrev Finds : Handed → List ℕ → Type 0
Finds handed name = (octets : List ℕ) × (handed (chars name) ≡ Some octets)

abbrev EachFound : Handed → List (List ℕ) → Type 0
EachFound handed [] = Unit {0}
EachFound handed (name ∷ names) = Finds handed name × EachFound handed names

later_by : (b : Bool) (bytes : List ℕ) (later : Option (List ℕ)) (octets : List ℕ) → later ≡ Some octets → (found : List ℕ) × ((if b then Some bytes else later) ≡ Some found)
later_by true bytes later octets e = (bytes, refl)
later_by false bytes later octets e = (octets, e)

each_later : (file : Held) (files : List Held) (names : List (List ℕ)) → EachFound (handed_by files) names → EachFound (handed_by (file ∷ files)) names
each_later file files [] found = tt
each_later file files (name ∷ names) found = (
  later_by (roles.is_external file.role && (chars name is chars file.name)) file.bytes (handed_by files (chars name)) found.0.0 found.0.1,
  each_later file files names found.1,
)

external_found : (names : List (List ℕ)) (files : List Held) → AreFor (map external_want names) files → EachFound (handed_by files) names
external_found [] files read = tt
external_found (name ∷ names) [] read = absurd read
external_found (name ∷ names) (file ∷ files) read = (
  (file.bytes, rw (ap roles.is_external read.0.role, ap (λ n. chars name is chars n) read.0.name ∙ same_text (chars name)) refl),
  each_later file files names (external_found names files read.1),
)
  where
    same_text : (text : List ℕ) → (text is text) ≡ true
    same_text text = (bytes_eq-Decides text text).1 refl

found_behind : (certificates names : List (List ℕ)) (files : List Held) → AreFor (map certificate_want certificates ++ map external_want names) files → EachFound (handed_by files) names
found_behind [] names files read = external_found names files read
found_behind (c ∷ certificates) names [] read = absurd read
found_behind (c ∷ certificates) names (file ∷ files) read = each_later file files names (found_behind certificates names files read.1)

found_all : (asked : Prepares) (files : List Held) → AreFor (prepare_wants asked) files → EachFound (handed_by files) (filter names_file asked.references)
found_all asked [] read = absurd read
found_all asked (f ∷ []) read = absurd read.1
found_all asked (f ∷ g ∷ files) read =
    let names = filter names_file asked.references in
    each_later f (g ∷ files) names (each_later g files names (found_behind asked.certificates names files read.1.1))

split_found : (handed : Handed) (b : Bool) (uri : List ℕ) (others : List (List ℕ)) → EachFound handed (cond b (uri ∷ others) others) → (b ≡ true → Finds handed uri) × EachFound handed others
split_found handed true uri others found = ((λ e. found.0), found.1)
split_found handed false uri others found = ((λ e. cc), found)

is_handed : (handed : Handed) (place : Place) (uri : List ℕ) → (is_external place ≡ true → Finds handed uri) → IsHanded handed place (chars uri)
is_handed handed Document uri found = tt
is_handed handed (Named identifier) uri found = tt
is_handed handed External uri found = found refl

handed_each : (handed : Handed) (uris : List (List ℕ)) → EachFound handed (filter names_file uris) → AreHanded handed (map chars uris)
handed_each handed [] found = tt
handed_each handed (uri ∷ uris) found =
    let s = split_found handed (names_file uri) uri (filter names_file uris) found in
    (is_handed handed (place_named (chars uri)) uri s.0, handed_each handed uris s.1)

-- those of the URIs of the words, by the files that were read for them
pub are_handed : (asked : Prepares) (files : List Held) → AreFor (prepare_wants asked) files → AreHanded (handed_by files) (map chars asked.references)
are_handed asked files read = handed_each (handed_by files) asked.references (found_all asked files read)
