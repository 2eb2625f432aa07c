-- Files that are handed in one after another.
use Rattle.std.proofs.Common.{◌≡◌, ℕ, ◌≤◌, List, [], ◌∷◌, ◌++◌, length, map, refl, sym, ap, ◌∙◌, subst}
use Rattle.std.specs.Prelude.{Bool, true, false, ◌&&◌, Option, None, Some, if◌then◌else◌}
use Rattle.std.specs.Str.{chars}
use Rattle.std.proofs.lemmas.List.{map-append}
use Rattle.document_model.specs.Characters.{◌is◌}
use Rattle.document_model.specs.Items.{or_else}
use Rattle.reference_chains.specs.HandedIn.{one_more}
use Rattle.signature_model.specs.Chains.{Handed}
use Rattle.whole_files.specs.Roles.{is_external}
use Rattle.whole_files.specs.Wants.{Held, held_of}
use Rattle.whole_files.specs.declared.file.File.{File}
use Rattle.whole_files.proofs.HeldLemmas.{external_limit}
use Rattle.signature_checks.specs.Opening.{AreShort}
use Rattle.xades_cli.specs.Handing.{handed_by}

-- the first that has it
one_or : (has : Bool) (bytes : List ℕ) (later more : Option (List ℕ)) → (if has then Some bytes else or_else later more) ≡ or_else (if has then Some bytes else later) more
one_or true bytes later more = refl
one_or false bytes later more = refl

handed_append : (files : List Held) (file : Held) (wanted : List ℕ) → handed_by (files ++ file ∷ []) wanted ≡ or_else (handed_by files wanted) (handed_by (file ∷ []) wanted)
handed_append [] file wanted = refl
handed_append (first ∷ files) file wanted =
    ap (λ later. if is_external first.role && (wanted is chars first.name) then Some first.bytes else later) (handed_append files file wanted)
    ∙ one_or (is_external first.role && (wanted is chars first.name)) first.bytes (handed_by files wanted) (handed_by (file ∷ []) wanted)

or_none : (given : Option (List ℕ)) → given ≡ or_else given None
or_none None = refl
or_none (Some bytes) = refl

-- one more external file
pub handed_more : (handed more : Handed) (files : List File) (file : File) → ((wanted : List ℕ) → handed wanted ≡ handed_by (map held_of files) wanted) → is_external file.role ≡ true
    → ((other : List ℕ) → more other ≡ one_more handed (chars file.name.now) file.bytes other) → (wanted : List ℕ) → more wanted ≡ handed_by (map held_of (files ++ file ∷ [])) wanted
handed_more handed more files file same inside added wanted =
    let one : (if wanted is chars file.name.now then Some file.bytes else None) ≡ handed_by (held_of file ∷ []) wanted = rw inside refl in
    added wanted ∙ ap (λ h. or_else h (if wanted is chars file.name.now then Some file.bytes else None)) (same wanted)
    ∙ ap (or_else (handed_by (map held_of files) wanted)) one
    ∙ sym (handed_append (map held_of files) (held_of file) wanted) ∙ ap (λ all. handed_by all wanted) (sym (map-append held_of files (file ∷ [])))

-- a file that isn't external is passed over
pub handed_same : (handed : Handed) (files : List File) (file : File) → ((wanted : List ℕ) → handed wanted ≡ handed_by (map held_of files) wanted) → is_external file.role ≡ false
    → (wanted : List ℕ) → handed wanted ≡ handed_by (map held_of (files ++ file ∷ [])) wanted
handed_same handed files file same outside wanted =
    let none : None ≡ handed_by (held_of file ∷ []) wanted = rw outside refl in
    same wanted ∙ or_none (handed_by (map held_of files) wanted)
    ∙ ap (or_else (handed_by (map held_of files) wanted)) none
    ∙ sym (handed_append (map held_of files) (held_of file) wanted) ∙ ap (λ all. handed_by all wanted) (sym (map-append held_of files (file ∷ [])))

-- what is handed in is the octets of a file, and isn't longer than it may be
short_by : (inside named : Bool) (bytes octets : List ℕ) (later : Option (List ℕ)) → (inside ≡ true → length bytes ≤ 33554432) → (later ≡ Some octets → length octets ≤ 33554432)
    → (if inside && named then Some bytes else later) ≡ Some octets → length octets ≤ 33554432
short_by true true bytes octets later short rest e = let same : bytes ≡ octets = cc in subst (λ text. length text ≤ 33554432) same (short refl)
short_by true false bytes octets later short rest e = rest e
short_by false named bytes octets later short rest e = rest e

pub files_short : (files : List File) → AreShort (handed_by (map held_of files))
files_short [] name octets e = cc
files_short (file ∷ files) name octets e =
    short_by (is_external file.role) (name is chars file.name.now) file.bytes octets (handed_by (map held_of files) name)
    (λ inside. subst (λ n. length file.bytes ≤ n) (external_limit file.role inside) file.within) (files_short files name octets) e

pub handed_short : (handed : Handed) (files : List File) → ((wanted : List ℕ) → handed wanted ≡ handed_by (map held_of files) wanted) → AreShort handed
handed_short handed files same = λ name octets e. files_short files name octets (sym (same name) ∙ e)
