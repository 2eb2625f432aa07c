-- One more name with its octets.
use Rattle.std.proofs.Common.{◌≡◌, ℕ, Bool, true, false, cond, List, [], ◌∷◌, ◌++◌, Option, Some, None, refl, string_bytes}
use Rattle.std.specs.Str.{chars}
use Rattle.document_model.specs.Characters.{◌is◌}
use Rattle.document_model.specs.Items.{or_else}
use Rattle.reference_chains.specs.declared.externals.File.{File}
use Rattle.reference_chains.specs.HandedIn.{look_up, one_more}

one_further : (b : Bool) (octets : List ℕ) (rest more last : Option (List ℕ)) → more ≡ or_else rest last → cond b (Some octets) more ≡ or_else (cond b (Some octets) rest) last
one_further true octets rest more last e = refl
one_further false octets rest more last e = e

pub appended : (files : List File) (file : File) (other : List ℕ)
    → look_up (files ++ file ∷ []) other ≡ one_more (look_up files) (chars (string_bytes file.name)) file.octets other
appended [] file other = refl
appended (first ∷ files) file other =
    one_further (other is chars (string_bytes first.name)) first.octets (look_up files other) (look_up (files ++ file ∷ []) other)
    (cond (other is chars (string_bytes file.name)) (Some file.octets) None) (appended files file other)
