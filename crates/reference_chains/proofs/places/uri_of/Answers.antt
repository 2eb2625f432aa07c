use Rattle.std.proofs.Common.{[], ◌∙◌, ap, refl, codes, List, ℕ}
use Rattle.std.proofs.lemmas.Str.{chars-nil}
use Rattle.std.specs.Prelude.{unwrap_or}
use Rattle.signature_model.specs.Spots.{attribute}
use Rattle.signature_elements.specs.Standing.{spot_of}
use Rattle.signature_elements.proofs.AsciiNames.{word}
use Rattle.reference_chains.proofs.places.uri_of.Goals as goal

pub returns-in-Some : goal.returns-in-Some
returns-in-Some c =
    ap (λ o. unwrap_or o []) (c.in-Some.ensures ∙ ap (λ (local : List ℕ). attribute local (spot_of c.args.doc c.args.reference)) (word (codes "URI") refl))

pub returns-in-None : goal.returns-in-None
returns-in-None c =
    c.of.ensures ∙ chars-nil
    ∙ ap (λ o. unwrap_or o []) (c.in-None.ensures ∙ ap (λ (local : List ℕ). attribute local (spot_of c.args.doc c.args.reference)) (word (codes "URI") refl))
