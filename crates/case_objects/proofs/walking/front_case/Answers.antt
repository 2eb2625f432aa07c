use Rattle.std.proofs.Common.{ℕ, [], ◌∷◌, ◌++◌, sym, subst}
use Rattle.existence_times.specs.Shown.{Shown}
use Rattle.signature_objects.specs.Objects.{Value, octets_from, with_objects}
use Rattle.case_steps.specs.Built.{ShowsObjects}
use Rattle.case_steps.proofs.Begun.{new_case_shows}
use Rattle.case_objects.proofs.Walked.{front_shown}
use Rattle.case_objects.proofs.walking.front_case.Goals as goal

pub returns-clause-objects : goal.returns-clause-objects
returns-clause-objects c =
    let count = c.references-references.result in
    let begun : ShowsObjects (with_objects [] (octets_from 1 count ++ Value ∷ [])) c.new-case.result =
    subst (λ (shown : Shown). ShowsObjects (with_objects [] (octets_from 1 count ++ Value ∷ [])) shown) (sym c.new-case.ensures) (new_case_shows count) in
    front_shown c.args.parts.now c.add_key_certs.new.case
    (c.in_ok-add_key_certs.ensures.objects _
    (subst (λ (n : ℕ). ShowsObjects (with_objects [] (octets_from 1 n ++ Value ∷ [])) c.new-case.result) c.references-references.ensures begun))
