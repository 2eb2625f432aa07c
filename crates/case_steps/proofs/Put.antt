-- What the calls that add to a case say of its objects.
use Rattle.std.proofs.Common.{◌≡◌, ℕ, Bool, true, false, List, [], ◌∷◌, ◌++◌, Result, Some, slice_get, refl, sym, ◌∙◌, ap, subst}
use Rattle.std.specs.Prelude.{OnOk}
use Rattle.std.proofs.lemmas.Result.{on_ok_weaker}
use Rattle.x509_certs.specs.declared.part.Part.{Part as X509Part}
use Rattle.x509_certs.specs.declared.part.Part.TheVariants as parts
use Rattle.acceptance.specs.Certificates.{Part}
use Rattle.cert_paths.specs.Pool.{seen}
use Rattle.existence_times.specs.Shown.{Shown, HasToken}
use Rattle.existence_times.specs.Kept.{with_pool, with_token}
use Rattle.signature_objects.specs.Objects.{Object, Token, has, with_object, number_of}
use Rattle.signature_evidence.specs.Pools.{part_of}
use Rattle.signature_evidence.proofs.Numbers.{not_both, number_there}
use Rattle.case_steps.specs.Built.{ShowsObjects, IsPart}
use Rattle.case_steps.specs.Putting.{object_of}
use Rattle.case_steps.proofs.Steps.{part_is_added, token_is_added, had_in_pool}

seen_is : (p : X509Part) → part_of (object_of p) ≡ seen p
seen_is (parts.Cert c) = refl
seen_is (parts.List l) = refl

is_part : (p : X509Part) → IsPart (object_of p)
is_part (parts.Cert c) = tt
is_part (parts.List l) = tt

pub part_put : {A E : Type 0} (result : Result A E) (old new : Shown) (p : X509Part) (objects : List Object)
    → ((n : ℕ) → slice_get old.pool n ≡ Some (seen p) → OnOk result (new ≡ old))
    → (((n : ℕ) → ¬ (slice_get old.pool n ≡ Some (seen p))) → OnOk result (new ≡ with_pool old (old.pool ++ seen p ∷ [])))
    → ShowsObjects objects old → OnOk result (ShowsObjects (with_object objects (object_of p)) new)
part_put result old new p objects there none s = by_bool (has objects (object_of p)) refl
  where
    by_bool : (b : Bool) → has objects (object_of p) ≡ b → OnOk result (ShowsObjects (with_object objects (object_of p)) new)
    by_bool true e =
        let at : slice_get old.pool (number_of objects (object_of p)) ≡ Some (part_of (object_of p)) =
        ap (λ (pool : List Part). slice_get pool (number_of objects (object_of p))) s.pool ∙ number_there objects (object_of p) e in
        on_ok_weaker result (λ same. subst (λ (shown : Shown). ShowsObjects (with_object objects (object_of p)) shown) (sym same)
        ((part_is_added objects old (object_of p) (is_part p) s).0 (number_of objects (object_of p)) at))
        (there (number_of objects (object_of p)) (at ∙ ap (λ part. Some part) (seen_is p)))
    by_bool false e =
        let not_there : (n : ℕ) → slice_get old.pool n ≡ Some (part_of (object_of p)) → ⊥ =
        λ n at. not_both (sym (had_in_pool objects (object_of p) (is_part p) n (sym (ap (λ (pool : List Part). slice_get pool n) s.pool) ∙ at)) ∙ e) in
        on_ok_weaker result (λ same. subst (λ (shown : Shown). ShowsObjects (with_object objects (object_of p)) shown)
        (sym (same ∙ ap (λ part. with_pool old (old.pool ++ part ∷ [])) (sym (seen_is p))))
        ((part_is_added objects old (object_of p) (is_part p) s).1 not_there))
        (none (λ n at. not_there n (at ∙ ap (λ part. Some part) (sym (seen_is p)))))

pub token_put : {A E : Type 0} (result : Result A E) (old new : Shown) (bytes : List ℕ) (objects : List Object)
    → ((n : ℕ) → HasToken old n bytes → OnOk result (new ≡ old))
    → (((n : ℕ) → ¬ (HasToken old n bytes)) → OnOk result (new ≡ with_token old bytes))
    → ShowsObjects objects old → OnOk result (ShowsObjects (with_object objects (Token bytes)) new)
token_put result old new bytes objects there none s = by_bool (has objects (Token bytes)) refl
  where
    by_bool : (b : Bool) → has objects (Token bytes) ≡ b → OnOk result (ShowsObjects (with_object objects (Token bytes)) new)
    by_bool true e =
        on_ok_weaker result (λ same. subst (λ (shown : Shown). ShowsObjects (with_object objects (Token bytes)) shown) (sym same)
        ((token_is_added objects old bytes s).0 (number_of objects (Token bytes)) (s.every bytes e)))
        (there (number_of objects (Token bytes)) (s.every bytes e))
    by_bool false e =
        let not_there : (n : ℕ) → HasToken old n bytes → ⊥ = λ n h. not_both (sym (s.tokens n bytes h).0 ∙ e) in
        on_ok_weaker result (λ same. subst (λ (shown : Shown). ShowsObjects (with_object objects (Token bytes)) shown) (sym same) ((token_is_added objects old bytes s).1 not_there)) (none not_there)
