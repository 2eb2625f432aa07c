use Rattle.std.proofs.Common.{◌∙◌, ap, sym, subst}
use Rattle.std.proofs.lemmas.List.{nil_from_length}
use Rattle.std.proofs.lemmas.Str.{chars-nil}
use Rattle.std.specs.Str.{chars}
use Rattle.prepared_documents.specs.Judged.{IsHanded}
use Rattle.reference_chains.specs.HandedIn.{handed_in}
use Rattle.signature_model.specs.Chains.{place_named}
use Rattle.attach_tests.proofs.drafts.is_handed.Goals as goal

pub returns-in-None : goal.returns-in-None
returns-in-None c = λ _. subst (λ cs. IsHanded (handed_in c.args.externals.now) (place_named cs) cs)
    (sym (ap chars (nil_from_length c.args.uri.now c.in-None.ensures.chars) ∙ chars-nil)) tt
