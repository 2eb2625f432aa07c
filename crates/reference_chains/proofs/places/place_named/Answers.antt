use Rattle.std.proofs.Common.{sym, ap}
use Rattle.doc_spans.specs.Seen.{document_in}
use Rattle.signature_model.specs.Chains.{place_named}
use Rattle.reference_chains.specs.Places.{found}
use Rattle.reference_chains.proofs.Words.{no_characters}
use Rattle.reference_chains.proofs.places.place_named.Goals as goal

pub returns-in-None-clause-found : goal.returns-in-None-clause-found
returns-in-None-clause-found c = λ doc of. sym (ap (λ cs. found (document_in doc) (place_named cs)) (no_characters c.args.uri.now c.in-None.ensures.chars))
