use Rattle.signature_model.proofs.FaultPlaces.{places_are_within}
use Rattle.signature_model.proofs.places_are_within.Goals as goal

pub returns : goal.returns
returns c = places_are_within
