use Rattle.attached_items.proofs.PlacesAreElements.{places_are_elements}
use Rattle.attached_items.proofs.places_are_elements.Goals as goal

pub returns : goal.returns
returns c = places_are_elements
