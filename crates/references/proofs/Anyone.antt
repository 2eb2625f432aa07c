-- What is read of a list where nothing stands.
use Rattle.std.proofs.Common.{false}
use Rattle.reference_chains.specs.declared.chains.Made.TheVariants.{NodesAlone}
use Rattle.reference_chains.specs.declared.places.Place.TheVariants.{Document}
use Rattle.reference_chains.specs.declared.references.Reference.{Reference}
use Rattle.references.specs.declared.targets.Sought.{Sought}

abbrev pub any_reference : Reference
any_reference = record { node = record { 0 = 0 }; place = Document; chain = record { enveloped = false; made = NodesAlone } }

abbrev pub any_sought : Sought
any_sought = record { node = record { 0 = 0 }; place = Document }
