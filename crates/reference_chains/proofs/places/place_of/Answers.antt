use Rattle.reference_chains.proofs.places.place_of.Goals as goal

pub returns-clause-has : goal.returns-clause-has
returns-clause-has c = c.place_named.ensures.has c.args.doc c.requires.identifiers
