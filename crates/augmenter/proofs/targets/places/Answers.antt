use Rattle.std.specs.Str.{chars}
use Rattle.augmenter.proofs.FoundPlaces.{place_pushed}
use Rattle.augmenter.proofs.targets.places.Goals as goal

pub loop-number-preserved : goal.loop-number-preserved
loop-number-preserved c =
    place_pushed c.args.doc c.args.draft.now.references c.loop-number.number (chars c.uri.result.now) c.loop-number.places.items c.push.new.self.items c.place_named.result
    c.in-Ok.ensures.items c.uri.ensures (c.place_named.ensures.found c.args.doc c.requires) (c.place_named.ensures.has c.args.doc c.requires) c.loop-number.invariant
