use Rattle.std.proofs.Common.{sym, ◌∙◌, ap}
use Rattle.std.specs.Str.{chars}
use Rattle.doc_spans.specs.Seen.{document_in}
use Rattle.reference_chains.specs.HandedIn.{handed_in}
use Rattle.reference_chains.specs.declared.places.Place.TheVariants.{Document}
use Rattle.augmenter.proofs.FoundPlaces.{found_at, found_for, found_is}
use Rattle.augmenter.proofs.NamedOctets.{digest_pushed}
use Rattle.augmenter.proofs.named_octets.named_digests.Goals as goal

pub named_digest-requires-clause-found : goal.named_digest-requires-clause-found
named_digest-requires-clause-found c =
    found_at c.args.doc c.args.draft.now.references c.args.places.now c.loop-number.number Document c.requires c.loop-number-test.true
    ∙ ap (found_for c.args.doc) (sym (found_is c.args.draft.now.references c.loop-number.number (chars c.uri.result.now) c.uri.ensures).1)

pub loop-number-preserved : goal.loop-number-preserved
loop-number-preserved c =
    digest_pushed (handed_in c.args.externals.now) (document_in c.args.doc) c.args.draft.now.digest c.digest.result c.args.draft.now.references c.loop-number.number (chars c.uri.result.now)
    c.in_ok-made.made c.loop-number.digests.items c.push.new.self.items c.digest.ensures c.uri.ensures c.in_ok-made.ensures c.in-Ok.ensures.items c.loop-number.invariant
