use Rattle.signature_objects.proofs.Numbered.{token_at_is}
use Rattle.signature_objects.proofs.counting.meet_property.Goals as goal

pub meet_token-requires : goal.meet_token-requires
meet_token-requires c = token_at_is c.args.parts.now c.args.property c.in-Some.token.now c.requires.whole c.in-Some.ensures
