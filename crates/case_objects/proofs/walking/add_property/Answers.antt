use Rattle.signature_objects.proofs.Numbered.{token_at_is}
use Rattle.case_objects.proofs.walking.add_property.Goals as goal

pub add_token-requires : goal.add_token-requires
add_token-requires c = record { whole = token_at_is c.args.parts.now c.args.property c.in-Some.token.now c.requires.whole c.in-Some.ensures }
