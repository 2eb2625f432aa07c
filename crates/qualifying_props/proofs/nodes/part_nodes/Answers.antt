use Rattle.doc_spans.specs.Seen.{document_in}
use Rattle.signature_elements.specs.Standing.{spot_of}
use Rattle.qualifying_props.proofs.Shaped.{has_signed_info, has_value, has_host, has_method, has_key_info, part_there}
use Rattle.qualifying_props.proofs.nodes.part_nodes.Goals as goal

pub unwrap-requires : goal.unwrap-requires
unwrap-requires c = part_there c.args.doc _ _ (has_signed_info (document_in c.args.doc) (spot_of c.args.doc c.args.signature) c.requires.shaped) c.signed_info.ensures.spot

pub unwrap-requires-2 : goal.unwrap-requires-2
unwrap-requires-2 c = part_there c.args.doc _ _ (has_value (document_in c.args.doc) (spot_of c.args.doc c.args.signature) c.requires.shaped) c.value.ensures.spot

pub unwrap-requires-3 : goal.unwrap-requires-3
unwrap-requires-3 c = part_there c.args.doc _ _ (has_host (document_in c.args.doc) (spot_of c.args.doc c.args.signature) c.requires.shaped) c.host.ensures.spot

pub unwrap-requires-4 : goal.unwrap-requires-4
unwrap-requires-4 c = part_there c.args.doc _ _ (has_method (document_in c.args.doc) (spot_of c.args.doc c.args.signature) c.requires.shaped) c.method.ensures.spot

pub unwrap-requires-5 : goal.unwrap-requires-5
unwrap-requires-5 c = part_there c.args.doc _ _ (has_key_info (document_in c.args.doc) (spot_of c.args.doc c.args.signature) c.requires.shaped) c.key_info.ensures.spot
