use Rattle.std.proofs.Common.{arith}
use Rattle.xa_io.specs.Bytes.{IsBytes}
use Rattle.base64.specs.Engines.{standard}
use Rattle.base64.proofs.EngineFacts.{decode_of_strict}
use Rattle.base64_texts.specs.Spelling.{spelled}
use Rattle.base64_texts.proofs.Whole.{strictness}
use Rattle.base64_texts.proofs.Groups.{whole_decodes}
use Rattle.base64_texts.proofs.taken.decode_into.Goals as goal

pub returns-in-Ok-clause-octets : goal.returns-in-Ok-clause-octets
unfolding spelled
returns-in-Ok-clause-octets c =
    let text : IsBytes c.args.text.now = λ i. let f = c.type_inv.text i in omega arith in
    decode_of_strict standard c.args.text.now _ strictness text c.in-Ok.ensures.ok.0

pub returns-in-Err-clause-refused : goal.returns-in-Err-clause-refused
returns-in-Err-clause-refused c = λ w _.
    let given = whole_decodes c.args.text.now w in
    let is = given.1 in
    let e = c.in-Err.ensures.err in cc
