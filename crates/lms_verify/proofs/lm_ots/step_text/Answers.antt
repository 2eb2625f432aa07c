use Rattle.std.proofs.Common.{refl}
use Rattle.lms_verify.specs.LmOts.{u16str, u32str}
use Rattle.lms_verify.proofs.Texts.{four_parts}
use Rattle.lms_verify.proofs.lm_ots.step_text.Goals as goal

pub returns : goal.returns
returns c =
    let q = rw c.to_be_bytes.ensures at c.put-2.ensures in
    let i = rw c.to_be_bytes-2.ensures at c.put-3.ensures in
    four_parts c.args.id.now (u32str c.args.q) (u16str c.args.i) c.args.value.now c.put.new.text c.put-2.new.text c.put-3.new.text c.put-4.new.text
    c.told-id refl refl c.requires c.put.ensures q i c.put-4.ensures
