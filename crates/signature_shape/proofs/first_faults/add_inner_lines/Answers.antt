use Rattle.signature_model.specs.Faults as words
use Rattle.signature_shape.proofs.LineFaults.{tells_line, tells_more}
use Rattle.signature_shape.proofs.first_faults.add_inner_lines.Goals as goal

pub returns : goal.returns
returns c =
    let doc = c.args.doc in
    let covered = tells_line doc words.Covered _ _ _ _ c.covered_line.ensures c.add_line.ensures.fault c.add_line.ensures.has in
    let signed = tells_line doc words.Signed _ _ _ _ c.signed_line.ensures c.add_line-2.ensures.fault c.add_line-2.ensures.has in
    let data_object = tells_line doc words.DataObject _ _ _ _ c.in_ok-data_object.ensures c.add_line-3.ensures.fault c.add_line-3.ensures.has in
    let key = tells_line doc words.Key _ _ _ _ c.key_line.ensures c.add_line-4.ensures.fault c.add_line-4.ensures.has in
    let value = tells_line doc words.Value _ _ _ _ c.value_line.ensures c.add_line-5.ensures.fault c.add_line-5.ensures.has in
    let stamp = tells_line doc words.Stamp _ _ _ _ c.stamp_line.ensures c.add_line-6.ensures.fault c.add_line-6.ensures.has in
    let values = tells_line doc words.Values _ _ _ _ c.values_line.ensures c.add_line-7.ensures.fault c.add_line-7.ensures.has in
    tells_more doc _ _ _ _ _ (tells_more doc _ _ _ _ _ (tells_more doc _ _ _ _ _ (tells_more doc _ _ _ _ _ (tells_more doc _ _ _ _ _
    (tells_more doc _ _ _ _ _ covered signed) data_object) key) value) stamp) values
