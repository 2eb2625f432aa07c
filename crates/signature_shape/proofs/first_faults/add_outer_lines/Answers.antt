use Rattle.signature_model.specs.Faults as words
use Rattle.signature_shape.proofs.LineFaults.{tells_line, tells_more}
use Rattle.signature_shape.proofs.first_faults.add_outer_lines.Goals as goal

pub returns : goal.returns
returns c =
    let doc = c.args.doc in
    let parts = tells_line doc words.Parts _ _ _ _ c.parts_line.ensures c.add_line.ensures.fault c.add_line.ensures.has in
    let info = tells_line doc words.Info _ _ _ _ c.info_line.ensures c.add_line-2.ensures.fault c.add_line-2.ensures.has in
    let form = tells_line doc words.Form _ _ _ _ c.form_line.ensures c.add_line-3.ensures.fault c.add_line-3.ensures.has in
    let method = tells_line doc words.Method _ _ _ _ c.method_line.ensures c.add_line-4.ensures.fault c.add_line-4.ensures.has in
    let reference = tells_line doc words.Reference _ _ _ _ c.reference_line.ensures c.add_line-5.ensures.fault c.add_line-5.ensures.has in
    let qualifying = tells_line doc words.Qualifying _ _ _ _ c.qualifying_line.ensures c.add_line-6.ensures.fault c.add_line-6.ensures.has in
    let properties = tells_line doc words.Properties _ _ _ _ c.properties_line.ensures c.add_line-7.ensures.fault c.add_line-7.ensures.has in
    tells_more doc _ _ _ _ _ (tells_more doc _ _ _ _ _ (tells_more doc _ _ _ _ _ (tells_more doc _ _ _ _ _ (tells_more doc _ _ _ _ _
    (tells_more doc _ _ _ _ _ parts info) form) method) reference) qualifying) properties
