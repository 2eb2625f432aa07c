-- The lines of a signature's shape together.
use Rattle.std.specs.Prelude.{◌++◌, List}
use Rattle.document_model.specs.Tree.{Nodes}
use Rattle.signature_model.specs.Faults.{ShapeFault, of_line}
use Rattle.signature_model.specs.Faults as words
use Rattle.signature_model.specs.Shape.{parts_line, info_line, form_line, method_line, reference_line, qualifying_line, properties_line, covered_line, signed_line, data_object_line, key_line, value_line, stamp_line, values_line}
use Rattle.signature_model.specs.Spots.{Spot}

-- the lines on the parts of a signature and on where its properties stand, in their order
abbrev pub outer_lines : Nodes → Spot → List ShapeFault
outer_lines document signature =
    of_line words.Parts (parts_line document signature)
    ++ of_line words.Info (info_line document signature)
    ++ of_line words.Form (form_line document signature)
    ++ of_line words.Method (method_line document signature)
    ++ of_line words.Reference (reference_line document signature)
    ++ of_line words.Qualifying (qualifying_line document signature)
    ++ of_line words.Properties (properties_line document signature)

-- the lines on what the properties, the key, the value and the time-stamps hold, in their order
abbrev pub inner_lines : Nodes → Spot → List ShapeFault
inner_lines document signature =
    of_line words.Covered (covered_line document signature)
    ++ of_line words.Signed (signed_line document signature)
    ++ of_line words.DataObject (data_object_line document signature)
    ++ of_line words.Key (key_line document signature)
    ++ of_line words.Value (value_line document signature)
    ++ of_line words.Stamp (stamp_line document signature)
    ++ of_line words.Values (values_line document signature)
