-- What a fault in memory means.
use Rattle.std.specs.Prelude.{◌≡◌, List, Option, Some, None, option_map, IfSome}
use Rattle.document_model.specs.Tree.{Path}
use Rattle.doc_spans.specs.declared.documents.Doc.{Doc}
use Rattle.doc_spans.specs.Seen.{Has, path_in}
use Rattle.signature_model.specs.Faults as words
use Rattle.signature_shape.specs.declared.faults.Faults.{Faults}
use Rattle.signature_shape.specs.declared.faults.ShapeFault.{ShapeFault}
use Rattle.signature_shape.specs.declared.what.What.{What}
use Rattle.signature_shape.specs.declared.what.What.TheVariants as lines

abbrev pub what_in : What → words.What
what_in lines.Parts = words.Parts
what_in lines.Info = words.Info
what_in lines.Form = words.Form
what_in lines.Method = words.Method
what_in lines.Reference = words.Reference
what_in lines.Qualifying = words.Qualifying
what_in lines.Properties = words.Properties
what_in lines.Covered = words.Covered
what_in lines.Signed = words.Signed
what_in lines.DataObject = words.DataObject
what_in lines.Key = words.Key
what_in lines.Value = words.Value
what_in lines.Stamp = words.Stamp
what_in lines.Values = words.Values

abbrev pub fault_at : Doc → ShapeFault → words.ShapeFault
fault_at doc fault = record { what = what_in fault.what; place = path_in doc fault.node }

abbrev pub fault_in : Doc → Option ShapeFault → Option words.ShapeFault
fault_in doc fault = option_map (fault_at doc) fault

-- the fault's element is a node of the document, if there is one
abbrev pub HasFault : Doc → Option ShapeFault → Type 0
HasFault doc fault = IfSome fault (λ f. Has doc f.node)

-- the first fault with those of one more line, by the first place that the line gives
abbrev pub with_line : words.What → Option Path → Option words.ShapeFault → Option words.ShapeFault
with_line what None kept = kept
with_line what (Some place) kept = words.with_fault (record { what = what; place = place }) kept

-- after the faults of some lines were added to those before
pub record Tells (doc : Doc) (faults : List words.ShapeFault) (before now : Faults) : Type 0 where
  pub fault : fault_in doc now.first ≡ words.with_faults faults (fault_in doc before.first)
  pub has : HasFault doc now.first
