-- What a form in memory means.
use Rattle.canon_methods.specs.declared.forms.Form as code
use Rattle.canon_methods.specs.declared.forms.Form.TheVariants as forms
use Rattle.document_model.specs.Canonical.{Form}
use Rattle.document_model.specs.Canonical as canonical
use Rattle.canon_methods.specs.Rules.{prefixes_in}

abbrev pub form_in : code.Form → Form
form_in (forms.Inclusive comments) = record { rule = canonical.Inclusive; comments = comments }
form_in (forms.Exclusive comments prefixes) = record { rule = canonical.Exclusive (prefixes_in prefixes); comments = comments }
