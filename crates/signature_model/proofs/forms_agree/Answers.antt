use Rattle.signature_model.proofs.FormsAgree.{forms_agree}
use Rattle.signature_model.proofs.forms_agree.Goals as goal

pub returns : goal.returns
returns c = forms_agree
