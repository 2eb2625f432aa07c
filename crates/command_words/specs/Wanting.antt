-- The files that words name, each with what it is for.
use Rattle.std.specs.Prelude.{ℕ, List}
use Rattle.whole_files.specs.Wants.{Want}
use Rattle.whole_files.specs.declared.role.Role.TheVariants.{Document, Policy, Certificate, External, More}

abbrev pub document_want : List ℕ → Want
document_want name = record { role = Document; name = name }

abbrev pub policy_want : List ℕ → Want
policy_want name = record { role = Policy; name = name }

abbrev pub certificate_want : List ℕ → Want
certificate_want name = record { role = Certificate; name = name }

abbrev pub more_want : List ℕ → Want
more_want name = record { role = More; name = name }

abbrev pub external_want : List ℕ → Want
external_want name = record { role = External; name = name }
