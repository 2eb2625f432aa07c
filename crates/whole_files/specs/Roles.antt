-- What the files of a command are for, and how many bytes each may have. The limits are this project's own.
use Rattle.std.specs.Prelude.{ℕ, Bool, true, false}
use Rattle.whole_files.specs.declared.role.Role.{Role}
use Rattle.whole_files.specs.declared.role.Role.TheVariants.{Document, Policy, Certificate, Value, Stamp, Data, Archive, External, More}

-- the most bytes of a file
abbrev pub limit_of : Role → ℕ
limit_of Document = 16777216
limit_of External = 33554432
limit_of Data = 4194304
limit_of More = 4194304
limit_of Policy = 1048576
limit_of Certificate = 1048576
limit_of Value = 1048576
limit_of Stamp = 1048576
limit_of Archive = 1048576

abbrev pub is_document : Role → Bool
is_document Document = true
is_document Policy = false
is_document Certificate = false
is_document Value = false
is_document Stamp = false
is_document Data = false
is_document Archive = false
is_document External = false
is_document More = false

abbrev pub is_policy : Role → Bool
is_policy Policy = true
is_policy Document = false
is_policy Certificate = false
is_policy Value = false
is_policy Stamp = false
is_policy Data = false
is_policy Archive = false
is_policy External = false
is_policy More = false

abbrev pub is_certificate : Role → Bool
is_certificate Certificate = true
is_certificate Document = false
is_certificate Policy = false
is_certificate Value = false
is_certificate Stamp = false
is_certificate Data = false
is_certificate Archive = false
is_certificate External = false
is_certificate More = false

abbrev pub is_external : Role → Bool
is_external External = true
is_external Document = false
is_external Policy = false
is_external Certificate = false
is_external Value = false
is_external Stamp = false
is_external Data = false
is_external Archive = false
is_external More = false
