-- The files that a command wants, and the files that were read for it.
use Rattle.std.specs.Prelude.{◌≡◌, ℕ, ◌≤◌, List, [], ◌∷◌, length, Some, if◌then◌else◌}
use Rattle.xa_io.specs.Shelf.{Files}
use Rattle.whole_files.specs.declared.file.File.{File}
use Rattle.whole_files.specs.declared.file.Wanted.{Wanted}
use Rattle.whole_files.specs.declared.role.Role.{Role}
use Rattle.whole_files.specs.Roles.{limit_of, is_document, is_policy}

-- a file that is wanted: what it is for, and its name
pub record Want : Type 0 where
  pub role : Role
  pub name : List ℕ

abbrev pub want_of : Wanted → Want
want_of wanted = record { role = wanted.role; name = wanted.name.now }

-- a file that was read
pub record Held : Type 0 where
  pub role : Role
  pub name : List ℕ
  pub bytes : List ℕ

abbrev pub held_of : File → Held
held_of file = record { role = file.role; name = file.name.now; bytes = file.bytes }

-- the file was read for the want: it has its role and its name, and it isn't longer than it may be
pub record IsFor (want : Want) (file : Held) : Type 0 where
  pub role : file.role ≡ want.role
  pub name : file.name ≡ want.name
  pub within : length file.bytes ≤ limit_of want.role

-- one file for each want, in their order
abbrev pub AreFor : List Want → List Held → Type 0
AreFor [] [] = Unit {0}
AreFor [] (file ∷ files) = ⊥
AreFor (want ∷ wants) [] = ⊥
AreFor (want ∷ wants) (file ∷ files) = IsFor want file × AreFor wants files

-- and the shelf has them with these bytes
abbrev pub AreHeld : Files → List Want → List Held → Type 0
AreHeld shelf [] [] = Unit {0}
AreHeld shelf [] (file ∷ files) = ⊥
AreHeld shelf (want ∷ wants) [] = ⊥
AreHeld shelf (want ∷ wants) (file ∷ files) = (IsFor want file × (shelf want.name ≡ Some file.bytes)) × AreHeld shelf wants files

-- the bytes of the document
abbrev pub document_of : List Held → List ℕ
document_of [] = []
document_of (file ∷ files) = if is_document file.role then file.bytes else document_of files

-- the bytes of the policy
abbrev pub policy_of : List Held → List ℕ
policy_of [] = []
policy_of (file ∷ files) = if is_policy file.role then file.bytes else policy_of files

-- the names of files that are wanted
abbrev pub names_of : List Want → List (List ℕ)
names_of [] = []
names_of (want ∷ wants) = want.name ∷ names_of wants
