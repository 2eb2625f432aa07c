-- Files that were read for wants, and files that are held.
use Rattle.std.proofs.Common.{◌≡◌, ℕ, ◌≤◌, List, [], ◌∷◌, length, refl, sym, ap, ◌∙◌, subst, arith, inl, inr}
use Rattle.std.specs.Prelude.{Bool, true, false, Some, None, if◌then◌else◌}
use Rattle.xa_io.specs.Shelf.{Files, contents}
use Rattle.whole_files.specs.Faults.{IsFirstFault}
use Rattle.whole_files.specs.Roles.{limit_of, is_document, is_external}
use Rattle.whole_files.specs.Wants.{Want, Held, AreFor, AreHeld, document_of}
use Rattle.whole_files.specs.declared.fault.FileFault.TheVariants.{NoSuch, TooLong}
use Rattle.whole_files.specs.declared.role.Role.{Role}
use Rattle.whole_files.specs.declared.role.Role.TheVariants.{Document, Policy, Certificate, Value, Stamp, Data, Archive, External, More}

document_limit : (role : Role) → is_document role ≡ true → limit_of role ≡ 16777216
document_limit Document is = refl
document_limit Policy is = cc
document_limit Certificate is = cc
document_limit Value is = cc
document_limit Stamp is = cc
document_limit Data is = cc
document_limit Archive is = cc
document_limit External is = cc
document_limit More is = cc

small_by : (is : Bool) (bytes others : List ℕ) → (is ≡ true → length bytes ≤ 16777216) → length others ≤ 16777216 → length (if is then bytes else others) ≤ 16777216
small_by true bytes others first later = first refl
small_by false bytes others first later = later

-- the document that was read isn't longer than a document may be
pub small_document : (wants : List Want) (files : List Held) → AreFor wants files → length (document_of files) ≤ 16777216
small_document [] [] read = omega arith
small_document [] (file ∷ files) read = absurd read
small_document (want ∷ wants) [] read = absurd read
small_document (want ∷ wants) (file ∷ files) (this, later) =
    small_by (is_document file.role) file.bytes (document_of files)
    (λ is. let limit : limit_of want.role ≡ 16777216 = ap limit_of (sym this.role) ∙ document_limit file.role is in subst (λ n. length file.bytes ≤ n) limit this.within)
    (small_document wants files later)

-- files that are held were read for the wants
pub read_of_held : (shelf : Files) (wants : List Want) (files : List Held) → AreHeld shelf wants files → AreFor wants files
read_of_held shelf [] [] held = tt
read_of_held shelf [] (file ∷ files) held = absurd held
read_of_held shelf (want ∷ wants) [] held = absurd held
read_of_held shelf (want ∷ wants) (file ∷ files) (this, later) = (this.0, read_of_held shelf wants files later)

some_same : {A : Type 0} (x y : A) → Some x ≡ Some y → x ≡ y
some_same x y e = cc

file_same : (one two : Held) → one.role ≡ two.role → one.name ≡ two.name → one.bytes ≡ two.bytes → one ≡ two
file_same one two role name bytes = rw (role, name, bytes) refl

-- and they are the only ones
pub held_once : (shelf : Files) (wants : List Want) (one two : List Held) → AreHeld shelf wants one → AreHeld shelf wants two → one ≡ two
held_once shelf [] [] [] held again = refl
held_once shelf [] [] (file ∷ files) held again = absurd again
held_once shelf [] (file ∷ files) two held again = absurd held
held_once shelf (want ∷ wants) [] two held again = absurd held
held_once shelf (want ∷ wants) (file ∷ files) [] held again = absurd again
held_once shelf (want ∷ wants) (file ∷ files) (other ∷ others) (this, later) (that, thereafter) =
    ap (λ first. first ∷ files) (file_same file other (this.0.role ∙ sym that.0.role) (this.0.name ∙ sym that.0.name) (some_same file.bytes other.bytes (sym this.1 ∙ that.1)))
    ∙ ap (λ rest. other ∷ rest) (held_once shelf wants files others later thereafter)

-- where all files are held, none is missing
pub none_missing : (shelf : Files) (wants : List Want) (files : List Held) (name : List ℕ) → AreHeld shelf wants files → IsFirstFault shelf wants name NoSuch → ⊥
none_missing shelf [] files name held fault = absurd fault
none_missing shelf (want ∷ wants) [] name held fault = absurd held
none_missing shelf (want ∷ wants) (file ∷ files) name (this, later) (inl (named, missing)) = let e : Some file.bytes ≡ None = sym this.1 ∙ missing in cc
none_missing shelf (want ∷ wants) (file ∷ files) name (this, later) (inr (whole, fault)) = none_missing shelf wants files name later fault

-- and none is too long
pub none_too_long : (shelf : Files) (wants : List Want) (files : List Held) (name : List ℕ) (got : ℕ) → AreHeld shelf wants files → IsFirstFault shelf wants name (TooLong got) → ⊥
none_too_long shelf [] files name got held fault = absurd fault
none_too_long shelf (want ∷ wants) [] name got held fault = absurd held
none_too_long shelf (want ∷ wants) (file ∷ files) name got (this, later) (inl (named, (above, within))) =
    let size : length (contents shelf want.name) ≡ length file.bytes = rw this.1 refl in
    let small = this.0.within in
    omega arith
none_too_long shelf (want ∷ wants) (file ∷ files) name got (this, later) (inr (whole, fault)) = none_too_long shelf wants files name got later fault

-- the limit of a file whose octets are handed in for a Reference
pub external_limit : (role : Role) → is_external role ≡ true → limit_of role ≡ 33554432
external_limit External is = refl
external_limit Document is = cc
external_limit Policy is = cc
external_limit Certificate is = cc
external_limit Value is = cc
external_limit Stamp is = cc
external_limit Data is = cc
external_limit Archive is = cc
external_limit More is = cc
