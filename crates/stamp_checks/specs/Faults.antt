-- What stands against a sound token as the next time-stamp of a signature, in the order in which it is asked: its time (RFC 3161, section
-- 2.4.2) and the time-stamps that the signature has (EN 319 132-1, clauses 5.3 and 5.5.2).
use Rattle.std.specs.Prelude.{◌≡◌, ℕ, ℤ, List, Option, Some, None, if◌then◌else◌, option_map}
use Rattle.std.specs.Option.{option_or}
use Rattle.archive_octets.specs.declared.kinds.StampKind.{StampKind}
use Rattle.archive_octets.specs.declared.kinds.StampKind.TheVariants.{Signature, Archive}
use Rattle.document_model.specs.Tree.{Nodes}
use Rattle.signature_model.specs.Spots.{Spot}
use Rattle.stamp_checks.specs.declared.faults.OrderFault.{OrderFault}
use Rattle.stamp_checks.specs.declared.faults.OrderFault.TheVariants.{FromFuture, TimeOrder, AfterArchive, NotStamped}
use Rattle.stamp_checks.specs.declared.faults.StampFault.{StampFault}
use Rattle.stamp_checks.specs.declared.faults.StampFault.TheVariants as faults
use Rattle.stamp_checks.specs.Orders.{has_stamp}
use Rattle.stamp_checks.specs.Sound.{IsFirstOver, IsStampOver}
use Rattle.stamp_checks.specs.Times.{after_moment, later_time}
use Rattle.tst_tokens.specs.Tokens.{gen_time}

-- its time is after a moment
abbrev pub from_future : ℤ → List ℕ → Option OrderFault
from_future moment token = option_map (λ time. FromFuture time moment) (after_moment moment token)

-- a time-stamp of the signature has a later time
abbrev pub out_of_order : Nodes → Spot → List ℕ → Option OrderFault
out_of_order document signature token = option_map (λ earlier. TimeOrder (gen_time token) earlier) (later_time (gen_time token) document signature)

-- there is a time-stamp on the archive, and there is none on the signature
abbrev pub after_archive : Nodes → Spot → Option OrderFault
after_archive document signature = if has_stamp Archive document signature then Some AfterArchive else None

abbrev pub not_stamped : Nodes → Spot → Option OrderFault
not_stamped document signature = if has_stamp Signature document signature then None else Some NotStamped

abbrev pub order_fault : StampKind → ℤ → Nodes → Spot → List ℕ → Option OrderFault
order_fault Signature moment document signature token = option_or (from_future moment token) (after_archive document signature)
order_fault Archive moment document signature token =
    option_or (from_future moment token) (option_or (out_of_order document signature token) (not_stamped document signature))

-- the token is one that is sound over what is covered, and nothing else stands against it
abbrev pub IsTaken : (covered token : List ℕ) → Option OrderFault → Type 0
IsTaken covered token besides = IsStampOver covered token × (besides ≡ None)

-- what first stands against it
abbrev pub StandsAgainst : (covered token : List ℕ) → Option OrderFault → StampFault → Type 0
StandsAgainst covered token besides (faults.Token fault) = IsFirstOver covered token fault
StandsAgainst covered token besides (faults.Order fault) = IsStampOver covered token × (besides ≡ Some fault)
