-- The tests on an item that is to be attached to a document, in the order of their codes: XML Signature 1.1, "Core Validation"; EN 319 132-1,
-- clauses 5.3, 5.4 and 5.5; RFC 3161, section 2.4.2. Codes and their order are this project's own.
use Rattle.std.specs.Prelude.{ℕ, ℤ, Bool, not, ◌||◌, nat_lt, List, [], ◌∷◌, Option, None, Some}
use Rattle.archive_octets.specs.Kinds.{kind_in}
use Rattle.archive_octets.specs.declared.kinds.StampKind.{StampKind}
use Rattle.archive_octets.specs.declared.kinds.StampKind.TheVariants as stamps
use Rattle.completeness.specs.Complete.{IsFirstIncomplete}
use Rattle.completeness.specs.Signers.{signers}
use Rattle.document_model.specs.Characters.{is_empty}
use Rattle.document_model.specs.Documents.{document_of}
use Rattle.document_model.specs.Tree.{Nodes}
use Rattle.item_contents.specs.Materials.{IsBadAt, IsMaterialOf, certificates_in, lists_in}
use Rattle.policy_rules.specs.Rules.{Rules}
use Rattle.qualifying_props.specs.Whole.{is_whole}
use Rattle.signature_checks.specs.Codes.{first_code}
use Rattle.signature_checks.specs.Opening.{signature_code, unsigned_test}
use Rattle.signature_checks.specs.Validity.{validity_tests}
use Rattle.signature_checks.specs.declared.codes.Code.{Code}
use Rattle.signature_checks.specs.declared.codes.Code.TheVariants as codes
use Rattle.signature_evidence.specs.Pools.{pool_of}
use Rattle.signature_model.specs.Chains.{Handed, when}
use Rattle.signature_model.specs.Fragments as model
use Rattle.signature_model.specs.Fragments.{bytes_with_item}
use Rattle.signature_model.specs.Octets.{next_octets}
use Rattle.signature_model.specs.Parts.{is_signed, value_octets}
use Rattle.signature_model.specs.Readable as read
use Rattle.signature_model.specs.Readable.{Answer, Read, answer}
use Rattle.signature_model.specs.Spots.{Spot}
use Rattle.signature_objects.specs.Held.{objects}
use Rattle.signature_objects.specs.Objects.{limited, most_objects}
use Rattle.stamp_checks.specs.Faults.{IsTaken, StandsAgainst, order_fault}
use Rattle.stamp_checks.specs.Laws.{IsOfOctets}
use Rattle.stamp_checks.specs.Orders.{has_stamp}
use Rattle.stamp_checks.specs.declared.faults.OrderFault.TheVariants as orders
use Rattle.stamp_checks.specs.declared.faults.StampFault.{StampFault}
use Rattle.stamp_checks.specs.declared.faults.StampFault.TheVariants as faults
use Rattle.augmenter.specs.Findings.{exactly, first_of, tested}
use Rattle.augmenter.specs.Preparing.{is_too_large}
use Rattle.augmenter.specs.declared.items.Item.{Item}
use Rattle.augmenter.specs.declared.items.ItemKind.{ItemKind}
use Rattle.augmenter.specs.declared.items.ItemKind.TheVariants.{Value, Stamp, Material, Archive}

-- what an item puts in: validation data the certificates and the revocation lists that its octets are
abbrev pub put_by : ItemKind → List ℕ → model.Item
put_by Value octets = model.Value octets
put_by Stamp octets = model.Stamp octets
put_by Material octets = model.Data (certificates_in octets) (lists_in octets)
put_by Archive octets = model.Archive octets

abbrev pub item_in : Item → model.Item
item_in item = put_by item.kind item.bytes

-- A13 to A19: the tests on a signature that is to get its value, and on one that has a value
abbrev pub value_tests : Rules → Handed → Nodes → Spot → List ℕ → List (Option Code)
value_tests rules handed document signature octets = unsigned_test document signature ∷ validity_tests rules handed document signature octets

abbrev pub signed_test : Nodes → Spot → Option Code
signed_test document signature = when (not (is_signed document signature)) codes.NotSigned

abbrev pub signed_tests : Rules → Handed → Nodes → Spot → List (Option Code)
signed_tests rules handed document signature = signed_test document signature ∷ validity_tests rules handed document signature (value_octets document signature)

abbrev pub signature_tests : ItemKind → List ℕ → Rules → Handed → Nodes → Spot → List (Option Code)
signature_tests Value octets = λ rules handed document signature. value_tests rules handed document signature octets
signature_tests Stamp octets = signed_tests
signature_tests Material octets = signed_tests
signature_tests Archive octets = signed_tests

-- the code for what stands against a time-stamp
abbrev pub stamp_code : StampFault → Code
stamp_code (faults.Token fault) = codes.Token fault
stamp_code (faults.Order (orders.FromFuture time moment)) = codes.FromFuture time moment
stamp_code (faults.Order (orders.TimeOrder time earlier)) = codes.TimeOrder time earlier
stamp_code (faults.Order orders.AfterArchive) = codes.AfterArchive
stamp_code (faults.Order orders.NotStamped) = codes.NotStamped

-- A20 to A24: the octets are one token that is sound over what the next time-stamp of the kind covers, and nothing else stands against it; want
-- of memory is no fault
abbrev pub stamp_test : StampKind → Handed → ℤ → Nodes → Spot → List ℕ → Option Code → Type 0
stamp_test kind handed moment document signature octets =
    let covered = next_octets (kind_in kind) handed document signature in
    let besides = order_fault kind moment document signature octets in
    tested (IsTaken covered octets besides) stamp_code (λ fault. IsOfOctets fault × StandsAgainst covered octets besides fault)

-- A24 to A26: the signature has a time-stamp on the signature; the octets are whole certificates and revocation lists one after another; there
-- are some
abbrev pub stamped_test : Nodes → Spot → Option Code
stamped_test document signature = when (not (has_stamp stamps.Signature document signature)) codes.NotStamped

abbrev pub IsMaterial : List ℕ → Type 0
IsMaterial octets = IsMaterialOf octets (certificates_in octets) (lists_in octets)

abbrev pub shape_test : List ℕ → Option Code → Type 0
shape_test octets = tested (IsMaterial octets) codes.MaterialShape (IsBadAt octets)

abbrev pub material_test : Nodes → Spot → List ℕ → Option Code → Type 0
material_test document signature octets =
    first_of (exactly (stamped_test document signature)) (first_of (shape_test octets) (exactly (when (is_empty octets) codes.MaterialEmpty)))

-- A27: by the certificates and lists that the signature has, a walk to an anchor is complete from the signing certificate, which has the number 0,
-- and from each time-stamp's signer, counted from 1
abbrev pub complete_test : Rules → Nodes → Spot → Option Code → Type 0
complete_test rules document signature =
    let IsFirst : Option ℕ → Type 0 = IsFirstIncomplete (pool_of (objects document signature [])) rules (signers document signature) in
    tested (IsFirst None) codes.NotComplete (λ number. IsFirst (Some number))

-- A20 to A27: the tests on the octets of an item
abbrev pub octets_test : ItemKind → List ℕ → Rules → Handed → ℤ → Nodes → Spot → Option Code → Type 0
octets_test Value octets rules handed moment document signature = exactly None
octets_test Stamp octets rules handed moment document signature = stamp_test stamps.Signature handed moment document signature octets
octets_test Material octets rules handed moment document signature = material_test document signature octets
octets_test Archive octets rules handed moment document signature =
    first_of (stamp_test stamps.Archive handed moment document signature octets) (complete_test rules document signature)

-- A28: a new document passes a limit on bytes, depth or nodes, or its signature has too many certificates, revocation lists and tokens
abbrev pub passes_any_limit : List ℕ → Spot → Bool
passes_any_limit new signature = is_too_large new || nat_lt most_objects (limited (objects (document_of new) signature []))

abbrev pub size_test : List ℕ → Spot → Option Code
size_test new signature = when (passes_any_limit new signature) codes.TooLarge

-- the tests on an item and the signature that is to get it, of a document in some bytes, until it is put in
abbrev pub item_test : Rules → Handed → ℤ → Item → Nodes → Spot → Option Code → Type 0
item_test rules handed moment item document signature =
    first_of (exactly (first_code (signature_tests item.kind item.bytes rules handed document signature))) (octets_test item.kind item.bytes rules handed moment document signature)

-- A1 to A12: the code of what stands against the signature of a document in some bytes
abbrev pub opening_code : Handed → List ℕ → Option Code
opening_code handed bytes = signature_code handed bytes (document_of bytes) (λ signature. [])

-- what is found of the signature that is read, where one is
abbrev pub of_read : (Spot → Option Code → Type 0) → Answer → Option Code → Type 0
of_read find read.NoSignature = exactly None
of_read find read.Several = exactly None
of_read find (read.Shape path line) = exactly None
of_read find (read.Include path) = exactly None
of_read find (read.PropertyData path) = exactly None
of_read find (Read signature) = find signature

-- The code of the first test that stands against an item for a document in some bytes, at a moment in seconds since 1970; none where no test
-- does.
abbrev pub IsItemCode : Rules → Handed → ℤ → Item → List ℕ → Option Code → Type 0
IsItemCode rules handed moment item bytes =
    let document = document_of bytes in
    first_of (exactly (opening_code handed bytes)) (of_read (λ signature.
    first_of (item_test rules handed moment item document signature) (exactly (size_test (bytes_with_item document signature (item_in item) bytes) signature)))
    (answer is_whole document))

-- what is done with the signature that is read, where one is
abbrev pub by_signature : (Spot → List ℕ) → List ℕ → Answer → List ℕ
by_signature give bytes read.NoSignature = bytes
by_signature give bytes read.Several = bytes
by_signature give bytes (read.Shape path line) = bytes
by_signature give bytes (read.Include path) = bytes
by_signature give bytes (read.PropertyData path) = bytes
by_signature give bytes (Read signature) = give signature

-- the bytes with the item put into the signature that is read of them
abbrev pub with_one : Item → List ℕ → List ℕ
with_one item bytes = by_signature (λ signature. bytes_with_item (document_of bytes) signature (item_in item) bytes) bytes (answer is_whole (document_of bytes))
