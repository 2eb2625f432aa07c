-- The layouts of certificates and CRLs in the profile of this project: RFC 5280, 4.1, 4.2 and 5.1.
use Rattle.std.specs.Prelude.{ℕ}
use Rattle.der_values.specs.declared.oids.KnownOid.TheVariants as oids
use Rattle.der_values.specs.declared.rules.Rule.{Rule}
use Rattle.der_values.specs.declared.rules.Rule.TheVariants as rules
use Rattle.der_values.specs.declared.rules.Test.TheVariants as tests
use Rattle.der_values.specs.Layout.{Layout, nothing, both, element, unread, whole_element, many, told}

infixr 20 ◌⨾◌
abbrev pub ◌⨾◌ : Layout → Layout → Layout
front ⨾ back = both front back

-- an element that holds a layout, or meets a rule
abbrev pub holds : ℕ → Layout → Layout
holds tag inner = element tag rules.Any inner

abbrev pub is : ℕ → Rule → Layout
is tag rule = element tag rule unread

abbrev pub sequence : Layout → Layout
sequence inner = holds 0x30 inner

abbrev pub optional : ℕ → Layout → Layout
optional tag layout = told (tests.Tag tag) layout nothing

-- UTCTime or GeneralizedTime (4.1.2.5)
abbrev pub time : Layout
time = told (tests.Tag 0x17) (is 0x17 rules.Time) (is 0x18 rules.Time)

-- AlgorithmIdentifier (4.1.1.2): an OID, and parameters of any kind
abbrev pub in_algorithm : Layout
in_algorithm = is 0x06 rules.Oid ⨾ told tests.Comes whole_element nothing

abbrev pub algorithm : Layout
algorithm = sequence in_algorithm

-- What the value of a known extension holds (4.2.1.9, 4.2.1.3, 4.2.1.12)
abbrev pub basic_constraints : Layout
basic_constraints = sequence (optional 0x01 (is 0x01 rules.Boolean) ⨾ optional 0x02 (is 0x02 rules.Count))

abbrev pub purposes : Layout
purposes = sequence (many (is 0x06 rules.Oid))

abbrev pub extension_value : Layout
extension_value =
    told (tests.FirstIs oids.BasicConstraints) (holds 0x04 basic_constraints)
    (told (tests.FirstIs oids.KeyUsage) (holds 0x04 (is 0x03 rules.NamedBits))
    (told (tests.FirstIs oids.ExtKeyUsage) (holds 0x04 purposes) (holds 0x04 unread)))

-- Extensions (4.2), none twice
abbrev pub extensions : Layout → Layout
extensions value = sequence (many (element 0x30 rules.NotTwice (is 0x06 rules.Oid ⨾ optional 0x01 (is 0x01 rules.Boolean) ⨾ value)))

abbrev pub to_be_signed : Layout
to_be_signed =
    holds 0xA0 (is 0x02 (rules.Number 2)) ⨾ is 0x02 rules.Integer ⨾ algorithm
    ⨾ holds 0x30 unread ⨾ sequence (time ⨾ time) ⨾ holds 0x30 unread
    ⨾ sequence (algorithm ⨾ is 0x03 rules.BitString)
    ⨾ optional 0x81 (holds 0x81 unread) ⨾ optional 0x82 (holds 0x82 unread)
    ⨾ optional 0xA3 (holds 0xA3 (extensions extension_value))

-- The algorithm outside has the same bytes as the one inside, which is its third element.
abbrev pub certificate : Layout
certificate = sequence (sequence to_be_signed ⨾ element 0x30 (rules.SameAs 2) in_algorithm ⨾ is 0x03 rules.BitString)

abbrev pub revoked_entry : Layout
revoked_entry = sequence (is 0x02 rules.Integer ⨾ time ⨾ optional 0x30 (extensions (holds 0x04 unread)))

abbrev pub list_to_be_signed : Layout
list_to_be_signed =
    is 0x02 (rules.Number 1) ⨾ algorithm ⨾ holds 0x30 unread ⨾ time
    ⨾ told (tests.Tag 0x17) time (optional 0x18 time)
    ⨾ optional 0x30 (sequence (many revoked_entry))
    ⨾ optional 0xA0 (holds 0xA0 (extensions (holds 0x04 unread)))

abbrev pub revocation_list : Layout
revocation_list = sequence (sequence list_to_be_signed ⨾ element 0x30 (rules.SameAs 1) in_algorithm ⨾ is 0x03 rules.BitString)
