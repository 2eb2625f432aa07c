-- Texts that are base64, with their octets, and texts that are not, with the place of their fault.
use Rattle.std.specs.Prelude.{◌≡◌, refl, Some, None, [], ◌∷◌, codes}
use Rattle.std.specs.Str.{is_utf8, chars}
use Rattle.std.specs.Char.{encode_utf8}
use Rattle.base64.proofs.OnLiterals.{base64_on_literals}
use Rattle.signature_model.specs.Base64.{strict, fault_in}

empty_text : strict (codes "") ≡ Some ([])
unfolding is_utf8 chars encode_utf8 base64_on_literals
empty_text = refl

padded_by_one : strict (codes "aGVsbG8=") ≡ Some (104 ∷ 101 ∷ 108 ∷ 108 ∷ 111 ∷ [])
unfolding is_utf8 chars encode_utf8 base64_on_literals
padded_by_one = refl

star_in_a_group : (strict (codes "aGV*bG8=") ≡ None) × (fault_in (codes "aGV*bG8=") ≡ 3)
unfolding is_utf8 chars encode_utf8 base64_on_literals
star_in_a_group = (refl, refl)

cut_group : (strict (codes "aGVsbG8") ≡ None) × (fault_in (codes "aGVsbG8") ≡ 7)
unfolding is_utf8 chars encode_utf8 base64_on_literals
cut_group = (refl, refl)

star_in_front : (strict (codes "*AAA*") ≡ None) × (fault_in (codes "*AAA*") ≡ 0)
unfolding is_utf8 chars encode_utf8 base64_on_literals
star_in_front = (refl, refl)

loose_bits_behind_a_group : (strict (codes "aGVsbG9=") ≡ None) × (fault_in (codes "aGVsbG9=") ≡ 7)
unfolding is_utf8 chars encode_utf8 base64_on_literals
loose_bits_behind_a_group = (refl, refl)

symbols_behind_the_padding : (strict (codes "aGVsbG8=aGVs") ≡ None) × (fault_in (codes "aGVsbG8=aGVs") ≡ 8)
unfolding is_utf8 chars encode_utf8 base64_on_literals
symbols_behind_the_padding = (refl, refl)

one_symbol : (strict (codes "A") ≡ None) × (fault_in (codes "A") ≡ 1)
unfolding is_utf8 chars encode_utf8 base64_on_literals
one_symbol = (refl, refl)

one_symbol_padded : (strict (codes "A=") ≡ None) × (fault_in (codes "A=") ≡ 1)
unfolding is_utf8 chars encode_utf8 base64_on_literals
one_symbol_padded = (refl, refl)

two_symbols_padded_once : (strict (codes "AA=") ≡ None) × (fault_in (codes "AA=") ≡ 3)
unfolding is_utf8 chars encode_utf8 base64_on_literals
two_symbols_padded_once = (refl, refl)

padded_by_two : strict (codes "AA==") ≡ Some (0 ∷ [])
unfolding is_utf8 chars encode_utf8 base64_on_literals
padded_by_two = refl

loose_bits_before_two_pads : (strict (codes "AB==") ≡ None) × (fault_in (codes "AB==") ≡ 2)
unfolding is_utf8 chars encode_utf8 base64_on_literals
loose_bits_before_two_pads = (refl, refl)

two_octets : strict (codes "AAA=") ≡ Some (0 ∷ 0 ∷ [])
unfolding is_utf8 chars encode_utf8 base64_on_literals
two_octets = refl

loose_bits_before_one_pad : (strict (codes "AAB=") ≡ None) × (fault_in (codes "AAB=") ≡ 3)
unfolding is_utf8 chars encode_utf8 base64_on_literals
loose_bits_before_one_pad = (refl, refl)

symbol_behind_a_pad : (strict (codes "AA=A") ≡ None) × (fault_in (codes "AA=A") ≡ 3)
unfolding is_utf8 chars encode_utf8 base64_on_literals
symbol_behind_a_pad = (refl, refl)

pad_behind_a_whole_group : (strict (codes "AAAA=") ≡ None) × (fault_in (codes "AAAA=") ≡ 4)
unfolding is_utf8 chars encode_utf8 base64_on_literals
pad_behind_a_whole_group = (refl, refl)

pads_alone : (strict (codes "====") ≡ None) × (fault_in (codes "====") ≡ 0)
unfolding is_utf8 chars encode_utf8 base64_on_literals
pads_alone = (refl, refl)

symbol_behind_a_group : (strict (codes "AAAAA") ≡ None) × (fault_in (codes "AAAAA") ≡ 5)
unfolding is_utf8 chars encode_utf8 base64_on_literals
symbol_behind_a_group = (refl, refl)

star_behind_a_group : (strict (codes "AAAA*") ≡ None) × (fault_in (codes "AAAA*") ≡ 4)
unfolding is_utf8 chars encode_utf8 base64_on_literals
star_behind_a_group = (refl, refl)

character_past_ascii : (strict (codes "AAé") ≡ None) × (fault_in (codes "AAé") ≡ 2)
unfolding is_utf8 chars encode_utf8 base64_on_literals
character_past_ascii = (refl, refl)
