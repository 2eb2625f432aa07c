-- Texts that words name may be written in attributes.
use Rattle.std.proofs.Common.{◌≡◌, ℕ, zero, suc, ◌<◌, Bool, true, false, ◌&&◌, ◌||◌, List, [], ◌∷◌, refl, arith}
use Rattle.std.specs.List.{list_all}
use Rattle.std.specs.Str.{IsAscii, chars}
use Rattle.std.proofs.lemmas.Str.{chars-IsAscii}
use Rattle.document_model.specs.Characters.{in_ranges}
use Rattle.insertion_fragments.specs.Fragment.{may_write}
use Rattle.word_patterns.specs.TextForms.{continues_id, is_signature_id, is_some_text, is_some_uri, is_uri, is_uri_character, starts_id}

both : (a b : Bool) → (a && b) ≡ true → (a ≡ true) × (b ≡ true)
both true b e = (refl, e)
both false b e = cc

-- each of the characters passes another test
all_pass : (one other : ℕ → Bool) → ((c : ℕ) → one c ≡ true → other c ≡ true) → (cs : List ℕ) → list_all one cs ≡ true → list_all other cs ≡ true
all_pass one other each [] e = refl
all_pass one other each (c ∷ cs) e = let b = both (one c) (list_all one cs) e in rw (each c b.0) (all_pass one other each cs b.1)

uri_character : (c : ℕ) → is_uri_character c ≡ true → may_write c ≡ true
uri_character c e = grind arith

begins : (c : ℕ) → starts_id c ≡ true → may_write c ≡ true
begins c e = grind arith

within : (c : ℕ) → in_ranges ((0x2D, 0x2E) ∷ (0x30, 0x39) ∷ []) c ≡ true → may_write c ≡ true
within c e = grind arith

one_of : (a b : Bool) (c : ℕ) → (a ≡ true → may_write c ≡ true) → (b ≡ true → may_write c ≡ true) → (a || b) ≡ true → may_write c ≡ true
one_of true b c first second e = first refl
one_of false b c first second e = second e

continues : (c : ℕ) → continues_id c ≡ true → may_write c ≡ true
continues c e = one_of (starts_id c) (in_ranges ((0x2D, 0x2E) ∷ (0x30, 0x39) ∷ []) c) c (begins c) (within c) e

-- identifiers
id_characters : (text : List ℕ) → is_signature_id text ≡ true → list_all may_write text ≡ true
id_characters [] e = cc
id_characters (c ∷ text) e =
    let front = both (starts_id c && list_all continues_id text) _ e in
    let two = both (starts_id c) (list_all continues_id text) front.0 in
    rw (begins c two.0) (all_pass continues_id may_write continues text two.1)

begins_ascii : (c : ℕ) → starts_id c ≡ true → c < 128
begins_ascii c e = grind arith

within_ascii : (c : ℕ) → in_ranges ((0x2D, 0x2E) ∷ (0x30, 0x39) ∷ []) c ≡ true → c < 128
within_ascii c e = grind arith

either_ascii : (a b : Bool) (c : ℕ) → (a ≡ true → c < 128) → (b ≡ true → c < 128) → (a || b) ≡ true → c < 128
either_ascii true b c first second e = first refl
either_ascii false b c first second e = second e

continues_ascii : (c : ℕ) → continues_id c ≡ true → c < 128
continues_ascii c e = either_ascii (starts_id c) (in_ranges ((0x2D, 0x2E) ∷ (0x30, 0x39) ∷ []) c) c (begins_ascii c) (within_ascii c) e

ascii_items : (test : ℕ → Bool) → ((c : ℕ) → test c ≡ true → c < 128) → (cs : List ℕ) → list_all test cs ≡ true → IsAscii cs
ascii_items test each [] e i = none
  where
    none : 0 < 128
    none = omega arith
ascii_items test each (c ∷ cs) e zero = each c (both (test c) (list_all test cs) e).0
ascii_items test each (c ∷ cs) e (suc i) = ascii_items test each cs (both (test c) (list_all test cs) e).1 i

id_ascii : (text : List ℕ) → is_signature_id text ≡ true → IsAscii text
id_ascii [] e = cc
id_ascii (c ∷ text) e =
    let front = both (starts_id c && list_all continues_id text) _ e in
    let two = both (starts_id c) (list_all continues_id text) front.0 in
    ascii_items continues_id continues_ascii (c ∷ text) (rw (continues_by (starts_id c) _ two.0) two.1)
  where
    continues_by : (a b : Bool) → a ≡ true → (a || b) ≡ true
    continues_by true b e = refl
    continues_by false b e = cc

pub id_writable : (id : List ℕ) → is_signature_id id ≡ true → list_all may_write (chars id) ≡ true
id_writable id e = rw (chars-IsAscii id (id_ascii id e)) (id_characters id e)

-- URIs
pub uri_writable : (uri : List ℕ) → is_uri uri ≡ true → list_all may_write (chars uri) ≡ true
uri_writable uri e = all_pass is_uri_character may_write uri_character (chars uri) (both _ (list_all is_uri_character (chars uri)) e).1

pub method_writable : (uri : List ℕ) → is_some_uri uri ≡ true → list_all may_write (chars uri) ≡ true
method_writable uri e = uri_writable uri (both (is_some_text uri) (is_uri uri) e).1
