-- Names are the same where their texts are.
use Rattle.std.proofs.Common.{◌≡◌, ℕ, Bool, true, false, ◌&&◌, ◌==◌, cond, List, [], ◌∷◌, ◌++◌, Option, Some, None, is_some, unwrap_or, refl, sym, ◌∙◌, ap}
use Rattle.std.proofs.lemmas.Option.{none-some}
use Rattle.std.proofs.lemmas.Bool.{and_parts, eqb-true, false≢true}
use Rattle.std.proofs.lemmas.List.{append-nil}
use Rattle.std.proofs.lemmas.Str.{encodes-chars}
use Rattle.std.specs.Prelude.{encode_utf8_all}
use Rattle.std.specs.Str.{chars, bytes_eq, IsUtf8}
use Rattle.std.specs.Cmp.Lexicographic.{same_text}
use Rattle.document_model.specs.Characters.{span}
use Rattle.document_model.specs.Names.{Name, name_of, joined_name, is_not_colon, is_plain_name, spelled, same_name}
use Rattle.document_model.proofs.Joins.{some_same}
use Rattle.xml_items.specs.Found.{name_in, no_name, IsNameText}
use Rattle.xml_items.proofs.AsciiTexts.{same_bool, same_from}

-- a text and its two parts before and from the first colon on
pub record IsCut (text front behind : List ℕ) : Type 0 where
  pub joined : front ++ behind ≡ text
  pub colon : (c : ℕ) (rest : List ℕ) → behind ≡ c ∷ rest → c ≡ 0x3A

pub cut_text : (text : List ℕ) → IsCut text (span is_not_colon text).0 (span is_not_colon text).1
cut_text [] = record { joined = refl; colon = λ c rest e. (cc) }
cut_text (c ∷ text) = go (cut_text text) (c == 0x3A) refl
  where
    go : IsCut text (span is_not_colon text).0 (span is_not_colon text).1 → (b : Bool) → (c == 0x3A) ≡ b → IsCut (c ∷ text) (span is_not_colon (c ∷ text)).0 (span is_not_colon (c ∷ text)).1
    go old true e = rw e (record { joined = refl; colon = λ d rest f. (let g : c ≡ d = cc in sym g ∙ eqb-true c 0x3A e) })
    go old false e = rw e (record { joined = ap (λ x. c ∷ x) old.joined; colon = old.colon })

name_cut : (text front behind : List ℕ) (n : Name) → IsCut text front behind → joined_name front behind ≡ Some n → spelled n ≡ text
name_cut text front [] n cut e = one (is_plain_name front) e
  where
    one : (b : Bool) → cond b (Some (record { prefix = []; local = front })) None ≡ Some n → spelled n ≡ text
    one true e = sym (ap spelled (some_same _ n e)) ∙ sym (append-nil front) ∙ cut.joined
    one false e = absurd (none-some n e)
name_cut text [] (colon ∷ behind) n cut e = absurd (none-some n e)
name_cut text (c ∷ front) (colon ∷ behind) n cut e = two (is_plain_name (c ∷ front) && is_plain_name behind) e
  where
    two : (b : Bool) → cond b (Some (record { prefix = c ∷ front; local = behind })) None ≡ Some n → spelled n ≡ text
    two true e = sym (ap spelled (some_same _ n e)) ∙ ap (λ x. (c ∷ front) ++ (x ∷ behind)) (sym (cut.colon colon behind refl)) ∙ cut.joined
    two false e = absurd (none-some n e)

-- a name spells its text
pub spells : (text : List ℕ) → is_some (name_of text) ≡ true → spelled (name_in text) ≡ text
spells text h = go (name_of text) refl h
  where
    go : (o : Option Name) → name_of text ≡ o → is_some o ≡ true → spelled (name_in text) ≡ text
    go None e h = absurd (false≢true h)
    go (Some n) e h = ap (λ o. spelled (unwrap_or o no_name)) e ∙ name_cut text (span is_not_colon text).0 (span is_not_colon text).1 n (cut_text text) e

both_same : (n m : Name) → same_name n m ≡ true → n ≡ m
both_same n m h =
    let both = and_parts (bytes_eq n.prefix m.prefix) (bytes_eq n.local m.local) h in
    let p : n.prefix ≡ m.prefix = same_text n.prefix m.prefix (sym both.0) in
    let l : n.local ≡ m.local = same_text n.local m.local (sym both.1) in
    (λ i. record { prefix = p i; local = l i })

pub itself : (n : Name) → same_name n n ≡ true
itself n = (λ i. same_from n.prefix n.prefix refl i && bytes_eq n.local n.local) ∙ same_from n.local n.local refl

pub names_same : (a b : List ℕ) → IsUtf8 a → IsUtf8 b → IsNameText a → IsNameText b → bytes_eq a b ≡ same_name (name_in (chars a)) (name_in (chars b))
names_same a b u v h k = same_bool _ _
    (λ e. sym (ap (λ x. same_name (name_in (chars a)) (name_in (chars x))) (same_text a b (sym e))) ∙ itself (name_in (chars a)))
    (λ e. let same : chars a ≡ chars b = sym (spells (chars a) h) ∙ ap spelled (both_same (name_in (chars a)) (name_in (chars b)) e) ∙ spells (chars b) k in
    same_from a b (sym (encodes-chars a u) ∙ ap encode_utf8_all same ∙ encodes-chars b v))

-- The parts of a name.

pub name_alone : (text front behind : List ℕ) → span is_not_colon text ≡ (front, behind) → behind ≡ [] → is_some (name_of text) ≡ true → name_in text ≡ record { prefix = []; local = front }
name_alone text front behind e f h = rw (e, f) (one (is_plain_name front) (rw (e, f) at h))
  where
    one : (b : Bool) → is_some {T = Name} (cond b (Some (record { prefix = []; local = front })) None) ≡ true → unwrap_or (cond b (Some (record { prefix = []; local = front })) None) no_name ≡ record { prefix = []; local = front }
    one true h = refl
    one false h = absurd (false≢true h)
