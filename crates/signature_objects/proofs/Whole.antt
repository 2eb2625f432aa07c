-- Bytes that are whole objects: of two kinds they differ.
use Rattle.std.proofs.Common.{◌≡◌, ℕ, ◌+◌, ◌≤◌, Bool, true, false, cond, List, ◌++◌, length, Some, Result, Ok, Err, refl, sym, ap, subst, arith}
use Rattle.std.specs.Prelude.{is_ok, nat_lt, ◌==◌}
use Rattle.std.specs.Str.{bytes_eq}
use Rattle.std.proofs.lemmas.Bool.{ltb-false}
use Rattle.std.proofs.lemmas.List.{length-append}
use Rattle.std.proofs.lemmas.Slice.Eq.{bytes_eq-Decides}
use Rattle.der_values.specs.Element.{Element, element_at}
use Rattle.der_values.specs.Fits.{IsObject}
use Rattle.der_values.specs.Layout.{Layout, element, Content, ◌>>=◌, all_of, read, read_object}
use Rattle.der_values.specs.declared.rules.Rule.{Rule}
use Rattle.der_values.proofs.ElementLaws.{element_front}
use Rattle.der_values.proofs.FitsLaws.{read_one, read_object-fits}
use Rattle.signature_model.specs.Parts.{Certificate, RevocationList, Token}
use Rattle.signature_model.proofs.Lists.{not_both}
use Rattle.tst_tokens.specs.Layouts as tokens
use Rattle.tst_tokens.proofs.Apart.{tokens_are_apart}
use Rattle.x509_certs.specs.Layouts as objects
use Rattle.x509_certs.proofs.NotBoth as material
use Rattle.qualifying_props.specs.Whole.{IsWhole}

-- What is read as one element reads all bytes.

content_of : List ℕ → Content
content_of bytes = record { holder = 0; begin = 0; bytes = bytes }

to_end : (bytes : List ℕ) (e : Element) → element_at bytes ≡ Some e → length e.whole ≤ length bytes
to_end bytes e at =
    let f = element_front bytes e at in
    let l = length-append e.whole f.rest in
    let s : length bytes ≡ length (e.whole ++ f.rest) = ap length f.split in
    omega (arith, l, s)

abbrev by_bool : Bool → ℕ → Result ℕ ℕ
by_bool b end = cond b (Err (0 + end)) (Ok end)

all_is : (bytes : List ℕ) (end : ℕ) → end ≤ length bytes → is_ok (all_of (content_of bytes) end) ≡ true → all_of (content_of bytes) end ≡ Ok (length bytes)
unfolding all_of content_of
all_is bytes end h e = by_end (nat_lt end (length bytes)) refl e
  where
    by_end : (b : Bool) → nat_lt end (length bytes) ≡ b → is_ok (by_bool b end) ≡ true → by_bool b end ≡ Ok (length bytes)
    by_end true s f = absurd (not_both (sym f))
    by_end false s f = let n = ltb-false _ _ s in let same : end ≡ length bytes = omega (arith, h, n) in ap (λ (k : ℕ). Ok k) same

whole_object : (tag : ℕ) (rule : Rule) (inner : Layout) (bytes : List ℕ) → is_ok (read_object (element tag rule inner) bytes) ≡ true → IsObject (element tag rule inner) bytes
unfolding read_object content_of
whole_object tag rule inner bytes e = (read_object-fits (element tag rule inner) bytes).0 (by_empty (length bytes == 0) e)
  where
    by_read : (r : Result ℕ ℕ) → read (element tag rule inner) (content_of bytes) 0 ≡ r → is_ok (r >>= all_of (content_of bytes)) ≡ true → (r >>= all_of (content_of bytes)) ≡ Ok (length bytes)
    by_read (Err i) q f = absurd (not_both (sym f))
    by_read (Ok end) q f =
        let one = read_one tag rule inner (content_of bytes) 0 end q in
        let h = to_end bytes one.0 one.1 in
        let s = one.2 in
        all_is bytes end (omega (arith, h, s)) f

    by_empty : (b : Bool) → is_ok (cond b (Err 0) (read (element tag rule inner) (content_of bytes) 0 >>= all_of (content_of bytes))) ≡ true
        → cond b (Err 0) (read (element tag rule inner) (content_of bytes) 0 >>= all_of (content_of bytes)) ≡ Ok (length bytes)
    by_empty true f = absurd (not_both (sym f))
    by_empty false f = by_read (read (element tag rule inner) (content_of bytes) 0) refl f

pub certificate_is : (bytes : List ℕ) → IsWhole Certificate bytes → IsObject objects.certificate bytes
certificate_is bytes w = whole_object _ _ _ bytes w

pub list_is : (bytes : List ℕ) → IsWhole RevocationList bytes → IsObject objects.revocation_list bytes
list_is bytes w = whole_object _ _ _ bytes w

pub token_is : (bytes : List ℕ) → IsWhole Token bytes → IsObject tokens.token bytes
token_is bytes w = whole_object _ _ _ bytes w

-- Two kinds.

differ : (a b : List ℕ) → (a ≡ b → ⊥) → bytes_eq a b ≡ false
differ a b h = by_test (bytes_eq a b) refl
  where
    by_test : (t : Bool) → bytes_eq a b ≡ t → bytes_eq a b ≡ false
    by_test true e = absurd (h ((bytes_eq-Decides a b).0 e))
    by_test false e = e

pub certificate_no_list : (a b : List ℕ) → IsWhole Certificate a → IsWhole RevocationList b → bytes_eq a b ≡ false
certificate_no_list a b c l = differ a b (λ e. material.not_both b (certificate_is b (subst (IsWhole Certificate) e c)) (list_is b l))

pub list_no_certificate : (a b : List ℕ) → IsWhole RevocationList a → IsWhole Certificate b → bytes_eq a b ≡ false
list_no_certificate a b l c = differ a b (λ e. material.not_both b (certificate_is b c) (list_is b (subst (IsWhole RevocationList) e l)))

pub token_no_certificate : (a b : List ℕ) → IsWhole Token a → IsWhole Certificate b → bytes_eq a b ≡ false
token_no_certificate a b t c = differ a b (λ e. (tokens_are_apart b (token_is b (subst (IsWhole Token) e t))).0 (certificate_is b c))

pub certificate_no_token : (a b : List ℕ) → IsWhole Certificate a → IsWhole Token b → bytes_eq a b ≡ false
certificate_no_token a b c t = differ a b (λ e. (tokens_are_apart b (token_is b t)).0 (certificate_is b (subst (IsWhole Certificate) e c)))

pub token_no_list : (a b : List ℕ) → IsWhole Token a → IsWhole RevocationList b → bytes_eq a b ≡ false
token_no_list a b t l = differ a b (λ e. (tokens_are_apart b (token_is b (subst (IsWhole Token) e t))).1 (list_is b l))

pub list_no_token : (a b : List ℕ) → IsWhole RevocationList a → IsWhole Token b → bytes_eq a b ≡ false
list_no_token a b l t = differ a b (λ e. (tokens_are_apart b (token_is b t)).1 (list_is b (subst (IsWhole RevocationList) e l)))
