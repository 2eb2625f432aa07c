-- What a layout reads doesn't depend on where the content begins.
use Rattle.std.proofs.Common.{◌≡◌, ℕ, zero, suc, ◌+◌, Bool, true, false, cond, List, length, take, drop, Option, Some, None, Result, Ok, Err, refl, subst}
use Rattle.std.specs.Prelude.{nat_lt, ◌==◌}
use Rattle.der_values.specs.Element.{element_at}
use Rattle.der_values.specs.Rules.{allows, decides, tag_of}
use Rattle.der_values.specs.declared.rules.Rule.{Rule}
use Rattle.der_values.specs.Layout.{Layout, nothing, both, element, unread, whole_element, many, told, Content, ◌>>=◌, ok_or, next, take_one, held, all_of, repeated, read}

-- Both are the same value, or both are faults.
abbrev pub Agree : {A : Type 0} → Result A ℕ → Result A ℕ → Type 0
Agree (Ok x) (Ok y) = x ≡ y
Agree (Ok x) (Err j) = ⊥
Agree (Err i) (Ok y) = ⊥
Agree (Err i) (Err j) = Unit {0}

abbrev at : ℕ → ℕ → List ℕ → Content
at h b bytes = record { holder = h; begin = b; bytes = bytes }

agree_then : {A B : Type 0} (x y : Result A ℕ) (f g : A → Result B ℕ) → Agree x y → ((a : A) → Agree (f a) (g a)) → Agree (x >>= f) (y >>= g)
agree_then (Ok a) (Ok b) f g e h = subst (λ c. Agree (f a) (g c)) e (h a)
agree_then (Ok a) (Err j) f g e h = absurd e
agree_then (Err i) (Ok b) f g e h = absurd e
agree_then (Err i) (Err j) f g e h = tt

agree_if : {A : Type 0} (b : Bool) (x y v w : Result A ℕ) → Agree x y → Agree v w → Agree (cond b x v) (cond b y w)
agree_if true x y v w p q = p
agree_if false x y v w p q = q

agree_or : {A : Type 0} (o : Option A) (i j : ℕ) → Agree (ok_or o i) (ok_or o j)
agree_or None i j = tt
agree_or (Some x) i j = refl

next_agrees : (h b h' b' : ℕ) (bytes : List ℕ) (offset : ℕ) → Agree (next (at h b bytes) offset) (next (at h' b' bytes) offset)
unfolding next
next_agrees h b h' b' bytes offset = agree_if (nat_lt offset (length bytes)) _ _ (Err h) (Err h') (agree_or (element_at (drop offset bytes)) _ _) tt

take_agrees : (tag : ℕ) (rule : Rule) (h b h' b' : ℕ) (bytes : List ℕ) (offset : ℕ) → Agree (take_one tag rule (at h b bytes) offset) (take_one tag rule (at h' b' bytes) offset)
unfolding take_one
take_agrees tag rule h b h' b' bytes offset =
    agree_then (next (at h b bytes) offset) (next (at h' b' bytes) offset) _ _ (next_agrees h b h' b' bytes offset)
    (λ e. agree_if (e.tag == tag) _ _ (Err (b + offset)) (Err (b' + offset)) (agree_if (allows rule (take offset bytes) e) (Ok e) (Ok e) (Err (b + offset)) (Err (b' + offset)) refl tt) tt)

all_agrees : (h b h' b' : ℕ) (bytes : List ℕ) (end : ℕ) → Agree (all_of (at h b bytes) end) (all_of (at h' b' bytes) end)
unfolding all_of
all_agrees h b h' b' bytes end = agree_if (nat_lt end (length bytes)) (Err (b + end)) (Err (b' + end)) (Ok end) (Ok end) tt refl

repeated_agrees : (f g : ℕ → Result ℕ ℕ) → ((n : ℕ) → Agree (f n) (g n)) → (len turns offset : ℕ) → Agree (repeated f len turns offset) (repeated g len turns offset)
repeated_agrees f g h len zero offset = refl
repeated_agrees f g h len (suc n) offset =
    agree_if (nat_lt offset len) _ _ (Ok offset) (Ok offset) (agree_then (f offset) (g offset) (repeated f len n) (repeated g len n) (h offset) (λ a. repeated_agrees f g h len n a)) refl

pub read_agrees : (layout : Layout) (h b h' b' : ℕ) (bytes : List ℕ) (offset : ℕ) → Agree (read layout (at h b bytes) offset) (read layout (at h' b' bytes) offset)
unfolding read
read_agrees nothing h b h' b' bytes offset = refl
read_agrees (both front back) h b h' b' bytes offset =
    agree_then (read front (at h b bytes) offset) (read front (at h' b' bytes) offset) (read back (at h b bytes)) (read back (at h' b' bytes)) (read_agrees front h b h' b' bytes offset) (λ a. read_agrees back h b h' b' bytes a)
read_agrees (element tag rule inner) h b h' b' bytes offset =
    agree_then (take_one tag rule (at h b bytes) offset) (take_one tag rule (at h' b' bytes) offset) _ _ (take_agrees tag rule h b h' b' bytes offset)
    (λ e. let c = held e (at h b bytes) offset in let d = held e (at h' b' bytes) offset in
    agree_then (read inner c 0) (read inner d 0) _ _ (read_agrees inner c.holder c.begin d.holder d.begin e.content 0)
    (λ end. agree_then (all_of c end) (all_of d end) _ _ (all_agrees c.holder c.begin d.holder d.begin e.content end) (λ full. refl)))
read_agrees unread h b h' b' bytes offset = refl
read_agrees whole_element h b h' b' bytes offset =
    agree_then (next (at h b bytes) offset) (next (at h' b' bytes) offset) _ _ (next_agrees h b h' b' bytes offset) (λ e. refl)
read_agrees (many one) h b h' b' bytes offset =
    agree_then (repeated (read one (at h b bytes)) (length bytes) (length bytes) offset) (repeated (read one (at h' b' bytes)) (length bytes) (length bytes) offset) (all_of (at h b bytes)) (all_of (at h' b' bytes))
    (repeated_agrees (read one (at h b bytes)) (read one (at h' b' bytes)) (λ n. read_agrees one h b h' b' bytes n) (length bytes) (length bytes) offset) (all_agrees h b h' b' bytes)
read_agrees (told test first second) h b h' b' bytes offset =
    agree_if (decides test (take offset bytes) (tag_of (drop offset bytes))) _ _ (read second (at h b bytes) offset) (read second (at h' b' bytes) offset) (read_agrees first h b h' b' bytes offset) (read_agrees second h b h' b' bytes offset)
