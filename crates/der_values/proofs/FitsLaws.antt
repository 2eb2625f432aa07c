-- A layout reads bytes exactly where it fits them.
use Rattle.std.proofs.Common.{◌≡◌, ◌↔◌, ℕ, zero, suc, ◌+◌, ◌≤◌, Bool, true, false, cond, List, [], ◌∷◌, ◌++◌, length, take, drop, Option, Some, None, Result, Ok, Err, refl, sym, ap, subst, ◌∙◌, arith, append_assoc, IsTrue, IsOk}
use Rattle.std.specs.Prelude.{nat_lt, ◌==◌, MatchResult}
use Rattle.std.specs.Bool.{MatchBool}
use Rattle.std.specs.List.{concat}
use Rattle.std.proofs.lemmas.List.{length-append, append-nil}
use Rattle.std.proofs.Math.Seq.{take-append_seam, drop-append_seam}
use Rattle.std.proofs.lemmas.Bool.{ltb-false, lt-ltb, le-ltb, eqb-false, eqb-true, eq-eqb, ne_eqb}
use Rattle.der_values.specs.Element.{Element, element_at}
use Rattle.der_values.specs.Rules.{allows, decides, tag_of}
use Rattle.der_values.specs.declared.rules.Rule.{Rule}
use Rattle.der_values.specs.declared.rules.Test.{Test}
use Rattle.der_values.specs.Layout.{Layout, nothing, both, element, unread, whole_element, many, told, Content, ◌>>=◌, ok_or, next, take_one, held, all_of, repeated, read, read_object}
use Rattle.der_values.specs.declared.tlv.DerFault.{DerFault}
use Rattle.der_values.specs.Fits.{IsElement, Each, Fits, IsObject}
use Rattle.der_values.proofs.Steps.{not_empty}
use Rattle.der_values.proofs.ElementLaws.{element_front, element_again}

-- ---- what a chain of readings gave

record Came {A B : Type 0} (x : Result A ℕ) (f : A → Result B ℕ) (y : B) : Type 0 where
  first : A
  first_is : x ≡ Ok first
  then_is : f first ≡ Ok y

came : {A B : Type 0} (x : Result A ℕ) (f : A → Result B ℕ) (y : B) → (x >>= f) ≡ Ok y → Came x f y
came (Ok a) f y is = record { first = a; first_is = refl; then_is = is }
came (Err i) f y is = absurd cc

ok_if : {A : Type 0} (b : Bool) (x : Result A ℕ) (i : ℕ) (y : A) → cond b x (Err i) ≡ Ok y → (b ≡ true) × (x ≡ Ok y)
ok_if true x i y is = (refl, is)
ok_if false x i y is = absurd cc

ok_or_some : {A : Type 0} (o : Option A) (i : ℕ) (y : A) → ok_or o i ≡ Ok y → o ≡ Some y
ok_or_some None i y is = absurd cc
ok_or_some (Some x) i y is = cc

abbrev okay : {A : Type 0} → A → Result A ℕ
okay x = Ok x

same_ok : {A : Type 0} (x y : A) → okay x ≡ okay y → x ≡ y
same_ok x y is = cc

-- What an element's layout reads is the element there.
pub read_one : (tag : ℕ) (rule : Rule) (inner : Layout) (c : Content) (at end : ℕ) → read (element tag rule inner) c at ≡ okay end →
    (e : Element) × (element_at (drop at c.bytes) ≡ Some e) × (end ≡ at + length e.whole)
unfolding read take_one next
read_one tag rule inner c at end is =
    let one = came (take_one tag rule c at) _ end is in
    let inside = came (read inner (held one.first c at) 0) _ end one.then_is in
    let all = came (all_of (held one.first c at) inside.first) _ end inside.then_is in
    let k = came (next c at) _ one.first one.first_is in
    let t = ok_if (k.first.tag == tag) _ (c.begin + at) one.first k.then_is in
    let a = ok_if (allows rule (take at c.bytes) k.first) (okay k.first) (c.begin + at) one.first t.1 in
    let some = ok_or_some (element_at (drop at c.bytes)) (c.begin + at) k.first (ok_if (nat_lt at (length c.bytes)) _ c.holder k.first k.first_is).1 in (
      k.first,
      some,
      sym (same_ok (at + length one.first.whole) end all.then_is) ∙ ap (λ (e : Element). at + length e.whole) (sym (same_ok k.first one.first a.1)),
    )

-- a place in the midst of a content: the bytes before it, and those from it on
record Place (c : Content) (offset : ℕ) (before rest : List ℕ) : Type 0 where
  bytes : c.bytes ≡ before ++ rest
  at : offset ≡ length before

here : (c : Content) (offset : ℕ) (before rest : List ℕ) → Place c offset before rest → drop offset c.bytes ≡ rest
here c offset before rest p = rw (p.at, p.bytes) (drop-append_seam before rest)

passed : (c : Content) (offset : ℕ) (before rest : List ℕ) → Place c offset before rest → take offset c.bytes ≡ before
passed c offset before rest p = rw (p.at, p.bytes) (take-append_seam before rest)

further : (c : Content) (offset : ℕ) (before one two : List ℕ) → Place c offset before (one ++ two) → Place c (offset + length one) (before ++ one) two
further c offset before one two p = record {
  bytes = p.bytes ∙ sym (append_assoc before one two);
  at = let len = length-append before one in let at = p.at in omega arith;
}

size : (c : Content) (offset : ℕ) (before rest : List ℕ) → Place c offset before rest → length c.bytes ≡ offset + length rest
size c offset before rest p = let at = p.at in omega (arith, ap length p.bytes, length-append before rest)

-- ---- from a reading to a fit

record Found (layout : Layout) (before rest : List ℕ) (offset end : ℕ) : Type 0 where
  these : List ℕ
  after : List ℕ
  parts : rest ≡ these ++ after
  ends : end ≡ offset + length these
  fits : Fits layout before these after

-- the element that is taken at a place
record TookOne (c : Content) (offset : ℕ) (rest : List ℕ) (e : Element) : Type 0 where
  after : List ℕ
  parts : rest ≡ e.whole ++ after
  is_element : IsElement e

took : (c : Content) (offset : ℕ) (before rest : List ℕ) (e : Element) → Place c offset before rest → next c offset ≡ Ok e → TookOne c offset rest e
unfolding next
took c offset before rest e p is =
    let some = ok_or_some (element_at (drop offset c.bytes)) (c.begin + offset) e (ok_if (nat_lt offset (length c.bytes)) _ c.holder e is).1 in
    let front = element_front rest e (rw (here c offset before rest p) at some) in
    record { after = front.rest; parts = front.split; is_element = front.is_element }

found_nothing : (before rest : List ℕ) (offset end : ℕ) → okay offset ≡ okay end → Found nothing before rest offset end
unfolding Fits
found_nothing before rest offset end is = record { these = []; after = rest; parts = refl; ends = let e = same_ok offset end is in omega arith; fits = refl }

found_both : (front back : Layout) (before rest : List ℕ) (offset middle end : ℕ) (f : Found front before rest offset middle)
    → Found back (before ++ f.these) f.after middle end → Found (both front back) before rest offset end
unfolding Fits
found_both front back before rest offset middle end f g = record {
  these = f.these ++ g.these;
  after = g.after;
  parts = f.parts ∙ ap (λ (xs : List ℕ). f.these ++ xs) g.parts ∙ sym (append_assoc f.these g.these g.after);
  ends = let fe = f.ends in let ge = g.ends in omega (arith, length-append f.these g.these);
  fits = (f.these, g.these, refl, subst (Fits front before f.these) g.parts f.fits, g.fits);
}

-- what an element holds, read from its front
in_front : (e : Element) (c : Content) (offset : ℕ) → Place (held e c offset) 0 [] e.content
in_front e c offset = record { bytes = refl; at = refl }

full_if : (b : Bool) (i x y : ℕ) → cond b (Err i) (okay x) ≡ Ok y → (b ≡ false) × (y ≡ x)
full_if true i x y is = absurd cc
full_if false i x y is = (refl, sym (same_ok x y is))

-- nothing is left of a content
full : (c : Content) (end all : ℕ) → all_of c end ≡ Ok all → (length c.bytes ≤ end) × (all ≡ end)
unfolding all_of
full c end all is =
    let k = full_if (nat_lt end (length c.bytes)) (c.begin + end) end all is in
    (ltb-false _ _ k.0, k.1)

no_length : (xs : List ℕ) → length xs ≡ 0 → xs ≡ []
no_length [] e = refl
no_length (x ∷ xs) e = absurd (omega arith)

-- a fit of all of a content
no_rest : (layout : Layout) (bytes : List ℕ) (end : ℕ) → Found layout [] bytes 0 end → length bytes ≤ end → Fits layout [] bytes []
no_rest layout bytes end f all =
    let none : length f.after ≡ 0 = let e = f.ends in omega (arith, ap length f.parts, length-append f.these f.after) in
    let empty = no_length f.after none in
    let these : f.these ≡ bytes = sym (append-nil f.these) ∙ ap (λ (xs : List ℕ). f.these ++ xs) (sym empty) ∙ sym f.parts in
    subst (λ (xs : List ℕ). Fits layout [] xs []) these (subst (Fits layout [] f.these) empty f.fits)

record TookAllowed (tag : ℕ) (rule : Rule) (c : Content) (offset : ℕ) (before rest : List ℕ) (e : Element) : Type 0 where
  one : TookOne c offset rest e
  tag_is : e.tag ≡ tag
  allowed : IsTrue (allows rule before e)

took_allowed : (tag : ℕ) (rule : Rule) (c : Content) (offset : ℕ) (before rest : List ℕ) (e : Element) → Place c offset before rest → take_one tag rule c offset ≡ Ok e → TookAllowed tag rule c offset before rest e
unfolding take_one
took_allowed tag rule c offset before rest e p is =
    let k = came (next c offset) _ e is in
    let t = ok_if (k.first.tag == tag) _ (c.begin + offset) e k.then_is in
    let a = ok_if (allows rule (take offset c.bytes) k.first) (okay k.first) (c.begin + offset) e t.1 in
    subst (TookAllowed tag rule c offset before rest) (same_ok k.first e a.1) (record {
      one = took c offset before rest k.first p k.first_is;
      tag_is = eqb-true _ _ t.0;
      allowed = ap (λ (xs : List ℕ). allows rule xs k.first) (sym (passed c offset before rest p)) ∙ a.0;
    })

found_element : (tag : ℕ) (rule : Rule) (inner : Layout) (c : Content) (offset end : ℕ) (before rest : List ℕ) (e : Element)
    → TookAllowed tag rule c offset before rest e → Fits inner [] e.content [] → end ≡ offset + length e.whole → Found (element tag rule inner) before rest offset end
unfolding Fits
found_element tag rule inner c offset end before rest e took fits ends = record {
  these = e.whole;
  after = took.one.after;
  parts = took.one.parts;
  ends = ends;
  fits = (e, took.one.is_element, refl, took.tag_is, took.allowed, fits);
}

found_unread : (c : Content) (offset end : ℕ) (before rest : List ℕ) → Place c offset before rest → okay (length c.bytes) ≡ Ok end → Found unread before rest offset end
unfolding Fits
found_unread c offset end before rest p is = record {
  these = rest;
  after = [];
  parts = sym (append-nil rest);
  ends = let e = same_ok (length c.bytes) end is in let s = size c offset before rest p in omega arith;
  fits = refl;
}

found_whole : (c : Content) (offset end : ℕ) (before rest : List ℕ) → Place c offset before rest → (next c offset >>= λ e. Ok (offset + length e.whole)) ≡ Ok end → Found whole_element before rest offset end
unfolding Fits
found_whole c offset end before rest p is =
    let k = came (next c offset) (λ e. okay (offset + length e.whole)) end is in
    let one = took c offset before rest k.first p k.first_is in
    record {
      these = k.first.whole;
      after = one.after;
      parts = one.parts;
      ends = sym (same_ok (offset + length k.first.whole) end k.then_is);
      fits = (k.first, one.is_element, refl);
    }

-- the pieces of a repetition that comes to the end of the content
record Pieces (layout : Layout) (c : Content) (before rest : List ℕ) (end : ℕ) : Type 0 where
  pieces : List (List ℕ)
  joined : rest ≡ concat pieces
  each : Each (Fits layout) before pieces
  at_end : end ≡ length c.bytes

no_pieces : (layout : Layout) (c : Content) (offset : ℕ) (before rest : List ℕ) (end : ℕ) → Place c offset before rest → offset ≡ end → length c.bytes ≤ end → Pieces layout c before rest end
no_pieces layout c offset before rest end p same all =
    let s = size c offset before rest p in
    record { pieces = []; joined = no_length rest (omega arith); each = tt; at_end = omega arith }

abbrev Reads : Layout → Content → Type 0
Reads layout c = (offset end : ℕ) (before rest : List ℕ) → Place c offset before rest → read layout c offset ≡ Ok end → Found layout before rest offset end

one_piece : (layout : Layout) (c : Content) (offset middle end : ℕ) (before rest : List ℕ) → Place c offset before rest → (these after : List ℕ) → rest ≡ these ++ after → middle ≡ offset + length these → Fits layout before these after
    → ((b r : List ℕ) → Place c middle b r → Pieces layout c b r end) → Pieces layout c before rest end
one_piece layout c offset middle end before rest p [] after parts ends fits more = more before rest (record { bytes = p.bytes; at = let at = p.at in omega arith })
one_piece layout c offset middle end before rest p (x ∷ xs) after parts ends fits more =
    let there : Place c offset before ((x ∷ xs) ++ after) = subst (Place c offset before) parts p in
    let next = more (before ++ (x ∷ xs)) after (subst (λ n. Place c n (before ++ (x ∷ xs)) after) (sym ends) (further c offset before (x ∷ xs) after there)) in
    record {
      pieces = (x ∷ xs) ∷ next.pieces;
      joined = parts ∙ ap (λ (ys : List ℕ). (x ∷ xs) ++ ys) next.joined;
      each = (omega arith, subst (Fits layout before (x ∷ xs)) next.joined fits, next.each);
      at_end = next.at_end;
    }

found_pieces : (layout : Layout) (c : Content) → Reads layout c → (turns offset end : ℕ) (before rest : List ℕ) → Place c offset before rest → length c.bytes ≤ end
    → repeated (read layout c) (length c.bytes) turns offset ≡ Ok end → Pieces layout c before rest end
found_pieces layout c reads zero offset end before rest p all is = no_pieces layout c offset before rest end p (same_ok offset end is) all
found_pieces layout c reads (suc n) offset end before rest p all is =
    elim (nat_lt offset (length c.bytes)) as (λ b. cond b (read layout c offset >>= repeated (read layout c) (length c.bytes) n) (okay offset) ≡ Ok end → Pieces layout c before rest end) [
      | true ↦ λ i.
          let k = came (read layout c offset) (repeated (read layout c) (length c.bytes) n) end i in
          let f = reads offset k.first before rest p k.first_is in
          one_piece layout c offset k.first end before rest p f.these f.after f.parts f.ends f.fits (λ b r q. found_pieces layout c reads n k.first end b r q all k.then_is)
      | false ↦ λ i. no_pieces layout c offset before rest end p (same_ok offset end i) all
    ] is

found_many : (one : Layout) (c : Content) → Reads one c → (offset end : ℕ) (before rest : List ℕ) → Place c offset before rest
    → (repeated (read one c) (length c.bytes) (length c.bytes) offset >>= all_of c) ≡ Ok end → Found (many one) before rest offset end
unfolding Fits
found_many one c reads offset end before rest p is =
    let k = came (repeated (read one c) (length c.bytes) (length c.bytes) offset) (all_of c) end is in
    let a = full c k.first end k.then_is in
    let found = found_pieces one c reads (length c.bytes) offset k.first before rest p a.0 k.first_is in
    let s = size c offset before rest p in
    let all = found.at_end in
    let same = a.1 in
    record {
      these = rest;
      after = [];
      parts = sym (append-nil rest);
      ends = omega arith;
      fits = (refl, found.pieces, found.joined, found.each);
    }

found_first : (test : Test) (first second : Layout) (before rest : List ℕ) (offset end : ℕ) → decides test before (tag_of rest) ≡ true → Found first before rest offset end → Found (told test first second) before rest offset end
unfolding Fits
found_first test first second before rest offset end told_it f = record {
  these = f.these;
  after = f.after;
  parts = f.parts;
  ends = f.ends;
  fits = let said : decides test before (tag_of (f.these ++ f.after)) ≡ true = ap (λ (xs : List ℕ). decides test before (tag_of xs)) (sym f.parts) ∙ told_it in rw said f.fits;
}

found_second : (test : Test) (first second : Layout) (before rest : List ℕ) (offset end : ℕ) → decides test before (tag_of rest) ≡ false → Found second before rest offset end → Found (told test first second) before rest offset end
unfolding Fits
found_second test first second before rest offset end told_it f = record {
  these = f.these;
  after = f.after;
  parts = f.parts;
  ends = f.ends;
  fits = let said : decides test before (tag_of (f.these ++ f.after)) ≡ false = ap (λ (xs : List ℕ). decides test before (tag_of xs)) (sym f.parts) ∙ told_it in rw said f.fits;
}

-- What a layout reads fits it.
found : (layout : Layout) (c : Content) → Reads layout c
unfolding read
found nothing c offset end before rest p is = found_nothing before rest offset end is
found (both front back) c offset end before rest p is =
    let k = came (read front c offset) (read back c) end is in
    let f = found front c offset k.first before rest p k.first_is in
    let there : Place c offset before (f.these ++ f.after) = subst (Place c offset before) f.parts p in
    let next : Place c k.first (before ++ f.these) f.after = subst (λ n. Place c n (before ++ f.these) f.after) (sym f.ends) (further c offset before f.these f.after there) in
    found_both front back before rest offset k.first end f (found back c k.first end (before ++ f.these) f.after next k.then_is)
found (element tag rule inner) c offset end before rest p is =
    let one = came (take_one tag rule c offset) _ end is in
    let e = one.first in
    let inside = came (read inner (held e c offset) 0) _ end one.then_is in
    let all = came (all_of (held e c offset) inside.first) _ end inside.then_is in
    let f = found inner (held e c offset) 0 inside.first [] e.content (in_front e c offset) inside.first_is in
    let fits = no_rest inner e.content inside.first f (full (held e c offset) inside.first all.first all.first_is).0 in
    found_element tag rule inner c offset end before rest e (took_allowed tag rule c offset before rest e p one.first_is) fits (sym (same_ok (offset + length e.whole) end all.then_is))
found unread c offset end before rest p is = found_unread c offset end before rest p is
found whole_element c offset end before rest p is = found_whole c offset end before rest p is
found (many one) c offset end before rest p is = found_many one c (found one c) offset end before rest p is
found (told test first second) c offset end before rest p is =
    let said : decides test (take offset c.bytes) (tag_of (drop offset c.bytes)) ≡ decides test before (tag_of rest) = rw (passed c offset before rest p, here c offset before rest p) refl in
    elim (decides test (take offset c.bytes) (tag_of (drop offset c.bytes))) as (λ b. b ≡ decides test before (tag_of rest) → cond b (read first c offset) (read second c offset) ≡ Ok end → Found (told test first second) before rest offset end) [
      | true ↦ λ q i. found_first test first second before rest offset end (sym q) (found first c offset end before rest p i)
      | false ↦ λ q i. found_second test first second before rest offset end (sym q) (found second c offset end before rest p i)
    ] said is

-- ---- from a fit to a reading

abbrev Again : Layout → Content → Type 0
Again layout c = (offset : ℕ) (before these after : List ℕ) → Place c offset before (these ++ after) → Fits layout before these after → read layout c offset ≡ Ok (offset + length these)

next_again : (c : Content) (offset : ℕ) (before after : List ℕ) (e : Element) → IsElement e → Place c offset before (e.whole ++ after) → next c offset ≡ Ok e
unfolding next
next_again c offset before after e is p =
    let at : element_at (drop offset c.bytes) ≡ Some e = ap element_at (here c offset before (e.whole ++ after) p) ∙ element_again e after is in
    let some = not_empty (e.whole ++ after) e (element_again e after is) in
    let s = size c offset before (e.whole ++ after) p in
    let inside : nat_lt offset (length c.bytes) ≡ true = lt-ltb _ _ (omega (arith, length-append e.whole after)) in
    rw (inside, at) refl

take_again : (tag : ℕ) (rule : Rule) (c : Content) (offset : ℕ) (before after : List ℕ) (e : Element) → IsElement e → Place c offset before (e.whole ++ after)
    → e.tag ≡ tag → IsTrue (allows rule before e) → take_one tag rule c offset ≡ Ok e
unfolding take_one
take_again tag rule c offset before after e is p tag_is allowed =
    let same : (e.tag == tag) ≡ true = eq-eqb e.tag tag tag_is in
    let meets : allows rule (take offset c.bytes) e ≡ true = ap (λ (xs : List ℕ). allows rule xs e) (passed c offset before (e.whole ++ after) p) ∙ allowed in
    rw (next_again c offset before after e is p, same, meets) refl

all_again : (c : Content) (end : ℕ) → length c.bytes ≡ end → all_of c end ≡ Ok end
unfolding all_of
all_again c end all = rw (le-ltb end (length c.bytes) (omega arith)) refl

pieces_again : (layout : Layout) (c : Content) → Again layout c → (pieces : List (List ℕ)) (turns offset : ℕ) (before : List ℕ) → Place c offset before (concat pieces)
    → Each (Fits layout) before pieces → length (concat pieces) ≤ turns → repeated (read layout c) (length c.bytes) turns offset ≡ Ok (offset + length (concat pieces))
pieces_again layout c again [] zero offset before p each few = ap okay (omega arith)
pieces_again layout c again [] (suc n) offset before p each few =
    let s = size c offset before [] p in
    rw (le-ltb offset (length c.bytes) (omega arith)) (ap okay (omega arith))
pieces_again layout c again (piece ∷ pieces) zero offset before p each few = absurd (let some = each.0 in omega (arith, length-append piece (concat pieces)))
pieces_again layout c again (piece ∷ pieces) (suc n) offset before p each few =
    let some = each.0 in
    let s = size c offset before (piece ++ concat pieces) p in
    let len = length-append piece (concat pieces) in
    let inside : nat_lt offset (length c.bytes) ≡ true = lt-ltb _ _ (omega arith) in
    let one = again offset before piece (concat pieces) p each.1 in
    let others = pieces_again layout c again pieces n (offset + length piece) (before ++ piece) (further c offset before piece (concat pieces) p) each.2 (omega arith) in
    rw (inside, one) (others ∙ ap okay (omega arith))

-- What fits a layout is read by it.
again : (layout : Layout) (c : Content) → Again layout c
unfolding read Fits
again nothing c offset before these after p fits = let e = ap length fits in ap okay (omega arith)
again (both front back) c offset before these after p fits =
    let one = fits.0 in
    let two = fits.1 in
    let split : these ++ after ≡ one ++ (two ++ after) = ap (λ (xs : List ℕ). xs ++ after) fits.2 ∙ append_assoc one two after in
    let there : Place c offset before (one ++ (two ++ after)) = subst (Place c offset before) split p in
    let len : length these ≡ length one + length two = ap length fits.2 ∙ length-append one two in
    rw (again front c offset before one (two ++ after) there fits.3)
    (again back c (offset + length one) (before ++ one) two after (further c offset before one (two ++ after) there) fits.4 ∙ ap okay (omega arith))
again (element tag rule inner) c offset before these after p fits =
    let e = fits.0 in
    let there : Place c offset before (e.whole ++ after) = subst (λ (xs : List ℕ). Place c offset before (xs ++ after)) fits.2 p in
    let inside : Place (held e c offset) 0 [] (e.content ++ []) = record { bytes = sym (append-nil e.content); at = refl } in
    let all : 0 + length e.content ≡ length e.content = omega arith in
    rw (take_again tag rule c offset before after e fits.1 there fits.3 fits.4, again inner (held e c offset) 0 [] e.content [] inside fits.5, all_again (held e c offset) (0 + length e.content) (sym all))
    (ap (λ (xs : List ℕ). okay (offset + length xs)) (sym fits.2))
again unread c offset before these after p fits =
    let s = size c offset before (these ++ after) p in
    ap okay (omega (arith, length-append these after, ap length fits))
again whole_element c offset before these after p fits =
    let e = fits.0 in
    let there : Place c offset before (e.whole ++ after) = subst (λ (xs : List ℕ). Place c offset before (xs ++ after)) fits.2 p in
    rw (next_again c offset before after e fits.1 there) (ap (λ (xs : List ℕ). okay (offset + length xs)) (sym fits.2))
again (many one) c offset before these after p fits =
    let all : these ++ after ≡ concat fits.1 = ap (λ (xs : List ℕ). these ++ xs) fits.0 ∙ append-nil these ∙ fits.2 in
    let there : Place c offset before (concat fits.1) = subst (Place c offset before) all p in
    let s = size c offset before (concat fits.1) there in
    let len : length these ≡ length (concat fits.1) = ap length fits.2 in
    rw (pieces_again one c (again one c) fits.1 (length c.bytes) offset before there fits.3 (omega arith)) (all_again c (offset + length (concat fits.1)) (omega arith) ∙ ap okay (omega arith))
again (told test first second) c offset before these after p fits =
    let rest : List ℕ = these ++ after in
    let said : decides test before (tag_of rest) ≡ decides test (take offset c.bytes) (tag_of (drop offset c.bytes)) = rw (passed c offset before rest p, here c offset before rest p) refl in
    elim (decides test before (tag_of rest)) as (λ b. b ≡ decides test (take offset c.bytes) (tag_of (drop offset c.bytes)) → MatchBool b (Fits first before these after) (Fits second before these after) → cond (decides test (take offset c.bytes) (tag_of (drop offset c.bytes))) (read first c offset) (read second c offset) ≡ okay (offset + length these)) [
      | true ↦ λ q f. rw (← q) (again first c offset before these after p f)
      | false ↦ λ q f. rw (← q) (again second c offset before these after p f)
    ] said fits

-- ---- a whole object

positive : (n : ℕ) → (n ≡ 0 → ⊥) → 1 ≤ n
positive zero h = absurd (h refl)
positive (suc n) h = omega arith

ok_else : (b : Bool) (x : Result ℕ ℕ) (y : ℕ) → cond b (Err 0) x ≡ Ok y → (b ≡ false) × (x ≡ Ok y)
ok_else true x y is = absurd cc
ok_else false x y is = (refl, is)

-- The bytes are read as one object exactly where they are one.
pub read_object-fits : (layout : Layout) (bytes : List ℕ) → (read_object layout bytes ≡ Ok (length bytes)) ↔ IsObject layout bytes
unfolding read_object
read_object-fits layout bytes =
    let c : Content = record { holder = 0; begin = 0; bytes = bytes } in (
      λ is.
          let k = ok_else (length bytes == 0) (read layout c 0 >>= all_of c) (length bytes) is in
          let r = came (read layout c 0) (all_of c) (length bytes) k.1 in
          record {
            some = positive (length bytes) (eqb-false _ _ k.0);
            fits = no_rest layout bytes r.first (found layout c 0 r.first [] bytes (record { bytes = refl; at = refl }) r.first_is) (full c r.first (length bytes) r.then_is).0;
          },
      λ is.
          let some = is.some in
          let not_none : (length bytes == 0) ≡ false = ne_eqb _ _ (λ e. absurd (omega arith)) in
          let all : 0 + length bytes ≡ length bytes = omega arith in
          rw (not_none, again layout c 0 [] bytes [] (record { bytes = sym (append-nil bytes); at = refl }) is.fits) (all_again c (0 + length bytes) (sym all) ∙ ap okay all),
    )

-- Of a call that answers by `read_object`: it is Ok exactly where the bytes are one object.
pub exact : (layout : Layout) (bytes : List ℕ) (r : Result (Unit {0}) DerFault)
    → MatchResult r (λ _. read_object layout bytes ≡ Ok (length bytes)) (λ fault. read_object layout bytes ≡ Err fault.at) → IsOk r ↔ IsObject layout bytes
exact layout bytes (Ok u) is = (λ ok. (read_object-fits layout bytes).0 is, λ fits. refl)
exact layout bytes (Err fault) is = (λ ok. absurd cc, λ fits. let read_it = (read_object-fits layout bytes).1 fits in absurd cc)
