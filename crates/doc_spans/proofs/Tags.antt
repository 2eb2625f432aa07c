-- The tags of the elements that are open, as a stack.
use Rattle.std.proofs.Common.{◌≡◌, ℕ, suc, ◌-◌, Bool, true, false, not, ◌||◌, ◌==◌, cond, nat_eq, List, [], ◌∷◌, length, Some, refl, sym, ◌∙◌, ap, arith}
use Rattle.std.proofs.lemmas.Bool.{ne_eqb}
use Rattle.std.proofs.lemmas.Option.{none-some}
use Rattle.std.specs.Prelude.{slice_get}
use Rattle.document_model.specs.Characters.{is_empty, with_line_ends}
use Rattle.document_model.specs.Items.{cdata}
use Rattle.document_model.specs.Scopes.{Tag}
use Rattle.doc_spans.specs.declared.opened.Opened.{Opened}
use Rattle.doc_spans.specs.declared.rows.Shape.TheVariants.{EmptySection, Characters}
use Rattle.doc_spans.specs.Marks.{shape_of}
use Rattle.doc_spans.specs.Opened.{opened_tag, opened_in}
use Rattle.doc_spans.specs.Stacked.{stacked}
use Rattle.doc_spans.proofs.StackLists.{stacked_length}
use Rattle.doc_spans.specs.Standing.{Standing, new_texts, text_after}

pub tags_length : (tags : List Opened) → length (opened_in tags) ≡ length tags
tags_length tags = stacked_length opened_tag tags

pub none_open : (tags : List Tag) → is_empty tags ≡ nat_eq (length tags) 0
none_open [] = refl
none_open (tag ∷ tags) = sym (ne_eqb (suc (length tags)) 0 (λ e. omega (arith, e)))

pub tags_none : (tags : List Opened) → is_empty (opened_in tags) ≡ nat_eq (length tags) 0
tags_none tags = none_open (opened_in tags) ∙ ap (λ n. nat_eq n 0) (tags_length tags)

pub record Innermost (tags : List Tag) (tag : Tag) : Type 0 where
  pub outer : List Tag
  pub is : tags ≡ tag ∷ outer

pub tags_last : (outer : List Tag) (tags : List Opened) (tag : Opened) → slice_get tags (length tags - 1) ≡ Some tag → Innermost (stacked opened_tag outer tags) (opened_tag tag)
tags_last outer [] tag e = absurd (none-some tag e)
tags_last outer (first ∷ []) tag e = let f : first ≡ tag = cc in record { outer = outer; is = ap (λ x. opened_tag x ∷ outer) f }
tags_last outer (first ∷ next ∷ tags) tag e =
    let n : suc (suc (length tags)) - 1 ≡ suc (suc (length tags) - 1) = omega arith in
    tags_last (opened_tag first ∷ outer) (next ∷ tags) tag (sym (ap (slice_get (first ∷ next ∷ tags)) n) ∙ e)

-- a text without line ends isn't empty where the text wasn't

pub line_ends_some : (c : ℕ) (cs : List ℕ) → is_empty (with_line_ends (c ∷ cs)) ≡ false
line_ends_some c [] = by_test (c == 0xD)
  where
    by_test : (b : Bool) → is_empty (cond b (0xA ∷ []) (c ∷ [])) ≡ false
    by_test true = refl
    by_test false = refl
line_ends_some c (d ∷ cs) = by_tests (line_ends_some d cs) (c == 0xD) (d == 0xA)
  where
    by_tests : is_empty (with_line_ends (d ∷ cs)) ≡ false → (b e : Bool)
        → is_empty (cond b (cond e (with_line_ends (d ∷ cs)) (0xA ∷ with_line_ends (d ∷ cs))) (c ∷ with_line_ends (d ∷ cs))) ≡ false
    by_tests h false e = refl
    by_tests h true false = refl
    by_tests h true true = h

pub line_ends_empty : (cs : List ℕ) → is_empty (with_line_ends cs) ≡ is_empty cs
line_ends_empty [] = refl
line_ends_empty (c ∷ cs) = line_ends_some c cs

pub texts_of_none : (s : Standing) (cs : List ℕ) → is_empty cs ≡ true → new_texts s cs ≡ 0
texts_of_none s [] e = refl
texts_of_none s (c ∷ cs) e = cc

pub texts_of_some : (s : Standing) (cs : List ℕ) → is_empty cs ≡ false → new_texts s cs ≡ cond (is_empty s.outer || s.in_text) 0 1
texts_of_some s [] e = cc
texts_of_some s (c ∷ cs) e = refl

pub section_in : (cs : List ℕ) (in_text : Bool) → in_text ≡ true → in_text ≡ text_after (cdata cs) in_text
section_in [] in_text e = refl
section_in (c ∷ cs) in_text e = e

pub section_new : (cs : List ℕ) (in_text : Bool) → in_text ≡ false → not (is_empty cs) ≡ text_after (cdata cs) in_text
section_new [] in_text e = sym e
section_new (c ∷ cs) in_text e = refl

pub shape_of_none : (cs : List ℕ) → is_empty cs ≡ true → EmptySection ≡ shape_of (cdata cs)
shape_of_none [] e = refl
shape_of_none (c ∷ cs) e = cc

pub shape_of_some : (cs : List ℕ) → is_empty cs ≡ false → Characters ≡ shape_of (cdata cs)
shape_of_some [] e = cc
shape_of_some (c ∷ cs) e = refl
