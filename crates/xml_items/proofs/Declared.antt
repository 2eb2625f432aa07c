-- The pairs of an XML declaration.
use Rattle.std.proofs.Common.{◌≡◌, ℕ, zero, suc, Bool, true, false, ◌&&◌, ◌||◌, List, [], ◌∷◌, Option, Some, None, is_some, option_and_then, refl, sym, ap, ◌∙◌}
use Rattle.std.specs.Option.{option_map_or}
use Rattle.std.proofs.Math.Bool.{and-false, or-false}
use Rattle.std.proofs.lemmas.Bool.{true≢false, false≢true}
use Rattle.document_model.specs.Characters.{is_empty}
use Rattle.document_model.specs.Items.{Item, Pair, pair_at, pairs_of, is_standalone, is_encoded, is_versioned, declaration, declaration_of, when, or_else, without_space_behind}
use Rattle.xml_items.specs.Pairs.{passes_pairs, tells_encoding, tells_version}

pub passes_none : (test : List Pair → Bool) (n : ℕ) (cs : List ℕ) → test [] ≡ true → is_empty cs ≡ true → passes_pairs test n cs ≡ true
passes_none test zero [] h e = h
passes_none test (suc n) [] h e = h
passes_none test n (c ∷ cs) h e = absurd (false≢true e)

pub passes_stop : (test : List Pair → Bool) (n : ℕ) (cs : List ℕ) → is_empty cs ≡ false → pair_at cs ≡ None → passes_pairs test n cs ≡ false
passes_stop test n [] f e = absurd (true≢false f)
passes_stop test zero (c ∷ cs) f e = refl
passes_stop test (suc n) (c ∷ cs) f e = rw e refl

passes_more : (test : List Pair → Bool) (n : ℕ) (cs rest : List ℕ) (pair : Pair) → is_empty cs ≡ false → pair_at cs ≡ Some (pair, rest)
    → passes_pairs test (suc n) cs ≡ passes_pairs (λ ps. test (pair ∷ ps)) n rest
passes_more test n [] rest pair f e = absurd (true≢false f)
passes_more test n (c ∷ cs) rest pair f e = rw e (go (pairs_of n rest))
  where
    go : (o : Option (List Pair)) → option_map_or test (option_and_then (λ ps. Some (pair ∷ ps)) o) false ≡ option_map_or (λ ps. test (pair ∷ ps)) o false
    go None = refl
    go (Some ps) = refl

pub one_pair : (cs rest : List ℕ) (pair : Pair) → is_empty cs ≡ false → pair_at cs ≡ Some (pair, rest) → (is_empty rest && is_standalone (pair ∷ [])) ≡ passes_pairs is_standalone 1 cs
one_pair cs rest pair f e = go rest ∙ sym (passes_more is_standalone 0 cs rest pair f e)
  where
    go : (rest : List ℕ) → (is_empty rest && is_standalone (pair ∷ [])) ≡ passes_pairs (λ ps. is_standalone (pair ∷ ps)) 0 rest
    go [] = refl
    go (x ∷ rest) = refl

after_encoding : (pair : Pair) (ps : List Pair) → tells_encoding pair ≡ true → is_encoded (pair ∷ ps) ≡ is_standalone ps
after_encoding pair ps h = ap (λ b. (b && is_standalone ps) || is_standalone (pair ∷ ps)) h ∙ go ps
  where
    go : (ps : List Pair) → (is_standalone ps || is_standalone (pair ∷ ps)) ≡ is_standalone ps
    go [] = refl
    go (p ∷ ps) = or-false (is_standalone (p ∷ ps))

pub with_encoding : (cs rest : List ℕ) (pair : Pair) → is_empty cs ≡ false → pair_at cs ≡ Some (pair, rest) → tells_encoding pair ≡ true
    → passes_pairs is_standalone 1 rest ≡ passes_pairs is_encoded 2 cs
with_encoding cs rest pair f e h = go (pairs_of 1 rest) ∙ sym (passes_more is_encoded 1 cs rest pair f e)
  where
    go : (o : Option (List Pair)) → option_map_or is_standalone o false ≡ option_map_or (λ ps. is_encoded (pair ∷ ps)) o false
    go None = refl
    go (Some ps) = sym (after_encoding pair ps h)

pub without_encoding : (cs rest : List ℕ) (pair : Pair) → is_empty cs ≡ false → pair_at cs ≡ Some (pair, rest) → tells_encoding pair ≡ false
    → passes_pairs is_standalone 1 cs ≡ passes_pairs is_encoded 2 cs
without_encoding cs rest pair f e h = passes_more is_standalone 0 cs rest pair f e ∙ go rest ∙ sym (same (pairs_of 1 rest)) ∙ sym (passes_more is_encoded 1 cs rest pair f e)
  where
    same : (o : Option (List Pair)) → option_map_or (λ ps. is_encoded (pair ∷ ps)) o false ≡ option_map_or (λ ps. is_standalone (pair ∷ ps)) o false
    same None = refl
    same (Some ps) = ap (λ b. (b && is_standalone ps) || is_standalone (pair ∷ ps)) h

    two : (a : Option (Pair × List ℕ)) (f : List ℕ → Option (List Pair))
        → false ≡ option_map_or (λ ps. is_standalone (pair ∷ ps)) (option_and_then (λ first. option_and_then (λ others. Some (first.0 ∷ others)) (f first.1)) a) false
    two None f = refl
    two (Some first) f = last (f first.1)
      where
        last : (o : Option (List Pair)) → false ≡ option_map_or (λ ps. is_standalone (pair ∷ ps)) (option_and_then (λ others. Some (first.0 ∷ others)) o) false
        last None = refl
        last (Some ps) = refl

    go : (rest : List ℕ) → passes_pairs (λ ps. is_standalone (pair ∷ ps)) 0 rest ≡ passes_pairs (λ ps. is_standalone (pair ∷ ps)) 1 rest
    go [] = refl
    go (x ∷ rest) = two (pair_at (x ∷ rest)) (pairs_of 0)

and_passes : (b : Bool) (test : List Pair → Bool) (o : Option (List Pair)) → (b && option_map_or test o false) ≡ option_map_or (λ ps. b && test ps) o false
and_passes b test None = and-false b
and_passes b test (Some ps) = refl

some_when : {A : Type 0} (b : Bool) (x : A) → is_some (when b x) ≡ b
some_when true x = refl
some_when false x = refl

declared_by : (o : Option (List Pair)) → is_some (option_and_then (λ pairs. when (is_versioned pairs) declaration) o) ≡ option_map_or is_versioned o false
declared_by None = refl
declared_by (Some ps) = some_when (is_versioned ps) declaration

pub version_first : (text rest : List ℕ) (pair : Pair) (cs : List ℕ) → without_space_behind text ≡ cs → is_empty cs ≡ false → pair_at cs ≡ Some (pair, rest)
    → (tells_version pair && passes_pairs is_encoded 2 rest) ≡ is_some (declaration_of text)
version_first text rest pair cs s f e =
    and_passes (tells_version pair) is_encoded (pairs_of 2 rest) ∙ sym (passes_more is_versioned 2 cs rest pair f e) ∙ sym (declared_by (pairs_of 3 cs))
    ∙ ap (λ x. is_some (option_and_then (λ pairs. when (is_versioned pairs) declaration) (pairs_of 3 x))) (sym s)

pub no_version : (text cs : List ℕ) → without_space_behind text ≡ cs → is_empty cs ≡ true → is_some (declaration_of text) ≡ false
no_version text [] s e = rw s refl
no_version text (c ∷ cs) s e = absurd (false≢true e)

-- the declaration before the PI

when_declared : (b : Bool) (y : Option Item) → is_some (when b declaration) ≡ true → or_else (when b declaration) y ≡ Some declaration
when_declared true y h = refl
when_declared false y h = absurd (false≢true h)

pairs_declared : (o : Option (List Pair)) (y : Option Item) → is_some (option_and_then (λ pairs. when (is_versioned pairs) declaration) o) ≡ true
    → or_else (option_and_then (λ pairs. when (is_versioned pairs) declaration) o) y ≡ Some declaration
pairs_declared None y h = absurd (false≢true h)
pairs_declared (Some ps) y h = when_declared (is_versioned ps) y h

pub xml_declared : (o : Option (List ℕ)) (y : Option Item) → is_some (option_and_then declaration_of o) ≡ true → or_else (option_and_then declaration_of o) y ≡ Some declaration
xml_declared None y h = absurd (false≢true h)
xml_declared (Some x) y h = pairs_declared (pairs_of 3 (without_space_behind x)) y h

pub or_second : (o y : Option Item) → is_some o ≡ false → or_else o y ≡ y
or_second None y h = refl
or_second (Some x) y h = absurd (true≢false h)
