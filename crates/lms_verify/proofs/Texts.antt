-- The text that a step hashes, written part by part.
use Rattle.std.proofs.Common.{◌≡◌, ℕ, ◌+◌, List, [], ◌∷◌, ◌++◌, length, take, drop, set, refl, ap, sym, ◌∙◌, append_assoc, arith, length-append, length-drop}
use Rattle.std.proofs.lemmas.List.{take_at, drop_at, append-nil, drop-set, drop-drop, take-set, take-append-drop, drop_all}
use Rattle.std.specs.Prelude.{replicate}
use Rattle.sha2.specs.Sha256.{sha256}
use Rattle.lms_verify.specs.LmOts.{u16str, u32str, step, step_text}

-- the text that a part was written into, behind what was written before
pub next_part : (front part rest : List ℕ) (at : ℕ) → length front ≡ at → take at (front ++ rest) ++ (part ++ drop (at + length part) (front ++ rest)) ≡ (front ++ part) ++ drop (length part) rest
next_part front part rest at long =
    let behind : drop (at + length part) (front ++ rest) ≡ drop (length part) rest = sym (drop-drop (length part) at (front ++ rest)) ∙ rw (drop_at front rest at long) refl in
    rw (take_at front rest at long, behind, append_assoc) refl

-- four parts written over zeros, one place between the last two
pub four_parts : (id q i v t1 t2 t3 t4 : List ℕ) → length id ≡ 16 → length q ≡ 4 → length i ≡ 2 → length v ≡ 32
    → t1 ≡ take 0 (replicate 55 0) ++ (id ++ drop (0 + length id) (replicate 55 0))
    → t2 ≡ take 16 t1 ++ (q ++ drop (16 + length q) t1)
    → t3 ≡ take 20 t2 ++ (i ++ drop (20 + length i) t2)
    → t4 ≡ take 23 t3 ++ (v ++ drop (23 + length v) t3)
    → t4 ≡ id ++ q ++ i ++ (0 ∷ []) ++ v
four_parts id q i v t1 t2 t3 t4 lid lq li lv e1 e2 e3 e4 =
    let one : t1 ≡ id ++ replicate 39 0 = rw (e1, lid) refl in
    let two = rw one at e2 in
    let two' = rw (next_part id q (replicate 39 0) 16 lid, lq) at two in
    let both : length (id ++ q) ≡ 20 = simp length-append (omega (arith, lid, lq)) in
    let three = rw two' at e3 in
    let three' = rw (next_part (id ++ q) i (replicate 35 0) 20 both, li) at three in
    let all : length (id ++ q ++ i ++ (0 ∷ [])) ≡ 23 = simp length-append (omega (arith, lid, lq, li)) in
    let split : t3 ≡ (id ++ q ++ i ++ (0 ∷ [])) ++ replicate 32 0 = three' ∙ sym (append_assoc (id ++ q ++ i) (0 ∷ []) (replicate 32 0)) in
    let four = rw split at e4 in
    rw (next_part (id ++ q ++ i ++ (0 ∷ [])) v (replicate 32 0) 23 all, lv, append-nil) at four

-- a text of this front and value, whatever its number
pub record IsText (text front v : List ℕ) : Type 0 where
  pub long : length text ≡ 55
  pub front_is : take 22 text ≡ front
  pub value_is : drop 23 text ≡ v

-- the text with its number set
numbered : (text front v : List ℕ) (x : ℕ) → IsText text front v → set text 22 x ≡ front ++ (x ∷ v)
numbered text front v x is =
    let long = is.long in
    sym (take-append-drop 22 (set text 22 x)) ∙ rw (take-set text 22 x, is.front_is, drop-set text 22 x (omega arith), is.value_is) refl

-- the step that hashes it
pub step_is : (id : List ℕ) (q i x : ℕ) (text v : List ℕ) → IsText text (id ++ u32str q ++ u16str i) v → sha256 (set text 22 x) ≡ step id q i x v
unfolding step
step_is id q i x text v is =
    ap sha256 (numbered text (id ++ u32str q ++ u16str i) v x is ∙ sym (append_assoc (id ++ u32str q ++ u16str i) (x ∷ []) v))

-- the text after a step
pub stepped : (text front v v' : List ℕ) (x : ℕ) → length front ≡ 22 → length v' ≡ 32 → IsText text front v
    → IsText (take 23 (set text 22 x) ++ (v' ++ drop (23 + length v') (set text 22 x))) front v'
stepped text front v v' x lf lv' is =
    let lv : length v ≡ 32 = let behind = length-drop 23 text in let same = ap length is.value_is in let all = is.long in omega arith in
    let head : length (front ++ (x ∷ [])) ≡ 23 = simp length-append (omega arith) in
    let split : set text 22 x ≡ (front ++ (x ∷ [])) ++ v = numbered text front v x is ∙ sym (append_assoc front (x ∷ []) v) in
    let over = next_part (front ++ (x ∷ [])) v' v 23 head in
    let new = rw (lv', drop_all 32 v (omega (arith, lv)), append-nil) at over in
    rw (split, lv', new) (record {
      long = simp length-append (omega arith);
      front_is = rw append_assoc (take_at front (x ∷ v') 22 lf);
      value_is = drop_at (front ++ (x ∷ [])) v' 23 head;
    })

-- the text of the first step
pub first_text : (id : List ℕ) (q i : ℕ) (v : List ℕ) → length id ≡ 16 → length v ≡ 32 → IsText (step_text id q i 0 v) (id ++ u32str q ++ u16str i) v
first_text id q i v li lv = record {
  long = simp length-append (omega arith);
  front_is = rw append_assoc (take_at (id ++ u32str q ++ u16str i) (0 ∷ v) 22 (simp length-append (omega arith)));
  value_is = drop_at (id ++ u32str q ++ u16str i ++ (0 ∷ [])) v 23 (simp length-append (omega arith));
}
