-- What stood before is kept, whatever is written behind it.
use Rattle.std.proofs.Common.{◌≡◌, ℕ, List, [], ◌∷◌, ◌++◌, length, take, refl, Result, Ok, Err, OnErr}
use Rattle.std.proofs.Math.Seq.{take-append_seam}

pub kept_through : (a b c : List ℕ) → take (length a) b ≡ a → take (length b) c ≡ b → take (length a) c ≡ a
kept_through [] b c p q = refl
kept_through (x ∷ a) [] c p q = cc
kept_through (x ∷ a) (y ∷ b) [] p q = cc
kept_through (x ∷ a) (y ∷ b) (z ∷ c) p q =
    let p' : take (length a) b ≡ a = cc in let q' : take (length b) c ≡ b = cc in let rest : take (length a) c ≡ a = kept_through a b c p' q' in cc

pub kept_behind : (a b text : List ℕ) → take (length a) b ≡ a → take (length a) (b ++ text) ≡ a
kept_behind a b text p = kept_through a b (b ++ text) p (take-append_seam b text)

pub on_err : {A E : Type 0} (P : Type 0) (result : Result A E) → P → OnErr result P
on_err P (Ok x) p = tt
on_err P (Err e) p = p
