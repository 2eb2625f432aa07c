-- What the calls on a case keep, one after another.
use Rattle.std.proofs.Common.{◌≡◌, ℕ, ◌≤◌, List, ◌∷◌, [], ◌++◌, length, arith, sym, ap, subst, ◌∙◌, Some}
use Rattle.acceptance.specs.Certificates.{Part, certificate}
use Rattle.acceptance.specs.Tokens.{Token}
use Rattle.cert_paths.specs.Pool.{Keeps}
use Rattle.existence_times.specs.Kept.{with_stamp}
use Rattle.existence_times.specs.Shown.{Shown, ShownStamp, HasToken, HasSignerOf, KeepsCase}

pub keeps_both : (first next last : Shown) → KeepsCase first next → KeepsCase next last → KeepsCase first last
keeps_both first next last one two = record {
  pool = record {
    larger = let a = one.pool.larger in let b = two.pool.larger in omega arith;
    kept = λ n p at. two.pool.kept n p (one.pool.kept n p at);
  };
  references = two.references ∙ one.references;
  tokens = λ n bytes has. two.tokens n bytes (one.tokens n bytes has);
  stamps = two.stamps ∙ one.stamps;
}

-- a signer that is in a pool is in one that keeps it
pub signer_kept : (pool grown : List Part) (token : Token) → Keeps pool grown → HasSignerOf pool token → HasSignerOf grown token
signer_kept pool grown token keeps has whole is =
    let (m, there, same) = has whole is in (m, keeps.kept m.number (certificate m.certificate) there, same)

-- a stamp is put behind those of a case that was kept
pub stamps_then : (first next last : Shown) (stamp : ShownStamp) → KeepsCase first next → last ≡ with_stamp next stamp → last.stamps ≡ first.stamps ++ stamp ∷ []
stamps_then first next last stamp kept done = ap (λ (s : Shown). s.stamps) done ∙ ap (λ (l : List ShownStamp). l ++ stamp ∷ []) kept.stamps

pub token_then : (next last : Shown) (stamp : ShownStamp) (n : ℕ) (bytes : List ℕ) → last ≡ with_stamp next stamp → HasToken next n bytes → HasToken last n bytes
token_then next last stamp n bytes done has = subst (λ (s : Shown). HasToken s n bytes) (sym done) has

pub pool_then : (first next last : Shown) (stamp : ShownStamp) → KeepsCase first next → last ≡ with_stamp next stamp → Keeps first.pool last.pool
pool_then first next last stamp kept done = subst (λ (s : Shown). Keeps first.pool s.pool) (sym done) kept.pool
