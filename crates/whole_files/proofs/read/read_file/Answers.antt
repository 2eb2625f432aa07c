use Rattle.std.proofs.Common.{◌≡◌, ℕ, suc, ◌+◌, ◌≤◌, List, ◌++◌, length, take, drop, ◌∙◌, ap, sym, subst, arith, rules}
use Rattle.std.specs.Prelude.{Ok, IsSome}
use Rattle.std.proofs.Math.Seq.{take-add}
use Rattle.std.proofs.lemmas.Grind.{common_steps}
use Rattle.xa_io.specs.Shelf.{Files, IsAnswer, also_asked, contents}
use Rattle.xa_io.specs.declared.shelf.Got.{Got}
use Rattle.xa_io.specs.declared.shelf.ShelfFailed.{ShelfFailed}
use Rattle.xa_io.specs.declared.shelf.Got.TheVariants.{Bytes}
use Rattle.whole_files.specs.Asking.{Asked, asked_times}
use Rattle.whole_files.proofs.read.read_file.Goals as goal

-- once more
asked_again : (before mid now : Asked) (name : _) → ((n : ℕ) × (mid ≡ asked_times before name n)) → now ≡ also_asked mid name → (n : ℕ) × (now ≡ asked_times before name n)
asked_again before mid now name (n, e) more = (suc n, more ∙ ap (λ a. also_asked a name) e)

-- what a read of some bytes tells
told_bytes : (E : Type 0) (files : Files) (name : List ℕ) (at : ℕ) (into : List ℕ) (got : Got) (n : ℕ) → got ≡ Bytes n → IsAnswer {E = E} files name at into (Ok got)
    → IsSome (files name) × (at + n ≤ length (contents files name)) × (take n into ≡ take n (drop at (contents files name)))
told_bytes E files name at into got n is told = subst (λ g. IsAnswer {E = E} files name at into (Ok g)) is told

-- what came before, and the next bytes
more_taken : (whole octs new given : List ℕ) (at n : ℕ) → octs ≡ take at whole → take n given ≡ take n (drop at whole) → new ≡ octs ++ take n given → new ≡ take (at + n) whole
more_taken whole octs new given at n before next is = is ∙ ap (λ l. l ++ take n given) before ∙ ap (λ l. take at whole ++ l) next ∙ sym (take-add at n whole)

pub turns-init : goal.turns-init
turns-init g c = record {
  within = search rules;
  size = search rules;
  held = search rules;
  told = λ files e. (search rules, search rules);
  gave = search rules;
  few = search rules;
  faults_stay = search rules;
  misses_stay = search rules;
  gave_stays = search rules;
  asked = (0, search rules);
}

pub returns-then-at-limit-clause-asked : goal.returns-then-at-limit-clause-asked
returns-then-at-limit-clause-asked g c = asked_again _ _ _ _ c.turns.invariant.asked c.in-Ok-Bytes.ensures.asked

pub returns-in-Err-push_all-clause-asked : goal.returns-in-Err-push_all-clause-asked
returns-in-Err-push_all-clause-asked g c = asked_again _ _ _ _ c.turns.invariant.asked c.in-Ok-Bytes.ensures.asked

pub returns-in-Ok-End-clause-asked : goal.returns-in-Ok-End-clause-asked
returns-in-Ok-End-clause-asked g c = asked_again _ _ _ _ c.turns.invariant.asked c.in-Ok-End.ensures.asked

pub returns-in-Ok-NoSuch-clause-asked : goal.returns-in-Ok-NoSuch-clause-asked
returns-in-Ok-NoSuch-clause-asked g c = asked_again _ _ _ _ c.turns.invariant.asked c.in-Ok-NoSuch.ensures.asked

pub returns-in-Err-clause-asked : goal.returns-in-Err-clause-asked
returns-in-Err-clause-asked g c = asked_again _ _ _ _ c.turns.invariant.asked c.in-Err.ensures.asked

pub turns-preserved : goal.turns-preserved
turns-preserved g c = record {
  within = search rules;
  size = grind (arith, common_steps);
  held = search rules;
  told = λ files e.
      let told = told_bytes ShelfFailed files _ _ _ _ _ c.in-Ok-Bytes.field-0-is (c.in-Ok-Bytes.ensures.told files (c.turns.invariant.held ∙ e)) in
      (told.1, more_taken _ _ _ _ _ _ (c.turns.invariant.told files e).1 told.2 (search rules));
  gave = grind (arith, common_steps);
  few = grind (arith, common_steps);
  faults_stay = grind (arith, common_steps);
  misses_stay = grind (arith, common_steps);
  gave_stays = grind (arith, common_steps);
  asked = asked_again _ _ _ _ c.turns.invariant.asked c.in-Ok-Bytes.ensures.asked;
}
