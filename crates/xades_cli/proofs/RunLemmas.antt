-- How runs end: with an answer that is given out, or by a stop.
use Rattle.std.proofs.Common.{◌≡◌, ℕ, ◌≤◌, List, refl, sym, ap, ◌∙◌, subst, inl, inr, arith}
use Rattle.std.specs.Prelude.{true, false, Option, Some, Result, Ok, Err}
use Rattle.doc_spans.specs.declared.faults.DocFault.{DocFault}
use Rattle.doc_spans.specs.declared.faults.DocFault.TheVariants as documents
use Rattle.policy_rules.specs.declared.fault.PolicyFault.{PolicyFault}
use Rattle.policy_rules.specs.declared.fault.PolicyFault.TheVariants as policies
use Rattle.xa_io.specs.Causes.{Rose}
use Rattle.xa_io.specs.Shelf.{Files}
use Rattle.xa_io.specs.Sink.{appended, GaveFirst}
use Rattle.whole_files.specs.Asking.{AsksInOrder}
use Rattle.whole_files.specs.Faults.{HasGrown}
use Rattle.whole_files.specs.Wants.{Held, AreFor, names_of, AreHeld}
use Rattle.whole_files.specs.declared.fault.FileFault.TheVariants as faults
use Rattle.word_patterns.proofs.GrammarLemmas.{faulty_don't_fit}
use Rattle.command_words.specs.Asked.{Asked, asked_by}
use Rattle.command_words.specs.Files.{wants_of}
use Rattle.xades_cli.specs.Commands.{ComesTo, IsComputed}
use Rattle.xades_cli.specs.Giving.{IsGiven}
use Rattle.xades_cli.specs.Judging.{IsJudged, IsJudgedRight, IsAnswered, HasStopCause}
use Rattle.xades_cli.specs.Lines.{IsSized}
use Rattle.augmenter.specs.Answers.{IsFaultyDocument}
use Rattle.xades_cli.specs.Outcomes.{Outcome, Writes, Reports, RefusesDocument, RefusesPolicy, RefusesData, RefusesItem, IsToldOfPolicy, Gives, Refuses, Follows}
use Rattle.xades_cli.specs.Runs.{IsRun, IsCarriedOut, HoldsNoMemory, ShelfState, SinkState, stage_of, OfOutcome, IsByWords, IsRight, HasCause}
use Rattle.whole_files.specs.declared.fault.Unread.{Unread}
use Rattle.whole_files.specs.declared.fault.Unread.TheVariants as unread
use Rattle.xades_cli.specs.Stops.{ended_by, ended_by_refusal, stop_unread}
use Rattle.command_words.specs.Words.{patterns, IsCommand}
use Rattle.xades_cli.specs.declared.answers.Answer.{Answer}
use Rattle.xades_cli.specs.declared.answers.Answer.TheVariants.{Text, Report}
use Rattle.xades_cli.specs.declared.status.Status.{Status}
use Rattle.xades_cli.specs.declared.status.Status.TheVariants.{Done, No, WriteFault, BadDocument, BadPolicy}
use Rattle.xades_cli.specs.declared.stop.Refusal.{Refusal}
use Rattle.xades_cli.specs.declared.stop.Refusal.TheVariants as refusals
use Rattle.xades_cli.specs.declared.stop.Stop.{Stop}
use Rattle.xades_cli.specs.declared.stop.Stop.TheVariants as stops
use Rattle.xades_cli.proofs.CommandLemmas.{comes_once}
use Rattle.xades_cli.proofs.DoneLemmas.{answer_done}
use Rattle.whole_files.proofs.HeldLemmas.{held_once, none_missing, none_too_long}

-- what is refused follows the outcome, and nothing is given
refused_follows : (outcome : Outcome) (refusal : Refusal) (before : Option (List ℕ)) → Refuses outcome refusal → Follows outcome (ended_by_refusal refusal).status before before
refused_follows (RefusesDocument document) (refusals.Document fault size) before refuses = refuses.0
refused_follows (RefusesPolicy fault) (refusals.Policy told) before refuses = refuses.0
refused_follows (RefusesData name at) (refusals.Data told place) before refuses = refuses
refused_follows (RefusesItem item code) (refusals.Item number told) before refuses = refuses
refused_follows outcome refusal before refuses = absurd refuses

faulty_document : (document : List ℕ) (fault : DocFault) → IsFaultyDocument document fault → HoldsNoMemory (BadDocument fault)
faulty_document document documents.OutOfMemory faulty = absurd faulty
faulty_document document fault faulty = tt

told_policy : (fault : PolicyFault) → IsToldOfPolicy fault → HoldsNoMemory (BadPolicy fault)
told_policy policies.OutOfMemory told = absurd told
told_policy fault told = tt

refused_told : (outcome : Outcome) (refusal : Refusal) → Refuses outcome refusal → HoldsNoMemory (ended_by_refusal refusal).status
refused_told (RefusesDocument document) (refusals.Document fault size) refuses = faulty_document document fault refuses.0
refused_told (RefusesPolicy fault) (refusals.Policy told) refuses = told_policy told refuses.1
refused_told (RefusesData name at) (refusals.Data told place) refuses = tt
refused_told (RefusesItem item code) (refusals.Item number told) refuses = tt
refused_told outcome refusal refuses = absurd refuses

-- an answer that was given follows the outcome
answer_follows : (outcome : Outcome) (answer : Answer) (status : Status) (before now : Option (List ℕ)) → Gives outcome answer → IsGiven answer status before now → Follows outcome status before now
answer_follows (Writes bytes) (Text text) Done before now gives given = given ∙ ap (appended before) gives
answer_follows (Writes bytes) (Text text) WriteFault before now gives given = subst (λ t. GaveFirst t before now) gives given
answer_follows (Reports true bytes) (Report text true) Done before now gives given = given ∙ ap (appended before) gives.0
answer_follows (Reports true bytes) (Report text true) WriteFault before now gives given = subst (λ t. GaveFirst t before now) gives.0 given
answer_follows (Reports false bytes) (Report text false) No before now gives given = given ∙ ap (appended before) gives.0
answer_follows (Reports false bytes) (Report text false) WriteFault before now gives given = subst (λ t. GaveFirst t before now) gives.0 given
answer_follows (Reports true bytes) (Report text false) status before now gives given = let e : false ≡ true = gives.1 in cc
answer_follows (Reports false bytes) (Report text true) status before now gives given = let e : true ≡ false = gives.1 in cc
answer_follows (Writes bytes) (Text text) status before now gives given = absurd given
answer_follows (Reports true bytes) (Report text true) status before now gives given = absurd given
answer_follows (Reports false bytes) (Report text false) status before now gives given = absurd given
answer_follows outcome answer status before now gives given = absurd gives

-- with a status of the outcome
abbrev pub IsOfOutcome : Status → Type 0
IsOfOutcome Done = Unit {0}
IsOfOutcome No = Unit {0}
IsOfOutcome WriteFault = Unit {0}
IsOfOutcome status = ⊥

given_outcome : (answer : Answer) (status : Status) (before now : Option (List ℕ)) → IsGiven answer status before now → IsOfOutcome status
given_outcome (Text text) Done before now given = tt
given_outcome (Text text) WriteFault before now given = tt
given_outcome (Report text true) Done before now given = tt
given_outcome (Report text false) No before now given = tt
given_outcome (Report text verdict) WriteFault before now given = tt
given_outcome answer status before now given = absurd given

outcome_stage : (status : Status) → IsOfOutcome status → stage_of status ≡ OfOutcome
outcome_stage Done of = refl
outcome_stage No of = refl
outcome_stage WriteFault of = refl
outcome_stage status of = absurd of

outcome_memory : (status : Status) → IsOfOutcome status → HoldsNoMemory status
outcome_memory Done of = tt
outcome_memory No of = tt
outcome_memory WriteFault of = tt
outcome_memory status of = absurd of

-- a run that gives out an answer
pub answered : (words : List (List ℕ)) (shelf shelf_now : ShelfState) (out out_now : SinkState) (answer : Answer) (status : Status) → IsCommand words
    → ((files : Files) → shelf.held ≡ Some files → IsAnswered (asked_by words) files answer)
    → AsksInOrder (names_of (wants_of (asked_by words))) shelf.asked shelf_now.asked → shelf_now.held ≡ shelf.held → HasGrown shelf.counts shelf_now.counts
    → IsGiven answer status out.given out_now.given → (status ≡ WriteFault → Rose out.faults out_now.faults) → out.faults ≤ out_now.faults
    → IsRun words shelf shelf_now out out_now status
answered words shelf shelf_now out out_now answer status command told asks held grown given write stays =
    let of = given_outcome answer status out.given out_now.given given in
    let stage = sym (outcome_stage status of) in
    let carried : (files : Files) → shelf.held ≡ Some files → IsCarriedOut (asked_by words) files status out.given out_now.given
    = λ files e. let a = told files e in record {
      files = a.files;
      outcome = a.outcome;
      held = a.held;
      comes = a.comes;
      follows = answer_follows a.outcome answer status out.given out_now.given a.gives given;
    } in record {
      by_words = subst (IsByWords words) stage command;
      told = λ files e fits. subst (IsRight (asked_by words) files status out.given out_now.given) stage (carried files e);
      done = λ files e fits ends. let a = told files e in answer_done (asked_by words) files a.files answer out.given out_now.given a.held (subst (λ s. IsGiven answer s out.given out_now.given) ends given) a.says;
      cause = subst (HasCause (wants_of (asked_by words)) shelf.counts shelf_now.counts) stage tt;
      write = write;
      complete = λ files e fits fine sound all whole. inr (carried files e, λ fault. sound (write fault));
      memory = outcome_memory status of;
      asked = asks;
      held = held;
      grown = grown;
      faults_stay = stays;
    }

refusal_stage : (refusal : Refusal) → stage_of (ended_by_refusal refusal).status ≡ OfOutcome
refusal_stage (refusals.Document fault size) = refl
refusal_stage (refusals.Policy fault) = refl
refusal_stage (refusals.Data name at) = refl
refusal_stage (refusals.Item item code) = refl

refusal_writes_nothing : (refusal : Refusal) → (ended_by_refusal refusal).status ≡ WriteFault → ⊥
refusal_writes_nothing (refusals.Document fault size) e = cc
refusal_writes_nothing (refusals.Policy fault) e = cc
refusal_writes_nothing (refusals.Data name at) e = cc
refusal_writes_nothing (refusals.Item item code) e = cc

refusal_not_done : (refusal : Refusal) → (ended_by_refusal refusal).status ≡ Done → ⊥
refusal_not_done (refusals.Document fault size) e = cc
refusal_not_done (refusals.Policy fault) e = cc
refusal_not_done (refusals.Data name at) e = cc
refusal_not_done (refusals.Item item code) e = cc

-- what was computed from the files is judged
pub judged_by : (words : List (List ℕ)) (files : List Held) (result : Result Answer Stop) → IsCommand words → AreFor (wants_of (asked_by words)) files → IsComputed (asked_by words) files result → IsJudged words result
judged_by words files (Ok answer) command read computed = command
judged_by words files (Err (stops.Words index)) command read computed = absurd computed
judged_by words files (Err (stops.File name fault)) command read computed = command
judged_by words files (Err (stops.Refusal refusal)) command read computed = (
  command,
  record {
    files = files;
    read = read;
    outcome = computed.outcome;
    comes = computed.comes;
    refuses = computed.refuses;
  },
)
judged_by words files (Err stops.OutOfMemory) command read computed = tt

-- a run that stops
pub stopped : (words : List (List ℕ)) (shelf shelf_now : ShelfState) (out : SinkState) (stop : Stop) → IsJudged words (Err stop)
    → ((files : Files) → shelf.held ≡ Some files → IsJudgedRight (asked_by words) files (Err stop))
    → HasStopCause (wants_of (asked_by words)) shelf.counts shelf_now.counts (Err stop)
    → AsksInOrder (names_of (wants_of (asked_by words))) shelf.asked shelf_now.asked → shelf_now.held ≡ shelf.held → HasGrown shelf.counts shelf_now.counts
    → IsRun words shelf shelf_now out out (ended_by stop).status
stopped words shelf shelf_now out (stops.Words index) judged told cause asks held grown = record {
  by_words = judged;
  told = λ files e fits. absurd (faulty_don't_fit patterns words index judged fits);
  done = λ files e fits ends. cc;
  cause = tt;
  write = λ e. cc;
  complete = λ files e fits fine sound all whole. absurd (faulty_don't_fit patterns words index judged fits);
  memory = tt;
  asked = asks;
  held = held;
  grown = grown;
  faults_stay = omega arith;
}
stopped words shelf shelf_now out (stops.File name faults.NoSuch) judged told cause asks held grown = record {
  by_words = judged;
  told = λ files e fits. told files e;
  done = λ files e fits ends. cc;
  cause = cause;
  write = λ e. cc;
  complete = λ files e fits fine sound all whole. absurd (none_missing files (wants_of (asked_by words)) all name whole (told files e));
  memory = tt;
  asked = asks;
  held = held;
  grown = grown;
  faults_stay = omega arith;
}
stopped words shelf shelf_now out (stops.File name faults.Failed) judged told cause asks held grown = record {
  by_words = judged;
  told = λ files e fits. told files e;
  done = λ files e fits ends. cc;
  cause = cause;
  write = λ e. cc;
  complete = λ files e fits fine sound all whole. absurd (fine cause.1);
  memory = tt;
  asked = asks;
  held = held;
  grown = grown;
  faults_stay = omega arith;
}
stopped words shelf shelf_now out (stops.File name (faults.TooLong got)) judged told cause asks held grown = record {
  by_words = judged;
  told = λ files e fits. told files e;
  done = λ files e fits ends. cc;
  cause = cause;
  write = λ e. cc;
  complete = λ files e fits fine sound all whole. absurd (none_too_long files (wants_of (asked_by words)) all name got whole (told files e));
  memory = tt;
  asked = asks;
  held = held;
  grown = grown;
  faults_stay = omega arith;
}
stopped words shelf shelf_now out stops.OutOfMemory judged told cause asks held grown = record {
  by_words = tt;
  told = λ files e fits. tt;
  done = λ files e fits ends. cc;
  cause = tt;
  write = λ e. cc;
  complete = λ files e fits fine sound all whole. inl refl;
  memory = tt;
  asked = asks;
  held = held;
  grown = grown;
  faults_stay = omega arith;
}
stopped words shelf shelf_now out (stops.Refusal refusal) judged told cause asks held grown =
    let stage = sym (refusal_stage refusal) in
    let carried : (files : Files) → shelf.held ≡ Some files → IsCarriedOut (asked_by words) files (ended_by_refusal refusal).status out.given out.given
    = λ files e. let r = told files e in record {
      files = r.files;
      outcome = r.outcome;
      held = r.held;
      comes = r.comes;
      follows = refused_follows r.outcome refusal out.given r.refuses;
    } in record {
      by_words = subst (IsByWords words) stage judged.0;
      told = λ files e fits. subst (IsRight (asked_by words) files (ended_by_refusal refusal).status out.given out.given) stage (carried files e);
      done = λ files e fits ends. absurd (refusal_not_done refusal ends);
      cause = subst (HasCause (wants_of (asked_by words)) shelf.counts shelf_now.counts) stage tt;
      write = λ e. absurd (refusal_writes_nothing refusal e);
      complete = λ files e fits fine sound all whole. inr (carried files e, refusal_writes_nothing refusal);
      memory = refused_told judged.1.outcome refusal judged.1.refuses;
      asked = asks;
      held = held;
      grown = grown;
      faults_stay = omega arith;
    }

-- the size that goes with a fault of the document is that document's
pub sized : (asked : Asked) (shelf : Files) (stop : Stop) → IsJudgedRight asked shelf (Err stop) → IsSized asked shelf (ended_by stop).status (ended_by stop).size
sized asked shelf (stops.Refusal (refusals.Document fault size)) right = λ files document held comes.
    let same : right.files ≡ files = held_once shelf (wants_of asked) right.files files right.held held in
    let one : right.outcome ≡ RefusesDocument document = comes_once asked files right.outcome (RefusesDocument document) (subst (λ f. ComesTo asked f right.outcome) same right.comes) comes in
    let refuses : Refuses (RefusesDocument document) (refusals.Document fault size) = subst (λ o. Refuses o (refusals.Document fault size)) one right.refuses in
    refuses.1
sized asked shelf (stops.Refusal (refusals.Policy fault)) right = tt
sized asked shelf (stops.Refusal (refusals.Data name at)) right = tt
sized asked shelf (stops.Refusal (refusals.Item item code)) right = tt
sized asked shelf (stops.Words index) right = tt
sized asked shelf (stops.File name faults.NoSuch) right = tt
sized asked shelf (stops.File name faults.Failed) right = tt
sized asked shelf (stops.File name (faults.TooLong got)) right = tt
sized asked shelf stops.OutOfMemory right = tt

-- what was computed of the files of a shelf
pub judged_right : (asked : Asked) (shelf : Files) (files : List Held) (result : Result Answer Stop) → AreHeld shelf (wants_of asked) files → IsComputed asked files result → IsJudgedRight asked shelf result
judged_right asked shelf files (Ok answer) held computed = record {
  files = files;
  held = held;
  outcome = computed.outcome;
  comes = computed.comes;
  gives = computed.gives;
  says = computed.says;
}
judged_right asked shelf files (Err (stops.Words index)) held computed = tt
judged_right asked shelf files (Err (stops.File name fault)) held computed = absurd computed
judged_right asked shelf files (Err (stops.Refusal refusal)) held computed = record {
  files = files;
  held = held;
  outcome = computed.outcome;
  comes = computed.comes;
  refuses = computed.refuses;
}
judged_right asked shelf files (Err stops.OutOfMemory) held computed = tt

-- a file that wasn't read
pub unread_judged : (words : List (List ℕ)) (why : Unread) → IsCommand words → IsJudged words (Err (stop_unread why))
unread_judged words (unread.File name fault) command = command
unread_judged words unread.OutOfMemory command = tt
