use Rattle.std.proofs.Common.{◌≡◌, map, string_bytes, subst}
use Rattle.std.specs.Prelude.{Some, Err}
use Rattle.xa_io.specs.Shelf.{Files}
use Rattle.whole_files.specs.Asking.{AsksInOrder}
use Rattle.whole_files.specs.Faults.{counts_of}
use Rattle.whole_files.specs.Wants.{names_of}
use Rattle.command_words.specs.Asked.{asked_by}
use Rattle.command_words.specs.Files.{wants_of}
use Rattle.xades_cli.specs.Judging.{IsJudged, IsJudgedRight, IsAnswered, HasStopCause}
use Rattle.command_words.specs.Words.{IsCommand}
use Rattle.xades_cli.proofs.RunLemmas.{answered, stopped, sized}
use Rattle.xades_cli.proofs.runs.carry_out.Goals as goal

pub returns-in-Ok-clause-run : goal.returns-in-Ok-clause-run
returns-in-Ok-clause-run g c =
    let command : IsCommand (map string_bytes c.args.words.now.items) = rw (← c.as_slice.ensures.value) c.in-Ok.ensures.judged in
    let told : (files : Files) → g.S.Shelf.held c.args.shelf.now ≡ Some files → IsAnswered (asked_by (map string_bytes c.args.words.now.items)) files c.in-Ok.answer = rw (← c.as_slice.ensures.value) c.in-Ok.ensures.told in
    let asks : AsksInOrder (names_of (wants_of (asked_by (map string_bytes c.args.words.now.items)))) (g.S.Shelf.asked c.args.shelf.now) (g.S.Shelf.asked c.judge.new.shelf) = rw (← c.as_slice.ensures.value) c.in-Ok.ensures.asked in
    answered (map string_bytes c.args.words.now.items) _ _ _ _ c.in-Ok.answer c.give.result command told asks c.in-Ok.ensures.held c.in-Ok.ensures.grown c.give.ensures.given c.give.ensures.failed c.give.ensures.faults_stay

pub returns-in-Err-clause-run : goal.returns-in-Err-clause-run
returns-in-Err-clause-run g c =
    let judged = subst (λ items. IsJudged (map string_bytes items) (Err c.in-Err.stop)) c.as_slice.ensures.value c.in-Err.ensures.judged in
    let told = subst (λ items. (files : Files) → g.S.Shelf.held c.args.shelf.now ≡ Some files → IsJudgedRight (asked_by (map string_bytes items)) files (Err c.in-Err.stop)) c.as_slice.ensures.value c.in-Err.ensures.told in
    let cause = subst (λ items. HasStopCause (wants_of (asked_by (map string_bytes items))) (counts_of g.S.Shelf.faults g.S.Shelf.misses g.S.Shelf.gave c.args.shelf.now) (counts_of g.S.Shelf.faults g.S.Shelf.misses g.S.Shelf.gave c.judge.new.shelf) (Err c.in-Err.stop))
    c.as_slice.ensures.value c.in-Err.ensures.cause in
    let asks = subst (λ items. AsksInOrder (names_of (wants_of (asked_by (map string_bytes items)))) (g.S.Shelf.asked c.args.shelf.now) (g.S.Shelf.asked c.judge.new.shelf)) c.as_slice.ensures.value c.in-Err.ensures.asked in
    rw c.ended_by.ensures (stopped (map string_bytes c.args.words.now.items) _ _ _ c.in-Err.stop judged told cause asks c.in-Err.ensures.held c.in-Err.ensures.grown)

pub returns-in-Err-clause-sized : goal.returns-in-Err-clause-sized
returns-in-Err-clause-sized g c = λ files e.
    let told = subst (λ items. (shelf : Files) → g.S.Shelf.held c.args.shelf.now ≡ Some shelf → IsJudgedRight (asked_by (map string_bytes items)) shelf (Err c.in-Err.stop)) c.as_slice.ensures.value c.in-Err.ensures.told in
    rw c.ended_by.ensures (sized (asked_by (map string_bytes c.args.words.now.items)) files c.in-Err.stop (told files e))
