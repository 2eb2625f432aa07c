-- The greatest times that tokens may have.
use Rattle.std.proofs.Common.{◌≡◌, ℕ, suc, ◌+◌, ◌<◌, ◌≤◌, List, [], ◌∷◌, length, map, replicate, set, drop, drop-cons, get_or, slice_get, Some, All, Contains, Bool, ℤ, pos, ◌≤ℤ◌, ◌↔◌, IsTrue, arith, refl, sym, ap, subst, ◌∙◌, ⊎_elim}
use Rattle.std.proofs.lemmas.List.{at_drop_all, get_or-replicate, length-map, length-replicate}
use Rattle.std.proofs.lemmas.List.Elements.{All-head, All-tail, All-contains}
use Rattle.std.proofs.lemmas.Option.{slice_get_read}
use Rattle.std.specs.Int.{int_min}
use Rattle.acceptance.specs.Certificates.{Part}
use Rattle.acceptance.specs.Rounds.{lowered}
use Rattle.acceptance.specs.Times.{Stamp, IsOf}
use Rattle.acceptance.specs.Tokens.{Token}
use Rattle.acceptance.specs.Verdict.{Case, IsInOrder}
use Rattle.acceptance.specs.Walks.{time}
use Rattle.acceptance.proofs.Lowering.{Within, Within-set, ≤ℤ_over, int_min-above, length-lowered, lowered_covers, lowered_no_later, time-set_above}
use Rattle.acceptance.proofs.Rounds.{Contains-cases, Contains-first, Contains-later}
use Rattle.cert_paths.specs.declared.object.ObjectId.{ObjectId}
use Rattle.cert_paths.proofs.Numbers.{contained_at, contains_at, get_map, got_map}
use Rattle.existence_times.specs.declared.rows.StampRow.{StampRow}
use Rattle.existence_times.specs.declared.rows.TokenRow.{TokenRow}
use Rattle.existence_times.specs.Kept.{number_of, row_stamp, shown_stamp, IsStampKept}
use Rattle.existence_times.specs.Orders.{limited}
use Rattle.existence_times.specs.Shown.{Shown, ShownStamp, stamp_of, stamps_of}
use Rattle.existence_times.proofs.CaseLaws.{shown_of}

at_least : (bound w : ℤ) (covers : List ℕ) (times : List ℤ) → Within covers times → (x : ℕ) → w ≤ℤ time times x → (Contains covers x → w ≤ℤ bound)
    → w ≤ℤ time (lowered bound covers times) x
unfolding lowered
at_least bound w [] times inside x le at = le
at_least bound w (y ∷ covers) times inside x le at =
    let v = int_min (time times y) bound in
    let lt : y < length times = All-head (λ z. z < length times) y covers inside in
    let rest : Within covers times = All-tail (λ z. z < length times) y covers inside in
    let here : x ≡ y → w ≤ℤ v = λ e.
    int_min-above (time times y) bound w (subst (λ (n : ℕ). w ≤ℤ time times n) e le) (at (subst (λ (n : ℕ). Contains (y ∷ covers) n) (sym e) (Contains-first y covers))) in
    at_least bound w covers (set times y v) (Within-set y v covers times rest) x (time-set_above times y v x w lt le here) (λ has. at (Contains-later y x covers has))

-- all stamps are of so many objects
abbrev pub AreOf : ℕ → List (Stamp Token) → Type 0
AreOf objects stamps = (stamp : Stamp Token) → Contains stamps stamp → IsOf objects stamp

rest_of : (objects : ℕ) (first : Stamp Token) (stamps : List (Stamp Token)) → AreOf objects (first ∷ stamps) → AreOf objects stamps
rest_of objects first stamps of stamp has = of stamp (Contains-later first stamp stamps has)

covers_in : (objects : ℕ) (first : Stamp Token) (stamps : List (Stamp Token)) (times : List ℤ) → length times ≡ objects → AreOf objects (first ∷ stamps) → Within first.covers times
covers_in objects first stamps times long of = subst (λ (n : ℕ). All (λ y. y < n) first.covers) (sym long) (of first (Contains-first first stamps)).1

pub limited_long : (stamps : List (Stamp Token)) (times : List ℤ) → length (limited stamps times) ≡ length times
limited_long [] times = refl
limited_long (stamp ∷ stamps) times = limited_long stamps (lowered stamp.token.gen_time stamp.covers times) ∙ length-lowered stamp.token.gen_time stamp.covers times

below : (objects : ℕ) (stamps : List (Stamp Token)) (times : List ℤ) → length times ≡ objects → AreOf objects stamps → (x : ℕ) (w : ℤ) → w ≤ℤ time times x
    → ((stamp : Stamp Token) → Contains stamps stamp → Contains stamp.covers x → w ≤ℤ stamp.token.gen_time) → w ≤ℤ time (limited stamps times) x
below objects [] times long of x w le at = le
below objects (stamp ∷ stamps) times long of x w le at =
    below objects stamps (lowered stamp.token.gen_time stamp.covers times) (length-lowered stamp.token.gen_time stamp.covers times ∙ long) (rest_of objects stamp stamps of) x w
    (at_least stamp.token.gen_time w stamp.covers times (covers_in objects stamp stamps times long of) x le (at stamp (Contains-first stamp stamps)))
    (λ later has. at later (Contains-later stamp later stamps has))

above_start : (objects : ℕ) (stamps : List (Stamp Token)) (times : List ℤ) → length times ≡ objects → AreOf objects stamps → (x : ℕ) (w : ℤ) → w ≤ℤ time (limited stamps times) x
    → w ≤ℤ time times x
above_start objects [] times long of x w le = le
above_start objects (stamp ∷ stamps) times long of x w le =
    ≤ℤ_over w (time (lowered stamp.token.gen_time stamp.covers times) x) (time times x)
    (above_start objects stamps (lowered stamp.token.gen_time stamp.covers times) (length-lowered stamp.token.gen_time stamp.covers times ∙ long) (rest_of objects stamp stamps of) x w le)
    (lowered_no_later stamp.token.gen_time stamp.covers times (covers_in objects stamp stamps times long of) x)

above_stamps : (objects : ℕ) (stamps : List (Stamp Token)) (times : List ℤ) → length times ≡ objects → AreOf objects stamps → (x : ℕ) (w : ℤ) → w ≤ℤ time (limited stamps times) x
    → (stamp : Stamp Token) → Contains stamps stamp → Contains stamp.covers x → w ≤ℤ stamp.token.gen_time
above_stamps objects [] times long of x w le stamp has over = let lt = has.1 in absurd (omega (arith, lt))
above_stamps objects (first ∷ stamps) times long of x w le stamp has over =
    let after = lowered first.token.gen_time first.covers times in
    let same = length-lowered first.token.gen_time first.covers times ∙ long in
    let within = covers_in objects first stamps times long of in
    ⊎_elim
    (λ is.
    let here : Contains first.covers x = subst (λ (s : Stamp Token). Contains s.covers x) (sym is) over in
    subst (λ (s : Stamp Token). w ≤ℤ s.token.gen_time) is
    (≤ℤ_over w (time after x) first.token.gen_time (above_start objects stamps after same (rest_of objects first stamps of) x w le)
    (All-contains (λ y. time after y ≤ℤ first.token.gen_time) first.covers x (lowered_covers first.token.gen_time first.covers times within) here)))
    (λ later. above_stamps objects stamps after same (rest_of objects first stamps of) x w le stamp later over)
    (Contains-cases first stamp stamps has)

-- no token is after the limit of its object exactly where all are in order
pub in_order_is : (objects : ℕ) (stamps : List (Stamp Token)) (now : ℤ) (limits : List ℤ) (answer : Bool) (case : Case) → AreOf objects stamps
    → limits ≡ limited stamps (replicate objects now) → case.stamps ≡ stamps
    → (IsTrue answer ↔ ((stamp : Stamp Token) → Contains stamps stamp → stamp.token.gen_time ≤ℤ time limits stamp.object))
    → (IsTrue answer ↔ IsInOrder case now)
in_order_is objects stamps now limits answer case of is same both = (
  λ h.
      let all = both.0 h in record {
        by_now = λ stamp has.
            let there : Contains stamps stamp = subst (λ (ss : List (Stamp Token)). Contains ss stamp) same has in
            subst (λ (z : ℤ). stamp.token.gen_time ≤ℤ z) (flat stamp there)
            (above_start objects stamps (replicate objects now) (length-replicate objects now) of stamp.object stamp.token.gen_time (limit stamp (all stamp there)));
        covered = λ stamp earlier has had over.
            let there : Contains stamps stamp = subst (λ (ss : List (Stamp Token)). Contains ss stamp) same has in
            let before : Contains stamps earlier = subst (λ (ss : List (Stamp Token)). Contains ss earlier) same had in
            above_stamps objects stamps (replicate objects now) (length-replicate objects now) of earlier.object earlier.token.gen_time (limit earlier (all earlier before)) stamp there over;
      },
  λ h. both.1 (λ stamp there.
      let has : Contains case.stamps stamp = subst (λ (ss : List (Stamp Token)). Contains ss stamp) (sym same) there in
      subst (λ (ls : List ℤ). stamp.token.gen_time ≤ℤ time ls stamp.object) (sym is)
      (below objects stamps (replicate objects now) (length-replicate objects now) of stamp.object stamp.token.gen_time
      (subst (λ (z : ℤ). stamp.token.gen_time ≤ℤ z) (sym (flat stamp there)) (h.by_now stamp has))
      (λ later at over. h.covered later stamp (subst (λ (ss : List (Stamp Token)). Contains ss later) (sym same) at) has over))),
)
  where
    limit : (stamp : Stamp Token) → stamp.token.gen_time ≤ℤ time limits stamp.object → stamp.token.gen_time ≤ℤ time (limited stamps (replicate objects now)) stamp.object
    limit stamp le = subst (λ (ls : List ℤ). stamp.token.gen_time ≤ℤ time ls stamp.object) is le

    flat : (stamp : Stamp Token) → Contains stamps stamp → time (replicate objects now) stamp.object ≡ now
    flat stamp there = get_or-replicate objects stamp.object now (pos 0) (of stamp there).0

-- Rows.

-- the row that is read at a number
pub row_at : (stamps : List StampRow) (number : ℕ) (row : StampRow) → number < length stamps → row ≡ get_or stamps number row → slice_get stamps number ≡ Some row
row_at stamps number row lt is = slice_get_read stamps (length stamps) number row refl lt is

pub limited_step : (tokens : List TokenRow) (stamps : List StampRow) (number : ℕ) (row : StampRow) (times after : List ℤ) (bound : ℤ) (covers : List ObjectId)
    → number < length stamps → row ≡ get_or stamps number row → bound ≡ (row_stamp tokens row).token.gen_time → covers ≡ row.covers.items
    → after ≡ lowered bound (map number_of covers) times
    → limited (map (row_stamp tokens) (drop (number + 1) stamps)) after ≡ limited (map (row_stamp tokens) (drop number stamps)) times
limited_step tokens stamps number row times after bound covers lt is same over done =
    let next : suc number ≡ number + 1 = omega arith in
    let split : drop number stamps ≡ row ∷ drop (number + 1) stamps =
    drop-cons stamps number row lt ∙ ap (λ x. x ∷ drop (suc number) stamps) (sym is) ∙ ap (λ n. row ∷ drop n stamps) next in
    let lowers : after ≡ lowered (row_stamp tokens row).token.gen_time (map number_of row.covers.items) times =
    done ∙ ap (λ z. lowered z (map number_of covers) times) same ∙ ap (λ (l : List ObjectId). lowered (row_stamp tokens row).token.gen_time (map number_of l) times) over in
    ap (limited (map (row_stamp tokens) (drop (number + 1) stamps))) lowers
    ∙ sym (ap (λ (l : List StampRow). limited (map (row_stamp tokens) l) times) split)

pub limited_end : (tokens : List TokenRow) (stamps : List StampRow) (times : List ℤ) (number : ℕ) → length stamps ≤ number
    → limited (map (row_stamp tokens) (drop number stamps)) times ≡ times
limited_end tokens stamps times number le = at_drop_all (λ (l : List StampRow). limited (map (row_stamp tokens) l) times) stamps number le

pub are_of : (pool : List Part) (tokens : List TokenRow) (stamps : List StampRow) → ((k : ℕ) (row : StampRow) → slice_get stamps k ≡ Some row → IsStampKept pool tokens row)
    → AreOf (length pool) (map (row_stamp tokens) stamps)
are_of pool tokens stamps kept stamp has =
    let (k, at) = contained_at (map (row_stamp tokens) stamps) stamp has in
    let (row, at_row, is) = got_map (row_stamp tokens) stamps k stamp at in
    let ok = kept k row at_row in
    subst (IsOf (length pool)) is (ok.within, ok.covers)

pub by_rows : (tokens : List TokenRow) (stamps : List StampRow) (limits : List ℤ)
    → ((k : ℕ) (row : StampRow) → slice_get stamps k ≡ Some row → (row_stamp tokens row).token.gen_time ≤ℤ time limits row.object.number)
    ↔ ((stamp : Stamp Token) → Contains (map (row_stamp tokens) stamps) stamp → stamp.token.gen_time ≤ℤ time limits stamp.object)
by_rows tokens stamps limits = (
  λ rows stamp has.
      let (k, at) = contained_at (map (row_stamp tokens) stamps) stamp has in
      let (row, at_row, is) = got_map (row_stamp tokens) stamps k stamp at in
      subst (λ (s : Stamp Token). s.token.gen_time ≤ℤ time limits s.object) is (rows k row at_row),
  λ all k row at. all (row_stamp tokens row) (contains_at (map (row_stamp tokens) stamps) k (row_stamp tokens row) (get_map (row_stamp tokens) stamps k row at)),
)

-- The rows that the code reads are those of the case.

pub kept_rows : (pool : List Part) (tokens : List TokenRow) (stamps : List StampRow) (rows : List TokenRow) (stamp_rows : List StampRow) → rows ≡ tokens → stamp_rows ≡ stamps
    → ((k : ℕ) (row : StampRow) → slice_get stamps k ≡ Some row → IsStampKept pool tokens row)
    → (k : ℕ) (row : StampRow) → slice_get stamp_rows k ≡ Some row → IsStampKept pool rows row
kept_rows pool tokens stamps rows stamp_rows all each kept k row at =
    subst (λ (ts : List TokenRow). IsStampKept pool ts row) (sym all) (kept k row (ap (λ (l : List StampRow). slice_get l k) (sym each) ∙ at))

as_stamps : (tokens : List TokenRow) (stamps : List StampRow) → map stamp_of (map (shown_stamp tokens) stamps) ≡ map (row_stamp tokens) stamps
as_stamps tokens [] = refl
as_stamps tokens (row ∷ stamps) = ap (λ (rest : List (Stamp Token)). row_stamp tokens row ∷ rest) (as_stamps tokens stamps)

pub stamps_shown : (pool : List Part) (references : ℕ) (tokens : List TokenRow) (stamps : List StampRow) (rows : List TokenRow) (stamp_rows : List StampRow) (case : Shown)
    → rows ≡ tokens → stamp_rows ≡ stamps → shown_of pool references tokens stamps ≡ case → stamps_of case ≡ map (row_stamp rows) stamp_rows
stamps_shown pool references tokens stamps rows stamp_rows case all each is =
    ap (λ (s : Shown). stamps_of s) (sym is) ∙ as_stamps tokens stamps
    ∙ ap (λ (ts : List TokenRow). map (row_stamp ts) stamps) (sym all) ∙ ap (λ (ss : List StampRow). map (row_stamp rows) ss) (sym each)

pub same_row : (stamps : List StampRow) (number j : ℕ) (read row : StampRow) → j ≡ number → slice_get stamps number ≡ Some read → slice_get stamps j ≡ Some row → read ≡ row
same_row stamps number j read row e there at = let same : Some read ≡ Some row = sym there ∙ ap (slice_get stamps) (sym e) ∙ at in cc

-- A stamp that the case shows is that of the row with its number.
pub shown_row : (pool : List Part) (references : ℕ) (tokens : List TokenRow) (stamps : List StampRow) (case : Shown) (number : ℕ) (row : StampRow) (stamp : ShownStamp)
    → shown_of pool references tokens stamps ≡ case → slice_get stamps number ≡ Some row → slice_get case.stamps number ≡ Some stamp → shown_stamp tokens row ≡ stamp
shown_row pool references tokens stamps case number row stamp is at there =
    let same : Some (shown_stamp tokens row) ≡ Some stamp =
    sym (get_map (shown_stamp tokens) stamps number row at) ∙ ap (λ (s : Shown). slice_get s.stamps number) is ∙ there in cc

pub many : (pool : List Part) (references : ℕ) (tokens : List TokenRow) (stamps : List StampRow) (case : Shown) (number : ℕ)
    → shown_of pool references tokens stamps ≡ case → number < length case.stamps → number < length stamps
many pool references tokens stamps case number is lt =
    let same : length (map (shown_stamp tokens) stamps) ≡ length case.stamps = ap (λ (s : Shown). length s.stamps) is in
    let long = length-map stamps (shown_stamp tokens) in
    omega (arith, same, long, lt)
