-- Runs of characters that are read as they stand, and what stands behind them.
use Rattle.std.proofs.Common.{◌≡◌, ℕ, Bool, true, false, not, cond, ◌&&◌, ◌==◌, List, [], ◌∷◌, ◌++◌, Option, Some, None, refl, sym, ◌∙◌, ap, subst, arith, is_some}
use Rattle.std.proofs.Math.Utf8.{scalar, scalars}
use Rattle.std.proofs.lemmas.Bool.{and_parts, eqb-true, not-true, not-false}
use Rattle.std.proofs.lemmas.Bool.Decides.{nat_tests}
use Rattle.std.proofs.lemmas.Option.{none-some}
use Rattle.std.specs.List.{list_all}
use Rattle.std.specs.Prelude.{option_and_then, reverse, codes}
use Rattle.document_model.specs.Characters.{span, is_white, in_ranges, with_line_ends, is_char, is_empty, between, ◌is◌}
use Rattle.document_model.specs.Items.{value_of, referred, number, numbered, or_else, when, decimal_digits, hexadecimal_digits}
use Rattle.document_model.proofs.Joins.{some_same, by_test}
use Rattle.xml_items.specs.Found.{value_in}
use Rattle.xml_items.specs.Values.{Begins}
use Rattle.xml_items.proofs.ValueSteps.{literal_first, return_first, return_line_first, reference_begins}
use Rattle.doc_spans.specs.declared.readings.Reading.{Reading}
use Rattle.doc_spans.specs.declared.readings.Reading.TheVariants.{AsWritten, LineEnds, Value}
use Rattle.doc_spans.specs.ReadAs.{read_by, is_literal, is_readable}

-- A run.

-- as they are written, all characters are
pub all_literal : (cs : List ℕ) → span (is_literal AsWritten) cs ≡ (cs, [])
all_literal [] = refl
all_literal (c ∷ cs) = ap (λ x. (c ∷ x.0, x.1)) (all_literal cs)

-- the first part is read as it stands, and then the second one
pub record Splits (reading : Reading) (cs front behind : List ℕ) : Type 0 where
  pub read : read_by reading cs ≡ front ++ read_by reading behind
  pub readable : is_readable reading behind ≡ true

-- a character that is read as it stands
one_literal : (reading : Reading) (c : ℕ) (cs : List ℕ) → is_literal reading c ≡ true → is_readable reading (c ∷ cs) ≡ true → Splits reading (c ∷ cs) (c ∷ []) cs
one_literal AsWritten c cs h r = record { read = refl; readable = refl }
one_literal LineEnds c cs h r = let e : (c == 0xD) ≡ false = not-true (c == 0xD) h in record { read = rw e refl; readable = refl }
one_literal Value c cs h r =
    let amp : (c == 0x26) ≡ false = grind (arith, nat_tests) in
    let cr : (c == 0xD) ≡ false = grind (arith, nat_tests) in
    let same : cond (is_white c) 0x20 c ≡ c = grind (arith, nat_tests) in
    let P : ℕ → Type 0 = λ d. Begins (c ∷ cs) d cs in
    let b : Begins (c ∷ cs) c cs = subst P same (literal_first c cs r amp cr) in
    record { read = b.first; readable = b.value }

pub run_splits : (reading : Reading) (cs : List ℕ) → is_readable reading cs ≡ true → Splits reading cs (span (is_literal reading) cs).0 (span (is_literal reading) cs).1
run_splits reading [] r = record { read = refl; readable = r }
run_splits reading (c ∷ cs) r = go (λ r. run_splits reading cs r) (is_literal reading c) refl
  where
    go : (is_readable reading cs ≡ true → Splits reading cs (span (is_literal reading) cs).0 (span (is_literal reading) cs).1) → (t : Bool) → is_literal reading c ≡ t → Splits reading (c ∷ cs) (span (is_literal reading) (c ∷ cs)).0 (span (is_literal reading) (c ∷ cs)).1
    go behind false e = rw e (record { read = refl; readable = r })
    go behind true e =
        let first = one_literal reading c cs e r in
        let rest = behind first.readable in
        rw e (record { read = first.read ∙ ap (λ x. c ∷ x) rest.read; readable = rest.readable })

pub run_found : (reading : Reading) (cs a b : List ℕ) → is_readable reading cs ≡ true → span (is_literal reading) cs ≡ (a, b) → Splits reading cs a b
run_found reading cs a b r e = let P : List ℕ × List ℕ → Type 0 = λ x. Splits reading cs x.0 x.1 in subst P e (run_splits reading cs r)

-- A character of a value is one.

pub char_scalar : (c : ℕ) → is_char c ≡ true → scalar c ≡ true
char_scalar c h = grind (arith, nat_tests)

numbered_char : (base : ℕ) (digits : List (ℕ × ℕ)) (text : List ℕ) (c : ℕ) → numbered base digits text ≡ Some c → is_char c ≡ true
numbered_char base digits text c e =
    let n = number base (reverse text) in
    let both = some_from (not (is_empty text) && list_all (in_ranges digits) text && is_char n) n c e in
    ap is_char (sym both.1) ∙ (and_parts (not (is_empty text) && list_all (in_ranges digits) text) (is_char n) both.0).1
  where
    some_from : (b : Bool) (x y : ℕ) → cond b (Some x) None ≡ Some y → (b ≡ true) × (x ≡ y)
    some_from true x y e = (refl, some_same x y e)
    some_from false x y e = absurd (none-some y e)

either_char : (a b : Option ℕ) (c : ℕ) → ((d : ℕ) → a ≡ Some d → is_char d ≡ true) → ((d : ℕ) → b ≡ Some d → is_char d ≡ true) → or_else a b ≡ Some c → is_char c ≡ true
either_char None b c f g e = g c e
either_char (Some d) b c f g e = f c e

bound_char : (base : ℕ) (digits : List (ℕ × ℕ)) (o : Option (List ℕ)) (d : ℕ) → option_and_then (numbered base digits) o ≡ Some d → is_char d ≡ true
bound_char base digits None d e = absurd (none-some d e)
bound_char base digits (Some text) d e = numbered_char base digits text d e

-- each of the named ones, or else
named_or : (b : Bool) (x : ℕ) (o : Option ℕ) (c : ℕ) → is_char x ≡ true → ((d : ℕ) → o ≡ Some d → is_char d ≡ true) → or_else (when b x) o ≡ Some c → is_char c ≡ true
named_or true x o c h f e = ap is_char (sym (some_same x c e)) ∙ h
named_or false x o c h f e = f c e

pub referred_char : (text : List ℕ) (c : ℕ) → referred text ≡ Some c → is_char c ≡ true
referred_char text c e =
    let decimal : Option ℕ = option_and_then (numbered 10 decimal_digits) (between (codes "#") [] text) in
    let number : Option ℕ = or_else (option_and_then (numbered 16 hexadecimal_digits) (between (codes "#x") [] text)) decimal in
    let quot : Option ℕ = or_else (when (text is codes "quot") 0x22) number in
    let apos : Option ℕ = or_else (when (text is codes "apos") 0x27) quot in
    let amp : Option ℕ = or_else (when (text is codes "amp") 0x26) apos in
    let gt : Option ℕ = or_else (when (text is codes "gt") 0x3E) amp in
    named_or (text is codes "lt") 0x3C gt c refl
    (λ c e. named_or (text is codes "gt") 0x3E amp c refl
    (λ c e. named_or (text is codes "amp") 0x26 apos c refl
    (λ c e. named_or (text is codes "apos") 0x27 quot c refl
    (λ c e. named_or (text is codes "quot") 0x22 number c refl
    (λ c e. either_char (option_and_then (numbered 16 hexadecimal_digits) (between (codes "#x") [] text)) decimal c
    (bound_char 16 hexadecimal_digits (between (codes "#x") [] text)) (bound_char 10 decimal_digits (between (codes "#") [] text)) e) e) e) e) e) e

head_same : (c d : ℕ) (cs ds : List ℕ) → c ∷ cs ≡ d ∷ ds → c ≡ d
head_same c d cs ds e = ap (λ xs. first xs) e
  where
    first : List ℕ → ℕ
    first [] = c
    first (x ∷ xs) = x

-- the first character of a value that begins with no literal character, and of one that does
pub value_scalar : (cs : List ℕ) (d : ℕ) (rest : List ℕ) → is_some (value_of cs) ≡ true → scalars cs ≡ true → Begins cs d rest → scalar d ≡ true
value_scalar [] d rest h s b = absurd (let e : [] ≡ d ∷ value_in rest = b.first in (cc))
value_scalar (c ∷ cs) d rest h s b = by_amp (c == 0x26) refl
  where
    same : (x : ℕ) (other : List ℕ) → Begins (c ∷ cs) x other → scalar x ≡ true → scalar d ≡ true
    same x other begins f = ap scalar (head_same d x (value_in rest) (value_in other) (sym b.first ∙ begins.first)) ∙ f

    literal : (t : Bool) → scalar (cond t 0x20 c) ≡ true
    literal true = refl
    literal false = (and_parts (scalar c) (scalars cs) s).0

    by_line : (ds : List ℕ) → is_some (value_of (c ∷ ds)) ≡ true → (c == 0xD) ≡ true → (other : List ℕ) × Begins (c ∷ ds) 0x20 other
    by_line [] h e = ([], return_first c [] h e refl)
    by_line (x ∷ ds) h e = by_feed (x == 0xA) refl
      where
        by_feed : (t : Bool) → (x == 0xA) ≡ t → (other : List ℕ) × Begins (c ∷ x ∷ ds) 0x20 other
        by_feed true f = (ds, return_line_first c x ds h e f)
        by_feed false f = (x ∷ ds, return_first c (x ∷ ds) h e f)

    by_return : (t : Bool) → (c == 0xD) ≡ t → (c == 0x26) ≡ false → scalar d ≡ true
    by_return true e amp = let line = by_line cs h e in same 0x20 line.0 line.1 refl
    by_return false e amp = same (cond (is_white c) 0x20 c) cs (literal_first c cs h amp e) (literal (is_white c))

    by_amp : (t : Bool) → (c == 0x26) ≡ t → scalar d ≡ true
    by_amp true e = let r = reference_begins c cs h e in same r.stands r.rest r.begins (char_scalar r.stands (referred_char (span (λ c. not (c == 0x3B)) cs).0 r.stands r.refers.referred))
    by_amp false e = by_return (c == 0xD) refl e

-- Where no run stands in front.

-- all characters are read as they stand
pub written_end : (reading : Reading) (cs a b : List ℕ) → reading ≡ AsWritten → span (is_literal reading) cs ≡ (a, b) → a ≡ [] → read_by reading cs ≡ []
written_end reading cs a b eq e n = ap (λ r. read_by r cs) eq ∙ all cs (ap (λ (x : List ℕ × List ℕ). x.0) (ap (λ r. span (is_literal r) cs) (sym eq) ∙ e) ∙ n)
  where
    all : (cs : List ℕ) → (span (is_literal AsWritten) cs).0 ≡ [] → cs ≡ []
    all [] e = refl
    all (c ∷ cs) e = cc

-- a carriage return comes first, or nothing is left
span_whole : (p : ℕ → Bool) (cs : List ℕ) → (span p cs).0 ++ (span p cs).1 ≡ cs
span_whole p [] = refl
span_whole p (c ∷ cs) = by_test (λ (x : List ℕ × List ℕ). x.0 ++ x.1 ≡ c ∷ cs) (p c) (c ∷ (span p cs).0, (span p cs).1) ([], c ∷ cs) (λ e. ap (λ x. c ∷ x) (span_whole p cs)) (λ e. refl)

behind_none : (p : ℕ → Bool) (cs a b : List ℕ) → span p cs ≡ (a, b) → a ≡ [] → cs ≡ b
behind_none p cs a b e n = sym (span_whole p cs) ∙ ap (λ (x : List ℕ × List ℕ). x.0 ++ x.1) e ∙ ap (λ x. x ++ b) n

stops : (p : ℕ → Bool) (c : ℕ) (cs : List ℕ) → (span p (c ∷ cs)).0 ≡ [] → p c ≡ false
stops p c cs e = by_passing (p c) refl e
  where
    by_passing : (t : Bool) → p c ≡ t → (let x : List ℕ × List ℕ = cond t (c ∷ (span p cs).0, (span p cs).1) ([], c ∷ cs) in x.0) ≡ [] → p c ≡ false
    by_passing false h e = h
    by_passing true h e = cc

pub lines_end : (reading : Reading) (cs a b : List ℕ) → reading ≡ LineEnds → span (is_literal reading) cs ≡ (a, b) → a ≡ [] → b ≡ [] → read_by reading cs ≡ []
lines_end reading cs a b eq e n f = ap (λ r. read_by r cs) eq ∙ ap with_line_ends (behind_none (is_literal reading) cs a b e n ∙ f)

pub lines_step : (reading : Reading) (cs a b : List ℕ) (c : ℕ) (rest behind : List ℕ) → reading ≡ LineEnds → span (is_literal reading) cs ≡ (a, b) → a ≡ [] → b ≡ c ∷ rest
    → with_line_ends (0xD ∷ rest) ≡ 0xA ∷ with_line_ends behind → read_by reading cs ≡ 0xA ∷ read_by reading behind
lines_step reading cs a b c rest behind eq e n f g =
    let p = is_literal LineEnds in
    let same : span p cs ≡ (a, b) = ap (λ r. span (is_literal r) cs) (sym eq) ∙ e in
    let whole : cs ≡ c ∷ rest = behind_none p cs a b same n ∙ f in
    let stop : not (c == 0xD) ≡ false = stops p c rest (ap (λ xs. (span p xs).0) (sym whole) ∙ ap (λ (x : List ℕ × List ℕ). x.0) same ∙ n) in
    let returns : c ≡ 0xD = eqb-true c 0xD (not-false (c == 0xD) stop) in
    ap (λ r. read_by r cs) eq ∙ ap with_line_ends (whole ∙ ap (λ x. x ∷ rest) returns) ∙ g ∙ ap (λ r. 0xA ∷ read_by r behind) (sym eq)
