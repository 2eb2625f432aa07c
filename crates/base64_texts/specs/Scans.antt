-- What a scanner knows of the characters that were pushed into it.
use Rattle.std.specs.Prelude.{◌≡◌, ℕ, ◌+◌, ◌-◌, ◌^◌, min, if◌then◌else◌, List, [], ◌∷◌, ◌++◌, Option, Some, None, refl}
use Rattle.document_model.specs.Characters.{is_white}
use Rattle.signature_model.specs.Spots.{without_white}
use Rattle.signature_model.specs.Base64.{is_strict, fault_in}
use Rattle.base64_texts.specs.declared.stages.Stage.{Stage}
use Rattle.base64_texts.specs.declared.stages.Stage.TheVariants.{Start}
use Rattle.base64_texts.specs.declared.scanner.Scanner.{Scanner}
use Rattle.base64_texts.specs.Stages.{after, is_open}

-- the greatest place that is told
abbrev pub last_place : ℕ
last_place = 2 ^ 64 - 1

abbrev pub nothing_scanned : Scanner
nothing_scanned = record { stage = Start; count = 0 }

-- behind a character that leads to a stage
abbrev pub counted : Scanner → Stage → Scanner
counted scanner next = record { stage = next; count = if is_open next then min (scanner.count + 1) last_place else scanner.count }

-- behind one more character, and behind several
abbrev pub scan : Scanner → ℕ → Scanner
scan scanner c = if is_white c then scanner else counted scanner (after scanner.stage c)

abbrev pub scan_on : Scanner → List ℕ → Scanner
scan_on scanner [] = scanner
scan_on scanner (c ∷ cs) = scan_on (scan scanner c) cs

-- several texts are scanned as one
pub scan_on-append : (scanner : Scanner) (a b : List ℕ) → scan_on scanner (a ++ b) ≡ scan_on (scan_on scanner a) b
scan_on-append scanner [] b = refl
scan_on-append scanner (c ∷ a) b = scan_on-append (scan scanner c) a b

-- what is known of a whole text
abbrev pub scanned : List ℕ → Scanner
scanned text = scan_on nothing_scanned text

-- the place of the fault, where there is one
abbrev pub fault_place : List ℕ → Option ℕ
fault_place text = if is_strict (without_white text) then None else Some (min (fault_in (without_white text)) last_place)
