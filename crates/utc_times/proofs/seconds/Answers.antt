use Rattle.std.proofs.Common.{◌≡◌, ◌∙◌, ap, refl, ℕ, ℤ, pos, negsuc, ◌<◌, ◌^◌, w16, w8, w64, arith, to_z, FitsSigned}
use Rattle.std.proofs.lemmas.Int.{to_z-of_z, to_z_pos}
use Rattle.jiff.proofs.SpanFacts.{signed_arith}
use Rattle.jiff_core.specs.DateTime.{civil_seconds}
use Rattle.jiff_core.specs.declared.civil.datetime.DateTime.{DateTime}
use Rattle.utc_times.specs.TimeText.{seconds_of}
use Rattle.utc_times.proofs.seconds.Goals as goal

number : ℤ → ℕ
number (pos n) = n
number (negsuc n) = 0

pos-injective : (a b : ℕ) → pos a ≡ pos b → a ≡ b
unfolding number
pos-injective a b e = ap number e

same : (a n : ℕ) → n < 2 ^ 7 → pos a ≡ to_z w8 n → a ≡ n
same a n small e = pos-injective a n (e ∙ to_z_pos w8 n small)

by_parts : (dt : DateTime) (y m d h n s : ℕ) → dt.date.year ≡ pos y → dt.date.month ≡ m → dt.date.day ≡ d
    → dt.time.hour ≡ h → dt.time.minute ≡ n → dt.time.second ≡ s → civil_seconds dt ≡ seconds_of y m d h n s
unfolding civil_seconds
by_parts dt y m d h n s ey em ed eh en es = rw (ey, em, ed, eh, en, es) refl

pub returns-in-Ok-clause-value : goal.returns-in-Ok-clause-value
returns-in-Ok-clause-value c =
    let v = c.in-Ok.ensures.value in
    let ey : c.in-Ok.dt.date.year ≡ pos c.args.year = v.0.0 ∙ to_z_pos w16 c.args.year (omega (arith, c.requires.year)) in
    let small = c.requires.small in
    let em : c.in-Ok.dt.date.month ≡ c.args.month = same _ _ (omega (arith, small)) v.0.1 in
    let ed : c.in-Ok.dt.date.day ≡ c.args.day = same _ _ (omega (arith, small)) v.0.2 in
    let eh : c.in-Ok.dt.time.hour ≡ c.args.hour = same _ _ (omega (arith, small)) v.1.0 in
    let en : c.in-Ok.dt.time.minute ≡ c.args.minute = same _ _ (omega (arith, small)) v.1.1 in
    let es : c.in-Ok.dt.time.second ≡ c.args.second = same _ _ (omega (arith, small)) v.1.2 in
    let fits : FitsSigned w64 c.to_second.result = omega (arith, signed_arith, c.to_second.ensures.bound) in
    to_z-of_z w64 c.to_second.result fits ∙ c.to_second.ensures.value
    ∙ ap civil_seconds c.to_plain.ensures ∙ by_parts c.in-Ok.dt _ _ _ _ _ _ ey em ed eh en es
