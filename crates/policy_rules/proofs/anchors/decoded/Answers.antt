use Rattle.std.proofs.Common.{◌≡◌, refl, sym, ap, ◌∙◌, List, ℕ, Some, None, Ok}
use Rattle.std.specs.Result.{result_ok}
use Rattle.base64.specs.Engines.{standard}
use Rattle.base64.specs.GeneralPurpose.{decode_of, decoded_of, IsDecodeFailure}
use Rattle.base64.specs.declared.decode.DecodeAllocError.{DecodeAllocError}
use Rattle.base64.specs.declared.decode.DecodeAllocError.TheVariants as errors
use Rattle.policy_rules.proofs.anchors.decoded.Goals as goal

some_of : (text bytes : List ℕ) → decode_of standard text ≡ Ok bytes → decoded_of standard text ≡ Some bytes
unfolding decoded_of
some_of text bytes e = ap result_ok e

none_of : (text : List ℕ) (e : DecodeAllocError) → ¬ (e ≡ errors.OutOfMemory) → IsDecodeFailure standard text e → decoded_of standard text ≡ None
unfolding decoded_of
none_of text (errors.DecodeError d) n h = ap result_ok h
none_of text errors.OutOfMemory n h = absurd (n refl)

pub returns-in-Ok : goal.returns-in-Ok
returns-in-Ok c = ap (decoded_of standard) (sym c.as_bytes.ensures.value) ∙ some_of _ _ c.in-Ok.ensures.ok

pub returns-in-Err-DecodeError : goal.returns-in-Err-DecodeError
returns-in-Err-DecodeError c =
    ap (decoded_of standard) (sym c.as_bytes.ensures.value)
    ∙ none_of _ c.in-Err-DecodeError.field-0 (λ q. let p = c.in-Err-DecodeError.field-0-is in cc) c.in-Err-DecodeError.ensures.err
