use Rattle.std.proofs.Common.{◌≡◌, ◌∙◌, sym, ap, Bool, true, Option, Some, None, if◌then◌else◌}
use Rattle.pz_check_openings.specs.declared.outline.Outline.{Outline}
use Rattle.pz_check_openings.specs.devices.Settling.{value_of}
use Rattle.pz_check_openings.specs.devices.Suspects.{kept}
use Rattle.pz_check_openings.specs.devices.Heavy.{is_kept_if}
use Rattle.pz_check_openings.proofs.heavy.kept.Goals as goal

copied : (p : Outline → Bool) (x : Option Outline) (o copy : Outline) → x ≡ Some o → copy ≡ o → p o ≡ true → Some copy ≡ kept p x
copied p x o copy is same holds = ap (λ (q : Outline). Some q) same ∙ sym (ap (kept p) is ∙ ap (λ (b : Bool). if b then Some o else None) holds)

pub returns : goal.returns
returns c =
    copied (is_kept_if c.args.sure (value_of c.args.names.now c.args.bounds.now) (value_of c.args.names.now c.args.marks.now)) c.args.method.now c.in-Some.method c.in_ok-copy.field-0 c.in-Some.is c.in_ok-copy.ensures
    (sym c.is_kept_if.ensures ∙ c.if-not-is_kept_if.false)
