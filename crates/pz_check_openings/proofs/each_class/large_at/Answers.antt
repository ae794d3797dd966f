use Rattle.std.proofs.Common.{◌≡◌, ◌∙◌, ◌<◌, sym, ap, subst, ℕ, Bool, false, true, Option, Some, IsTrue, List, length, get_or, slice_get}
use Rattle.std.proofs.lemmas.Option.{slice_get-get_or}
use Rattle.pz_classes.specs.CheckedView.{checked_model}
use Rattle.pz_check_calls.specs.declared.graph.Method.{Method}
use Rattle.pz_check_calls.specs.Calls.{IsLarge}
use Rattle.pz_check_openings.specs.declared.outline.Outline.{Outline}
use Rattle.pz_check_openings.proofs.Telling.{none_at, not_found, not_large, one_at}
use Rattle.pz_check_openings.proofs.each_class.large_at.Goals as goal

-- the method that is read
read : (xs : List (Option Outline)) (k : ℕ) (x : Option Outline) → k < length xs → x ≡ get_or xs k x → slice_get xs k ≡ Some x
read xs k x inside here = slice_get-get_or xs k x inside ∙ ap (λ (y : Option Outline). Some y) (sym here)

never : (large : Type 0) (test : Bool) → (IsTrue test → large) × (large → IsTrue test) → test ≡ false → large → ⊥
never large test decides falls is = let wrong : test ≡ true = decides.1 is in cc

pub returns-then-not-has_method : goal.returns-then-not-has_method
returns-then-not-has_method c =
    let item : Option Outline = c.index-outlines-number.result in
    not_found (checked_model c.args.checked.now) c.args.outlines.now c.args.class.0 c.args.number item (read c.args.outlines.now c.args.number item c.requires.within c.index-outlines-number.is)
    c.in-Some.method c.in-Some.is (sym c.has_method.ensures ∙ c.if-not-has_method.true)

pub returns-then-not-is_large : goal.returns-then-not-is_large
returns-then-not-is_large c =
    let item : Option Outline = c.index-outlines-number.result in
    not_large (checked_model c.args.checked.now) c.args.outlines.now c.args.class.0 c.args.number item (read c.args.outlines.now c.args.number item c.requires.within c.index-outlines-number.is)
    c.in-Some.method c.in-Some.is (subst (λ (ms : List Method). IsLarge ms c.args.number → ⊥) c.requires.methods (never (IsLarge c.args.methods.now c.args.number) c.is_large.result c.is_large.ensures c.if-not-is_large.true))

pub returns : goal.returns
returns c =
    let item : Option Outline = c.index-outlines-number.result in
    one_at (checked_model c.args.checked.now) c.args.outlines.now c.args.class.0 c.args.number item (read c.args.outlines.now c.args.number item c.requires.within c.index-outlines-number.is)
    c.in-Some.method c.in-Some.is (sym c.has_method.ensures ∙ c.if-not-has_method.false) (subst (λ (ms : List Method). IsLarge ms c.args.number) c.requires.methods (c.is_large.ensures.0 c.if-not-is_large.false))
