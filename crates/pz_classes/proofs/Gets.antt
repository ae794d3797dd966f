-- What `get` reads of a list.
use Rattle.std.proofs.Common.{◌≡◌, refl, sym, ap, subst, ◌∙◌, ℕ, zero, suc, ◌-◌, ◌<◌, ◌≤◌, List, map, length, Option, Some, None, get_or, slice_get, Bor, arith}
use Rattle.std.specs.List.{HoldsAt}
use Rattle.std.specs.Option.{option_map, option_copied, MatchOption, IfSome}
use Rattle.std.proofs.lemmas.Option.{slice_get_past, slice_get-get_or, slice_get-map}
use Rattle.pz_classes_code.specs.pz_syntax.declared.clusters.Decl.{Decl}
use Rattle.pz_classes_code.specs.pz_syntax.ClassView.{decl_view}
use Rattle.pz_classes_rules.specs.Numbers.{declaration}

pub got : {X : Type 0} (xs : List X) (i : ℕ) (r : Option (Bor X)) → MatchOption r (length xs ≤ i) (λ x. (i < length xs) × HoldsAt {X = X} (λ y. x.now ≡ y) xs i)
    → IfSome r (λ x. x.now ≡ get_or xs i x.now) → option_copied r ≡ slice_get xs i
got xs i None past here = sym (slice_get_past xs i past)
got xs i (Some x) within here = ap Some here ∙ sym (slice_get-get_or xs i x.now within.0)

pub declared_at : (ds : List Decl) (number : ℕ) → (number ≡ 0 → ⊥) → option_map decl_view (slice_get ds (number - 1)) ≡ declaration (record { decls = map decl_view ds }) number
declared_at ds zero some = absurd (some refl)
declared_at ds (suc i) some =
    let i_is : suc i - 1 ≡ i = omega arith in
    subst (λ (k : ℕ). option_map decl_view (slice_get ds k) ≡ slice_get (map decl_view ds) i) (sym i_is) (sym (slice_get-map decl_view ds i))
