-- What the code reads of lists, and of classes that are not there.
use Rattle.std.proofs.Common.{◌≡◌, refl, sym, ap, subst, ◌∙◌, ℕ, zero, suc, ◌-◌, ◌<◌, ◌≤◌, List, [], ◌∷◌, map, length, drop, drop-cons, Option, Some, None, get_or, slice_get, Bor, arith}
use Rattle.std.proofs.Math.Logic.{∥∥₁_elim}
use Rattle.std.specs.Coded.{coded_ℕ, coded_list, coded_option}
use base.Stored.{Coded-set}
use Rattle.std.specs.List.{HoldsAt}
use Rattle.std.proofs.lemmas.List.{length-map}
use Rattle.std.specs.Option.{option_map, option_copied, MatchOption, IfSome}
use Rattle.std.proofs.lemmas.Option.{slice_get_past, slice_get-get_or, slice_get-map}
use Rattle.pz_bind_rules.specs.pz_syntax.declared.names.Id.{Id}
use Rattle.pz_bind_rules.specs.pz_syntax.declared.clusters.Decl.{Decl}
use Rattle.pz_bind_rules.specs.pz_syntax.Classes.{DeclTree, ModelTree}
use Rattle.pz_bind_rules.specs.pz_syntax.declared.clusters.Model.{Model}
use Rattle.pz_bind_rules.specs.pz_syntax.ClassView.{decl_view, model_view}
use Rattle.pz_bind_rules.specs.pz_classes_rules.Numbers.{declaration}
use Rattle.pz_bind_rules.specs.pz_classes_rules.Ancestors.{ancestors}
use Rattle.pz_bind_rules.specs.pz_classes_rules.Members.{from_root}

pub got : {X : Type 0} (xs : List X) (i : ℕ) (r : Option (Bor X)) → MatchOption r (length xs ≤ i) (λ x. (i < length xs) × HoldsAt {X = X} (λ y. x.now ≡ y) xs i)
    → IfSome r (λ x. x.now ≡ get_or xs i x.now) → option_copied r ≡ slice_get xs i
got xs i None past here = sym (slice_get_past xs i past)
got xs i (Some x) within here = ap Some here ∙ sym (slice_get-get_or xs i x.now within.0)

pub declared_at : (ds : List Decl) (number : ℕ) → (number ≡ 0 → ⊥) → option_map decl_view (slice_get ds (number - 1)) ≡ declaration (record { decls = map decl_view ds }) number
declared_at ds zero some = absurd (some refl)
declared_at ds (suc i) some =
    let i_is : suc i - 1 ≡ i = omega arith in
    subst (λ (k : ℕ). option_map decl_view (slice_get ds k) ≡ slice_get (map decl_view ds) i) (sym i_is) (sym (slice_get-map decl_view ds i))

pub decls_count : (ds : List Decl) (model : Model) (m : ModelTree) → ds ≡ model.decls → model_view model ≡ m → length ds ≡ length m.decls
decls_count ds model m is view = ap (λ (xs : List Decl). length xs) is ∙ (sym (length-map model.decls decl_view) ∙ ap (λ (t : ModelTree). length t.decls) view)

-- a list of names is a set's
pub names_merely : {A : Type 0} (xs ys : List (List ℕ)) → ∥ A ∥₁ → (A → xs ≡ ys) → xs ≡ ys
names_merely xs ys a is = ∥∥₁_elim a (Coded-set (coded_list (coded_list coded_ℕ)) xs ys) is

-- and so is a number that may be missing
pub number_merely : {A : Type 0} (x y : Option ℕ) → ∥ A ∥₁ → (A → x ≡ y) → x ≡ y
number_merely x y a is = ∥∥₁_elim a (Coded-set (coded_option coded_ℕ) x y) is

pub none_declared : (m : ModelTree) (c : ℕ) → length m.decls < c → declaration m c ≡ None
none_declared m zero past = absurd (omega arith)
none_declared m (suc i) past = slice_get_past m.decls i (omega arith)

-- what is not declared has nothing
pub none_inherited : (own : DeclTree → List Id) (m : ModelTree) (c : ℕ) → declaration m c ≡ None → from_root own m (ancestors m c) ≡ []
none_inherited own m c none = rw none refl

-- one element further
pub one_more : {A : Type 0} (xs : List A) (x : A) (i j : ℕ) → i < length xs → x ≡ get_or xs i x → j ≡ suc i → drop i xs ≡ x ∷ drop j xs
one_more {A} xs x i j within here after =
    drop-cons xs i x within ∙ (ap (λ (y : A). y ∷ drop (suc i) xs) (sym here) ∙ ap (λ k. x ∷ drop k xs) (sym after))
