-- The outlines are those of the methods at their numbers.
use Rattle.std.proofs.Common.{◌≡◌, refl, sym, ap, ◌∙◌, ℕ, zero, suc, ◌+◌, arith, append_assoc, List, [], ◌∷◌, ◌++◌, map, length, Option, Some, None, slice_get}
use Rattle.std.specs.List.{flat_map}
use Rattle.std.specs.Option.{option_map, unwrap_or}
use Rattle.std.proofs.lemmas.Option.{slice_get-map}
use Rattle.pz_classes.specs.pz_syntax.declared.clusters.Decl.{Decl}
use Rattle.pz_classes.specs.pz_syntax.declared.clusters.Decl.TheVariants as decl
use Rattle.pz_classes.specs.pz_syntax.declared.classes.ProcessClass.{ProcessClass}
use Rattle.pz_classes.specs.pz_syntax.declared.classes.ProcessMethod.{ProcessMethod}
use Rattle.pz_classes.specs.pz_syntax.ClassView.{decl_view, process_method_view}
use Rattle.pz_classes.specs.pz_syntax.Classes.{DeclTree, data_class, process_class, cluster_class, system, DataMethodTree, ProcessMethodTree, ModelTree}
use Rattle.pz_classes_openings.specs.Methods.{declared_methods, methods, method_at}
use Rattle.pz_check_openings.specs.declared.outline.Outline.{Outline}
use Rattle.pz_check_openings.specs.devices.Outlines.{outline_of, nones, declared_outlines, outlines}

abbrev outlined : Option ProcessMethodTree → Option Outline
outlined x = option_map outline_of x

map_twice : {A B C : Type 0} (f : B → C) (g : A → B) (xs : List A) → map (λ x. f (g x)) xs ≡ map f (map g xs)
map_twice f g [] = refl
map_twice f g (x ∷ xs) = ap (λ (l : List _). f (g x) ∷ l) (map_twice f g xs)

map_both : {A B : Type 0} (f : A → B) (xs ys : List A) → map f xs ++ map f ys ≡ map f (xs ++ ys)
map_both f [] ys = refl
map_both f (x ∷ xs) ys = ap (λ (l : List _). f x ∷ l) (map_both f xs ys)

nones_are : (rs : List DataMethodTree) → nones (length rs) ≡ map outlined (map (λ r. None) rs)
nones_are [] = refl
nones_are (r ∷ rs) = ap (λ (l : List (Option Outline)). None ∷ l) (nones_are rs)

declared_are : (d : DeclTree) → declared_outlines d ≡ map outlined (declared_methods d)
declared_are (data_class d) = nones_are (unwrap_or d.methods [])
declared_are (process_class p) = map_twice outlined Some (unwrap_or p.methods [])
declared_are (cluster_class d) = refl
declared_are (system s) = refl

all_are : (ds : List DeclTree) → flat_map declared_outlines ds ≡ map outlined (flat_map declared_methods ds)
all_are [] = refl
all_are (d ∷ ds) =
    ap (λ (l : List (Option Outline)). l ++ flat_map declared_outlines ds) (declared_are d)
    ∙ (ap (λ (l : List (Option Outline)). map outlined (declared_methods d) ++ l) (all_are ds) ∙ map_both outlined (declared_methods d) (flat_map declared_methods ds))

module _ (m : ModelTree) (k : ℕ) where
  at_number : slice_get (outlines m) k ≡ option_map outlined (slice_get (methods m) k)
  at_number = ap (λ (l : List (Option Outline)). slice_get l k) (all_are m.decls) ∙ slice_get-map outlined (methods m) k

  -- an outline is that of the method
  pub outline_is : (o : Outline) → slice_get (outlines m) k ≡ Some (Some o) → (r : ProcessMethodTree) × (method_at m k ≡ Some r) × (o ≡ outline_of r)
  outline_is o here = by_method (slice_get (methods m) k) refl (sym at_number ∙ here)
    where
      by_method : (x : Option (Option ProcessMethodTree)) → slice_get (methods m) k ≡ x → option_map outlined x ≡ Some (Some o) → (r : ProcessMethodTree) × (method_at m k ≡ Some r) × (o ≡ outline_of r)
      by_method None at is = cc
      by_method (Some None) at is = cc
      by_method (Some (Some r)) at is = let same : outline_of r ≡ o = cc in (r, ap (λ (x : Option (Option ProcessMethodTree)). unwrap_or x None) at, sym same)

  -- a process method has an outline
  pub outline_there : (r : ProcessMethodTree) → method_at m k ≡ Some r → slice_get (outlines m) k ≡ Some (Some (outline_of r))
  outline_there r here = by_method (slice_get (methods m) k) refl here
    where
      by_method : (x : Option (Option ProcessMethodTree)) → slice_get (methods m) k ≡ x → unwrap_or x None ≡ Some r → slice_get (outlines m) k ≡ Some (Some (outline_of r))
      by_method None at is = cc
      by_method (Some None) at is = cc
      by_method (Some (Some q)) at is = let same : q ≡ r = cc in at_number ∙ (ap (option_map outlined) at ∙ ap (λ (x : ProcessMethodTree). Some (Some (outline_of x))) same)

  -- where no process method is, no outline is
  pub no_outline : method_at m k ≡ None → (o : Outline) → slice_get (outlines m) k ≡ Some (Some o) → ⊥
  no_outline none o here = let r = outline_is o here in (let wrong : None ≡ Some r.0 = sym none ∙ r.1 in cc)

-- what the code adds for a process class
pub process_outlines : (d : Decl) (class : ProcessClass) (methods seen : List ProcessMethod) (old new : List (Option Outline)) → d ≡ decl.Process class → class.methods ≡ Some methods → seen ≡ methods
    → new ≡ old ++ map (λ r. Some (outline_of (process_method_view r))) seen → new ≡ old ++ declared_outlines (decl_view d)
process_outlines d class methods seen old new is has seen_are pushed =
    let own : declared_outlines (decl_view d) ≡ map (λ r. Some (outline_of r)) (map process_method_view methods) = rw (is, has) refl in
    pushed ∙ ap (λ (rs : List ProcessMethod). old ++ map (λ r. Some (outline_of (process_method_view r))) rs) seen_are
    ∙ ap (λ (l : List (Option Outline)). old ++ l) (map_twice (λ (r : ProcessMethodTree). Some (outline_of r)) process_method_view methods ∙ sym own)

nones_more : (n : ℕ) → nones n ++ None ∷ [] ≡ nones (suc n)
nones_more zero = refl
nones_more (suc n) = ap (λ (l : List (Option Outline)). None ∷ l) (nones_more n)

-- one more of a data class
pub one_none : (old now new : List (Option Outline)) (n next : ℕ) → next ≡ n + 1 → new ≡ now ++ None ∷ [] → now ≡ old ++ nones n → new ≡ old ++ nones next
one_none old now new n next step pushed so_far =
    let one : next ≡ suc n = omega arith in
    pushed ∙ ap (λ (l : List (Option Outline)). l ++ None ∷ []) so_far ∙ append_assoc old (nones n) (None ∷ []) ∙ ap (λ (l : List (Option Outline)). old ++ l) (nones_more n) ∙ ap (λ (k : ℕ). old ++ nones k) (sym one)
