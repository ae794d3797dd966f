-- What is found class by class is what the rules say.
use Rattle.std.proofs.Common.{◌≡◌, refl, sym, ap, subst, ◌∙◌, ℕ, zero, suc, ◌+◌, ◌<◌, ◌≤◌, Bool, true, false, nat_eq, IsTrue, List, length, Option, Some, None, slice_get, arith}
use Rattle.std.specs.Option.{option_map_or, option_map}
use Rattle.std.proofs.lemmas.Bool.{eqb-true}
use Rattle.std.proofs.lemmas.Bool.Decides.{nat_tests}
use Rattle.std.proofs.lemmas.Option.{slice_get_within}
use Rattle.pz_classes.specs.pz_syntax.Classes.{DeclTree, ModelTree}
use Rattle.pz_classes.specs.pz_check_violations.declared.violation.Violation.{Violation}
use Rattle.pz_classes.specs.pz_check_violations.Order.{violation, IsLeast}
use Rattle.pz_classes.specs.pz_check_violations.Least.{LeastOf}
use Rattle.pz_classes.proofs.pz_check_violations_proofs.Order.{not_before_itself}
use Rattle.pz_classes.specs.pz_classes_rules.declared.method_id.MethodId.{MethodId}
use Rattle.pz_classes.specs.pz_classes_rules.Numbers.{declaration}
use Rattle.pz_classes.specs.pz_classes_rules.Kinds.{is_process}
use Rattle.pz_classes.specs.pz_classes_rules.Methods.{method_id, process_method}
use Rattle.pz_classes_openings.specs.OpeningRules.{BreaksC23, BreaksC24, Opens, IsOpeningViolation, in_rounds, in_sizes}
use Rattle.pz_check_calls.specs.declared.graph.Method.{Method}
use Rattle.pz_check_calls.specs.Calls.{IsRound, IsLarge}
use Rattle.pz_check_openings.specs.Answers.{Tells}
use Rattle.pz_check_openings.specs.declared.outline.Outline.{Outline}
use Rattle.pz_check_openings.specs.devices.Outlines.{outlines}
use Rattle.pz_check_openings.specs.devices.InClass.{methods_in, is_found, RoundIn, round_in, LargeAt, large_at, LargeIn, large_in, Among}
use Rattle.pz_check_openings.specs.devices.Settling.{Settles}
use Rattle.pz_check_openings.proofs.Bounds.{settles_all}
use Rattle.pz_check_openings.proofs.Gathering.{least_alike}

module _ (m : ModelTree) where
  -- what is told
  pub tell_round : (found : Option Violation) (v : Violation) → LeastOf (BreaksC23 m) found → found ≡ Some v → Tells m (Some v)
  tell_round found v least is = in_rounds (subst (LeastOf (BreaksC23 m)) is least)

  pub tell_size : (found size : Option Violation) → LeastOf (BreaksC23 m) found → found ≡ None → LeastOf (BreaksC24 m) size → Tells m size
  tell_size found size least is large = by_size size (subst (LeastOf (BreaksC23 m)) is least) large
    where
      by_size : (o : Option Violation) → LeastOf (BreaksC23 m) None → LeastOf (BreaksC24 m) o → Tells m o
      by_size None none many = record { rounds = none; sizes = many }
      by_size (Some v) none many = in_sizes none many

module _ (m : ModelTree) (os : List (Option Outline)) (c : ℕ) where
  -- nothing is violated in a class of another sort
  no_process : option_map_or is_process (declaration m c) false ≡ false → (d : DeclTree) → declaration m c ≡ Some d → IsTrue (is_process d) → ⊥
  no_process falls d declared process = let wrong : is_process d ≡ false = rw declared at falls in cc

  pub no_round_in : option_map_or is_process (declaration m c) false ≡ false → LeastOf (RoundIn m os c) None
  no_round_in falls _ (round_in d v declared process here) = no_process falls d declared process

  pub no_large_in : option_map_or is_process (declaration m c) false ≡ false → LeastOf (LargeIn m os c) None
  no_large_in falls _ (large_in d k v declared process large) = no_process falls d declared process

  -- there is a declaration where it is of a process class
  declared_there : option_map_or is_process (declaration m c) false ≡ true → (d : DeclTree) × (declaration m c ≡ Some d) × IsTrue (is_process d)
  declared_there is = by_decl (declaration m c) refl is
    where
      by_decl : (o : Option DeclTree) → declaration m c ≡ o → option_map_or is_process o false ≡ true → (d : DeclTree) × (declaration m c ≡ Some d) × IsTrue (is_process d)
      by_decl None at holds = cc
      by_decl (Some d) at holds = (d, at, holds)

  pub rounds_in : (found : Option Violation) → option_map_or is_process (declaration m c) false ≡ true → LeastOf (IsRound (methods_in m c os)) found → LeastOf (RoundIn m os c) found
  rounds_in found is least = least_alike (IsRound (methods_in m c os)) (RoundIn m os c) (λ v here. (let d = declared_there is in round_in d.0 v d.1 d.2 here)) from found least
    where
      from : (v : Violation) → RoundIn m os c v → IsRound (methods_in m c os) v
      from _ (round_in d v declared process here) = here

  pub sizes_in : (found : Option Violation) (n : ℕ) → n ≡ length os → option_map_or is_process (declaration m c) false ≡ true → LeastOf (Among (LargeAt m os c) n) found → LeastOf (LargeIn m os c) found
  sizes_in found n all is least = least_alike (Among (LargeAt m os c) n) (LargeIn m os c) (λ v (k, below, large). (let d = declared_there is in large_in d.0 k v d.1 d.2 large)) from found least
    where
      below : (k : ℕ) (v : Violation) → LargeAt m os c k v → k < n
      below k _ (large_at o here finds large) = let inside : k < length os = slice_get_within os k (Some o) here in omega arith

      from : (v : Violation) → LargeIn m os c v → Among (LargeAt m os c) n v
      from _ (large_in d k v declared process large) = (k, below k v large, large)

  module _ (k : ℕ) (item : Option Outline) (here : slice_get os k ≡ Some item) where
    -- none at a method of a data class, at one that the class does not have, and at one that is not too large
    pub none_at : item ≡ None → LeastOf (LargeAt m os c k) None
    none_at is _ (large_at o at finds large) = let wrong : Some None ≡ Some (Some o) = ap (λ (x : Option Outline). Some x) (sym is) ∙ (sym here ∙ at) in cc

    module _ (o : Outline) (is : item ≡ Some o) where
      same : (p : Outline) → slice_get os k ≡ Some (Some p) → p ≡ o
      same p at = let read : Some (Some p) ≡ Some (Some o) = sym at ∙ (here ∙ ap (λ (x : Option Outline). Some x) is) in cc

      finds_is : (p : Outline) → p ≡ o → process_method m c p.name.name p.inputs p.outputs ≡ Some (method_id k) → is_found m c k o ≡ true
      finds_is p e finds =
          let found : process_method m c o.name.name o.inputs o.outputs ≡ Some (method_id k) = subst (λ (q : Outline). process_method m c q.name.name q.inputs q.outputs ≡ Some (method_id k)) e finds in
          let test : nat_eq k k ≡ true = grind (arith, nat_tests) in
          ap (λ (x : Option MethodId). option_map_or (λ n. nat_eq n.0 k) x false) found ∙ test

      pub not_found : is_found m c k o ≡ false → LeastOf (LargeAt m os c k) None
      not_found falls _ (large_at p at finds large) = let wrong : is_found m c k o ≡ true = finds_is p (same p at) finds in cc

      pub not_large : (IsLarge (methods_in m c os) k → ⊥) → LeastOf (LargeAt m os c k) None
      not_large never _ (large_at p at finds large) = never large

      found_is : is_found m c k o ≡ true → process_method m c o.name.name o.inputs o.outputs ≡ Some (method_id k)
      found_is holds = by_method (process_method m c o.name.name o.inputs o.outputs) refl holds
        where
          by_method : (x : Option MethodId) → process_method m c o.name.name o.inputs o.outputs ≡ x → option_map_or (λ n. nat_eq n.0 k) x false ≡ true → process_method m c o.name.name o.inputs o.outputs ≡ Some (method_id k)
          by_method None at test = cc
          by_method (Some n) at test = at ∙ ap (λ (j : ℕ). Some (method_id j)) (eqb-true n.0 k test)

      pub one_at : is_found m c k o ≡ true → IsLarge (methods_in m c os) k → LeastOf (LargeAt m os c k) (Some (violation 24 o.name.pos))
      one_at holds large = record {
        violated = large_at o (here ∙ ap (λ (x : Option Outline). Some x) is) (found_is holds) large;
        least = λ w other. least w other;
      }
        where
          least : (w : Violation) → LargeAt m os c k w → Rattle.pz_classes.specs.pz_check_violations.Order.is_before w (violation 24 o.name.pos) ≡ false
          least _ (large_at p at finds much) = subst (λ (q : Outline). Rattle.pz_classes.specs.pz_check_violations.Order.is_before (violation 24 p.name.pos) (violation 24 q.name.pos) ≡ false) (same p at) (not_before_itself (violation 24 p.name.pos))

-- where all methods keep to bounds, nothing is told
pub told_settled : (m : ModelTree) (os seen : List (Option Outline)) (bound : List ℕ → ℕ) → seen ≡ os → os ≡ outlines m → ((k : ℕ) (o : Outline) → slice_get seen k ≡ Some (Some o) → Settles bound o) → Tells m None
told_settled m os seen bound seen_are os_are settled = settles_all m bound (subst (λ (xs : List (Option Outline)). (k : ℕ) (o : Outline) → slice_get xs k ≡ Some (Some o) → Settles bound o) (seen_are ∙ os_are) settled)
