-- What holds of methods that a class does not declare holds in its parent: so a method that begins with
-- itself in a class does so in one that declares a method of the round.
use Rattle.std.proofs.Common.{◌≡◌, refl, ap, subst, ◌∙◌, ℕ, zero, suc, ◌+◌, ◌<◌, ◌≤◌, ◌⊎◌, inl, inr, Bool, true, false, List, [], ◌∷◌, length, map, Option, Some, None, IsTrue, slice_get, if◌then◌else◌, arith}
use Rattle.std.specs.Option.{option_map, option_map_or, option_or, unwrap_or}
use Rattle.std.proofs.lemmas.Option.{slice_get_within}
use Rattle.pz_classes.specs.pz_syntax.declared.names.Id.{Id}
use Rattle.pz_classes.specs.pz_syntax.Classes.{DeclTree, data_class, process_class, cluster_class, system, DataMethodTree, ModelTree}
use Rattle.pz_classes.specs.pz_check_violations.declared.violation.Violation.{Violation}
use Rattle.pz_classes.specs.pz_check_violations.Order.{violation}
use Rattle.pz_classes_lineage.specs.Reached.{GoesRound}
use Rattle.pz_classes.specs.pz_classes_rules.declared.method_id.Counts.TheVariants.{Process}
use Rattle.pz_classes.specs.pz_classes_rules.declared.method_id.MethodId.{MethodId}
use Rattle.pz_classes.specs.pz_classes_rules.Kinds.{is_process}
use Rattle.pz_classes.specs.pz_classes_rules.Ancestors.{parent, ancestors}
use Rattle.pz_classes.specs.pz_classes_rules.Methods.{Signature, data_signature, signatures, same_signature, first_with, methods_before, method_id, own_method}
use Rattle.pz_classes.proofs.pz_classes_rules_proofs.Acyclic.{above}
use Rattle.pz_check_openings.specs.devices.Through.{plain, called_along, Through, itself, further, RoundThrough, round_through, DeclaresOne}

module _ (Kind : ℕ → Type 0) (m : ModelTree) where
  -- a call of one of them means the same along the other classes, or the first declares it
  call_moves : (c : ℕ) (rest : List ℕ) (x : Id) (l : ℕ) → Kind l → called_along m (c ∷ rest) x ≡ Some (method_id l) → DeclaresOne Kind m c ⊎ (called_along m rest x ≡ Some (method_id l))
  call_moves c rest x l kind finds = by_own (own_method m (plain x) c) refl finds
    where
      by_own : (o : Option MethodId) → own_method m (plain x) c ≡ o → option_or o (called_along m rest x) ≡ Some (method_id l) → DeclaresOne Kind m c ⊎ (called_along m rest x ≡ Some (method_id l))
      by_own None own is = inr is
      by_own (Some n) own is = inl (record { call = x; method = l; kind = kind; own = own ∙ is })

  first_is : (line : List ℕ) (n k : ℕ) → Through Kind m line n k → Kind n
  first_is line n _ (itself kind) = kind
  first_is line n _ (further u w x before among finds kind) = first_is line n u before

  leads_move : (c : ℕ) (rest : List ℕ) (n k : ℕ) → Through Kind m (c ∷ rest) n k → DeclaresOne Kind m c ⊎ Through Kind m rest n k
  leads_move c rest n _ (itself kind) = inr (itself kind)
  leads_move c rest n _ (further u w x before among finds kind) = both (call_moves c rest x w kind finds) (leads_move c rest n u before)
    where
      both : DeclaresOne Kind m c ⊎ (called_along m rest x ≡ Some (method_id w)) → DeclaresOne Kind m c ⊎ Through Kind m rest n u → DeclaresOne Kind m c ⊎ Through Kind m rest n w
      both (inl one) before_moves = inl one
      both (inr found) (inl one) = inl one
      both (inr found) (inr moved) = inr (further u w x moved among found kind)

  round_moves : (c : ℕ) (rest : List ℕ) (v : Violation) → RoundThrough Kind m (c ∷ rest) v → DeclaresOne Kind m c ⊎ RoundThrough Kind m rest v
  round_moves c rest _ (round_through k n x among finds leads) = both (call_moves c rest x n (first_is (c ∷ rest) n k leads) finds) (leads_move c rest n k leads)
    where
      both : DeclaresOne Kind m c ⊎ (called_along m rest x ≡ Some (method_id n)) → DeclaresOne Kind m c ⊎ Through Kind m rest n k → DeclaresOne Kind m c ⊎ RoundThrough Kind m rest (violation 23 x.pos)
      both (inl one) moved = inl one
      both (inr found) (inl one) = inl one
      both (inr found) (inr moved) = inr (round_through k n x among found moved)

  no_round_along : (v : Violation) → RoundThrough Kind m [] v → ⊥
  no_round_along _ (round_through k n x among finds leads) = cc

-- the ancestors of a class are itself and those of its parent
pub line_of : (m : ModelTree) → ((c : ℕ) → GoesRound (parent m) c → ⊥) → (c : ℕ) → ancestors m c ≡ c ∷ option_map_or (ancestors m) (parent m c) []
line_of m flat c = by_parent (parent m c) refl
  where
    declared : (i p : ℕ) → parent m i ≡ Some p → i < suc (length m.decls)
    declared zero p up = cc
    declared (suc i) p up = by_decl (slice_get m.decls i) refl
      where
        by_decl : (o : Option DeclTree) → slice_get m.decls i ≡ o → suc i < suc (length m.decls)
        by_decl None here = let none : None ≡ Some p = rw here at up in cc
        by_decl (Some d) here = let inside : i < length m.decls = slice_get_within m.decls i d here in omega arith

    by_parent : (o : Option ℕ) → parent m c ≡ o → ancestors m c ≡ c ∷ option_map_or (ancestors m) (parent m c) []
    by_parent None up = rw up refl
    by_parent (Some p) up = above m flat c (declared c p up)

-- a class that declares one of the round, and the round there
pub record Declaring (Kind : ℕ → Type 0) (m : ModelTree) (Holds : List ℕ → Type 0) : Type 0 where
  pub class : ℕ
  pub declares : DeclaresOne Kind m class
  pub holds : Holds (ancestors m class)

-- what moves to the other classes where the first declares none of them, and holds along no empty line,
-- holds in a class that declares one
pub climb : (Kind : ℕ → Type 0) (m : ModelTree) → ((c : ℕ) → GoesRound (parent m) c → ⊥) → (Holds : List ℕ → Type 0) → (Holds [] → ⊥)
    → ((c : ℕ) (rest : List ℕ) → Holds (c ∷ rest) → DeclaresOne Kind m c ⊎ Holds rest)
    → (line : List ℕ) (o : Option ℕ) → line ≡ option_map_or (ancestors m) o [] → Holds line → Declaring Kind m Holds
climb Kind m flat Holds never moves [] o is holds = absurd (never holds)
climb Kind m flat Holds never moves (c ∷ rest) None is holds = cc
climb Kind m flat Holds never moves (c ∷ rest) (Some a) is holds = by_moving (moves c rest holds) (climb Kind m flat Holds never moves rest (parent m a) rest_is)
  where
    whole : c ∷ rest ≡ a ∷ option_map_or (ancestors m) (parent m a) []
    whole = is ∙ line_of m flat a

    same : c ≡ a
    same = let w = whole in cc

    rest_is : rest ≡ option_map_or (ancestors m) (parent m a) []
    rest_is = let w = whole in cc

    by_moving : DeclaresOne Kind m c ⊎ Holds rest → (Holds rest → Declaring Kind m Holds) → Declaring Kind m Holds
    by_moving (inl one) later = record { class = a; declares = subst (DeclaresOne Kind m) same one; holds = subst Holds is holds }
    by_moving (inr moved) later = later moved

pub climb_round : (Kind : ℕ → Type 0) (m : ModelTree) → ((c : ℕ) → GoesRound (parent m) c → ⊥) → (c : ℕ) (v : Violation) → RoundThrough Kind m (ancestors m c) v → Declaring Kind m (λ line. RoundThrough Kind m line v)
climb_round Kind m flat c v round = climb Kind m flat (λ line. RoundThrough Kind m line v) (no_round_along Kind m v) (λ k rest holds. round_moves Kind m k rest v holds) (ancestors m c) (Some c) refl round

-- the number of a declared method
number_within : (n : ℕ) (s : Signature) (ss : List Signature) (k : ℕ) → first_with n s ss ≡ Some k → (n ≤ k) × (k < n + length ss)
number_within n s [] k is = cc
number_within n s (t ∷ ss) k is = by_test (same_signature s t) (number_within (suc n) s ss k) is
  where
    by_test : (b : Bool) → (first_with (suc n) s ss ≡ Some k → (suc n ≤ k) × (k < suc n + length ss)) → (if b then Some n else first_with (suc n) s ss) ≡ Some k → (n ≤ k) × (k < n + length (t ∷ ss))
    by_test true later here = let same : n ≡ k = cc in (omega arith, omega arith)
    by_test false later here = let r = later here in (let low : suc n ≤ k = r.0 in omega arith, let high : k < suc n + length ss = r.1 in omega arith)

-- no data class has a method of a process
no_data : (n : ℕ) (name : List ℕ) (inputs outputs : ℕ) (rs : List DataMethodTree) (k : ℕ) → first_with n (record { name = name; counts = Process inputs outputs }) (map data_signature rs) ≡ Some k → ⊥
no_data n name inputs outputs [] k is = cc
no_data n name inputs outputs (r ∷ rs) k is = no_data (suc n) name inputs outputs rs k is

module _ (m : ModelTree) (name : List ℕ) (inputs outputs : ℕ) where
  abbrev asked : Signature
  asked = record { name = name; counts = Process inputs outputs }

  -- what is known of a class that declares a method of a process
  pub record Owned (c k : ℕ) : Type 0 where
    pub index : ℕ
    pub numbered : c ≡ suc index
    pub decl : DeclTree
    pub there : slice_get m.decls index ≡ Some decl
    pub process : IsTrue (is_process decl)
    pub first : methods_before m c ≤ k
    pub last : k < methods_before m c + length (signatures decl)

  pub owned : (c k : ℕ) → own_method m asked c ≡ Some (method_id k) → Owned c k
  owned zero k own = cc
  owned (suc i) k own = by_decl (slice_get m.decls i) refl
    where
      number : (o : Option ℕ) → option_map method_id o ≡ Some (method_id k) → o ≡ Some k
      number None e = cc
      number (Some j) e = let same : method_id j ≡ method_id k = cc in ap (λ (n : MethodId). Some n.0) same

      sort : (d : DeclTree) → first_with (methods_before m (suc i)) asked (signatures d) ≡ Some k → IsTrue (is_process d)
      sort (data_class d) is = absurd (no_data (methods_before m (suc i)) name inputs outputs (unwrap_or d.methods []) k is)
      sort (process_class p) is = refl
      sort (cluster_class d) is = cc
      sort (system s) is = cc

      by_decl : (o : Option DeclTree) → slice_get m.decls i ≡ o → Owned (suc i) k
      by_decl None here = let none : None ≡ Some (method_id k) = rw here at own in cc
      by_decl (Some d) here =
          let is : option_map method_id (first_with (methods_before m (suc i)) asked (signatures d)) ≡ Some (method_id k) = rw here at own in
          let found : first_with (methods_before m (suc i)) asked (signatures d) ≡ Some k = number (first_with (methods_before m (suc i)) asked (signatures d)) is in
          let within = number_within (methods_before m (suc i)) asked (signatures d) k found in
          record { index = i; numbered = refl; decl = d; there = here; process = sort d found; first = within.0; last = within.1 }
