-- The processes of a sound model are at most 10,000.
use Rattle.std.proofs.Common.{◌≡◌, refl, sym, ap, ◌∙◌, ℕ, zero, suc, ◌+◌, ◌≤◌, Bool, true, false, ◌||◌, List, [], ◌∷◌, ◌++◌, append_assoc, length, length-append, nat_lt, Option, Some, None, slice_get, arith}
use Rattle.std.specs.Option.{option_map_or, unwrap_or}
use Rattle.std.specs.List.{filter, flat_map}
use Rattle.std.proofs.lemmas.Bool.Decides.{nat_tests}
use Rattle.std.proofs.lemmas.List.{length_push}
use Rattle.std.proofs.lemmas.List.Elements.{filter-append}
use Rattle.pz_bind_rules.specs.pz_syntax.declared.clusters.Instance.{Instance}
use Rattle.pz_bind_rules.specs.pz_syntax.declared.clusters.SystemDecl.{SystemDecl}
use Rattle.pz_bind_rules.specs.pz_syntax.Classes.{DeclTree, data_class, process_class, cluster_class, system, ModelTree}
use Rattle.pz_bind_rules.specs.pz_check_violations.Order.{violation}
use Rattle.pz_bind_rules.specs.pz_classes_rules.Numbers.{declaration}
use Rattle.pz_bind_rules.specs.pz_classes_rules.Kinds.{is_process}
use Rattle.pz_bind_rules.specs.pz_classes_rules.Instances.{instances, instance_class}
use Rattle.pz_bind_rules.specs.pz_classes_rules.SizeRules.{system_of, systems, text_start, Totals, nothing, all_of, one_of, expanded, system_size, HasNoSize, by_class, by_name, by_holding, by_system, no_system, too_large}
use Rattle.pz_bind_rules.specs.pz_classes_rules.Soundness.{IsSound, a_word, holding, size, the_system}
use Rattle.pz_bind_levels.specs.Places.{Address}
use Rattle.pz_bind_rules.specs.Nest.{first_system, each_instance, system_class, instances_in, class_of, class_at, instances_at, with_inside, inside, is_process_at, processes}

module _ (m : ModelTree) where
  -- Processes among these places

  abbrev count : List Address → ℕ
  count ps = length (filter (is_process_at m) ps)

  count_both : (ps qs : List Address) → count (ps ++ qs) ≡ count ps + count qs
  count_both ps qs = ap length (filter-append (is_process_at m) ps qs) ∙ length-append (filter (is_process_at m) ps) (filter (is_process_at m) qs)

  count_one : (p : Address) (ps : List Address) → is_process_at m p ≡ true → count (p ∷ ps) ≡ suc (count ps)
  count_one p ps is = rw is refl

  count_other : (p : Address) (ps : List Address) → is_process_at m p ≡ false → count (p ∷ ps) ≡ count ps
  count_other p ps is = rw is refl

  none_inside : (depth c : ℕ) (up : Address) → instances_in m c ≡ [] → count (inside m depth c up) ≡ 0
  none_inside zero c up none = refl
  none_inside (suc depth) c up none = ap (λ xs. count (each_instance (with_inside m (inside m depth) up) 0 xs)) none

  -- what stands in a class of this number, at most as many as are counted of it
  abbrev IsCounted : ℕ → Type 0
  IsCounted depth = (c : ℕ) (up : Address) → class_at m up ≡ c → count (inside m depth c up) ≤ (all_of m (expanded m depth) (instances_in m c)).processes

  one_counted : (depth i c : ℕ) (up : Address) → class_at m (i ∷ up) ≡ c → IsCounted depth → count ((i ∷ up) ∷ inside m depth c (i ∷ up)) ≤ (expanded m (suc depth) c).processes
  one_counted depth i c up is within = by_decl (declaration m c) refl
    where
      test : (o : Option DeclTree) → declaration m c ≡ o → is_process_at m (i ∷ up) ≡ option_map_or is_process o false
      test o e = ap (λ (k : ℕ). option_map_or is_process (declaration m k) false) is ∙ ap (λ (r : Option DeclTree). option_map_or is_process r false) e

      its : (o : Option DeclTree) → declaration m c ≡ o → instances_in m c ≡ option_map_or instances o []
      its o e = ap (λ (r : Option DeclTree). option_map_or instances r []) e

      all : (o : Option DeclTree) → declaration m c ≡ o → expanded m (suc depth) c ≡ option_map_or (one_of m (expanded m depth)) o nothing
      all o e = ap (λ (r : Option DeclTree). option_map_or (one_of m (expanded m depth)) r nothing) e

      -- the system or a cluster
      level : (d : DeclTree) → declaration m c ≡ Some d → is_process d ≡ false → (one_of m (expanded m depth) d).processes ≡ (all_of m (expanded m depth) (instances d)).processes
          → count ((i ∷ up) ∷ inside m depth c (i ∷ up)) ≤ (expanded m (suc depth) c).processes
      level d e other same =
          let first = count_other (i ∷ up) (inside m depth c (i ∷ up)) (test (Some d) e ∙ other) in
          let inner = within c (i ∷ up) is in
          let listed : (all_of m (expanded m depth) (instances_in m c)).processes ≡ (all_of m (expanded m depth) (instances d)).processes = ap (λ xs. (all_of m (expanded m depth) xs).processes) (its (Some d) e) in
          let whole : (expanded m (suc depth) c).processes ≡ (one_of m (expanded m depth) d).processes = ap (λ (t : Totals). t.processes) (all (Some d) e) in
          omega (arith, first, inner, listed, whole, same)

      by_decl : (o : Option DeclTree) → declaration m c ≡ o → count ((i ∷ up) ∷ inside m depth c (i ∷ up)) ≤ (expanded m (suc depth) c).processes
      by_decl None e = omega (arith, count_other (i ∷ up) (inside m depth c (i ∷ up)) (test None e), none_inside depth c (i ∷ up) (its None e))
      by_decl (Some (data_class d)) e = omega (arith, count_other (i ∷ up) (inside m depth c (i ∷ up)) (test (Some (data_class d)) e), none_inside depth c (i ∷ up) (its (Some (data_class d)) e))
      by_decl (Some (process_class p)) e =
          let whole : (expanded m (suc depth) c).processes ≡ 1 = ap (λ (t : Totals). t.processes) (all (Some (process_class p)) e) in
          omega (arith, count_one (i ∷ up) (inside m depth c (i ∷ up)) (test (Some (process_class p)) e), none_inside depth c (i ∷ up) (its (Some (process_class p)) e), whole)
      by_decl (Some (cluster_class d)) e = level (cluster_class d) e refl (omega arith)
      by_decl (Some (system s)) e = level (system s) e refl (omega arith)

  -- an instance of no class is as one of number 0, which none has
  by_number : (depth : ℕ) (o : Option ℕ) → (option_map_or (expanded m (suc depth)) o nothing).processes ≡ (expanded m (suc depth) (unwrap_or o 0)).processes
  by_number depth None = refl
  by_number depth (Some c) = refl

  at_seam : (before : List Instance) (x : Instance) (xs : List Instance) → slice_get (before ++ x ∷ xs) (length before) ≡ Some x
  at_seam [] x xs = refl
  at_seam (y ∷ ys) x xs = at_seam ys x xs

  parts_counted : (depth : ℕ) → IsCounted depth → (up : Address) (before : List Instance) (n : ℕ) (xs : List Instance) → n ≡ length before → instances_at m up ≡ before ++ xs
      → count (each_instance (with_inside m (inside m depth) up) n xs) ≤ (all_of m (expanded m (suc depth)) xs).processes
  parts_counted depth within up before n [] long are = omega arith
  parts_counted depth within up before n (x ∷ xs) long are =
      let here : slice_get (instances_at m up) n ≡ Some x = ap (λ (ys : List Instance). slice_get ys n) are ∙ ap (slice_get (before ++ x ∷ xs)) long ∙ at_seam before x xs in
      let class_is : class_at m (n ∷ up) ≡ class_of m x = ap (λ (o : Option Instance). option_map_or (class_of m) o 0) here in
      let one = one_counted depth n (class_of m x) up class_is within in
      let longer : suc n ≡ length (before ++ x ∷ []) = let more = length_push before x in omega (arith, more, long) in
      let rest = parts_counted depth within up (before ++ x ∷ []) (suc n) xs longer (are ∙ sym (append_assoc before (x ∷ []) xs)) in
      omega (arith, one, rest, by_number depth (instance_class m x.class.name), count_both ((n ∷ up) ∷ inside m depth (class_of m x) (n ∷ up)) (each_instance (with_inside m (inside m depth) up) (suc n) xs))

  inside_counted : (depth : ℕ) → IsCounted depth
  inside_counted zero c up is = omega arith
  inside_counted (suc depth) c up is = parts_counted depth (inside_counted depth) up [] 0 (instances_in m c) refl (ap (instances_in m) is)

-- The system

-- the first system among these declarations, of which the first has number n
record IsFirst (n : ℕ) (ds : List DeclTree) (s : SystemDecl) : Type 0 where
  before : ℕ
  number : first_system n ds ≡ before + n
  here : slice_get ds before ≡ Some (system s)

system_at : (n : ℕ) (ds : List DeclTree) (s : SystemDecl) (rest : List SystemDecl) → flat_map system_of ds ≡ s ∷ rest → IsFirst n ds s
system_at n [] s rest is = absurd cc
system_at n (data_class d ∷ ds) s rest is = let r = system_at (suc n) ds s rest is in record { before = suc r.before; number = (let k = r.number in omega (arith, k)); here = r.here }
system_at n (process_class d ∷ ds) s rest is = let r = system_at (suc n) ds s rest is in record { before = suc r.before; number = (let k = r.number in omega (arith, k)); here = r.here }
system_at n (cluster_class d ∷ ds) s rest is = let r = system_at (suc n) ds s rest is in record { before = suc r.before; number = (let k = r.number in omega (arith, k)); here = r.here }
system_at n (system t ∷ ds) s rest is = let same : t ≡ s = cc in record { before = 0; number = omega arith; here = ap (λ (x : SystemDecl). Some (system x)) same }

not_too_many : (p k h : ℕ) → (nat_lt 10000 p || nat_lt 10000 k || nat_lt 1000000 h ≡ true → ⊥) → p ≤ 10000
not_too_many p k h never = by_test (nat_lt 10000 p || nat_lt 10000 k || nat_lt 1000000 h) refl
  where
    by_test : (b : Bool) → nat_lt 10000 p || nat_lt 10000 k || nat_lt 1000000 h ≡ b → p ≤ 10000
    by_test true is = absurd (never is)
    by_test false is = grind (arith, nat_tests)

module _ (m : ModelTree) (sound : IsSound m) where
  has_size : HasNoSize m → ⊥
  has_size (by_class pos wrong) = sound.rules (violation 13 pos) (a_word (violation 13 pos) wrong)
  has_size (by_name pos wrong) = sound.rules (violation 18 pos) (a_word (violation 18 pos) wrong)
  has_size (by_holding v wrong) = sound.rules v (holding v wrong)
  has_size (by_system v wrong) = sound.rules v (the_system v wrong)

  pub few_processes : length (processes m) ≤ 10000
  few_processes = by_systems (systems m) refl
    where
      by_systems : (ss : List SystemDecl) → systems m ≡ ss → length (processes m) ≤ 10000
      by_systems [] none = absurd (sound.rules (violation 20 text_start) (the_system (violation 20 text_start) (no_system none)))
      by_systems (s ∷ rest) are =
          let first = system_at 1 m.decls s rest are in
          let number : system_class m ≡ suc first.before = let k = first.number in omega (arith, k) in
          let declared : declaration m (system_class m) ≡ Some (system s) = ap (declaration m) number ∙ first.here in
          let its : (all_of m (expanded m (length m.decls)) (instances_in m (system_class m))).processes ≡ (all_of m (expanded m (length m.decls)) (instances (system s))).processes =
          ap (λ (o : Option DeclTree). (all_of m (expanded m (length m.decls)) (option_map_or instances o [])).processes) declared in
          let inner : count m (inside m (length m.decls) (system_class m) []) ≤ (all_of m (expanded m (length m.decls)) (instances_in m (system_class m))).processes = inside_counted m (length m.decls) (system_class m) [] refl in
          let t = system_size m s in
          let few : 0 + (all_of m (expanded m (length m.decls)) (instances (system s))).processes ≤ 10000 =
          not_too_many t.processes t.clusters t.channels (λ wrong. sound.rules (violation 19 s.pos) (size (violation 19 s.pos) (too_large s has_size (0, (rw are (omega arith)), (rw are refl)) wrong))) in
          omega (arith, its, inner, few)
