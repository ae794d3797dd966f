-- What look-up finds has the name and the counts that are asked for.
use Rattle.std.proofs.Common.{◌≡◌, refl, sym, ap, subst, ◌∙◌, ℕ, zero, suc, ◌+◌, ◌-◌, Bool, true, false, ◌&&◌, List, [], ◌∷◌, ◌++◌, map, length, take, Option, Some, None, slice_get, if◌then◌else◌, arith}
use Rattle.std.specs.List.{sum_by, flat_map}
use Rattle.std.specs.Option.{option_map, option_or, unwrap_or}
use Rattle.std.specs.Str.{bytes_eq}
use Rattle.std.proofs.lemmas.Bool.{eqb-true}
use Rattle.std.proofs.lemmas.Slice.Eq.{bytes_eq-Decides}
use Rattle.std.proofs.lemmas.List.Sums.{sum_by-cons}
use Rattle.pz_classes_rules.specs.pz_syntax.Classes.{DeclTree, data_class, process_class, cluster_class, system, DataMethodTree, ProcessMethodTree, ModelTree}
use Rattle.pz_classes_rules.specs.declared.method_id.Counts.{Counts}
use Rattle.pz_classes_rules.specs.declared.method_id.Counts.TheVariants.{Data, Process}
use Rattle.pz_classes_rules.specs.declared.method_id.MethodId.{MethodId}
use Rattle.pz_classes_rules.specs.Ancestors.{ancestors}
use Rattle.pz_classes_rules.specs.Methods.{Signature, same_counts, same_signature, data_signature, process_signature, signatures, methods_before, first_with, method_id, own_method, nearest, method_with}
use Rattle.pz_classes_openings.specs.Methods.{declared_methods, methods, method_at}

both_true : (b c : Bool) → (b && c) ≡ true → (b ≡ true) × (c ≡ true)
both_true true true is = (refl, refl)
both_true true false is = cc
both_true false c is = cc

same_counts_is : (a b : Counts) → same_counts a b ≡ true → a ≡ b
same_counts_is (Data i) (Data j) is = ap Data (eqb-true i j is)
same_counts_is (Data i) (Process j l) is = cc
same_counts_is (Process i k) (Data j) is = cc
same_counts_is (Process i k) (Process j l) is = let both = both_true _ _ is in rw (eqb-true i j both.0, eqb-true k l both.1) refl

same_is : (s t : Signature) → same_signature s t ≡ true → s ≡ t
same_is s t is =
    let both = both_true (same_counts s.counts t.counts) (bytes_eq s.name t.name) is in
    rw (same_counts_is s.counts t.counts both.0, (bytes_eq-Decides s.name t.name).0 both.1) refl

-- a method of a process class with its signature, or a signature of a data class
pub data Shows : Option ProcessMethodTree → Signature → Type 0 where
  of_process : (r : ProcessMethodTree) → Shows (Some r) (process_signature r)
  of_data : (r : DataMethodTree) → Shows None (data_signature r)

-- methods and signatures in the same order
data Show : List (Option ProcessMethodTree) → List Signature → Type 0 where
  none : Show [] []
  more : (x : Option ProcessMethodTree) (s : Signature) (xs : List (Option ProcessMethodTree)) (ss : List Signature) → Shows x s → Show xs ss → Show (x ∷ xs) (s ∷ ss)

data_show : (rs : List DataMethodTree) → Show (map (λ r. None) rs) (map data_signature rs)
data_show [] = none
data_show (r ∷ rs) = more None (data_signature r) (map (λ r. None) rs) (map data_signature rs) (of_data r) (data_show rs)

process_show : (rs : List ProcessMethodTree) → Show (map Some rs) (map process_signature rs)
process_show [] = none
process_show (r ∷ rs) = more (Some r) (process_signature r) (map Some rs) (map process_signature rs) (of_process r) (process_show rs)

decl_show : (d : DeclTree) → Show (declared_methods d) (signatures d)
decl_show (data_class d) = data_show (unwrap_or d.methods [])
decl_show (process_class p) = process_show (unwrap_or p.methods [])
decl_show (cluster_class d) = none
decl_show (system s) = none

-- the signature that is found, and the method at its number
pub record Standing (all : List (Option ProcessMethodTree)) (k : ℕ) (s : Signature) : Type 0 where
  pub method : Option ProcessMethodTree
  pub there : slice_get all k ≡ Some method
  pub shows : Shows method s

-- behind so many of all methods stand these
behind : {A : Type 0} (before : List A) (xs : List A) (i : ℕ) → slice_get (before ++ xs) (length before + i) ≡ slice_get xs i
behind [] xs i = ap (slice_get xs) (let e : 0 + i ≡ i = omega arith in e)
behind (x ∷ before) xs i = ap (slice_get (x ∷ (before ++ xs))) (let e : length (x ∷ before) + i ≡ suc (length before + i) = omega arith in e) ∙ behind before xs i

found_in : (s : Signature) (xs rest : List (Option ProcessMethodTree)) (ss : List Signature) → Show xs ss → (before : List (Option ProcessMethodTree)) (n k : ℕ) → n ≡ length before
    → first_with n s ss ≡ Some k → Standing (before ++ (xs ++ rest)) k s
found_in s _ rest _ none before n k at found = cc
found_in s _ rest _ (more x t xs ss shows more_show) before n k at found = by_test (same_signature s t) refl (λ e. found_in s xs rest ss more_show (before ++ x ∷ []) (suc n) k (size at) e) found
  where
    size : n ≡ length before → suc n ≡ length (before ++ x ∷ [])
    size e = longer before n e
      where
        longer : (ys : List (Option ProcessMethodTree)) (i : ℕ) → i ≡ length ys → suc i ≡ length (ys ++ x ∷ [])
        longer [] i is = omega (arith, is)
        longer (y ∷ ys) i is = let later : suc (length ys) ≡ length (ys ++ x ∷ []) = longer ys (length ys) refl in omega (arith, is, later)

    regroup : (ys : List (Option ProcessMethodTree)) → (ys ++ x ∷ []) ++ (xs ++ rest) ≡ ys ++ (x ∷ (xs ++ rest))
    regroup [] = refl
    regroup (y ∷ ys) = ap (λ (zs : List (Option ProcessMethodTree)). y ∷ zs) (regroup ys)

    by_test : (b : Bool) → same_signature s t ≡ b → (first_with (suc n) s ss ≡ Some k → Standing ((before ++ x ∷ []) ++ (xs ++ rest)) k s) → (if b then Some n else first_with (suc n) s ss) ≡ Some k
        → Standing (before ++ (x ∷ (xs ++ rest))) k s
    by_test true same later is =
        let here : n ≡ k = cc in
        record {
          method = x;
          there = ap (slice_get (before ++ (x ∷ (xs ++ rest)))) (let e : k ≡ length before + 0 = omega (arith, here, at) in e) ∙ behind before (x ∷ (xs ++ rest)) 0;
          shows = subst (Shows x) (sym (same_is s t same)) shows;
        }
    by_test false same later is = subst (λ (ys : List (Option ProcessMethodTree)). Standing ys k s) (regroup before) (later is)

-- the methods of the declarations before this one, its own, and those behind it
record Split (ds : List DeclTree) (i : ℕ) (d : DeclTree) : Type 0 where
  before : List (Option ProcessMethodTree)
  rest : List (Option ProcessMethodTree)
  is : flat_map declared_methods ds ≡ before ++ (declared_methods d ++ rest)
  many : sum_by (λ x. length (signatures x)) (take i ds) ≡ length before

show_size : (xs : List (Option ProcessMethodTree)) (ss : List Signature) → Show xs ss → length ss ≡ length xs
show_size _ _ none = refl
show_size _ _ (more x s xs ss shows later) = ap suc (show_size xs ss later)

append_size : {A : Type 0} (xs ys : List A) → length (xs ++ ys) ≡ length xs + length ys
append_size [] ys = omega arith
append_size (x ∷ xs) ys = let later : length (xs ++ ys) ≡ length xs + length ys = append_size xs ys in omega (arith, later)

assoc : {A : Type 0} (xs ys zs : List A) → xs ++ (ys ++ zs) ≡ (xs ++ ys) ++ zs
assoc [] ys zs = refl
assoc (x ∷ xs) ys zs = ap (λ (l : List _). x ∷ l) (assoc xs ys zs)

split : (ds : List DeclTree) (i : ℕ) (d : DeclTree) → slice_get ds i ≡ Some d → Split ds i d
split [] i d here = cc
split (e ∷ ds) zero d here =
    let same : e ≡ d = cc in
    record { before = []; rest = flat_map declared_methods ds; is = ap (λ (x : DeclTree). declared_methods x ++ flat_map declared_methods ds) same; many = refl }
split (e ∷ ds) (suc i) d here = by_rest (split ds i d here)
  where
    by_rest : Split ds i d → Split (e ∷ ds) (suc i) d
    by_rest r = record {
      before = declared_methods e ++ r.before;
      rest = r.rest;
      is = ap (λ (l : List (Option ProcessMethodTree)). declared_methods e ++ l) r.is ∙ assoc (declared_methods e) r.before (declared_methods d ++ r.rest);
      many = sum_by-cons (λ (x : DeclTree). length (signatures x)) e (take i ds)
          ∙ (ap (λ (n : ℕ). n + sum_by (λ x. length (signatures x)) (take i ds)) (show_size (declared_methods e) (signatures e) (decl_show e))
          ∙ (ap (λ (n : ℕ). length (declared_methods e) + n) r.many ∙ sym (append_size (declared_methods e) r.before)));
    }

module _ (m : ModelTree) (s : Signature) where
  own_found : (c k : ℕ) → own_method m s c ≡ Some (method_id k) → Standing (methods m) k s
  own_found zero k found = cc
  own_found (suc i) k found = by_decl (slice_get m.decls i) refl
    where
      by_decl : (o : Option DeclTree) → slice_get m.decls i ≡ o → Standing (methods m) k s
      by_decl None here = let none_found : option_map method_id (first_with (methods_before m (suc i)) s []) ≡ Some (method_id k) = rw here at found in cc
      by_decl (Some d) here =
          let p = split m.decls i d here in
          let skipped : suc i - 1 ≡ i = omega arith in
          let before : methods_before m (suc i) ≡ length p.before = ap (λ (j : ℕ). sum_by (λ x. length (signatures x)) (take j m.decls)) skipped ∙ p.many in
          let is : option_map method_id (first_with (methods_before m (suc i)) s (signatures d)) ≡ Some (method_id k) = rw here at found in
          subst (λ (l : List (Option ProcessMethodTree)). Standing l k s) (sym p.is)
          (found_in s (declared_methods d) p.rest (signatures d) (decl_show d) p.before (methods_before m (suc i)) k before (by_number (first_with (methods_before m (suc i)) s (signatures d)) is))
        where
          by_number : (o : Option ℕ) → option_map method_id o ≡ Some (method_id k) → o ≡ Some k
          by_number None e = cc
          by_number (Some j) e = let same : method_id j ≡ method_id k = cc in ap (λ (n : MethodId). Some n.0) same

  found : (line : List ℕ) (k : ℕ) → nearest (own_method m s) line ≡ Some (method_id k) → Standing (methods m) k s
  found [] k is = cc
  found (c ∷ line) k is = by_own (own_method m s c) refl is (found line k)
    where
      by_own : (o : Option MethodId) → own_method m s c ≡ o → option_or o (nearest (own_method m s) line) ≡ Some (method_id k) → (nearest (own_method m s) line ≡ Some (method_id k) → Standing (methods m) k s) → Standing (methods m) k s
      by_own None own e later = later e
      by_own (Some n) own e later = own_found c k (own ∙ e)

  -- the method at the number that look-up finds
  pub found_there : (c k : ℕ) → method_with m c s ≡ Some (method_id k) → Standing (methods m) k s
  found_there c k is = found (ancestors m c) k is

  -- it has the signature
  pub found_signature : (c k : ℕ) (r : ProcessMethodTree) → method_with m c s ≡ Some (method_id k) → method_at m k ≡ Some r → s ≡ process_signature r
  found_signature c k r is at = by_standing (found_there c k is)
    where
      by_standing : Standing (methods m) k s → s ≡ process_signature r
      by_standing st = by_shows s st.method st.shows (ap (λ (o : Option (Option ProcessMethodTree)). unwrap_or o None) (sym st.there) ∙ at)
        where
          by_shows : (t : Signature) (o : Option ProcessMethodTree) → Shows o t → o ≡ Some r → t ≡ process_signature r
          by_shows _ _ (of_process q) e = let same : q ≡ r = cc in ap process_signature same
          by_shows _ _ (of_data q) e = cc

  -- where a method of a process class is asked for, one stands there
  pub found_process : (c k inputs outputs : ℕ) → s.counts ≡ Process inputs outputs → method_with m c s ≡ Some (method_id k) → (r : ProcessMethodTree) × (method_at m k ≡ Some r) × (s ≡ process_signature r)
  found_process c k inputs outputs counts is = by_standing (found_there c k is)
    where
      by_standing : Standing (methods m) k s → (r : ProcessMethodTree) × (method_at m k ≡ Some r) × (s ≡ process_signature r)
      by_standing st = by_shows s st.method st.shows counts (ap (λ (o : Option (Option ProcessMethodTree)). unwrap_or o None) st.there)
        where
          by_shows : (t : Signature) (o : Option ProcessMethodTree) → Shows o t → t.counts ≡ Process inputs outputs → method_at m k ≡ o → (r : ProcessMethodTree) × (method_at m k ≡ Some r) × (t ≡ process_signature r)
          by_shows _ _ (of_process q) e there = (q, there, refl)
          by_shows _ _ (of_data q) e there = cc
