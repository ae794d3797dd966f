-- The ports of the environment: one for each end, at the number of the end.
use Rattle.std.proofs.Common.{◌≡◌, refl, sym, ap, ◌∙◌, ℕ, zero, suc, ◌+◌, ◌<◌, ◌≤◌, ◌^◌, Bool, true, false, not, List, [], ◌∷◌, map, length, drop, Option, Some, None, slice_get, arith}
use Rattle.std.specs.List.{filter}
use Rattle.std.specs.Option.{option_map, option_map_or, option_and_then}
use Rattle.std.specs.Str.{bytes_eq}
use Rattle.std.proofs.lemmas.Fmt.{decimal_injective}
use Rattle.std.proofs.lemmas.Option.{slice_get-map, slice_get_within}
use Rattle.std.proofs.lemmas.Slice.Eq.{bytes_eq-Decides}
use Rattle.pz_env_mimics.specs.pz_syntax.declared.names.Id.{Id}
use Rattle.pz_env_mimics.specs.pz_syntax.Classes.{DeclTree, process_class, ModelTree}
use Rattle.pz_env_mimics.specs.pz_classes_rules.Ancestors.{parent_of, parent, followed, ancestors}
use Rattle.pz_env_mimics.specs.pz_classes_rules.Members.{own_variables, own_ports, from_root, variables, ports, spelled}
use Rattle.pz_env_mimics.specs.pz_classes_code.Places.{place_from, place_in}
use Rattle.pz_env_mimics.specs.pz_env_script.declared.entry.Entry.{Entry}
use Rattle.pz_env_mimics.specs.pz_env_rules.Environment.{Line, lines_from, lines_of}
use Rattle.pz_env_mimics.specs.pz_env_rules.Ends.{is_same_end, first_mentions}
use Rattle.pz_env_mimics.specs.pz_env_tree.Names.{variable_name, end_number, port_name, port_of}
use Rattle.pz_env_mimics.specs.pz_env_tree.EnvironmentClass.{named, environment_class}
use Rattle.pz_env_mimics.specs.pz_env_tree.ClosedTree.{closed_by}
use Rattle.pz_env_joined.proofs.Accepted.{not_true}
use Rattle.pz_env_joined.proofs.Closing.{env_class, env_declared}
use Rattle.pz_env_joined.proofs.Firsts.{same_itself, end_is}

-- Names of ports

pub one_port : (k r : ℕ) → k < 2 ^ 64 → r < 2 ^ 64 → port_name k ≡ port_name r → k ≡ r
one_port k r low other same = decimal_injective k r low other (ap (drop 1) same)

ports_apart : (k r : ℕ) → k < 2 ^ 64 → r < 2 ^ 64 → r < k → bytes_eq (port_name k) (port_name r) ≡ false
ports_apart k r low other less =
    not_true (bytes_eq (port_name k) (port_name r)) (λ is. (let same = one_port k r low other ((bytes_eq-Decides (port_name k) (port_name r)).0 is) in omega (arith, same, less)))

-- There are no more ends than lines

fewer : (p : Line → Bool) (xs : List Line) → length (filter p xs) ≤ length xs
fewer p [] = omega arith
fewer p (x ∷ xs) = by (p x) refl (fewer p xs)
  where
    by : (b : Bool) → p x ≡ b → length (filter p xs) ≤ length xs → length (filter p (x ∷ xs)) ≤ suc (length xs)
    by true does rest = rw does (omega (arith, rest))
    by false does rest = rw does (omega (arith, rest))

few_firsts : (lines : List Line) → length (first_mentions lines) ≤ length lines
few_firsts [] = omega arith
few_firsts (x ∷ xs) = let one = fewer (λ y. not (is_same_end x y)) (first_mentions xs) in let other = few_firsts xs in omega (arith, one, other)

as_many_lines : (n : ℕ) (es : List Entry) → length (lines_from n es) ≡ length es
as_many_lines n [] = refl
as_many_lines n (e ∷ es) = ap suc (as_many_lines (suc n) es)

pub number_low : (script : List Entry) → length script < 2 ^ 64 → (k : ℕ) (f : Line)
    → slice_get (first_mentions (lines_of script)) k ≡ Some f → k < 2 ^ 64
number_low script few k f at =
    let low = slice_get_within (first_mentions (lines_of script)) k f at in
    let one = few_firsts (lines_of script) in
    let all = as_many_lines 1 script in
    omega (arith, low, one, all, few)

-- The end of the line that names it first

pub number_of_first : (lines : List Line) (k : ℕ) (f : Line) → slice_get (first_mentions lines) k ≡ Some f → end_number lines f ≡ k
number_of_first lines k f at = end_is lines f k (record { first = f; there = at; same = same_itself f })

pub port_there : (lines : List Line) (k : ℕ) (f : Line) → slice_get (first_mentions lines) k ≡ Some f
    → slice_get (spelled (map (port_of lines) (first_mentions lines))) k ≡ Some (port_name k)
port_there lines k f at =
    slice_get-map (λ (x : Id). x.name) (map (port_of lines) (first_mentions lines)) k
    ∙ ap (option_map (λ (x : Id). x.name)) (slice_get-map (port_of lines) (first_mentions lines) k ∙ ap (option_map (port_of lines)) at)
    ∙ ap (λ (i : ℕ). Some (port_name i)) (number_of_first lines k f at)

-- and no other has the name
port_back : (lines : List Line) (k : ℕ) (name : List ℕ)
    → slice_get (spelled (map (port_of lines) (first_mentions lines))) k ≡ Some name
    → (f : Line) × (slice_get (first_mentions lines) k ≡ Some f)
port_back lines k name at = by (slice_get (first_mentions lines) k) refl
  where
    by : (o : Option Line) → slice_get (first_mentions lines) k ≡ o → (f : Line) × (slice_get (first_mentions lines) k ≡ Some f)
    by (Some f) is = (f, is)
    by None is =
        let wrong : None ≡ Some name =
        ap (λ (o : Option Line). option_map (λ (x : Id). x.name) (option_map (port_of lines) o)) (sym is)
        ∙ sym (slice_get-map (λ (x : Id). x.name) (map (port_of lines) (first_mentions lines)) k ∙ ap (option_map (λ (x : Id). x.name)) (slice_get-map (port_of lines) (first_mentions lines) k))
        ∙ at
        in
        cc

placed : (n : ℕ) (names : List (List ℕ)) (k : ℕ) (name : List ℕ) → slice_get names k ≡ Some name
    → ((i : ℕ) (other : List ℕ) → i < k → slice_get names i ≡ Some other → bytes_eq name other ≡ false)
    → place_from n names name ≡ Some (n + k)
placed n [] k name at before = cc
placed n (x ∷ xs) zero name at before =
    let eq : x ≡ name = cc in
    let does : bytes_eq name x ≡ true = (bytes_eq-Decides name x).1 (sym eq) in
    let number : n ≡ n + 0 = omega arith in
    rw does (ap Some number)
placed n (x ∷ xs) (suc k) name at before =
    let number : suc n + k ≡ n + suc k = omega arith in
    rw (before 0 x (omega arith) refl) (placed (suc n) xs k name at (λ i other low there. before (suc i) other (omega (arith, low)) there) ∙ ap Some number)

pub port_placed : (script : List Entry) → length script < 2 ^ 64 → (k : ℕ) (f : Line)
    → slice_get (first_mentions (lines_of script)) k ≡ Some f
    → place_in (spelled (map (port_of (lines_of script)) (first_mentions (lines_of script)))) (port_name k) ≡ Some k
port_placed script few k f at =
    let lines : List Line = lines_of script in
    let none : 0 + k ≡ k = omega arith in
    placed 0 (spelled (map (port_of lines) (first_mentions lines))) k (port_name k) (port_there lines k f at) before ∙ ap Some none
  where
    before : (i : ℕ) (other : List ℕ) → i < k
        → slice_get (spelled (map (port_of (lines_of script)) (first_mentions (lines_of script)))) i ≡ Some other
        → bytes_eq (port_name k) other ≡ false
    before i other low there =
        let back = port_back (lines_of script) i other there in
        let is : Some (port_name i) ≡ Some other = sym (port_there (lines_of script) i back.0 back.1) ∙ there in
        let eq : port_name i ≡ other = cc in
        ap (bytes_eq (port_name k)) (sym eq) ∙ ports_apart k i (number_low script few k f at) (number_low script few i back.0 back.1) low

-- The class of the environment

module _ (m : ModelTree) (lines : List Line) where
  abbrev n : ModelTree
  n = closed_by m lines

  abbrev c : ℕ
  c = env_class m lines

  no_parent : parent n c ≡ None
  no_parent = ap (option_and_then (parent_of n)) (env_declared m lines)

  pub env_line : ancestors (closed_by m lines) (env_class m lines) ≡ env_class m lines ∷ []
  env_line = ap (λ (o : Option ℕ). c ∷ option_map_or (followed (parent n) (length n.decls)) o []) no_parent

  env_own : (own : DeclTree → List Id) → from_root own n (ancestors n c) ≡ own (process_class (environment_class lines))
  env_own own = ap (from_root own n) env_line ∙ ap (λ (o : Option DeclTree). option_map_or own o []) (env_declared m lines)

  pub env_variables : variables (closed_by m lines) (env_class m lines) ≡ named variable_name ∷ []
  env_variables = env_own own_variables

  pub env_ports : ports (closed_by m lines) (env_class m lines) ≡ map (port_of lines) (first_mentions lines)
  env_ports = env_own own_ports
