-- What is in a set of ends, one more at a time.
use Rattle.std.proofs.Common.{◌≡◌, refl, sym, ap, ap₂, ◌∙◌, ℕ, suc, ◌+◌, ◌<◌, ◌≤◌, Bool, true, false, ◌&&◌, ◌||◌, not, List, [], ◌∷◌, ◌++◌, map, drop, drop-cons, length, get_or, Some, slice_get, arith}
use Rattle.std.specs.Prelude.{if◌then◌else◌}
use Rattle.std.specs.List.{list_any, position_or_len}
use Rattle.std.specs.Str.{bytes_eq}
use Rattle.std.proofs.lemmas.List.{drop_all, map-append}
use Rattle.std.proofs.lemmas.List.Folds.{list_any-append}
use Rattle.std.proofs.lemmas.Slice.Eq.{bytes_eq-Decides}
use Rattle.pz_env.specs.devices.Ends.{Named, named, named_by, is_named, has_end, with_end, number_of}
use Rattle.pz_syntax.specs.declared.names.Id.{Id}
use Rattle.pz_syntax.specs.declared.clusters.ChannelEnd.{ChannelEnd}
use Rattle.pz_syntax.specs.declared.clusters.ChannelEnd.TheVariants.{Inner}
use Rattle.pz_syntax.specs.Classes.{DeclTree, ModelTree}
use Rattle.pz_classes.specs.pz_classes_rules.Numbers.{declaration}
use Rattle.pz_env_tree.specs.pz_bind_rules.Nest.{is_system, first_system}
use Rattle.pz_env_tree.specs.pz_bind_rules.Connections.{is_inner}
use Rattle.pz_env.specs.declared.ends.End.{End}
use Rattle.pz_env.specs.devices.Standing.{first_of}

pub one_more : {A : Type 0} (xs : List A) (x : A) (i j : ℕ) → i < length xs → x ≡ get_or xs i x → j ≡ suc i → drop i xs ≡ x ∷ drop j xs
one_more {A} xs x i j within here after =
    drop-cons xs i x within ∙ (ap (λ (y : A). y ∷ drop (suc i) xs) (sym here) ∙ ap (λ k. x ∷ drop k xs) (sym after))

pub or_assoc : (a b c : Bool) → ((a || b) || c) ≡ (a || (b || c))
or_assoc true b c = refl
or_assoc false b c = refl

pub or_false : (a : Bool) → (a || false) ≡ a
or_false true = refl
or_false false = refl

module _ {X : Type 0} (f : X → Bool) where
  -- one thing more is in the set
  pub any_step : (xs : List X) (x : X) (i j : ℕ) (old new whole : Bool) → i < length xs → x ≡ get_or xs i x → j ≡ suc i → new ≡ (old || f x)
      → (old || list_any f (drop i xs)) ≡ whole → (new || list_any f (drop j xs)) ≡ whole
  any_step xs x i j old new whole within here after is before =
      ap (λ b. b || list_any f (drop j xs)) is
      ∙ or_assoc old (f x) (list_any f (drop j xs))
      ∙ ap (λ (ys : List X). old || list_any f ys) (sym (one_more xs x i j within here after))
      ∙ before

  pub any_done : (xs : List X) (i : ℕ) (old whole : Bool) → length xs ≤ i → (old || list_any f (drop i xs)) ≡ whole → old ≡ whole
  any_done xs i old whole past before = sym (or_false old) ∙ ap (λ (ys : List X). old || list_any f ys) (sym (drop_all i xs past)) ∙ before

same_bytes : (xs ys : List ℕ) → bytes_eq xs ys ≡ true → xs ≡ ys
same_bytes xs ys e = (bytes_eq-Decides xs ys).0 e

first_of_both : (a b : Bool) → a && b ≡ true → a ≡ true
first_of_both true b e = refl
first_of_both false b e = e

second_of_both : (a b : Bool) → a && b ≡ true → b ≡ true
second_of_both true b e = e
second_of_both false b e = absurd cc

pub same_named : (e n : Named) → is_named e n ≡ true → e ≡ n
same_named e n h =
    let i : e.instance ≡ n.instance = same_bytes e.instance n.instance (first_of_both (bytes_eq e.instance n.instance) (bytes_eq e.port n.port) h) in
    let p : e.port ≡ n.port = same_bytes e.port n.port (second_of_both (bytes_eq e.instance n.instance) (bytes_eq e.port n.port) h) in
    ap (λ (x : List ℕ). named x e.port) i ∙ ap (λ (x : List ℕ). named n.instance x) p

-- what has been added is there, and what was there
pub has_with : (ends : List Named) (n e : Named) → has_end (with_end ends n) e ≡ (has_end ends e || is_named e n)
has_with ends n e = by (has_end ends n) refl
  where
    by : (b : Bool) → has_end ends n ≡ b → has_end (if b then ends else ends ++ n ∷ []) e ≡ (has_end ends e || is_named e n)
    by false is = list_any-append (is_named e) ends (n ∷ []) ∙ ap (λ b. has_end ends e || b) (or_false (is_named e n))
    by true is = alike (is_named e n) refl
      where
        alike : (b : Bool) → is_named e n ≡ b → has_end ends e ≡ (has_end ends e || b)
        alike false s = sym (or_false (has_end ends e))
        alike true s =
            let there : has_end ends e ≡ true = ap (has_end ends) (same_named e n s) ∙ is in
            there ∙ ap (λ b. b || true) (sym there)

-- Keys

module _ (eq : End → Bool) (n : Named) (same : (k : End) → eq k ≡ is_named n (named_by k)) where
  pub any_named : (ks : List End) → list_any eq ks ≡ has_end (map named_by ks) n
  any_named [] = refl
  any_named (k ∷ ks) = ap₂ (λ a b. a || b) (same k) (any_named ks)

  pub number_named : (ks : List End) → position_or_len eq ks ≡ number_of (map named_by ks) n
  number_named [] = refl
  number_named (k ∷ ks) = ap₂ (λ (a : Bool) (b : ℕ). if not a then 1 + b else 0) (same k) (number_named ks)

  pub added_named : (ks : List End) (key : End) → named_by key ≡ n → map named_by (if list_any eq ks then ks else ks ++ key ∷ []) ≡ with_end (map named_by ks) n
  added_named ks key is = by (list_any eq ks) (any_named ks)
    where
      by : (b : Bool) → b ≡ has_end (map named_by ks) n → map named_by (if b then ks else ks ++ key ∷ []) ≡ (if has_end (map named_by ks) n then map named_by ks else map named_by ks ++ n ∷ [])
      by true e = ap (λ (b : Bool). if b then map named_by ks else map named_by ks ++ n ∷ []) e
      by false e =
          map-append named_by ks (key ∷ []) ∙ ap (λ (x : Named). map named_by ks ++ x ∷ []) is
          ∙ ap (λ (b : Bool). if b then map named_by ks else map named_by ks ++ n ∷ []) e

-- an end that was added, by the names that it is written with
pub port_added : (ends new : List Named) (e : Named) (instance a port : List ℕ) → a ≡ port → new ≡ with_end ends (named instance a) → has_end new e ≡ (has_end ends e || is_named e (named instance port))
port_added ends new e instance a port is_port is =
    ap (λ (ns : List Named). has_end ns e) is ∙ has_with ends (named instance a) e ∙ ap (λ (x : List ℕ). has_end ends e || is_named e (named instance x)) is_port

pub inner_added : (ends new : List Named) (e : Named) (end : ChannelEnd) (i p : Id) (a b : List ℕ) → end ≡ Inner i p → a ≡ i.name → b ≡ p.name → new ≡ with_end ends (named a b)
    → has_end new e ≡ (has_end ends e || is_inner e.instance e.port end)
inner_added ends new e end i p a b is_end is_instance is_port is =
    port_added ends new e a b p.name is_port is
    ∙ ap (λ (x : List ℕ). has_end ends e || is_named e (named x p.name)) is_instance
    ∙ ap (λ (x : ChannelEnd). has_end ends e || is_inner e.instance e.port x) (sym is_end)

-- The system

-- the first system is the declaration of its number
pub first_is : (m : ModelTree) → declaration m (first_system 1 m.decls) ≡ first_of m.decls
first_is m = from 0 m.decls (λ k. ap (slice_get m.decls) (omega arith))
  where
    from : (i : ℕ) (ds : List DeclTree) → ((k : ℕ) → slice_get m.decls (i + k) ≡ slice_get ds k) → declaration m (first_system (suc i) ds) ≡ first_of ds
    from i [] rest = refl
    from i (d ∷ ds) rest = by (is_system d) (from (suc i) ds (λ k. ap (slice_get m.decls) (omega arith) ∙ rest (suc k)))
      where
        by : (b : Bool) → declaration m (first_system (suc (suc i)) ds) ≡ first_of ds → declaration m (if b then suc i else first_system (suc (suc i)) ds) ≡ (if b then Some d else first_of ds)
        by true after = ap (slice_get m.decls) (omega arith) ∙ rest 0
        by false after = after
