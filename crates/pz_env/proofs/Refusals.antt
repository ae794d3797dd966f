-- What is refused by the ends of a system is what its model refuses.
use Rattle.std.proofs.Common.{◌≡◌, refl, sym, ap, ap₂, ◌∙◌, ℕ, suc, Bool, true, false, ◌&&◌, ◌||◌, not, List, [], ◌∷◌, Option, Some}
use Rattle.std.specs.declared.result.Result.{Result}
use Rattle.std.specs.declared.result.Result.TheVariants.{Ok, Err}
use Rattle.std.specs.Result.{IfOk}
use Rattle.std.specs.Prelude.{◌↔◌, if◌then◌else◌, is_some, nat_le, nat_lt, bytes_eq}
use Rattle.std.specs.List.{list_any}
use Rattle.std.proofs.lemmas.Slice.Eq.{bytes_eq-Decides}
use Rattle.pz_syntax.specs.declared.clusters.Instance.{Instance}
use Rattle.pz_syntax.specs.declared.clusters.SystemDecl.{SystemDecl}
use Rattle.pz_syntax.specs.Classes.{ModelTree}
use Rattle.pz_classes.specs.pz_classes_rules.Numbers.{class}
use Rattle.pz_classes.specs.pz_classes_rules.Members.{ports, spelled}
use Rattle.pz_classes.specs.pz_classes_rules.SizeRules.{systems, system_size}
use Rattle.pz_env_tree.specs.pz_bind_rules.Nest.{class_of, instances_at}
use Rattle.pz_env_tree.specs.pz_env_script.declared.entry.Entry.{Entry}
use Rattle.pz_env_tree.specs.Names.{class_name}
use Rattle.pz_env_tree.specs.Refusals.{IsFirstRefused}
use Rattle.pz_env_tree.specs.Laws.{RefusalsAreComputed}
use Rattle.pz_env_tree.specs.devices.Refused.{is_named_so, is_crowded, is_wide, is_full, has_port, is_port, is_bad, first_bad, refused}
use Rattle.pz_env.specs.devices.Counting.{is_above}
use Rattle.pz_env.specs.devices.Ends.{Named, has_end}
use Rattle.pz_env.specs.devices.Standing.{is_port_at, is_port_in, is_connected}
use Rattle.pz_env.specs.devices.Refusing.{end_of, is_refused, first_refused}
use Rattle.pz_env.proofs.Sets.{or_assoc}

-- what is computed is what the relation has
pub told : {E : Type 0} (m : ModelTree) (entries script : List Entry) (r : Result (Option ℕ) E) → entries ≡ script → RefusalsAreComputed
    → IfOk r (λ found. found ≡ refused m entries) → IfOk r (λ found. (line : ℕ) → IsFirstRefused m script line ↔ (found ≡ Some line))
told m entries script (Ok found) same law is = λ line.
    (let one = law m script line in
    let at : found ≡ refused m script = is ∙ ap (refused m) same in
    ((λ h. at ∙ one.0 h), (λ e. one.1 (sym at ∙ e))))
told m entries script (Err e) same law is = is

bytes_flip : (xs ys : List ℕ) → bytes_eq xs ys ≡ bytes_eq ys xs
bytes_flip xs ys = by (bytes_eq xs ys) (bytes_eq ys xs) refl refl
  where
    by : (a b : Bool) → bytes_eq xs ys ≡ a → bytes_eq ys xs ≡ b → a ≡ b
    by true true p q = refl
    by false false p q = refl
    by true false p q = sym ((bytes_eq-Decides ys xs).1 (sym ((bytes_eq-Decides xs ys).0 p))) ∙ q
    by false true p q = sym p ∙ (bytes_eq-Decides xs ys).1 (sym ((bytes_eq-Decides ys xs).0 q))

any_alike : {X : Type 0} (f g : X → Bool) → ((x : X) → f x ≡ g x) → (xs : List X) → list_any f xs ≡ list_any g xs
any_alike f g same [] = refl
any_alike f g same (x ∷ xs) = ap₂ (λ a b. a || b) (same x) (any_alike f g same xs)

any_and : {X : Type 0} (a : Bool) (g : X → Bool) (xs : List X) → list_any (λ x. a && g x) xs ≡ (a && list_any g xs)
any_and true g xs = refl
any_and false g [] = refl
any_and false g (x ∷ xs) = any_and false g xs

or_mixed : (a b c d : Bool) → ((a || b) || (c || d)) ≡ ((a || c) || (b || d))
or_mixed true b c d = refl
or_mixed false true true d = refl
or_mixed false true false d = refl
or_mixed false false c d = refl

any_or : {X : Type 0} (f g : X → Bool) (xs : List X) → list_any (λ x. f x || g x) xs ≡ (list_any f xs || list_any g xs)
any_or f g [] = refl
any_or f g (x ∷ xs) = ap (λ b. (f x || g x) || b) (any_or f g xs) ∙ or_mixed (f x) (g x) (list_any f xs) (list_any g xs)

module _ (m : ModelTree) where
  large_is : list_any (λ s. is_above (system_size m s)) (systems m) ≡ (is_crowded m || is_wide m)
  large_is = any_or (λ (s : SystemDecl). nat_le 10000 (system_size m s).processes) (λ s. nat_lt 900000 (system_size m s).channels) (systems m)

  -- a name that is taken, or a system that is too large
  full_is : (name large : Bool) → name ≡ (is_some (class m class_name) || is_named_so m) → large ≡ list_any (λ s. is_above (system_size m s)) (systems m) → (name || large) ≡ is_full m
  full_is name large is_name is_large =
      ap₂ (λ a b. a || b) is_name (is_large ∙ large_is) ∙ or_assoc (is_some (class m class_name)) (is_named_so m) (is_crowded m || is_wide m)

  pub on_large : {E : Type 0} (name : Bool) (r : Result Bool E) → name ≡ false → name ≡ (is_some (class m class_name) || is_named_so m)
      → IfOk r (λ large. large ≡ list_any (λ s. is_above (system_size m s)) (systems m)) → IfOk r (λ full. full ≡ is_full m)
  on_large name (Ok large) free is is_large = sym (ap (λ (b : Bool). b || large) free) ∙ full_is name large is is_large
  on_large name (Err e) free is is_large = is_large

  port_is : (e : Entry) → is_port_in m (end_of e) ≡ is_port m e
  port_is e = any_alike (is_port_at m (end_of e)) (λ x. bytes_eq x.name.name e.instance && has_port m e x) one (instances_at m [])
    where
      one : (x : Instance) → is_port_at m (end_of e) x ≡ (bytes_eq x.name.name e.instance && has_port m e x)
      one x =
          any_and (bytes_eq e.instance x.name.name) (bytes_eq e.port) (spelled (ports m (class_of m x)))
          ∙ ap₂ (λ a b. a && b) (bytes_flip e.instance x.name.name) (any_alike (bytes_eq e.port) (λ p. bytes_eq p e.port) (bytes_flip e.port) (spelled (ports m (class_of m x))))

  module _ (there taken : List Named) (are_ports : (e : Named) → has_end there e ≡ is_port_in m e) (are_taken : (e : Named) → has_end taken e ≡ is_connected m e) where
    bad_is : (e : Entry) → is_refused there taken e ≡ is_bad m e
    bad_is e = ap₂ (λ a b. not a || b) (are_ports (end_of e) ∙ port_is e) (are_taken (end_of e))

    pub first_is : (n : ℕ) (es : List Entry) → first_refused there taken n es ≡ first_bad m n es
    first_is n [] = refl
    first_is n (e ∷ es) = ap₂ (λ (b : Bool) (o : Option ℕ). if b then Some n else o) (bad_is e) (first_is (suc n) es)

  -- there is room, so the first bad entry decides
  pub room_left : (script : List Entry) (full : Bool) → full ≡ false → full ≡ is_full m → first_bad m 1 script ≡ refused m script
  room_left script full room is = ap (λ (b : Bool). if b then Some 1 else first_bad m 1 script) (sym room ∙ is)
