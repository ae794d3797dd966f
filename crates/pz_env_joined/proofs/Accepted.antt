-- What is known where a script may drive a system: no class and no instance of the system has a name of the
-- environment, no line of the script names it, and no channel of the system.
use Rattle.std.proofs.Common.{◌≡◌, refl, sym, ap, ◌∙◌, ℕ, zero, suc, ◌+◌, ◌<◌, Bool, true, false, List, [], ◌∷◌, Option, Some, None, slice_get, arith}
use Rattle.std.specs.List.{Contains, find, flat_map, list_any}
use Rattle.std.specs.Option.{option_map_or}
use Rattle.std.specs.Str.{bytes_eq}
use Rattle.std.proofs.lemmas.List.Elements.{Contains-append_left, Contains-append_right}
use Rattle.std.proofs.lemmas.Slice.Eq.{bytes_eq-Decides}
use Rattle.pz_env_mimics.specs.pz_syntax.declared.clusters.Instance.{Instance}
use Rattle.pz_env_mimics.specs.pz_syntax.declared.clusters.Channel.{Channel}
use Rattle.pz_env_mimics.specs.pz_syntax.declared.clusters.ChannelEnd.{ChannelEnd}
use Rattle.pz_env_mimics.specs.pz_syntax.declared.clusters.ChannelEnd.TheVariants.{Inner, Outer}
use Rattle.pz_env_mimics.specs.pz_syntax.declared.clusters.SystemDecl.{SystemDecl}
use Rattle.pz_env_mimics.specs.pz_syntax.Classes.{DeclTree, system, ModelTree}
use Rattle.pz_env_mimics.specs.pz_classes_rules.Numbers.{declaration, class}
use Rattle.pz_env_mimics.specs.pz_classes_rules.Instances.{instances, channels}
use Rattle.pz_env_mimics.specs.pz_classes_rules.ChannelRules.{ends}
use Rattle.pz_env_mimics.specs.pz_classes_rules.SoundSystem.{SystemFits, InnerFits}
use Rattle.pz_env_mimics.specs.pz_bind_rules.Nest.{system_class, instances_at, channels_at}
use Rattle.pz_env_mimics.specs.pz_bind_rules.Connections.{is_inner, names_inner}
use Rattle.pz_env_mimics.specs.pz_env_script.declared.entry.Entry.{Entry}
use Rattle.pz_env_mimics.specs.pz_env_rules.Environment.{Line, lines_from, lines_of}
use Rattle.pz_env_mimics.specs.pz_env_tree.Names.{class_name, instance_name}
use Rattle.pz_env_mimics.specs.pz_env_tree.Refusals.{IsFull, has_class, has_instance, IsPort, IsBadEntry, no_port, IsFirstRefused, no_room, bad_entry}
use Rattle.pz_env_grown.proofs.Elements.{first_in, later_in}
use Rattle.pz_env_joined.proofs.Places.{system_declared}

pub in_got : {A : Type 0} (xs : List A) (x : A) → Contains xs x → (i : ℕ) × (slice_get xs i ≡ Some x)
in_got [] x (k, low, is) = absurd (omega (arith, low))
in_got (y ∷ ys) x (zero, low, is) = (0, ap Some is)
in_got (y ∷ ys) x (suc k, low, is) = let r = in_got ys x (k, omega (arith, low), is) in (suc r.0, r.1)

pub not_true : (b : Bool) → (b ≡ true → ⊥) → b ≡ false
not_true true never = absurd (never refl)
not_true false never = refl

entry_at : (n : ℕ) (es : List Entry) (i : ℕ) (x : Line) → slice_get (lines_from n es) i ≡ Some x → slice_get es i ≡ Some x.entry
entry_at n [] i x is = cc
entry_at n (e ∷ es) zero x is = let eq : record { number = n; entry = e } ≡ x = cc in ap (λ (y : Line). Some y.entry) eq
entry_at n (e ∷ es) (suc i) x is = entry_at (suc n) es i x is

found_passes : {A : Type 0} (p : A → Bool) (xs : List A) (x : A) → find p xs ≡ Some x → Contains xs x × (p x ≡ true)
found_passes p [] x is = cc
found_passes {A} p (y ∷ ys) x is = by (p y) refl (found_passes p ys x)
  where
    by : (b : Bool) → p y ≡ b → (find p ys ≡ Some x → Contains ys x × (p x ≡ true)) → Contains (y ∷ ys) x × (p x ≡ true)
    by true does rest = let chosen : Some y ≡ Some x = rw does at is in let eq : y ≡ x = cc in ((0, omega arith, eq), ap p (sym eq) ∙ does)
    by false does rest = let r = rest (rw does at is) in (later_in y ys x r.0, r.1)

in_flat : {A B : Type 0} (f : A → List B) (xs : List A) (i : ℕ) (x : A) (y : B) → slice_get xs i ≡ Some x → Contains (f x) y
    → Contains (flat_map f xs) y
in_flat f [] i x y at has = cc
in_flat f (z ∷ zs) zero x y at has = let eq : z ≡ x = cc in Contains-append_left (f z) (flat_map f zs) y (rw eq has)
in_flat f (z ∷ zs) (suc i) x y at has = Contains-append_right (f z) (flat_map f zs) y (in_flat f zs i x y at has)

module _ (m : ModelTree) (script : List Entry) (accepted : (line : ℕ) → IsFirstRefused m script line → ⊥) where
  not_full : IsFull m → ⊥
  not_full full = accepted 1 (no_room full)

  pub no_class : class m class_name ≡ None
  no_class = by (class m class_name) refl
    where
      by : (o : Option ℕ) → class m class_name ≡ o → class m class_name ≡ None
      by None is = is
      by (Some k) is = absurd (not_full (has_class k is))

  pub no_instance : (x : Instance) → Contains (instances_at m []) x → x.name.name ≡ instance_name → ⊥
  no_instance x (k, low, is) named = not_full (has_instance (k, x, low, is, named))

  -- no entry is bad: the first would be told
  all_good : (n i : ℕ) (e : Entry) → i < n → slice_get script i ≡ Some e → IsBadEntry m e → ⊥
  all_good zero i e low at bad = omega (arith, low)
  all_good (suc n) i e low at bad = accepted (1 + i) (bad_entry i e not_full at bad (λ k before below there. all_good n k before (omega (arith, low, below)) there))

  pub no_line : (x : Line) → Contains (lines_of script) x → x.entry.instance ≡ instance_name → ⊥
  no_line x among named =
      let at = in_got (lines_of script) x among in
      all_good (suc at.0) at.0 x.entry (omega arith) (entry_at 1 script at.0 x at.1) (no_port no_such)
    where
      no_such : IsPort m x.entry → ⊥
      no_such (k, y, low, is, (same, has)) = no_instance y (k, low, is) (same ∙ named)

  pub no_channel : SystemFits m → (k : ℕ) (h : Channel) (port : List ℕ) → slice_get (channels_at m []) k ≡ Some h
      → names_inner instance_name port h ≡ true → ⊥
  no_channel fits k h port at names = by_end h.ends (λ e among. among) names
    where
      s : (s : SystemDecl) × (declaration m (system_class m) ≡ Some (system s))
      s = system_declared m fits

      own : channels_at m [] ≡ channels (system s.0)
      own = ap (λ (o : Option DeclTree). option_map_or channels o []) s.1

      placed : instances_at m [] ≡ instances (system s.0)
      placed = ap (λ (o : Option DeclTree). option_map_or instances o []) s.1

      in_ends : (e : ChannelEnd) → Contains h.ends e → Contains (ends (system s.0)) e
      in_ends e among = in_flat (λ (g : Channel). g.ends) (channels (system s.0)) k h e (ap (λ (hs : List Channel). slice_get hs k) (sym own) ∙ at) among

      fits_none : (i p : List ℕ) → InnerFits m (system s.0) i p → bytes_eq instance_name i ≡ true → ⊥
      fits_none i p fit is =
          let found = found_passes (λ (x : Instance). bytes_eq i x.name.name) (instances (system s.0)) fit.instance fit.named in
          let one : instance_name ≡ i = (bytes_eq-Decides instance_name i).0 is in
          let other : i ≡ fit.instance.name.name = (bytes_eq-Decides i fit.instance.name.name).0 found.1 in
          no_instance fit.instance (rw placed found.0) (sym other ∙ sym one)

      by_end : (es : List ChannelEnd) → ((e : ChannelEnd) → Contains es e → Contains h.ends e) → list_any (is_inner instance_name port) es ≡ true → ⊥
      by_end [] among is = cc
      by_end (Outer p ∷ es) among is = by_end es (λ e there. among e (later_in (Outer p) es e there)) is
      by_end (Inner i p ∷ es) among is = by (bytes_eq instance_name i.name) refl (by_end es (λ e there. among e (later_in (Inner i p) es e there)))
        where
          by : (b : Bool) → bytes_eq instance_name i.name ≡ b → (list_any (is_inner instance_name port) es ≡ true → ⊥) → ⊥
          by true does rest = fits_none i.name p.name ((fits.parts_fit (system_class m) (system s.0) s.1).ends_fit (Inner i p) (in_ends (Inner i p) (among (Inner i p) (first_in (Inner i p) es)))) does
          by false does rest = rest (rw does at is)
