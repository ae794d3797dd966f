-- What a sound model says of the levels of a class.
use Rattle.std.proofs.Common.{◌≡◌, refl, sym, ap, ◌∙◌, subst, ℕ, zero, suc, Bool, true, false, IsTrue, List, [], ◌∷◌, map, Option, Some, None, slice_get}
use Rattle.std.specs.Option.{option_map_or, unwrap_or}
use Rattle.std.specs.List.{Contains, flat_map, find}
use Rattle.std.specs.Str.{bytes_eq}
use Rattle.std.proofs.lemmas.Slice.Eq.{bytes_eq-Decides}
use Rattle.pz_classes_rules.specs.pz_syntax.declared.names.Id.{Id}
use Rattle.pz_classes_rules.specs.pz_syntax.declared.clusters.Instance.{Instance}
use Rattle.pz_classes_rules.specs.pz_syntax.declared.clusters.Channel.{Channel as Written}
use Rattle.pz_classes_rules.specs.pz_syntax.declared.clusters.ChannelEnd.{ChannelEnd}
use Rattle.pz_classes_rules.specs.pz_syntax.declared.clusters.ChannelEnd.TheVariants.{Inner, Outer}
use Rattle.pz_classes_rules.specs.pz_syntax.Classes.{DeclTree, ModelTree}
use Rattle.pz_classes_rules.specs.Numbers.{declaration}
use Rattle.pz_classes_rules.specs.Members.{spelled}
use Rattle.pz_classes_rules.specs.Instances.{instances, channels}
use Rattle.pz_classes_rules.specs.ChannelRules.{ends, same_end, both_outer}
use Rattle.pz_classes_rules.specs.Apart.{AreApart}
use Rattle.pz_classes_rules.specs.SoundSystem.{SystemFits, PartsFit, HasPort, InnerFits, OuterFits}
use Rattle.pz_classes_rules.proofs.Elements.{at_place, in_flat}
use Rattle.pz_bind_rules.specs.Nest.{instances_in, channels_in, class_of}
use Rattle.pz_bind_rules.proofs.Lists.{map_at, AreOnce, ids_once}

-- what is found first passes the test, and stands somewhere
pub record FoundAt {A : Type 0} (f : A → Bool) (xs : List A) (x : A) : Type 0 where
  pub at : ℕ
  pub there : slice_get xs at ≡ Some x
  pub passes : IsTrue (f x)

pub found_at : {A : Type 0} (f : A → Bool) (xs : List A) (x : A) → find f xs ≡ Some x → FoundAt f xs x
found_at f [] x is = cc
found_at {A} f (y ∷ ys) x is = by_test (found_at f ys x) (f y) refl
  where
    by_test : (find f ys ≡ Some x → FoundAt f ys x) → (b : Bool) → f y ≡ b → FoundAt f (y ∷ ys) x
    by_test rest true does =
        let chosen : Some y ≡ Some x = rw does at is in
        let same : y ≡ x = cc in
        record { at = 0; there = ap Some same; passes = subst (λ (z : A). f z ≡ true) same does }
    by_test rest false does = let r = rest (rw does at is) in record { at = suc r.at; there = r.there; passes = r.passes }

abbrev pub names_of : List Instance → List (List ℕ)
names_of xs = map (λ x. x.name.name) xs

abbrev pub all_ends : List Written → List ChannelEnd
all_ends hs = flat_map (λ (h : Written). h.ends) hs

-- in levels of the class c stand these instances and channels
pub record LevelFits (m : ModelTree) (c : ℕ) (xs : List Instance) (hs : List Written) : Type 0 where
  pub names_once : AreOnce (names_of xs)
  pub ends_apart : AreApart same_end (all_ends hs)
  pub outer_apart : (k : ℕ) (h : Written) → slice_get hs k ≡ Some h → AreApart both_outer h.ends
  pub outer_port : (k at : ℕ) (h : Written) (q : Id) → slice_get hs k ≡ Some h → slice_get h.ends at ≡ Some (Outer q) → HasPort m c q.name
  pub inner_port : (k at : ℕ) (h : Written) (y q : Id) → slice_get hs k ≡ Some h → slice_get h.ends at ≡ Some (Inner y q) → (i : ℕ) (x : Instance) → slice_get xs i ≡ Some x → x.name.name ≡ y.name → HasPort m (class_of m x) q.name

module _ (m : ModelTree) (fits : SystemFits m) where
  none_fit : (c : ℕ) → LevelFits m c [] []
  none_fit c = record {
    names_once = λ i j x first second. let wrong : None ≡ Some x = first in cc;
    ends_apart = λ i j x y first second alike. let wrong : None ≡ Some x = first in cc;
    outer_apart = λ k h there. let wrong : None ≡ Some h = there in cc;
    outer_port = λ k at h q there inside. let wrong : None ≡ Some h = there in cc;
    inner_port = λ k at h y q there inside i x here is. let wrong : None ≡ Some h = there in cc;
  }

  module _ (c : ℕ) (d : DeclTree) (declared : declaration m c ≡ Some d) where
    abbrev parts : PartsFit m c d
    parts = fits.parts_fit c d declared

    once : AreOnce (names_of (instances d))
    once i j x first second = ids_once (map (λ (y : Instance). y.name) (instances d)) parts.instances_apart i j x (spelled_at (instances d) i first) (spelled_at (instances d) j second)
      where
        spelled_at : (xs : List Instance) (n : ℕ) → slice_get (names_of xs) n ≡ Some x → slice_get (spelled (map (λ (y : Instance). y.name) xs)) n ≡ Some x
        spelled_at [] n at = cc
        spelled_at (y ∷ ys) zero at = at
        spelled_at (y ∷ ys) (suc n) at = spelled_at ys n at

    in_ends : (k at : ℕ) (h : Written) (e : ChannelEnd) → slice_get (channels d) k ≡ Some h → slice_get h.ends at ≡ Some e → Contains (ends d) e
    in_ends k at h e there inside = in_flat (λ (g : Written). g.ends) (channels d) h e (at_place (channels d) k h there) (at_place h.ends at e inside)

    inner : (k at : ℕ) (h : Written) (y q : Id) → slice_get (channels d) k ≡ Some h → slice_get h.ends at ≡ Some (Inner y q) → (i : ℕ) (x : Instance) → slice_get (instances d) i ≡ Some x → x.name.name ≡ y.name → HasPort m (class_of m x) q.name
    inner k at h y q there inside i x here named =
        let fit : InnerFits m d y.name q.name = parts.ends_fit (Inner y q) (in_ends k at h (Inner y q) there inside) in
        let found = found_at (λ j. bytes_eq y.name j.name.name) (instances d) fit.instance fit.named in
        let spelled_so : fit.instance.name.name ≡ x.name.name = sym ((bytes_eq-Decides y.name fit.instance.name.name).0 found.passes) ∙ sym named in
        let one_place : found.at ≡ i = once found.at i x.name.name (map_at (λ (z : Instance). z.name.name) (instances d) found.at fit.instance found.there ∙ ap Some spelled_so) (map_at (λ (z : Instance). z.name.name) (instances d) i x here) in
        let both : Some fit.instance ≡ Some x = sym found.there ∙ (ap (slice_get (instances d)) one_place ∙ here) in
        let same : fit.instance ≡ x = cc in
        let class_is : class_of m fit.instance ≡ fit.class = ap (λ (o : Option ℕ). unwrap_or o 0) fit.is_class in
        subst (λ k. HasPort m k q.name) (sym class_is ∙ ap (class_of m) same) fit.has_port

    declared_fit : LevelFits m c (instances d) (channels d)
    declared_fit = record {
      names_once = once;
      ends_apart = parts.ends_apart;
      outer_apart = λ k h there. parts.outer_apart h (at_place (channels d) k h there);
      outer_port = λ k at h q there inside. let fit : OuterFits m c d q.name = parts.ends_fit (Outer q) (in_ends k at h (Outer q) there inside) in fit.has_port;
      inner_port = inner;
    }

  pub level_fits : (c : ℕ) → LevelFits m c (instances_in m c) (channels_in m c)
  level_fits c = by_decl (declaration m c) refl
    where
      by_decl : (o : Option DeclTree) → declaration m c ≡ o → LevelFits m c (option_map_or instances o []) (option_map_or channels o [])
      by_decl None is = none_fit c
      by_decl (Some d) is = declared_fit c d is
