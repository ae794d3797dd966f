-- What stands in the classes of a model is what the model says.
use Rattle.std.proofs.Common.{◌≡◌, refl, sym, ap, subst, ◌∙◌, ℕ, zero, suc, ◌<◌, List, [], ◌∷◌, length, Option, Some, None, slice_get, arith, ◌⊎◌, inl, inr}
use Rattle.std.specs.List.{Contains}
use Rattle.std.specs.Option.{option_map, option_map_or}
use Rattle.std.proofs.lemmas.Option.{slice_get-map}
use Rattle.std.proofs.lemmas.List.Elements.{Contains-append_left, Contains-append_right, Contains-append_cases}
use Rattle.pz_classes.specs.pz_syntax.declared.clusters.Instance.{Instance}
use Rattle.pz_classes.specs.pz_syntax.Classes.{DeclTree, ModelTree}
use Rattle.pz_classes.specs.pz_classes_rules.Numbers.{declaration}
use Rattle.pz_classes.specs.pz_classes_rules.Instances.{instance_class}
use Rattle.pz_check_size.specs.declared.nodes.Held.{Held}
use Rattle.pz_check_size.specs.declared.nodes.Node.{Node}
use Rattle.pz_check_size.specs.devices.Nodes.{held_of, all_held, node_of, nodes}

-- the instance by which a class is held
pub record HeldAs (m : ModelTree) (is : List Instance) (h : Held) : Type 0 where
  pub instance : Instance
  pub among : Contains is instance
  pub class : instance_class m instance.class.name ≡ Some h.class
  pub place : instance.class.pos ≡ h.pos

module _ (m : ModelTree) where
  no_member : {A : Type 0} (x : A) → Contains [] x → ⊥
  no_member x (k, below, is) = omega arith

  only_one : (x y : Held) → Contains (x ∷ []) y → x ≡ y
  only_one x y (zero, below, is) = is
  only_one x y (suc k, below, is) = absurd (omega arith)

  first_or : (i : Instance) (is : List Instance) (x : Instance) → Contains (i ∷ is) x → (i ≡ x) ⊎ Contains is x
  first_or i is x (zero, below, same) = inl same
  first_or i is x (suc k, below, same) = inr (k, omega arith, same)

  one_held : (i : Instance) (is : List Instance) (h : Held) → Contains (held_of m i) h → HeldAs m (i ∷ is) h
  one_held i is h found = by_class (instance_class m i.class.name) refl found
    where
      by_class : (o : Option ℕ) → instance_class m i.class.name ≡ o → Contains (option_map_or (λ k. record { class = k; pos = i.class.pos } ∷ []) o []) h → HeldAs m (i ∷ is) h
      by_class None known at = absurd (no_member h at)
      by_class (Some k) known at =
          let this : Held = record { class = k; pos = i.class.pos } in
          let same : this ≡ h = only_one this h at in
          record {
            instance = i;
            among = (0, omega arith, refl);
            class = known ∙ ap (λ (x : Held). Some x.class) same;
            place = ap (λ (x : Held). x.pos) same;
          }

  -- what is held is held as an instance
  pub as_instance : (is : List Instance) (h : Held) → Contains (all_held m is) h → HeldAs m is h
  as_instance [] h found = absurd (no_member h found)
  as_instance (i ∷ is) h found = by_part (Contains-append_cases (held_of m i) (all_held m is) h found) (as_instance is h)
    where
      by_part : Contains (held_of m i) h ⊎ Contains (all_held m is) h → (Contains (all_held m is) h → HeldAs m is h) → HeldAs m (i ∷ is) h
      by_part (inl here) on = one_held i is h here
      by_part (inr later) on =
          let rest : HeldAs m is h = on later in
          let at = rest.among in
          record { instance = rest.instance; among = (suc at.0, (let below : at.0 < length is = at.1 in omega arith), at.2); class = rest.class; place = rest.place }

  -- and the other way round
  pub is_held : (is : List Instance) (i : Instance) (k : ℕ) → Contains is i → instance_class m i.class.name ≡ Some k → Contains (all_held m is) (record { class = k; pos = i.class.pos })
  is_held [] i k among known = absurd (no_member i among)
  is_held (j ∷ is) i k among known = elim (first_or j is i among) [
    | inl same ↦
        (let here : Contains (held_of m i) (record { class = k; pos = i.class.pos }) = rw known (0, omega arith, refl) in
        Contains-append_left (held_of m j) (all_held m is) (record { class = k; pos = i.class.pos }) (subst (λ (x : Instance). Contains (held_of m x) (record { class = k; pos = i.class.pos })) (sym same) here))
    | inr later ↦ Contains-append_right (held_of m j) (all_held m is) (record { class = k; pos = i.class.pos }) (is_held is i k later known)
  ]

  pub node_at : (i : ℕ) → slice_get (nodes m) (suc i) ≡ option_map (node_of m) (slice_get m.decls i)
  node_at i = slice_get-map (node_of m) m.decls i

  -- the declaration of a node in which something stands
  pub record Declared (c : ℕ) (n : Node) : Type 0 where
    pub decl : DeclTree
    pub declared : declaration m c ≡ Some decl
    pub node : n ≡ node_of m decl

  pub declared : (c : ℕ) (n : Node) (h : Held) → slice_get (nodes m) c ≡ Some n → Contains n.held h → Declared c n
  declared zero n h here among =
      let held : n.held ≡ [] = cc in
      absurd (no_member h (subst (λ (hs : List Held). Contains hs h) held among))
  declared (suc i) n h here among = by_decl (slice_get m.decls i) refl
    where
      by_decl : (o : Option DeclTree) → slice_get m.decls i ≡ o → Declared (suc i) n
      by_decl None is = let none : slice_get (nodes m) (suc i) ≡ None = rw (node_at i, is) refl in cc
      by_decl (Some d) is =
          let some : slice_get (nodes m) (suc i) ≡ Some (node_of m d) = rw (node_at i, is) refl in
          let same : n ≡ node_of m d = cc in
          record { decl = d; declared = is; node = same }

  pub node_here : (c : ℕ) (d : DeclTree) → declaration m c ≡ Some d → slice_get (nodes m) c ≡ Some (node_of m d)
  node_here zero d here = cc
  node_here (suc i) d here = rw (node_at i, here) refl
