-- The ends of the channels of a grown model: those that were there, and those of the channels that are
-- new. C16 and C17.
use Rattle.std.proofs.Common.{◌≡◌, refl, sym, ap, subst, ◌∙◌, ℕ, Bool, true, false, not, ◌&&◌, List, [], ◌∷◌, ◌++◌, Option, Some, None, IsTrue, if◌then◌else◌, arith, ◌⊎◌, inl, inr, ⊎_elim}
use Rattle.std.specs.List.{Contains, find, flat_map}
use Rattle.std.specs.Option.{unwrap_or, option_map_or}
use Rattle.std.specs.Str.{bytes_eq}
use Rattle.std.proofs.lemmas.Bool.{both_ways, false≢true, false_from_ne_true, not_from_true}
use Rattle.std.proofs.lemmas.Grind.{flat_map-append}
use Rattle.std.proofs.lemmas.List.Elements.{Contains-append_cases}
use Rattle.pz_env_tree.specs.pz_syntax.declared.names.Id.{Id}
use Rattle.pz_env_tree.specs.pz_syntax.declared.clusters.Instance.{Instance}
use Rattle.pz_env_tree.specs.pz_syntax.declared.clusters.Channel.{Channel}
use Rattle.pz_env_tree.specs.pz_syntax.declared.clusters.ChannelEnd.{ChannelEnd}
use Rattle.pz_env_tree.specs.pz_syntax.declared.clusters.ChannelEnd.TheVariants.{Inner, Outer}
use Rattle.pz_env_tree.specs.pz_syntax.declared.clusters.SystemDecl.{SystemDecl}
use Rattle.pz_env_tree.specs.pz_syntax.Classes.{DeclTree, ProcessClassTree, data_class, process_class, cluster_class, system, ModelTree}
use Rattle.pz_env_tree.specs.pz_check_violations.declared.violation.Violation.{Violation}
use Rattle.pz_env_tree.specs.pz_check_violations.Order.{violation}
use Rattle.pz_env_tree.specs.pz_classes_rules.Numbers.{declaration}
use Rattle.pz_env_tree.specs.pz_classes_rules.Kinds.{is_cluster}
use Rattle.pz_env_tree.specs.pz_classes_rules.Members.{ports}
use Rattle.pz_env_tree.specs.pz_classes_rules.Words.{is_among}
use Rattle.pz_env_tree.specs.pz_classes_rules.Reached.{AncestorsAreReached}
use Rattle.pz_env_tree.specs.pz_classes_rules.Instances.{instances, channels}
use Rattle.pz_env_tree.specs.pz_classes_rules.RepeatRules.{Repeats}
use Rattle.pz_env_tree.specs.pz_classes_rules.ChannelRules.{end_place, ends, instance_named, has_port, breaks_c16, BreaksC16, no_end, same_end, both_outer, BreaksC17, again_end, again_outer}
use Rattle.pz_env_tree.specs.pz_classes_rules.SoundSystem.{SoundSystemsFit}
use Rattle.pz_env_tree.specs.pz_classes_rules.Soundness.{IsSound, an_end, two_ends}
use Rattle.pz_env_grown.proofs.Elements.{none_in, first_in, later_in}
use Rattle.pz_env_grown.proofs.Numbers.{none_some, some_same}
use Rattle.pz_env_sound.proofs.Grown.{grown_decl, grown, IsDeclared, old, new, declared, declared_other, cluster_same}
use Rattle.pz_env_sound.proofs.Members.{ports_same}
use Rattle.pz_env_sound.proofs.NewParts.{IsFresh, Gains}
use Rattle.pz_env_sound.proofs.RepeatsInParts.{in_parts}
use Rattle.pz_env_sound.proofs.Instances.{has_class}

-- the system has these channels behind its own
abbrev pub Joins : (SystemDecl → SystemDecl) → List Channel → Type 0
Joins f more = (s : SystemDecl) → unwrap_or (f s).channels [] ≡ unwrap_or s.channels [] ++ more

abbrev pub ends_of : List Channel → List ChannelEnd
ends_of hs = flat_map (λ (h : Channel). h.ends) hs

-- what is found is an element, and is found where more stands behind
pub found_in : {A : Type 0} (p : A → Bool) (xs : List A) (x : A) → find p xs ≡ Some x → Contains xs x
found_in p [] x is = absurd (none_some x is)
found_in {A} p (y ∷ ys) x is = by (p y) is (found_in p ys x)
  where
    by : (b : Bool) → (if b then Some y else find p ys) ≡ Some x → (find p ys ≡ Some x → Contains ys x) → Contains (y ∷ ys) x
    by true has rest = subst (λ (z : A). Contains (y ∷ ys) z) (some_same y x has) (first_in y ys)
    by false has rest = later_in y ys x (rest has)

pub found_still : {A : Type 0} (p : A → Bool) (xs ys : List A) (x : A) → find p xs ≡ Some x → find p (xs ++ ys) ≡ Some x
found_still p [] ys x is = absurd (none_some x is)
found_still p (y ∷ xs) ys x is = by (p y) is (found_still p xs ys x)
  where
    by : (b : Bool) → (if b then Some y else find p xs) ≡ Some x → (find p xs ≡ Some x → find p (xs ++ ys) ≡ Some x)
        → (if b then Some y else find p (xs ++ ys)) ≡ Some x
    by true has rest = has
    by false has rest = rest has

module _ (f : SystemDecl → SystemDecl) (e : ProcessClassTree) (i : Instance) (more : List Channel) (m : ModelTree) (gains : Gains f e i)
    (joins : Joins f more) (sound : IsSound m) (reached : AncestorsAreReached) (fresh : IsFresh m e) (systems : SoundSystemsFit) where
  pub ends_grown : (s : SystemDecl) → ends (system (f s)) ≡ ends (system s) ++ ends_of more
  ends_grown s = ap ends_of (joins s) ∙ flat_map-append (λ (h : Channel). h.ends) (unwrap_or s.channels []) more

  pub named_still : (was : DeclTree) (name : List ℕ) (j : Instance) → instance_named was name ≡ Some j
      → instance_named (grown_decl f was) name ≡ Some j
  named_still (data_class d) name j is = is
  named_still (process_class d) name j is = is
  named_still (cluster_class d) name j is = is
  named_still (system s) name j is =
      ap (find (λ (x : Instance). bytes_eq name x.name.name)) (gains.instances s)
      ∙ found_still (λ (x : Instance). bytes_eq name x.name.name) (unwrap_or s.instances []) (i ∷ []) j is

  -- an instance has the ports that it had
  pub port_still : (port : List ℕ) (c : ℕ) (was : DeclTree) → declaration m c ≡ Some was → (j : Instance) → Contains (instances was) j
      → has_port m port j ≡ true → has_port (grown m f e) port j ≡ true
  port_still port c was there j has is =
      let its = has_class f e i m gains sound reached fresh systems c was there j has in
      let low = its.within in
      ap (λ (o : Option ℕ). option_map_or (λ k. is_among (ports (grown m f e) k) port) o true) its.is
      ∙ ap (λ (ids : List Id). is_among ids port) (ports_same f e m sound reached its.number (λ q. omega (arith, low, q)))
      ∙ sym (ap (λ (o : Option ℕ). option_map_or (λ k. is_among (ports m k) port) o true) its.was)
      ∙ is

  end_still : (c : ℕ) (was : DeclTree) → declaration m c ≡ Some was → (end : ChannelEnd) → breaks_c16 m c was end ≡ false
      → breaks_c16 (grown m f e) c (grown_decl f was) end ≡ false
  end_still c was there (Outer port) is =
      ap (λ (b : Bool). not (b && is_among (ports (grown m f e) c) port.name)) (cluster_same f was)
      ∙ ap (λ (ids : List Id). not (is_cluster was && is_among ids port.name)) (ports_same f e m sound reached c (declared_other f e m c was there))
      ∙ is
  end_still c was there (Inner part port) is = not_from_true _ (by (instance_named was part.name) refl (not_not _ is))
    where
      not_not : (b : Bool) → not b ≡ false → b ≡ true
      not_not true h = refl
      not_not false h = absurd (both_ways true h refl)

      by : (o : Option Instance) → instance_named was part.name ≡ o → option_map_or (has_port m port.name) o false ≡ true
          → option_map_or (has_port (grown m f e) port.name) (instance_named (grown_decl f was) part.name) false ≡ true
      by None found has = absurd (false≢true has)
      by (Some j) found has =
          ap (λ (o : Option Instance). option_map_or (has_port (grown m f e) port.name) o false) (named_still was part.name j found)
          ∙ port_still port.name c was there j (found_in (λ (x : Instance). bytes_eq part.name x.name.name) (instances was) j found) has

  sound_end : (c : ℕ) (was : DeclTree) → declaration m c ≡ Some was → (end : ChannelEnd) → Contains (ends was) end
      → breaks_c16 m c was end ≡ false
  sound_end c was there end has =
      false_from_ne_true (breaks_c16 m c was end) (λ wrong. sound.rules (violation 16 (end_place end)) (an_end (violation 16 (end_place end)) (no_end c was end there has wrong)))

  module _
      (ends_there : (c : ℕ) (s : SystemDecl) → declaration m c ≡ Some (system s) → (end : ChannelEnd) → Contains (ends_of more) end → breaks_c16 (grown m f e) c (system (f s)) end ≡ false) where
    end_stands : (c : ℕ) (was : DeclTree) → declaration m c ≡ Some was → (end : ChannelEnd) → Contains (ends (grown_decl f was)) end
        → breaks_c16 (grown m f e) c (grown_decl f was) end ≡ false
    end_stands c (data_class d) there end has = end_still c (data_class d) there end (sound_end c (data_class d) there end has)
    end_stands c (process_class d) there end has = end_still c (process_class d) there end (sound_end c (process_class d) there end has)
    end_stands c (cluster_class d) there end has = end_still c (cluster_class d) there end (sound_end c (cluster_class d) there end has)
    end_stands c (system s) there end has =
        by (Contains-append_cases (ends (system s)) (ends_of more) end (subst (λ (es : List ChannelEnd). Contains es end) (ends_grown s) has))
      where
        by : Contains (ends (system s)) end ⊎ Contains (ends_of more) end → breaks_c16 (grown m f e) c (system (f s)) end ≡ false
        by (inl was) = end_still c (system s) there end (sound_end c (system s) there end was)
        by (inr added) = ends_there c s there end added

    pub each_end_is_there : (v : Violation) → BreaksC16 (grown m f e) v → ⊥
    each_end_is_there _ (no_end c d end at has breaks) = by (declared f e m c d at)
      where
        by : IsDeclared f e m c d → ⊥
        by (old was there same) =
            both_ways (breaks_c16 (grown m f e) c d end)
            (ap (λ (x : DeclTree). breaks_c16 (grown m f e) c x end) same ∙ end_stands c was there end (subst (λ (x : DeclTree). Contains (ends x) end) same has)) breaks
        by (new number same) = none_in end (subst (λ (x : DeclTree). Contains (ends x) end) same has)

  -- what is asked of the new ends: none is an end of the system's own, or stands twice
  pub record AreNewEnds : Type 0 where
    pub once : (y : ChannelEnd) → Repeats same_end end_place (ends_of more) y → ⊥
    pub apart : (c : ℕ) (s : SystemDecl) → declaration m c ≡ Some (system s) → (a b : ChannelEnd) → Contains (ends (system s)) a
        → Contains (ends_of more) b → IsTrue (same_end a b) → ⊥
    pub back : (c : ℕ) (s : SystemDecl) → declaration m c ≡ Some (system s) → (a b : ChannelEnd) → Contains (ends (system s)) a
        → Contains (ends_of more) b → IsTrue (same_end b a) → ⊥

  module _ (new_ends : AreNewEnds) where
    breaks_m : (v : Violation) → BreaksC17 m v → ⊥
    breaks_m v wrong = sound.rules v (two_ends v wrong)

    ends_once : (c : ℕ) (was : DeclTree) → declaration m c ≡ Some was → (y : ChannelEnd)
        → Repeats same_end end_place (ends (grown_decl f was)) y → ⊥
    ends_once c (data_class d) there y again = breaks_m (violation 17 (end_place y)) (again_end c (data_class d) y there again)
    ends_once c (process_class d) there y again = breaks_m (violation 17 (end_place y)) (again_end c (process_class d) y there again)
    ends_once c (cluster_class d) there y again = breaks_m (violation 17 (end_place y)) (again_end c (cluster_class d) y there again)
    ends_once c (system s) there y again =
        ⊎_elim
        (λ was. breaks_m (violation 17 (end_place y)) (again_end c (system s) y there was))
        (new_ends.once y)
        (in_parts same_end end_place (ends (system s)) (ends_of more) y (new_ends.apart c s there) (new_ends.back c s there)
        (subst (λ (es : List ChannelEnd). Repeats same_end end_place es y) (ends_grown s) again))

    outer_once : (c : ℕ) (was : DeclTree) → declaration m c ≡ Some was → IsTrue (is_cluster (grown_decl f was))
        → (h : Channel) (y : ChannelEnd) → Contains (channels (grown_decl f was)) h → Repeats both_outer end_place h.ends y → ⊥
    outer_once c (data_class d) there is h y has again = false≢true is
    outer_once c (process_class d) there is h y has again = false≢true is
    outer_once c (cluster_class d) there is h y has again = breaks_m (violation 17 (end_place y)) (again_outer c (cluster_class d) h y there is has again)
    outer_once c (system s) there is h y has again = false≢true is

    pub no_end_twice : (v : Violation) → BreaksC17 (grown m f e) v → ⊥
    no_end_twice _ (again_end c d y at again) = by (declared f e m c d at)
      where
        by : IsDeclared f e m c d → ⊥
        by (old was there same) = ends_once c was there y (subst (λ (x : DeclTree). Repeats same_end end_place (ends x) y) same again)
        by (new number same) = none_some y (subst (λ (x : DeclTree). Repeats same_end end_place (ends x) y) same again).again_there
    no_end_twice _ (again_outer c d h y at is has again) = by (declared f e m c d at)
      where
        by : IsDeclared f e m c d → ⊥
        by (old was there same) =
            outer_once c was there (subst (λ (x : DeclTree). IsTrue (is_cluster x)) same is) h y (subst (λ (x : DeclTree). Contains (channels x) h) same has) again
        by (new number same) = none_in h (subst (λ (x : DeclTree). Contains (channels x) h) same has)
