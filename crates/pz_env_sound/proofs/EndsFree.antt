-- The new ends of a closed tree stand in no channel of the system.
use Rattle.std.proofs.Common.{◌≡◌, ◌≢◌, refl, sym, ap, subst, ◌∙◌, ℕ, ◌≤◌, Bool, true, false, List, [], ◌∷◌, length, Some, IsTrue, if◌then◌else◌, arith, ◌⊎◌, inl, inr}
use Rattle.std.specs.List.{Contains, find}
use Rattle.std.specs.Str.{bytes_eq}
use Rattle.std.proofs.lemmas.Bool.{and_from, both_ways, false≢true}
use Rattle.std.proofs.lemmas.List.{length-map}
use Rattle.pz_env_tree.specs.pz_syntax.declared.names.Id.{Id}
use Rattle.pz_env_tree.specs.pz_syntax.declared.clusters.Instance.{Instance}
use Rattle.pz_env_tree.specs.pz_syntax.declared.clusters.Channel.{Channel}
use Rattle.pz_env_tree.specs.pz_syntax.declared.clusters.ChannelEnd.{ChannelEnd}
use Rattle.pz_env_tree.specs.pz_syntax.declared.clusters.ChannelEnd.TheVariants.{Inner, Outer}
use Rattle.pz_env_tree.specs.pz_syntax.declared.clusters.SystemDecl.{SystemDecl}
use Rattle.pz_env_tree.specs.pz_syntax.Classes.{system, ModelTree}
use Rattle.pz_env_tree.specs.pz_classes_rules.Numbers.{declaration}
use Rattle.pz_env_tree.specs.pz_classes_rules.Reached.{AncestorsAreReached}
use Rattle.pz_env_tree.specs.pz_classes_rules.Instances.{instances, channels}
use Rattle.pz_env_tree.specs.pz_classes_rules.ChannelRules.{end_place, ends, same_end}
use Rattle.pz_env_tree.specs.pz_classes_rules.SoundSystem.{SoundSystemsFit, SystemFits, InnerFits}
use Rattle.pz_env_tree.specs.pz_classes_rules.Soundness.{IsSound}
use Rattle.pz_env_tree.specs.pz_bind_rules.Nest.{channels_at}
use Rattle.pz_env_tree.specs.pz_bind_rules.Connections.{is_inner, names_inner}
use Rattle.pz_env_tree.specs.pz_env_script.declared.entry.Entry.{Entry}
use Rattle.pz_env_tree.specs.pz_env_rules.Environment.{Line, lines_of}
use Rattle.pz_env_tree.specs.pz_env_rules.Ends.{first_mentions}
use Rattle.pz_env_tree.specs.Names.{instance_name}
use Rattle.pz_env_tree.specs.EnvironmentClass.{environment_class}
use Rattle.pz_env_tree.specs.ClosedTree.{environment, channel_of, closed_system}
use Rattle.pz_env_grown.proofs.Numbers.{none_some, some_same}
use Rattle.pz_env_sound.proofs.Grown.{grown}
use Rattle.pz_env_sound.proofs.Channels.{ends_of, found_in, AreNewEnds}
use Rattle.pz_env_sound.proofs.Distinct.{no_repeat}
use Rattle.pz_env_sound.proofs.Ports.{same_bytes, bytes_same, mentions_apart, few_mentions, mention_in}
use Rattle.pz_env_sound.proofs.Unrefused.{any_none, IsUnrefused, system_channels}
use Rattle.pz_env_sound.proofs.NewEnds.{from_flat, key_of, ends_alike, theirs, ours, new_channels, IsNewEnd, of_instance, of_environment, new_end, ends_apart}
use Rattle.pz_env_sound.proofs.EndsFit.{fresh_class, gains_one, joins_new, few_lines, not_ours, not_environment}

module _ (m : ModelTree) (script : List Entry) (sound : IsSound m) (reached : AncestorsAreReached) (systems_fit : SoundSystemsFit)
    (un : IsUnrefused m script) (few : length script ≤ 100000) where
  abbrev lines : List Line
  lines = lines_of script

  abbrev n : ModelTree
  n = grown m (closed_system lines) (environment_class lines)

  abbrev fits : SystemFits m
  fits = systems_fit m sound

  few_all : length lines ≤ 100000
  few_all = few_lines m script sound reached systems_fit un few

  -- No end of the system's own is new

  own_end : (c : ℕ) (s : SystemDecl) → declaration m c ≡ Some (system s) → (a : ChannelEnd) → Contains (ends (system s)) a → (x : Line)
      → Contains lines x → key_of a ≡ key_of (theirs lines x) → IsTrue (same_end a (theirs lines x)) ⊎ IsTrue (same_end (theirs lines x) a)
      → ⊥
  own_end c s at (Outer port) has x is_in key (inl same) = false≢true same
  own_end c s at (Outer port) has x is_in key (inr same) = false≢true same
  own_end c s at (Inner part port) has x is_in key same =
      let r = from_flat (λ (h : Channel). h.ends) (channels (system s)) (Inner part port) has in
      let h_free : names_inner x.entry.instance x.entry.port r.0 ≡ false =
      any_none (names_inner x.entry.instance x.entry.port) (channels_at m []) (un.untaken x is_in) r.0 (subst (λ (hs : List Channel). Contains hs r.0) (sym (system_channels m fits c s at)) r.1) in
      both_ways (is_inner x.entry.instance x.entry.port (Inner part port))
      (any_none (is_inner x.entry.instance x.entry.port) r.0.ends h_free (Inner part port) r.2)
      (and_from (bytes_eq x.entry.instance part.name) (bytes_eq x.entry.port port.name)
      (bytes_same x.entry.instance part.name (ap (λ k. k.0) (sym key))) (bytes_same x.entry.port port.name (ap (λ k. k.1) (sym key))))

  -- an end of the system's own names no environment
  not_named : (c : ℕ) (s : SystemDecl) → declaration m c ≡ Some (system s) → (part port : Id) → Contains (ends (system s)) (Inner part port)
      → part.name ≢ instance_name
  not_named c s at part port has same =
      let fit : InnerFits m (system s) part.name port.name = (fits.parts_fit c (system s) at).ends_fit (Inner part port) has in
      let r = found_is (instances (system s)) fit.instance fit.named in
      both_ways (bytes_eq fit.instance.name.name instance_name) (not_ours m script sound reached systems_fit un few c s at fit.instance r.0)
      (bytes_same fit.instance.name.name instance_name (sym (same_bytes part.name fit.instance.name.name r.1) ∙ same))
    where
      found_is : (xs : List Instance) (j : Instance) → find (λ (i : Instance). bytes_eq part.name i.name.name) xs ≡ Some j
          → Contains xs j × (bytes_eq part.name j.name.name ≡ true)
      found_is xs j is = (found_in (λ (i : Instance). bytes_eq part.name i.name.name) xs j is, passes xs is)
        where
          passes : (ys : List Instance) → find (λ (i : Instance). bytes_eq part.name i.name.name) ys ≡ Some j
              → bytes_eq part.name j.name.name ≡ true
          passes [] h = absurd (none_some j h)
          passes (y ∷ ys) h = by (bytes_eq part.name y.name.name) refl h (passes ys)
            where
              by : (b : Bool) → bytes_eq part.name y.name.name ≡ b
                  → (if b then Some y else find (λ (i : Instance). bytes_eq part.name i.name.name) ys) ≡ Some j
                  → (find (λ (i : Instance). bytes_eq part.name i.name.name) ys ≡ Some j → bytes_eq part.name j.name.name ≡ true) → bytes_eq part.name j.name.name ≡ true
              by true is_it g rest = ap (λ (i : Instance). bytes_eq part.name i.name.name) (sym (some_same y j g)) ∙ is_it
              by false other g rest = rest g

  not_new : (c : ℕ) (s : SystemDecl) → declaration m c ≡ Some (system s) → (a b : ChannelEnd) → Contains (ends (system s)) a
      → Contains (ends_of (new_channels lines)) b → key_of a ≡ key_of b → IsTrue (same_end a b) ⊎ IsTrue (same_end b a) → ⊥
  not_new c s at a b has new key same = by (new_end lines (first_mentions lines) b new)
    where
      of_ours : (a : ChannelEnd) (x : Line) → Contains (ends (system s)) a → key_of a ≡ key_of (ours lines x)
          → IsTrue (same_end a (ours lines x)) ⊎ IsTrue (same_end (ours lines x) a) → ⊥
      of_ours (Outer port) x is_in k (inl alike) = false≢true alike
      of_ours (Outer port) x is_in k (inr alike) = false≢true alike
      of_ours (Inner part port) x is_in k alike = not_named c s at part port is_in (ap (λ q. q.0) k)

      by : IsNewEnd lines (first_mentions lines) b → ⊥
      by (of_instance x is_in is) =
          own_end c s at a has x (mention_in lines x is_in) (key ∙ ap key_of (sym is)) (subst (λ (e : ChannelEnd). IsTrue (same_end a e) ⊎ IsTrue (same_end e a)) (sym is) same)
      by (of_environment x is_in is) =
          of_ours a x has (key ∙ ap key_of (sym is)) (subst (λ (e : ChannelEnd). IsTrue (same_end a e) ⊎ IsTrue (same_end e a)) (sym is) same)

  module _ (c : ℕ) (s : SystemDecl) (at : declaration m c ≡ Some (system s)) where
    pub new_ends : AreNewEnds (closed_system lines) (environment_class lines) environment (new_channels lines) m (gains_one lines) (joins_new lines) sound reached (fresh_class m script un) systems_fit
    new_ends = record {
      once = λ y again. no_repeat key_of same_end end_place ends_alike (ends_of (new_channels lines)) y
          (ends_apart lines few_all (λ x is_in. not_environment m script sound reached systems_fit un few c s at x is_in) (first_mentions lines) (mention_in lines) (mentions_apart lines)) again;
      apart = λ k t there a b has new same. not_new k t there a b has new (ends_alike a b same) (inl same);
      back = λ k t there a b has new same. not_new k t there a b has new (sym (ends_alike b a same)) (inr same);
    }

  pub few_channels : length (new_channels lines) ≤ 100000
  few_channels =
      let count = length-map (first_mentions lines) (channel_of lines) in
      let first = few_mentions lines in
      let all = few_all in
      omega (arith, count, first, all)
