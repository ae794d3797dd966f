-- A sound model stays sound where it grows, if what is new is as it should be.
use Rattle.std.proofs.Common.{◌≡◌, ℕ, suc, ◌+◌, ◌<◌, ◌≤◌, false, List, map, length, Some, IsTrue}
use Rattle.std.specs.List.{Contains}
use Rattle.pz_env_tree.specs.pz_syntax.declared.names.Id.{Id}
use Rattle.pz_env_tree.specs.pz_syntax.declared.clusters.Instance.{Instance}
use Rattle.pz_env_tree.specs.pz_syntax.declared.clusters.Channel.{Channel}
use Rattle.pz_env_tree.specs.pz_syntax.declared.clusters.ChannelEnd.{ChannelEnd}
use Rattle.pz_env_tree.specs.pz_syntax.declared.clusters.SystemDecl.{SystemDecl}
use Rattle.pz_env_tree.specs.pz_syntax.Classes.{ProcessClassTree, process_class, system, ModelTree}
use Rattle.pz_classes_mentions.specs.declared.mention.Mention.{Mention}
use Rattle.pz_classes_mentions.specs.declared.local_scope.LocalScope.{LocalScope}
use Rattle.pz_classes_mentions.specs.Declarations.{parts}
use Rattle.pz_env_tree.specs.pz_check_violations.declared.violation.Violation.{Violation}
use Rattle.pz_env_tree.specs.pz_classes_rules.Numbers.{declaration}
use Rattle.pz_env_tree.specs.pz_classes_rules.Instances.{instances}
use Rattle.pz_env_tree.specs.pz_classes_rules.RepeatRules.{same_name}
use Rattle.pz_env_tree.specs.pz_classes_rules.ChannelRules.{breaks_c16}
use Rattle.pz_env_tree.specs.pz_classes_rules.SizeRules.{systems, system_size}
use Rattle.pz_env_tree.specs.pz_classes_rules.Reached.{AncestorsAreReached}
use Rattle.pz_env_tree.specs.pz_classes_rules.SoundSystem.{SoundSystemsFit}
use Rattle.pz_env_tree.specs.pz_classes_rules.Soundness.{Breaks, a_word, a_repeat, given, holding, an_end, two_ends, size, the_system, IsSound}
use Rattle.pz_env_sound.proofs.Grown.{grown}
use Rattle.pz_env_sound.proofs.NewParts.{IsFresh, Gains}
use Rattle.pz_env_sound.proofs.ClassRules.{no_class}
use Rattle.pz_env_sound.proofs.KeptWords.{broken, NoneHolds}
use Rattle.pz_env_sound.proofs.Words.{no_word}
use Rattle.pz_env_sound.proofs.RepeatedNames.{IsApart, no_repeat}
use Rattle.pz_env_sound.proofs.Instances.{each_is_given, none_holds_itself}
use Rattle.pz_env_sound.proofs.Channels.{Joins, ends_of, AreNewEnds, each_end_is_there, no_end_twice}
use Rattle.pz_env_sound.proofs.SystemSize.{not_too_large, one_system}

module _ (f : SystemDecl → SystemDecl) (e : ProcessClassTree) (i : Instance) (more : List Channel) (m : ModelTree) (gains : Gains f e i)
    (joins : Joins f more) (sound : IsSound m) (reached : AncestorsAreReached) (fresh : IsFresh m e) (systems_fit : SoundSystemsFit) where
  -- what is asked of what is new
  pub record IsNew : Type 0 where
    pub words : (p : LocalScope) (x : Mention) → Contains (parts (process_class e)) p → Contains p.mentions x
        → NoneHolds (broken (grown m f e) (suc (length m.decls)) (process_class e) p.locals x)
    pub apart : IsApart e
    pub free : (c : ℕ) (s : SystemDecl) → declaration m c ≡ Some (system s) → (x : Id)
        → Contains (map (λ (j : Instance). j.name) (instances (system s))) x
        → (IsTrue (same_name x i.name) → ⊥) × (IsTrue (same_name i.name x) → ⊥)
    pub ends : (c : ℕ) (s : SystemDecl) → declaration m c ≡ Some (system s) → (end : ChannelEnd) → Contains (ends_of more) end
        → breaks_c16 (grown m f e) c (system (f s)) end ≡ false
    pub new_ends : AreNewEnds f e i more m gains joins sound reached fresh systems_fit
    pub room : (s : SystemDecl) → Contains (systems m) s
        → ((system_size m s).processes < 10000) × ((system_size m s).channels + length more ≤ 1000000)

  module _ (is_new : IsNew) where
    no_break : (v : Violation) → Breaks (grown m f e) v → ⊥
    no_break v (a_word w breaks) = no_word f e i m sound reached fresh gains is_new.words w breaks
    no_break v (a_repeat w breaks) = no_repeat f e i m sound reached fresh gains is_new.apart is_new.free w breaks
    no_break v (given w breaks) = each_is_given f e i m gains sound reached fresh systems_fit w breaks
    no_break v (holding w breaks) = none_holds_itself f e i m gains sound reached fresh systems_fit w breaks
    no_break v (an_end w breaks) = each_end_is_there f e i more m gains joins sound reached fresh systems_fit is_new.ends w breaks
    no_break v (two_ends w breaks) = no_end_twice f e i more m gains joins sound reached fresh systems_fit is_new.new_ends w breaks
    no_break v (size w breaks) = not_too_large f e i more m gains joins sound reached fresh systems_fit is_new.room w breaks
    no_break v (the_system w breaks) = one_system f e i more m gains joins sound reached fresh systems_fit w breaks

    pub grown_is_sound : IsSound (grown m f e)
    grown_is_sound = record { classes = no_class f e m sound reached fresh; rules = no_break }
