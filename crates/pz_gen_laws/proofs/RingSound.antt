-- A ring violates none of C1 to C22.
use Rattle.std.proofs.Common.{sym, subst, ℕ, ◌≤◌}
use Rattle.pz_classes_rules.specs.pz_syntax.declared.tokens.Pos.{Pos}
use Rattle.pz_classes_rules.specs.pz_syntax.declared.clusters.SystemDecl.{SystemDecl}
use Rattle.pz_classes_rules.specs.pz_check_violations.declared.violation.Violation.{Violation}
use Rattle.pz_classes_rules.specs.Soundness.{Breaks, a_word, a_repeat, given, holding, an_end, two_ends, size, the_system, IsSound}
use Rattle.pz_gen_laws.specs.devices.RingTree.{with_system}
use Rattle.pz_gen_laws.specs.devices.RingParts.{AreDistinct, IsRing}
use Rattle.pz_gen_laws.proofs.RingKeys.{names_distinct, keys_distinct}
use Rattle.pz_gen_laws.proofs.RingWords.{no_word}
use Rattle.pz_gen_laws.proofs.RingClasses.{no_class, nothing_twice}
use Rattle.pz_gen_laws.proofs.RingEnds.{none_holds_itself, each_is_given, each_end_is_there, no_end_twice}
use Rattle.pz_gen_laws.proofs.RingSize.{one_system, not_too_large}

module _ (at : ℕ → Pos) (s : SystemDecl) (n : ℕ) (few : n ≤ 1000) (is : IsRing n s) where
  no_break : (v : Violation) → Breaks (with_system at s) v → ⊥
  no_break v (a_word w breaks) = no_word at s is.parts w breaks
  no_break v (a_repeat w breaks) = nothing_twice at s (subst AreDistinct (sym is.names) (names_distinct n few)) w breaks
  no_break v (given w breaks) = each_is_given at s n is.parts is.names is.keys w breaks
  no_break v (holding w breaks) = none_holds_itself at s w breaks
  no_break v (an_end w breaks) = each_end_is_there at s n is.parts is.names is.keys w breaks
  no_break v (two_ends w breaks) = no_end_twice at s n is.parts is.names is.keys (keys_distinct n few) w breaks
  no_break v (size w breaks) = not_too_large at s n few is.parts is.names is.channels w breaks
  no_break v (the_system w breaks) = one_system at s w breaks

  pub ring_is_sound : IsSound (with_system at s)
  ring_is_sound = record { classes = no_class at s; rules = no_break }
